-- Whose grants a history ends, and the streams that are kept from its calls and answers alone. Histories stand newest first.
use Rattle.std.specs.Prelude.{◌≡◌, ℕ, ◌<◌, cond, ◌≢◌, ◌⊎◌, List, [], ◌∷◌, Some, None, Option, nat_eq}
use Rattle.std.specs.Map.{update}
use Rattle.rules.specs.declared.Position.{Position}
use Rattle.rules.specs.declared.GrantId.{GrantId}
use Rattle.rules.specs.declared.Call.{Call}
use Rattle.rules.specs.declared.Answer.{Answer}
use Rattle.rules.specs.declared.Call.TheVariants.{Append as append, Commit as commit, Abandon as abandon, Condemn as condemn, Open as open_stream, Close as close_stream}
use Rattle.rules.specs.declared.Answer.TheVariants.{Granted as granted}
use Rattle.rules.specs.Rules.{started, advanced}
use Rattle.rules.specs.History.{History, accepted}

-- ---- grants

-- the grant that a call ends
abbrev pub ended_grant : Call → Option GrantId
ended_grant (commit g) = Some g
ended_grant (abandon g) = Some g
ended_grant (condemn g) = Some g
ended_grant c = None

-- the history gave the grant g, and no ending of it came since, accepted or refused; what was given, ended and given again is in hand again
abbrev pub InHand : History → GrantId → Type 0
InHand [] g = ⊥
InHand (e ∷ h) g = (e.1 ≡ granted g) ⊎ (InHand h g × (ended_grant e.0 ≢ Some g))

-- each ending ends a grant that is in hand: one that was given here, and each at most once
abbrev pub Own : History → Type 0
Own [] = Unit {0}
Own (e ∷ h) = ((g : GrantId) → ended_grant e.0 ≡ Some g → InHand h g) × Own h

-- ---- streams

abbrev pub Streams : Type 0
Streams = ℕ → Option Position

abbrev pub raised : Option Position → Option Position
raised None = None
raised (Some p) = Some (advanced p)

-- what an accepted call makes of the streams
abbrev pub streamed : Call → Streams → Streams
streamed (append l) x = update nat_eq x l (raised (x l))
streamed (open_stream l f n) x = update nat_eq x l (Some (started f n))
streamed (close_stream l) x = update nat_eq x l None
streamed c x = x

-- a refused call changes nothing
abbrev pub streams_noted : Call → Answer → Streams → Streams
streams_noted c a x = cond (accepted a) (streamed c x) x

-- where each stream stands, by the opens, appends and closes accepted
abbrev pub streams : History → Streams
streams [] = λ l. None
streams (e ∷ h) = streams_noted e.0 e.1 (streams h)

-- a stream's label has 32 bits; only an open can bring in a label
abbrev pub Labelled : Call → Type 0
Labelled (open_stream l f n) = l < 4294967296
Labelled c = Unit {0}

abbrev pub AllLabelled : List Call → Type 0
AllLabelled [] = Unit {0}
AllLabelled (c ∷ cs) = Labelled c × AllLabelled cs

abbrev pub calls : History → List Call
calls [] = []
calls (e ∷ h) = e.0 ∷ calls h
