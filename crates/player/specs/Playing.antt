-- A player's commands, the calls that they ask for, and what they lead to.
use Rattle.std.specs.Prelude.{◌≡◌, ℕ, List, [], ◌∷◌, ◌++◌, Some, None, Option}
use Rattle.label.specs.declared.stream.StreamLabel.{StreamLabel}
use Rattle.map.specs.declared.Map.{Ghosts}
use Rattle.ring.specs.Queue.{places}
use Rattle.rules.specs.declared.Entry.{Entry}
use Rattle.rules.specs.declared.Position.{Position as Spot}
use Rattle.rules.specs.declared.GrantId.{GrantId}
use Rattle.rules.specs.declared.Call.{Call}
use Rattle.rules.specs.declared.Call.TheVariants as call
use Rattle.rules.specs.declared.Answer.{Answer}
use Rattle.rules.specs.declared.Answer.TheVariants.{Block}
use Rattle.rules.specs.History.{History, ledger}
use Rattle.rules.specs.Lives.{Own, AllLabelled, calls}
use Rattle.service.specs.declared.grant.Grant.{Grant}
use Rattle.service.specs.declared.state.Service.{Service}
use Rattle.service.specs.Service.{ReachedBy, Fixed, label_number, plain}
use Rattle.player.specs.declared.command.Command.{Command}
use Rattle.player.specs.declared.command.Command.TheVariants.{Begin, Append, Commit, Abandon, Condemn, Read, Trim, Open, Close, Position, Tally}
use Rattle.player.specs.Hands.{block_at, Holds}

-- ---- the call that a command asks for, where the blocks out are as out says

-- an ending needs its grant
abbrev pub ending : (GrantId → Call) → ℕ → Option ℕ → Option Call
ending c n None = None
ending c n (Some b) = Some (c (record { number = n; block = b }))

abbrev pub asked : (ℕ → Option ℕ) → Command → Option Call
asked out (Begin n) = Some (call.Begin n)
asked out (Append l) = Some (call.Append (label_number l))
asked out (Commit n) = ending call.Commit n (out n)
asked out (Abandon n) = ending call.Abandon n (out n)
asked out (Condemn n) = ending call.Condemn n (out n)
asked out (Read n) = Some (call.Read n)
asked out (Trim n) = Some (call.Trim n)
asked out (Open l f n) = Some (call.Open (label_number l) f n)
asked out (Close l) = Some (call.Close (label_number l))
asked out (Position l) = Some (call.Position (label_number l))
asked out Tally = Some call.Tally

-- ---- a log: calls and answers, the oldest first

abbrev pub Event : Type 0
Event = Call × Answer

-- the history that a log tells, the newest first
abbrev pub history : List Event → History
history [] = []
history (e ∷ es) = history es ++ e ∷ []

-- the command c adds to the log the call that it asks for, with an answer; nothing where it asks for none
abbrev pub WritesDown : ℕ → List Event → Command → Option Event → List Event → Type 0
WritesDown p log c (Some e) log' = (asked (ledger p (history log)).out c ≡ Some e.0) × (log' ≡ log ++ e ∷ [])
WritesDown p log c None log' = (asked (ledger p (history log)).out c ≡ None) × (log' ≡ log)

-- the commands, in order, each add theirs
pub data Follows (p : ℕ) (log : List Event) : List Command → List Event → Type 0 where
  nothing : Follows p log [] log
  further : (cs : List Command) (more : List Event) (c : Command) (o : Option Event) (log' : List Event) → Follows p log cs more → WritesDown p more c o log' → Follows p log (cs ++ c ∷ []) log'

-- ---- on a service

module _ {L B S : Type 0} (bm : Ghosts B L Entry) (sm : Ghosts S StreamLabel Spot) where
  -- the history h of own grants led the fresh service to s, and gs are the grants out
  pub record ReachedWith (h : History) (s : Service L B S) (gs : List Grant) : Type 0 where
    pub lived : ReachedBy bm sm h s
    pub own : Own h
    pub labels : AllLabelled (calls h)
    pub holds : Holds (ledger (places s.pool) h).out gs

  -- obeying the command c: the call and its answer, and what it leaves
  abbrev pub Obeys : Service L B S → List Grant → Command → Option Event → Service L B S → List Grant → Type 0
  Obeys s gs c (Some e) t gs' = (asked (block_at gs) c ≡ Some e.0) × Fixed bm sm s t × ((h : History) → ReachedWith h s gs → ReachedWith (e ∷ h) t gs')
  Obeys s gs c None t gs' = (asked (block_at gs) c ≡ None) × (t ≡ s) × (gs' ≡ gs)

  -- the same, with what is written down
  pub record Asks (s : Service L B S) (gs : List Grant) (log : List Event) (c : Command) (o : Option Event) (t : Service L B S) (gs' : List Grant) (log' : List Event) : Type 0 where
    pub fixed : Fixed bm sm s t
    pub lives : ReachedWith (history log) s gs → ReachedWith (history log') t gs' × WritesDown (places s.pool) log c o log'

  -- a list of commands
  pub record Plays (s : Service L B S) (gs : List Grant) (log : List Event) (cs : List Command) (t : Service L B S) (gs' : List Grant) (log' : List Event) : Type 0 where
    pub fixed : Fixed bm sm s t
    pub lives : ReachedWith (history log) s gs → ReachedWith (history log') t gs' × Follows (places s.pool) log cs log'

-- the grants gs abandoned after the history h, the last first
abbrev pub given_up : List Grant → History → History
given_up [] h = h
given_up (g ∷ gs) h = (call.Abandon (plain g), Block (Some g.block)) ∷ given_up gs h
