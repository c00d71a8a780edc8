-- The answer that the rules give to a call, read off the ledger d and the streams x before it.
use Rattle.std.specs.Prelude.{◌≡◌, ℕ, ◌+◌, ◌<◌, ◌≤◌, true, false, cond, ◌||◌, ◌≢◌, ◌⊎◌, ◌↔◌, [], ◌∷◌, is_some, Some, None, ◌==◌}
use Rattle.refusal.specs.declared.Refusal.TheVariants.{NumberTooLarge, NumberBusy, NoBlockWaiting, BlockMapFull, NoSuchGrant, StreamAlreadyOpen, StreamNotOpen, StreamAtEnd, BadLength, StreamMapFull}
use Rattle.rules.specs.declared.Position.{Position}
use Rattle.rules.specs.declared.Tally.{Tally}
use Rattle.rules.specs.Calls.{Labels, Limits}
use Rattle.rules.specs.declared.GrantId.{GrantId}
use Rattle.rules.specs.declared.Call.{Call}
use Rattle.rules.specs.declared.Answer.{Answer}
use Rattle.rules.specs.declared.Call.TheVariants.{Begin as begin, Append as append, Commit as commit, Abandon as abandon, Condemn as condemn, Read as read, Trim as trim, Open as open_stream, Close as close_stream, Position as position, Tally as tally}
use Rattle.rules.specs.declared.Answer.TheVariants.{Granted as granted, Block as block, Opened as opened, Closed as closed, Stands as stands, Counts as counts, Refused as refused}
use Rattle.rules.specs.Rules.{Checks, check, next_of, end_of, Full, Room}
use Rattle.rules.specs.History.{Ledger, head}
use Rattle.rules.specs.Lives.{Streams}
use Rattle.rules.specs.Places.{Counts}

-- ---- the numbers held

-- a number with a block, settled or out, is held
abbrev pub held : Ledger → Labels
held d n = is_some (d.settled n) || is_some (d.out n)

-- those and n
abbrev pub held_with : Ledger → ℕ → Labels
held_with d n m = cond (m == n) true (held d m)

-- n is not held, and does not fit beside those held
abbrev pub NoRoom : (Labels → Type 0) → Ledger → ℕ → Type 0
NoRoom fit d n = (held d n ≡ false) × (fit (held_with d n) → ⊥)

-- ---- the reasons of a refusal

abbrev pub grant_reasons : Limits → Ledger → ℕ → Checks
grant_reasons k d n =
    check NumberBusy (d.out n ≢ None)
    ∷ check NoBlockWaiting (d.waiting ≡ [])
    ∷ check BlockMapFull (NoRoom k.blocks_fit d n)
    ∷ []

abbrev pub ending_reasons : Ledger → GrantId → Checks
ending_reasons d g = check NoSuchGrant (d.out g.number ≢ Some g.block) ∷ []

-- why a call may be refused, in order
abbrev pub reasons : Limits → Ledger → Streams → Call → Checks
reasons k d x (begin n) = check NumberTooLarge (k.numbers ≤ n) ∷ grant_reasons k d n
reasons k d x (append l) =
    check StreamNotOpen (x l ≡ None)
    ∷ check StreamAtEnd (next_of (x l) ≡ end_of (x l))
    ∷ grant_reasons k d (next_of (x l))
reasons k d x (commit g) = ending_reasons d g
reasons k d x (abandon g) = ending_reasons d g
reasons k d x (condemn g) = ending_reasons d g
reasons k d x (read n) = check NumberTooLarge (k.numbers ≤ n) ∷ []
reasons k d x (trim n) =
    check NumberTooLarge (k.numbers ≤ n)
    ∷ check NumberBusy (d.out n ≢ None)
    ∷ []
reasons k d x (open_stream l first len) =
    check BadLength ((len ≡ 0) ⊎ (k.numbers < first + len))
    ∷ check StreamAlreadyOpen (x l ≢ None)
    ∷ check StreamMapFull (Full k.streams_fit x l)
    ∷ []
reasons k d x (close_stream l) = check StreamNotOpen (x l ≡ None) ∷ []
reasons k d x (position l) = check StreamNotOpen (x l ≡ None) ∷ []
reasons k d x tally = []

-- ---- what an accepted call is told

-- a grant of the front waiting block for n, which is held or fits
abbrev pub GrantsFront : Limits → Ledger → ℕ → Answer → Type 0
GrantsFront k d n a =
    (b : ℕ) × (head d.waiting ≡ Some b) × (a ≡ granted (record { number = n; block = b }))
    × (held d n ≡ false → k.blocks_fit (held_with d n))

-- what is answered where no reason applies
abbrev pub Told : Limits → Ledger → Streams → Call → Answer → Type 0
Told k d x (begin n) a = GrantsFront k d n a
Told k d x (append l) a = (p : Position) × (x l ≡ Some p) × GrantsFront k d p.next a
Told k d x (commit g) a = a ≡ block (Some g.block)
Told k d x (abandon g) a = a ≡ block (Some g.block)
Told k d x (condemn g) a = a ≡ block (Some g.block)
Told k d x (read n) a = a ≡ block (d.settled n)
Told k d x (trim n) a = a ≡ block (d.settled n)
Told k d x (open_stream l first len) a = (a ≡ opened) × Room k.streams_fit x l
Told k d x (close_stream l) a = (p : Position) × (x l ≡ Some p) × (a ≡ closed p.next)
Told k d x (position l) a = (p : Position) × (x l ≡ Some p) × (a ≡ stands p)
Told k d x tally a = (n : Tally) × (a ≡ counts n) × Counts d n

-- the first of the reasons that applies refuses; where none applies, T says what is answered
abbrev pub ByReasons : Checks → Type 0 → Answer → Type 0
ByReasons [] T a = T
ByReasons (c ∷ cs) T a = (c.applies × (a ≡ refused c.refusal)) ⊎ ((c.applies → ⊥) × ByReasons cs T a)

-- the call c is answered by a, by the rules
abbrev pub RightAnswer : Limits → Ledger → Streams → Call → Answer → Type 0
RightAnswer k d x c a = ByReasons (reasons k d x c) (Told k d x c a) a

-- ---- map full

-- n is not out, and a block waits: the checks of a grant before the map's pass, once n is known to be allowed
abbrev pub Ready : Ledger → ℕ → Type 0
Ready d n = (d.out n ≡ None) × (d.waiting ≢ [])

-- a begin or an append says map full exactly where its earlier checks pass and the number, not held, does not fit beside those held
abbrev pub FullExactly : Limits → Ledger → Streams → Call → Answer → Type 0
FullExactly k d x (begin n) a =
    (a ≡ refused BlockMapFull) ↔ ((n < k.numbers) × Ready d n × NoRoom k.blocks_fit d n)
FullExactly k d x (append l) a =
    (a ≡ refused BlockMapFull)
    ↔ ((p : Position) × (x l ≡ Some p) × (p.next ≢ p.end) × Ready d p.next × NoRoom k.blocks_fit d p.next)
FullExactly k d x c a = Unit {0}
