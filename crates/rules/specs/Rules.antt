-- The rules of a service: what each call checks, in order, and what an accepted call answers and leaves.
use Rattle.std.specs.Prelude.{◌≡◌, ℕ, ◌+◌, ◌<◌, ◌≤◌, true, ◌||◌, ◌≢◌, ◌⊎◌, List, [], ◌∷◌, ◌++◌, Some, None, Option, ◌==◌, nat_eq}
use Rattle.std.specs.Map.{update}
use Rattle.refusal.specs.declared.Refusal.{Refusal}
use Rattle.refusal.specs.declared.Refusal.TheVariants.{NumberTooLarge, NumberBusy, NoBlockWaiting, BlockMapFull, NoSuchGrant, StreamAlreadyOpen, StreamNotOpen, StreamAtEnd, BadLength, StreamMapFull}
use Rattle.rules.specs.declared.Entry.{Entry}
use Rattle.rules.specs.declared.Entry.TheVariants.{Settled, Fresh, Change}
use Rattle.rules.specs.declared.Position.{Position}
use Rattle.rules.specs.declared.Tally.{Tally}
use Rattle.map.specs.Sets.{◌∈◌, Number}
use Rattle.map.specs.Meaning.{beside}
use Rattle.rules.specs.Calls.{Labels, Limits, Standing}
use Rattle.rules.specs.declared.GrantId.{GrantId}
use Rattle.rules.specs.declared.Call.{Call}
use Rattle.rules.specs.declared.Answer.{Answer}
use Rattle.rules.specs.declared.Call.TheVariants.{Begin as begin, Append as append, Commit as commit, Abandon as abandon, Condemn as condemn, Read as read, Trim as trim, Open as open_stream, Close as close_stream, Position as position, Tally as tally}
use Rattle.rules.specs.declared.Answer.TheVariants.{Granted as granted, Block as block, Opened as opened, Closed as closed, Stands as stands, Counts as counts, Refused as refused}

-- ---- entries and streams

-- the settled block of an entry
abbrev pub settled_of : Option Entry → Option ℕ
settled_of None = None
settled_of (Some (Settled o)) = Some o
settled_of (Some (Fresh b)) = None
settled_of (Some (Change o b)) = Some o

-- its block out on a grant
abbrev pub out_of : Option Entry → Option ℕ
out_of None = None
out_of (Some (Settled o)) = None
out_of (Some (Fresh b)) = Some b
out_of (Some (Change o b)) = Some b

-- the entry with the settled block x and the block out y
abbrev pub entry : Option ℕ → Option ℕ → Option Entry
entry None None = None
entry (Some o) None = Some (Settled o)
entry None (Some b) = Some (Fresh b)
entry (Some o) (Some b) = Some (Change o b)

-- a stream that is not open has no next number; the checks ask first whether it is open
abbrev pub next_of : Option Position → ℕ
next_of None = 0
next_of (Some p) = p.next

abbrev pub end_of : Option Position → ℕ
end_of None = 0
end_of (Some p) = p.end

-- a stream just opened for the numbers from first on
abbrev pub started : ℕ → ℕ → Position
started first length = record { next = first; end = first + length }

-- a stream whose next number was written
abbrev pub advanced : Position → Position
advanced p = record p { next = p.next + 1 }

-- ---- maps

-- the label n is not held, and does not fit beside those held
abbrev pub Full : {V : Type 0} → (Labels → Type 0) → (ℕ → Option V) → ℕ → Type 0
Full fit f n = (f n ≡ None) × (fit (beside f n) → ⊥)

-- the label n, where it is not held, fits beside those held
abbrev pub Room : {V : Type 0} → (Labels → Type 0) → (ℕ → Option V) → ℕ → Type 0
Room fit f n = f n ≡ None → fit (beside f n)

-- ---- the checks

-- a refusal, and when it applies
pub record Check : Type 1 where
  pub refusal : Refusal
  pub applies : Type 0

abbrev pub Checks : Type 1
Checks = List Check

abbrev pub check : Refusal → Type 0 → Check
check e p = record { refusal = e; applies = p }

-- what a grant of a block for n checks, once n is known to be allowed
abbrev pub grant_checks : Limits → Standing → ℕ → Checks
grant_checks k s n =
    check NumberBusy (out_of (s.entries n) ≢ None)
    ∷ check NoBlockWaiting (s.waiting ≡ [])
    ∷ check BlockMapFull (Full k.blocks_fit s.entries n)
    ∷ []

abbrev pub ending_checks : Standing → GrantId → Checks
ending_checks s g = check NoSuchGrant (out_of (s.entries g.number) ≢ Some g.block) ∷ []

-- the checks of a call, in order
abbrev pub checks : Limits → Standing → Call → Checks
checks k s (begin n) = check NumberTooLarge (k.numbers ≤ n) ∷ grant_checks k s n
checks k s (append l) =
    check StreamNotOpen (s.streams l ≡ None)
    ∷ check StreamAtEnd (next_of (s.streams l) ≡ end_of (s.streams l))
    ∷ grant_checks k s (next_of (s.streams l))
checks k s (commit g) = ending_checks s g
checks k s (abandon g) = ending_checks s g
checks k s (condemn g) = ending_checks s g
checks k s (read n) = check NumberTooLarge (k.numbers ≤ n) ∷ []
checks k s (trim n) =
    check NumberTooLarge (k.numbers ≤ n)
    ∷ check NumberBusy (out_of (s.entries n) ≢ None)
    ∷ []
checks k s (open_stream l first len) =
    check BadLength ((len ≡ 0) ⊎ (k.numbers < first + len))
    ∷ check StreamAlreadyOpen (s.streams l ≢ None)
    ∷ check StreamMapFull (Full k.streams_fit s.streams l)
    ∷ []
checks k s (close_stream l) = check StreamNotOpen (s.streams l ≡ None) ∷ []
checks k s (position l) = check StreamNotOpen (s.streams l ≡ None) ∷ []
checks k s tally = []

-- ---- what a call changes

abbrev pub with_entry : ℕ → Option Entry → Standing → Standing
with_entry n e s = record s { entries = update nat_eq s.entries n e }

abbrev pub with_stream : ℕ → Option Position → Standing → Standing
with_stream l p s = record s { streams = update nat_eq s.streams l p }

abbrev pub with_waiting : List ℕ → Standing → Standing
with_waiting w s = record s { waiting = w }

abbrev pub with_condemned : ℕ → Standing → Standing
with_condemned b s = record s { condemned = λ c. (c == b) || s.condemned c }

-- a block, if any, as the end of a list
abbrev pub back : Option ℕ → List ℕ
back None = []
back (Some o) = o ∷ []

-- a block that comes back joins the waiting at their back
abbrev pub release : Option ℕ → Standing → Standing
release o s = with_waiting (s.waiting ++ back o) s

-- ---- what an accepted call answers, and where it leaves the service

-- the front waiting block goes out at n, which has room
abbrev pub Grants : Limits → Standing → ℕ → Answer → Standing → Type 0
Grants k s n a t =
    (b : ℕ) × (rest : List ℕ) × (s.waiting ≡ b ∷ rest)
    × (a ≡ granted (record { number = n; block = b }))
    × (t ≡ with_waiting rest (with_entry n (entry (settled_of (s.entries n)) (Some b)) s))
    × Room k.blocks_fit s.entries n

-- the entry of the grant's number as it was before its begin
abbrev pub undo : GrantId → Standing → Standing
undo g s = with_entry g.number (entry (settled_of (s.entries g.number)) None) s

-- the numbers of the blocks in each place
pub record Counted (s : Standing) (n : Tally) : Type 0 where
  pub waiting : Number (λ b. b ∈ s.waiting) n.waiting
  pub out : Number (λ b. (m : ℕ) × (out_of (s.entries m) ≡ Some b)) n.out
  pub settled : Number (λ b. (m : ℕ) × (settled_of (s.entries m) ≡ Some b)) n.settled
  pub condemned : Number (λ b. s.condemned b ≡ true) n.condemned

-- what an accepted call answers, and where it leaves the service
abbrev pub Accepts : Limits → Standing → Call → Answer → Standing → Type 0
Accepts k s (begin n) a t = Grants k s n a t
Accepts k s (append l) a t =
    (p : Position) × (s.streams l ≡ Some p)
    × Grants k (with_stream l (Some (advanced p)) s) p.next a t
Accepts k s (commit g) a t =
    (a ≡ block (Some g.block))
    × (t ≡ release (settled_of (s.entries g.number)) (with_entry g.number (Some (Settled g.block)) s))
Accepts k s (abandon g) a t = (a ≡ block (Some g.block)) × (t ≡ release (Some g.block) (undo g s))
Accepts k s (condemn g) a t = (a ≡ block (Some g.block)) × (t ≡ with_condemned g.block (undo g s))
Accepts k s (read n) a t = (a ≡ block (settled_of (s.entries n))) × (t ≡ s)
Accepts k s (trim n) a t =
    (a ≡ block (settled_of (s.entries n)))
    × (t ≡ release (settled_of (s.entries n)) (with_entry n None s))
Accepts k s (open_stream l first len) a t =
    (a ≡ opened) × (t ≡ with_stream l (Some (started first len)) s)
    × Room k.streams_fit s.streams l
Accepts k s (close_stream l) a t =
    (p : Position) × (s.streams l ≡ Some p) × (a ≡ closed p.next) × (t ≡ with_stream l None s)
Accepts k s (position l) a t = (p : Position) × (s.streams l ≡ Some p) × (a ≡ stands p) × (t ≡ s)
Accepts k s tally a t = (n : Tally) × Counted s n × (a ≡ counts n) × (t ≡ s)

-- ---- one call

-- the first check that applies refuses and changes nothing; where none applies, the call is accepted
abbrev pub Judges : Checks → Standing → Answer → Standing → Type 0 → Type 0
Judges [] s a t accepted = accepted
Judges (c ∷ cs) s a t accepted =
    (c.applies × (a ≡ refused c.refusal) × (t ≡ s)) ⊎ ((c.applies → ⊥) × Judges cs s a t accepted)

-- from s the call c is answered by a and leaves t
abbrev pub Step : Limits → Standing → Call → Answer → Standing → Type 0
Step k s c a t = Judges (checks k s c) s a t (Accepts k s c a t)
