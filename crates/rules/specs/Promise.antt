-- What holds after every life: of where the blocks are, of what was answered, and of what comes next. It is said of calls, answers, ledger and streams.
use Rattle.std.specs.Prelude.{◌≡◌, ℕ, ◌+◌, ◌<◌, true, ◌↔◌, List, [], ◌∷◌, Some}
use Rattle.rules.specs.declared.GrantId.{GrantId}
use Rattle.rules.specs.declared.Tally.{Tally}
use Rattle.rules.specs.declared.Call.{Call}
use Rattle.rules.specs.declared.Call.TheVariants.{Tally as tally}
use Rattle.rules.specs.declared.Answer.{Answer}
use Rattle.rules.specs.declared.Answer.TheVariants.{Block as block, Counts as counts}
use Rattle.rules.specs.Calls.{Labels, Limits, Standing}
use Rattle.rules.specs.Rules.{entry}
use Rattle.rules.specs.History.{History, Ledger, ledger, noted, grants, endings}
use Rattle.rules.specs.Lives.{ended_grant, Own, Streams, streams, streams_noted, AllLabelled, calls}
use Rattle.rules.specs.Places.{Placed, Counts}
use Rattle.rules.specs.Right.{RightAnswer, FullExactly}

-- ---- a life, and what was answered in it

-- the call c was answered by a, where the ledger was d and the streams x
pub record Answered (k : Limits) (d : Ledger) (x : Streams) (c : Call) (a : Answer) : Type 0 where
  -- by the rules
  pub right : RightAnswer k d x c a
  -- which have no other answer
  pub only : (y : Answer) → RightAnswer k d x c y → y ≡ a
  -- an ending is never refused, and shows the block of its grant
  pub ended : (g : GrantId) → ended_grant c ≡ Some g → a ≡ block (Some g.block)
  pub full : FullExactly k d x c a

abbrev pub AllAnswered : Limits → History → Type 0
AllAnswered k [] = Unit {0}
AllAnswered k (e ∷ h) = Answered k (ledger k.blocks h) (streams h) e.0 e.1 × AllAnswered k h

-- calls on a fresh service with their answers, which end none but own grants, and open none but labels that exist
pub record Life (k : Limits) (h : History) : Type 0 where
  pub own : Own h
  pub labels : AllLabelled (calls h)
  pub answered : AllAnswered k h

-- ---- where the blocks are

-- a tally has an answer, which counts each place; the places add up to all blocks; those out are the grants given less those ended
pub record Tallied (k : Limits) (h : History) (n : Tally) : Type 0 where
  pub answer : RightAnswer k (ledger k.blocks h) (streams h) tally (counts n)
  pub counted : Counts (ledger k.blocks h) n
  pub all : n.waiting + n.out + n.settled + n.condemned ≡ k.blocks
  pub out : n.out + endings h ≡ grants h

-- every block is in just one place, and counted there
pub record InPlaces (k : Limits) (h : History) : Type 0 where
  pub placed : Placed k.blocks (ledger k.blocks h)
  pub tallied : (n : Tally) × Tallied k h n

-- the pool, the entries, the marks and the streams are what the ledger and the streams say
pub record StandsAs (k : Limits) (h : History) (s : Standing) : Type 0 where
  pub pool : s.waiting ≡ (ledger k.blocks h).waiting
  pub entries : (n : ℕ) → s.entries n ≡ entry ((ledger k.blocks h).settled n) ((ledger k.blocks h).out n)
  pub marks : (b : ℕ) → s.condemned b ≡ (ledger k.blocks h).condemned b
  pub streams : (l : ℕ) → s.streams l ≡ streams h l

-- ---- what comes next

-- from the ledger d and the streams x the further calls cs, the first first, are answered by xs
abbrev pub Continues : Limits → Ledger → Streams → List Call → List Answer → Type 0
Continues k d x [] [] = Unit {0}
Continues k d x [] (a ∷ xs) = ⊥
Continues k d x (c ∷ cs) [] = ⊥
Continues k d x (c ∷ cs) (a ∷ xs) = RightAnswer k d x c a × Continues k (noted c a d) (streams_noted c a x) cs xs

-- a set of numbers below b
abbrev pub Below : ℕ → Labels → Type 0
Below b s = (n : ℕ) → s n ≡ true → n < b

-- equal sizes, and fits that are the same of the labels that exist: block numbers below the bound, stream labels of 32 bits
pub record SameLimits (k j : Limits) : Type 0 where
  pub blocks : k.blocks ≡ j.blocks
  pub numbers : k.numbers ≡ j.numbers
  pub entries : (s : Labels) → Below k.numbers s → k.blocks_fit s ↔ j.blocks_fit s
  pub streams : (s : Labels) → Below 4294967296 s → k.streams_fit s ↔ j.streams_fit s

-- two ledgers that say the same; the order of the condemned does not count
pub record SameLedger (d e : Ledger) : Type 0 where
  pub waiting : d.waiting ≡ e.waiting
  pub out : (n : ℕ) → d.out n ≡ e.out n
  pub settled : (n : ℕ) → d.settled n ≡ e.settled n
  pub condemned : (b : ℕ) → d.condemned b ≡ e.condemned b

-- after the histories h and i two services stand the same
pub record StandSame (k : Limits) (h : History) (j : Limits) (i : History) : Type 0 where
  pub limits : SameLimits k j
  pub ledger : SameLedger (ledger k.blocks h) (ledger j.blocks i)
  pub streams : (l : ℕ) → streams h l ≡ streams i l

-- every further list has the same answers on both, and no two lists of them
pub record SameAnswers (k : Limits) (h : History) (j : Limits) (i : History) : Type 0 where
  pub same : (cs : List Call) (xs : List Answer) → AllLabelled cs
      → Continues k (ledger k.blocks h) (streams h) cs xs ↔ Continues j (ledger j.blocks i) (streams i) cs xs
  pub one : (cs : List Call) (xs ys : List Answer) → AllLabelled cs
      → Continues k (ledger k.blocks h) (streams h) cs xs → Continues j (ledger j.blocks i) (streams i) cs ys → xs ≡ ys
