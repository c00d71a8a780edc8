-- The check before a service is made, and the making.
--   Sizes p m n      p cells, m marks and the bound n are allowed: 1 to 4,096 blocks, a mark for each, a bound from 1 on
--   Empty f          a map with no pairs
--   Looked g m m'    a map that was only looked at
--   Sized p m n r    what the answer r of the check says of the sizes
--   Checks b t r b' t'   what it says of the maps b and t, which are then b' and t'
--   Makes c d n b t r   a service r just made: fresh where the check passes, and else with its refusal for every call
--   Areas c d n r    what its cells, marks and counters then are
-- Assumes nothing.
use Rattle.std.specs.Prelude.{◌≡◌, ℕ, ◌≤◌, ◌⊎◌, List, [], length, replicate, Some, None, Ok, Err, Option, Result}
use Rattle.std.specs.Borrow.{MutBor}
use Rattle.refusal.specs.declared.Refusal.{Refusal}
use Rattle.refusal.specs.declared.Refusal.TheVariants.{BadSize, MapNotEmpty}
use Rattle.label.specs.declared.stream.StreamLabel.{StreamLabel}
use Rattle.map.specs.declared.Map.{Ghosts}
use Rattle.rules.specs.declared.Entry.{Entry}
use Rattle.rules.specs.declared.Position.{Position}
use Rattle.std.specs.List.{range_with_len}
use Rattle.ring.specs.Queue.{places}
use Rattle.service.specs.declared.pool.Mark.{Mark}
use Rattle.service.specs.declared.pool.Mark.TheVariants.{Sound}
use Rattle.service.specs.declared.state.Service.{Service}
use Rattle.service.specs.Service.{ReachedBy}

abbrev pub Sizes : ℕ → ℕ → ℕ → Type 0
Sizes p m n = (1 ≤ p) × (p ≤ 4096) × (m ≡ p) × (1 ≤ n)

abbrev pub Empty : {V : Type 0} → (ℕ → Option V) → Type 0
Empty f = (n : ℕ) → f n ≡ None

-- a map that was only looked at
pub record Looked {L M V : Type 0} (g : Ghosts M L V) (m m' : M) : Type 0 where
  pub fit : g.shape m' ≡ g.shape m
  pub pairs : g.pairs m' ≡ g.pairs m

-- what the answer of the check says of the sizes
abbrev pub Sized : ℕ → ℕ → ℕ → Result (Unit {0}) Refusal → Type 0
Sized p m n (Ok u) = Sizes p m n
Sized p m n (Err e) = ((e ≡ BadSize) × (Sizes p m n → ⊥)) ⊎ ((e ≡ MapNotEmpty) × Sizes p m n)

-- what it says of the maps, once the sizes are allowed
module _ {L B S : Type 0} (bm : Ghosts B L Entry) (sm : Ghosts S StreamLabel Position) where
  abbrev pub BothEmpty : B → S → Type 0
  BothEmpty b t = Empty (bm.pairs b) × Empty (sm.pairs t)

  abbrev pub Emptied : B → S → Result (Unit {0}) Refusal → Type 0
  Emptied b t (Ok u) = BothEmpty b t
  Emptied b t (Err e) = e ≡ MapNotEmpty → BothEmpty b t → ⊥

  pub record Checks (b : B) (t : S) (r : Result (Unit {0}) Refusal) (b' : B) (t' : S) : Type 0 where
    pub entries : Looked bm b b'
    pub streams : Looked sm t t'
    pub verdict : Emptied b t r

  -- the lent cells and marks, the bound n and the two maps make the service r
  pub record Makes (cells : MutBor (List ℕ)) (marks : MutBor (List Mark)) (n : ℕ) (b : B) (t : S) (r : Service L B S) : Type 0 where
    pub passed : r.fault ≡ None → ReachedBy bm sm [] r
    pub fresh : Sizes (length cells.now) (length marks.now) n → BothEmpty b t → ReachedBy bm sm [] r
    pub not_empty : Sizes (length cells.now) (length marks.now) n → (BothEmpty b t → ⊥) → r.fault ≡ Some MapNotEmpty
    pub entries : Looked bm b r.entries
    pub streams : Looked sm t r.streams

-- the sizes and areas of a service just made: numbered and cleared, or left as they were
pub record Areas {L B S : Type 0} (cells : MutBor (List ℕ)) (marks : MutBor (List Mark)) (n : ℕ) (r : Service L B S) : Type 0 where
  pub bad_size : (Sizes (length cells.now) (length marks.now) n → ⊥) → r.fault ≡ Some BadSize
  pub sized : r.fault ≡ Some BadSize → Sizes (length cells.now) (length marks.now) n → ⊥
  pub limit : r.limit ≡ n
  pub places : places r.pool ≡ length cells.now
  pub pool_area : r.pool.cells.ghost_name ≡ cells.ghost_name
  pub marks_area : r.marks.cells.ghost_name ≡ marks.ghost_name
  pub numbered : r.fault ≡ None → (r.pool.cells.now ≡ range_with_len 0 (length cells.now)) × (r.pool.count ≡ length cells.now) × (r.marks.cells.now ≡ replicate (length marks.now) Sound)
  pub left : (e : Refusal) → r.fault ≡ Some e → (r.pool.cells.now ≡ cells.now) × (r.pool.count ≡ 0) × (r.marks.cells.now ≡ marks.now)
  pub counters : (r.pool.head ≡ 0) × (r.out ≡ 0) × (r.condemned ≡ 0)
