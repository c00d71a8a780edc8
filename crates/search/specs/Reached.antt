-- The reached list of a search, and the order in which buckets join it. bs is the table, p and s the two buckets that the search starts from.
--   Trail             a reached list: its places, of which the first are the starts; at each place a bucket, the place that it was reached from, and the slot there
--   Before a j b k    slot j at place a comes before slot k at place b
--   Through j         place j was reached through a label: it lies in the slot remembered at the place remembered, and the bucket at j is its other one
--   Joined a j        the other bucket of the label in slot j at place a has joined, at the latest through that label
--   Reached head k    t is the reached list when all that comes before slot k at place head has been followed
--   trail_of ms st n  the list that the marks of ms keep: n places, st starts
--   Searching         a search under way: the marks of ms keep its list, and nothing but marks has changed
--   FullAt, LowestAt  every slot of a bucket is used; its lowest unused slot
--   Ended             the search has come to a bucket with an unused slot, or used the list up
-- Assumes nothing.
use Rattle.std.specs.Prelude.{◌≡◌, ℕ, ◌<◌, ◌≤◌, true, false, ◌⊎◌, List, length, Some, None, Option, ◌≢◌}
use Rattle.label.specs.declared.Label.{Ghosts}
use Rattle.bucket.specs.declared.slots.Bucket.{Bucket}
use Rattle.table.specs.Tables.{unmarked}
use Rattle.table.specs.Moving.{used_at, other_at}
use Rattle.marks.specs.Marks.{bucket_at, parent_at, slot_at, Marked}
use Rattle.search.specs.declared.searching.End.{End}

pub record Trail : Type 0 where
  pub count : ℕ
  pub starts : ℕ
  pub bucket : ℕ → ℕ
  pub parent : ℕ → ℕ
  pub slot : ℕ → ℕ

abbrev pub Before : ℕ → ℕ → ℕ → ℕ → Type 0
Before a j b k = (a < b) ⊎ ((a ≡ b) × (j < k))

module _ {L V : Type 0} (kind : Ghosts L) (bs : List (Bucket L V)) where
  abbrev pub Through : Trail → ℕ → Type 0
  Through t j =
      (t.parent j < j) × (t.slot j < 4) × (used_at bs (t.bucket (t.parent j)) (t.slot j) ≡ true)
      × (other_at kind bs (t.bucket (t.parent j)) (t.slot j) ≡ t.bucket j)

  abbrev pub Joined : Trail → ℕ → ℕ → Type 0
  Joined t a j =
      (m : ℕ) × (m < t.count) × (t.bucket m ≡ other_at kind bs (t.bucket a) j)
      × (t.starts ≤ m → Before (t.parent m) (t.slot m) a j ⊎ ((t.parent m ≡ a) × (t.slot m ≡ j)))

  pub record Reached (p s : ℕ) (t : Trail) (head k : ℕ) : Type 0 where
    -- p comes first, then s if it differs
    pub first : (0 < t.starts) × (t.bucket 0 ≡ p)
    pub second : ((t.starts ≡ 1) × (s ≡ p)) ⊎ ((t.starts ≡ 2) × (s ≢ p) × (t.bucket 1 ≡ s))
    pub few : t.starts ≤ t.count
    pub within : (j : ℕ) → j < t.count → t.bucket j < length bs
    -- no bucket joins twice
    pub once : (i j : ℕ) → i < t.count → j < t.count → t.bucket i ≡ t.bucket j → i ≡ j
    -- each later place was reached through a label,
    pub through : (j : ℕ) → t.starts ≤ j → j < t.count → Through t j
    -- in the order of the places and, at one place, of the slots,
    pub order : (i j : ℕ) → t.starts ≤ i → i < j → j < t.count → Before (t.parent i) (t.slot i) (t.parent j) (t.slot j)
    -- and none through a label that has not been followed
    pub behind : (j : ℕ) → t.starts ≤ j → j < t.count → Before (t.parent j) (t.slot j) head k
    -- the buckets passed are full, and each of their labels has been followed
    pub full : (j i : ℕ) → j < head → i < 4 → used_at bs (t.bucket j) i ≡ true
    pub followed : (a j : ℕ) → j < 4 → Before a j head k → Joined t a j

module _ {L V : Type 0} where
  abbrev pub trail_of : List (Bucket L V) → ℕ → ℕ → Trail
  trail_of ms st n = record { count = n; starts = st; bucket = bucket_at ms; parent = parent_at ms; slot = slot_at ms }

  pub record Searching (kind : Ghosts L) (bs : List (Bucket L V)) (p s : ℕ) (ms : List (Bucket L V)) (st n head k : ℕ) : Type 0 where
    pub same : unmarked ms ≡ bs
    pub marked : Marked ms n
    pub reached : Reached kind bs p s (trail_of ms st n) head k

  abbrev pub FullAt : List (Bucket L V) → ℕ → Type 0
  FullAt bs i = (k : ℕ) → used_at bs i k ≡ true

  abbrev pub LowestAt : List (Bucket L V) → ℕ → ℕ → Type 0
  LowestAt bs i k = (k < 4) × (used_at bs i k ≡ false) × ((j : ℕ) → j < k → used_at bs i j ≡ true)

  abbrev pub Ended : Ghosts L → List (Bucket L V) → ℕ → ℕ → List (Bucket L V) → ℕ → ℕ → Option End → Type 0
  Ended kind bs p s ms st n None = Searching kind bs p s ms st n n 0
  Ended kind bs p s ms st n (Some e) = Searching kind bs p s ms st n e.place 0 × (e.place < n) × LowestAt bs (bucket_at ms e.place) e.slot
