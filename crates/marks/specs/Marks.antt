-- The reached list in the marks of the buckets ms. Its places are counted from 0; n is their number.
--   has_joined ms i      whether the bucket i has joined the list
--   bucket_at, parent_at, slot_at ms j   the bucket at place j, the place that it was reached from, and the slot there
--   joined_count ms      how many buckets have joined
--   joined_to ms n i p k the marks once the bucket i has joined at place n, from place p through slot k; as before if it had joined
--   Blank ms j           place j is blank
--   Listed ms n          what joining alone makes of the places: buckets of the table, each reached from an earlier place
--   Marked ms n          the marks are those of the list and no others
-- Assumes nothing.
use Rattle.std.specs.Prelude.{◌≡◌, ℕ, ◌+◌, ◌<◌, ◌≤◌, Bool, true, false, cond, List, [], ◌∷◌, length}
use Rattle.bucket.specs.declared.slots.Bucket.{Bucket}
use Rattle.bucket.specs.Changes.{modify, peek, with_joined, with_place}

module _ {L V : Type 0} where
  abbrev pub has_joined : List (Bucket L V) → ℕ → Bool
  has_joined ms i = peek (λ b. b.mark.joined) false ms i

  abbrev pub bucket_at : List (Bucket L V) → ℕ → ℕ
  bucket_at ms j = peek (λ b. b.mark.bucket) 0 ms j

  abbrev pub parent_at : List (Bucket L V) → ℕ → ℕ
  parent_at ms j = peek (λ b. b.mark.parent) 0 ms j

  abbrev pub slot_at : List (Bucket L V) → ℕ → ℕ
  slot_at ms j = peek (λ b. b.mark.slot) 0 ms j

  abbrev pub joined_count : List (Bucket L V) → ℕ
  joined_count [] = 0
  joined_count (b ∷ bs) = cond b.mark.joined 1 0 + joined_count bs

  unfoldable pub joined_to : List (Bucket L V) → ℕ → ℕ → ℕ → ℕ → List (Bucket L V)
  joined_to ms n i p k = cond (has_joined ms i) ms (modify (with_place i p k) (modify (with_joined true) ms i) n)

  abbrev pub Blank : List (Bucket L V) → ℕ → Type 0
  Blank ms j = (bucket_at ms j ≡ 0) × (parent_at ms j ≡ 0) × (slot_at ms j ≡ 0)

  pub record Listed (ms : List (Bucket L V)) (n : ℕ) : Type 0 where
    pub room : n ≤ joined_count ms
    pub within : (j : ℕ) → j < n → bucket_at ms j < length ms
    pub earlier : (j : ℕ) → 0 < j → j < n → parent_at ms j < j

  pub record Marked (ms : List (Bucket L V)) (n : ℕ) : Type 0 where
    pub joined : (j : ℕ) → j < n → has_joined ms (bucket_at ms j) ≡ true
    pub listed : (i : ℕ) → has_joined ms i ≡ true → (j : ℕ) × (j < n) × (bucket_at ms j ≡ i)
    pub once : (i j : ℕ) → i < n → j < n → bucket_at ms i ≡ bucket_at ms j → i ≡ j
    pub blank : (j : ℕ) → n ≤ j → Blank ms j
