-- How a label is found, over any buckets, well kept or not: nothing here depends on the order in which slots are compared.
--   Shows kind bs n i k   slot k of bucket i is used, with the tag and the label of n
--   Misses kind bs n i    no slot of bucket i is so
--   Asked kind bs n       the filter of n's first bucket lets a find go on to the second
--   Looks kind bs n o c   the rule of find: the slot o, if any, and the number c of buckets read
--   Payload kind bs n o c  the same for the payload o of that slot
--   Finds kind bs n r     what a find answers, over areas of right and of wrong size
-- Assumes nothing.
use Rattle.std.specs.Prelude.{◌≡◌, ℕ, ◌<◌, true, false, ◌⊎◌, List, length, Some, None, Option, ◌≢◌, slice_index_or}
use Rattle.label.specs.declared.Label.{Ghosts}
use Rattle.bucket.specs.declared.slots.Bucket.{Bucket}
use Rattle.bucket.specs.Spread.{allowed_size, tag_of, mask_of, contains}
use Rattle.bucket.specs.Slots.{slot_of, Tagged}
use Rattle.bucket.specs.Changes.{peek}
use Rattle.table.specs.declared.finding.Spot.{Spot}
use Rattle.table.specs.declared.finding.Found.{Found}
use Rattle.table.specs.Tables.{live, first_of, second_of, look, Sound}

module _ {L V : Type 0} (kind : Ghosts L) (bs : List (Bucket L V)) (n : ℕ) where
  abbrev pub Shows : ℕ → ℕ → Type 0
  Shows i k = (k < 4) × ((d : Bucket L V) → Tagged kind (slot_of (slice_index_or bs i d) k) (tag_of (kind.spread n)) n)

  abbrev pub Misses : ℕ → Type 0
  Misses i = (k : ℕ) → Shows i k → ⊥

  abbrev pub Asked : Type 0
  Asked = contains (peek (λ b. b.filter) 0 bs (first_of kind (length bs) n)) (mask_of (kind.spread n)) ≡ true

  -- a look into the first bucket; into the second only if the label is not there, the second differs and the filter lets it
  abbrev pub Looks : Option Spot → ℕ → Type 0
  Looks (Some x) c =
      ((c ≡ 1) × (x.bucket ≡ first_of kind (length bs) n) × Shows (first_of kind (length bs) n) x.slot)
      ⊎ ((c ≡ 2) × (x.bucket ≡ second_of kind (length bs) n) × Misses (first_of kind (length bs) n)
      × (second_of kind (length bs) n ≢ first_of kind (length bs) n) × Asked × Shows (second_of kind (length bs) n) x.slot)
  Looks None c =
      ((c ≡ 1) × Misses (first_of kind (length bs) n) × ((second_of kind (length bs) n ≡ first_of kind (length bs) n) ⊎ (Asked → ⊥)))
      ⊎ ((c ≡ 2) × Misses (first_of kind (length bs) n) × (second_of kind (length bs) n ≢ first_of kind (length bs) n) × Asked
      × Misses (second_of kind (length bs) n))

  -- the payload is that of the slot
  abbrev pub Payload : Option V → ℕ → Type 0
  Payload None c = Looks None c
  Payload (Some v) c = (x : Spot) × Looks (Some x) c × ((d : Bucket L V) → (slot_of (slice_index_or bs x.bucket d) x.slot).payload ≡ v)

  pub record Finds (r : Found V) : Type 0 where
    pub right : allowed_size (length bs) ≡ true → Payload r.payload r.read
    pub wrong : allowed_size (length bs) ≡ false → (r.payload ≡ None) × (r.read ≡ 0)
    -- in a sound table, whatever its marks, what it pairs with the label
    pub answer : Sound kind (live bs) → r.payload ≡ look kind (live bs) n
