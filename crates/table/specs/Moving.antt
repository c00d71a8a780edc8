-- How labels come into slots and leave them. n is the number of a label, i a bucket, k a slot.
--   at_both f g bs i p    bucket i changed by f and, unless it is p, bucket p by g
--   vacated kind bs n i k        slot k of bucket i, which has n, becomes unused
--   occupied kind bs n i k l v   slot k of bucket i gets the label l of number n, with the payload v
--   used_at bs i k        whether slot k of bucket i is used
--   slot_in bs i k        that slot, if the bucket is there
--   if_some o f y         f of what o has, and y if it has nothing
--   other_of, other_at    the other bucket of a slot's label
--   relocated kind bs a j b k    the label of slot j of bucket a lies in slot k of bucket b
--   Movable kind bs a j b k      b is the other bucket of that label, and slot k of it is unused
--   Moves kind bs cs      a single move from bs to cs leaves the table sound and every find's payload as it was
--   Takes kind bs n r es  what a take of n answers, and what every bucket then holds
-- Assumes nothing.
use Rattle.std.specs.Prelude.{◌≡◌, ℕ, ◌<◌, Bool, true, false, cond, List, length, Some, None, Option, ◌==◌, nat_eq}
use Rattle.std.specs.Map.{update}
use Rattle.label.specs.declared.Label.{Ghosts}
use Rattle.bucket.specs.declared.slots.Slot.{Slot}
use Rattle.bucket.specs.declared.slots.Bucket.{Bucket}
use Rattle.bucket.specs.Spread.{tag_of, mask_of}
use Rattle.bucket.specs.Slots.{slot_of}
use Rattle.bucket.specs.Changes.{modify, peek, filled, freed, counted_out, counted_back}
use Rattle.table.specs.Tables.{live, first_of, second_of, look, Lies, Nowhere, Sound, WellKept}

unfoldable pub at_both : {X : Type 0} → (X → X) → (X → X) → List X → ℕ → ℕ → List X
at_both f g bs i p = cond (p == i) (modify f bs i) (modify g (modify f bs i) p)

module _ {L V : Type 0} where
  abbrev pub used_at : List (Bucket L V) → ℕ → ℕ → Bool
  used_at bs i k = peek (λ b. (slot_of b k).used) false bs i

  abbrev pub slot_in : List (Bucket L V) → ℕ → ℕ → Option (Slot L V)
  slot_in bs i k = peek (λ b. Some (slot_of b k)) None bs i

abbrev pub if_some : {X Y : Type 0} → Option X → (X → Y) → Y → Y
if_some None f y = y
if_some (Some x) f y = f x

module _ {L V : Type 0} (kind : Ghosts L) where
  abbrev pub vacated : List (Bucket L V) → ℕ → ℕ → ℕ → List (Bucket L V)
  vacated bs n i k = at_both (freed k) counted_back bs i (first_of kind (length bs) n)

  abbrev pub occupied : List (Bucket L V) → ℕ → ℕ → ℕ → L → V → List (Bucket L V)
  occupied bs n i k l v =
      at_both (filled k (record { used = true; tag = tag_of (kind.spread n); label = l; payload = v })) (counted_out (mask_of (kind.spread n))) bs i (first_of kind (length bs) n)

  -- of a label that lies in bucket i, among b buckets
  abbrev pub other_of : ℕ → ℕ → Slot L V → ℕ
  other_of b i s =
      cond (first_of kind b (kind.number s.label) == i) (second_of kind b (kind.number s.label)) (first_of kind b (kind.number s.label))

  abbrev pub other_at : List (Bucket L V) → ℕ → ℕ → ℕ
  other_at bs i k = peek (λ b. other_of (length bs) i (slot_of b k)) 0 bs i

  -- leaving a, then coming to b
  unfoldable pub relocated : List (Bucket L V) → ℕ → ℕ → ℕ → ℕ → List (Bucket L V)
  relocated bs a j b k =
      if_some (slot_in bs a j) (λ s. occupied (vacated bs (kind.number s.label) a j) (kind.number s.label) b k s.label s.payload) bs

  pub record Movable (bs : List (Bucket L V)) (a j b k : ℕ) : Type 0 where
    pub from_bucket : a < length bs
    pub from_slot : j < 4
    pub to_bucket : b < length bs
    pub to_slot : k < 4
    pub apart : a ≡ b → ⊥
    pub used : used_at bs a j ≡ true
    pub free : used_at bs b k ≡ false
    pub other : other_at bs a j ≡ b

  pub record Moves (bs cs : List (Bucket L V)) : Type 0 where
    pub sound : Sound kind cs
    pub finds : (n : ℕ) → look kind cs n ≡ look kind bs n

  pub record Takes (bs : List (Bucket L V)) (n : ℕ) (r : Option V) (es : List (Bucket L V)) : Type 0 where
    pub kept : WellKept kind (live es)
    pub size : length es ≡ length bs
    pub pairs : (m : ℕ) → look kind (live es) m ≡ update nat_eq (look kind (live bs)) n None m
    pub answer : r ≡ look kind (live bs) n
    -- every bucket, filter and count
    pub held : (i k : ℕ) → Lies kind (live bs) n i k → es ≡ vacated bs n i k
    pub none : Nowhere kind (live bs) n → es ≡ bs
