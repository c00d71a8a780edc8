-- A table: a list of buckets. What it means, and when it is well kept. kind is the kind of its labels, n the number of a label, i a bucket, k a slot.
--   live bs            the buckets that count: all, or none of an area of wrong size
--   first_of, second_of kind b n   the first and the second bucket of n among b buckets
--   or_else o p        o, or p if o has nothing
--   hit, hit_in        the payload of n in a slot, in a bucket
--   look kind bs n     the payload that the table pairs with n
--   Lies kind bs n i k slot k of bucket i is used and has n
--   Nowhere kind bs n  no slot is so
--   mover, movers_in, movers   how many labels of first bucket p lie in another: in a slot, a bucket, the table
--   Sound kind bs      the rules of slots, counts and filters
--   unmarked bs        the table with all marks blank
--   WellKept kind bs   the rules of a table at rest
-- Assumes nothing.
use Rattle.std.specs.Prelude.{◌≡◌, ℕ, suc, ◌+◌, ◌<◌, true, cond, not, ◌&&◌, ◌⊎◌, List, [], ◌∷◌, length, Some, None, Option, ◌==◌, ◌≢◌, slice_index_or}
use Rattle.label.specs.declared.Label.{Ghosts}
use Rattle.bucket.specs.declared.slots.Slot.{Slot}
use Rattle.bucket.specs.declared.slots.Bucket.{Bucket}
use Rattle.bucket.specs.Spread.{allowed_size, first, second, tag_of, mask_of, contains}
use Rattle.bucket.specs.Slots.{slot_of, Has}
use Rattle.bucket.specs.Changes.{peek, with_mark, blank_mark}

abbrev pub live : {X : Type 0} → List X → List X
live bs = cond (allowed_size (length bs)) bs []

abbrev pub or_else : {X : Type 0} → Option X → Option X → Option X
or_else None y = y
or_else (Some x) y = Some x

module _ {L : Type 0} (kind : Ghosts L) where
  abbrev pub first_of : ℕ → ℕ → ℕ
  first_of b n = first (kind.spread n) b

  abbrev pub second_of : ℕ → ℕ → ℕ
  second_of b n = second (kind.spread n) b

  -- ---- what a table pairs with a label

  module _ {V : Type 0} where
    abbrev pub hit : Slot L V → ℕ → Option V
    hit s n = cond (s.used && kind.number s.label == n) (Some s.payload) None

    abbrev pub hit_in : Bucket L V → ℕ → Option V
    hit_in b n = or_else (hit b.s0 n) (or_else (hit b.s1 n) (or_else (hit b.s2 n) (hit b.s3 n)))

    abbrev pub look : List (Bucket L V) → ℕ → Option V
    look [] n = None
    look (b ∷ bs) n = or_else (hit_in b n) (look bs n)

    abbrev pub Lies : List (Bucket L V) → ℕ → ℕ → ℕ → Type 0
    Lies bs n i k = (i < length bs) × (k < 4) × ((d : Bucket L V) → Has kind (slot_of (slice_index_or bs i d) k) n)

    abbrev pub Nowhere : List (Bucket L V) → ℕ → Type 0
    Nowhere bs n = (i k : ℕ) → Lies bs n i k → ⊥

    -- ---- labels outside their first bucket p, among b buckets

    abbrev pub mover : ℕ → ℕ → ℕ → Slot L V → ℕ
    mover b p i s = cond (s.used && (first_of b (kind.number s.label) == p && not (i == p))) 1 0

    abbrev pub movers_in : ℕ → ℕ → ℕ → Bucket L V → ℕ
    movers_in b p i x = mover b p i x.s0 + mover b p i x.s1 + mover b p i x.s2 + mover b p i x.s3

    -- the buckets of the list are those from i on
    abbrev pub movers : ℕ → ℕ → ℕ → List (Bucket L V) → ℕ
    movers b p i [] = 0
    movers b p i (x ∷ xs) = movers_in b p i x + movers b p (suc i) xs

    pub record Sound (bs : List (Bucket L V)) : Type 0 where
      -- each held label lies in its first or its second bucket,
      pub lies : (n i k : ℕ) → Lies bs n i k → (i ≡ first_of (length bs) n) ⊎ (i ≡ second_of (length bs) n)
      -- with its tag,
      pub tagged : (n i k : ℕ) → Lies bs n i k → (d : Bucket L V) → (slot_of (slice_index_or bs i d) k).tag ≡ tag_of (kind.spread n)
      -- in exactly one slot;
      pub once : (n i k j m : ℕ) → Lies bs n i k → Lies bs n j m → (i ≡ j) × (k ≡ m)
      -- the filter of the first bucket contains the mask of each label that lies outside it,
      pub masked : (n i k : ℕ) → Lies bs n i k → (i ≢ first_of (length bs) n)
          → contains (peek (λ b. b.filter) 0 bs (first_of (length bs) n)) (mask_of (kind.spread n)) ≡ true
      -- its moved count is the number of these labels,
      pub counts : (p : ℕ) → p < length bs → peek (λ b. b.moved) 0 bs p ≡ movers (length bs) p 0 bs
      -- and where the count is 0 the filter is 0
      pub clear : (p : ℕ) → p < length bs → peek (λ b. b.moved) 0 bs p ≡ 0 → peek (λ b. b.filter) 0 bs p ≡ 0

abbrev pub unmarked : {L V : Type 0} → List (Bucket L V) → List (Bucket L V)
unmarked [] = []
unmarked (b ∷ bs) = with_mark blank_mark b ∷ unmarked bs

pub record WellKept {L V : Type 0} (kind : Ghosts L) (bs : List (Bucket L V)) : Type 0 where
  pub sound : Sound kind bs
  pub blank : unmarked bs ≡ bs
