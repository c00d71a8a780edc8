-- Which sets of labels a table of a size can hold, and how many labels it holds.
--   Fits kind b s      each label of the set s can be given its first or its second bucket, among b buckets, with no bucket given more than four
--   slots_of bs        all slots, bucket after bucket
--   labels_in kind ss  the numbers of the labels in the used ones of the slots ss
--   labels kind bs     the numbers of the labels that the table holds
-- Assumes nothing.
use Rattle.std.specs.Prelude.{◌≡◌, ℕ, ◌<◌, Bool, true, cond, ◌&&◌, ◌⊎◌, List, [], ◌∷◌, ◌==◌}
use Rattle.label.specs.declared.Label.{Ghosts}
use Rattle.map.specs.Sets.{AtMost}
use Rattle.bucket.specs.declared.slots.Slot.{Slot}
use Rattle.bucket.specs.declared.slots.Bucket.{Bucket}
use Rattle.table.specs.Tables.{first_of, second_of}

-- an area of wrong size counts as no buckets: there nothing can be given
pub record Fits {L : Type 0} (kind : Ghosts L) (b : ℕ) (s : ℕ → Bool) : Type 0 where
  pub given : ℕ → ℕ
  pub choice : (n : ℕ) → s n ≡ true → (0 < b) × ((given n ≡ first_of kind b n) ⊎ (given n ≡ second_of kind b n))
  pub four : (i : ℕ) → AtMost 4 (λ n. s n && given n == i)

module _ {L V : Type 0} where
  abbrev pub slots_of : List (Bucket L V) → List (Slot L V)
  slots_of [] = []
  slots_of (b ∷ bs) = b.s0 ∷ (b.s1 ∷ (b.s2 ∷ (b.s3 ∷ slots_of bs)))

  abbrev pub labels_in : Ghosts L → List (Slot L V) → List ℕ
  labels_in kind [] = []
  labels_in kind (s ∷ ss) = cond s.used (kind.number s.label ∷ labels_in kind ss) (labels_in kind ss)

  abbrev pub labels : Ghosts L → List (Bucket L V) → List ℕ
  labels kind bs = labels_in kind (slots_of bs)
