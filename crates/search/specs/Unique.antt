-- The rules of Reached allow only one reached list. bs is the table.
--   AtEnd t e        the search has come to its end at place e: it has used up the list, or the bucket there has an unused slot
--   SameTrail t u    two lists that are the same, place by place
--   OneTrail         the rules allow one reached list, and it ends at one place
-- Assumes nothing.
use Rattle.std.specs.Prelude.{◌≡◌, ℕ, ◌<◌, ◌≤◌, false, ◌⊎◌, List}
use Rattle.label.specs.declared.Label.{Ghosts}
use Rattle.bucket.specs.declared.slots.Bucket.{Bucket}
use Rattle.table.specs.Moving.{used_at}
use Rattle.search.specs.Reached.{Trail, Reached}

abbrev pub AtEnd : {L V : Type 0} → List (Bucket L V) → Trail → ℕ → Type 0
AtEnd bs t e = (e ≡ t.count) ⊎ ((e < t.count) × ((k : ℕ) × (k < 4) × (used_at bs (t.bucket e) k ≡ false)))

-- how a start was reached says nothing, so parent and slot are compared at the later places only
pub record SameTrail (t u : Trail) : Type 0 where
  pub count : t.count ≡ u.count
  pub starts : t.starts ≡ u.starts
  pub bucket : (j : ℕ) → j < t.count → t.bucket j ≡ u.bucket j
  pub parent : (j : ℕ) → t.starts ≤ j → j < t.count → t.parent j ≡ u.parent j
  pub slot : (j : ℕ) → t.starts ≤ j → j < t.count → t.slot j ≡ u.slot j

module _ {L V : Type 0} (kind : Ghosts L) (bs : List (Bucket L V)) where
  abbrev pub OneTrail : Type 0
  OneTrail =
      (p s : ℕ) (t u : Trail) (d e : ℕ)
      → Reached kind bs p s t d 0 → AtEnd bs t d → Reached kind bs p s u e 0 → AtEnd bs u e → SameTrail t u × (d ≡ e)
