-- The law of every map, of the pairs that rows mean and the fit of so many rows.
--   lawful num xs   the pairs of the rows xs and the fit of as many labels are lawful
-- Assumes nothing. A proof, which stands here since the law of an impl names it.
use Rattle.std.specs.Prelude.{◌≡◌, ℕ, true, ◌∷◌, List, [], length, map, is_some}
use Rattle.std.proofs.Common.{arith}
use Rattle.std.proofs.lemmas.Bool.Decides.{nat_tests}
use Rattle.std.proofs.lemmas.List.{length-map}
use Rattle.map.specs.Sets.{member, AtMost}
use Rattle.map.specs.Meaning.{Lawful}
use Rattle.map.proofs.Sets.{most_none, most_part}
use Rattle.straight.specs.declared.rows.Row.{Row}
use Rattle.straight.specs.Rows.{look}

module _ {L V : Type 0} (num : L → ℕ) where
  -- each label held is the label of a row
  covers : (xs : List (Row L V)) (n : ℕ) → is_some (look num xs n) ≡ true → member n (map (λ r. num r.label) xs) ≡ true
  covers [] n h = h
  covers (r ∷ rs) n h = grind (arith, nat_tests, covers rs n)

  pub lawful : (xs : List (Row L V)) → Lawful (look num xs) (AtMost (length xs))
  lawful xs = record {
    none = most_none (length xs);
    part = most_part (length xs);
    inside = record { list = map (λ r. num r.label) xs; short = omega (arith, length-map xs (λ r. num r.label)); covers = covers xs };
  }
