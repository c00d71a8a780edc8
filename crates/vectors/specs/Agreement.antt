-- Vectors against our mixing step.
--   agrees v            the step takes the input of v to its output
--   difference (k, v)   what is told of the vector v at the index k, where it does not agree
--   differences vs      the same of all that do not, in their order
--   difference_text d   its line of text
--   score_text s        the line of text of a score
-- Assumes nothing.
use Rattle.std.specs.Prelude.{ℕ, ◌+◌, Bool, ◌==◌, if◌then◌else◌, List, ◌++◌, Option, Some, None, codes, decimal}
use Rattle.std.specs.List.{filter_map, enumerate_from}
use Rattle.label.specs.Digests.{mixed}
use Rattle.vectors.specs.declared.agreement.Vector.{Vector}
use Rattle.vectors.specs.declared.agreement.Difference.{Difference}
use Rattle.vectors.specs.declared.agreement.Score.{Score}

abbrev pub agrees : Vector → Bool
agrees v = mixed v.input == v.output

-- lines are counted from 1, and indices from 0
abbrev pub difference : ℕ × Vector → Option Difference
difference (k, v) = if agrees v then None else Some (record { line = k + 1; vector = v; found = mixed v.input })

abbrev pub differences : List Vector → List Difference
differences vs = filter_map difference (enumerate_from 0 vs)

abbrev pub difference_text : Difference → List ℕ
difference_text d = codes "line " ++ (decimal d.line ++ (codes ": input " ++ (decimal d.vector.input ++ (codes ", expected " ++ (decimal d.vector.output ++ (codes ", found " ++ decimal d.found))))))

abbrev pub score_text : Score → List ℕ
score_text s = decimal s.agreeing ++ (codes " of " ++ (decimal s.compared ++ codes " agree"))
