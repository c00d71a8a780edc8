-- What the loop over the lines keeps.
use Rattle.std.specs.List.{AllZip}
use Rattle.std.proofs.Common.{map}
use Rattle.vectors.specs.Reading.{Says}
use Rattle.vectors.proofs.reading.vectors_of.Given as goal

-- each line so far says the vector at its place
abbrev pub invariant-loop-line : goal.invariant-loop-line
invariant-loop-line l = AllZip Says (map (λ line. line.now) l.yielded) l.vectors.items
