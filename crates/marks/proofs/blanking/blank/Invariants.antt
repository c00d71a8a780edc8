-- After j turns the first j places are blank.
use Rattle.marks.proofs.Wiping.{Wiped}
use Rattle.marks.proofs.blanking.blank.Given as goal

abbrev pub invariant-loop-j : goal.invariant-loop-j
invariant-loop-j g l = Wiped l.initial.buckets l.buckets l.count l.j
