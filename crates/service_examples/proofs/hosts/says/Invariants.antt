-- A history leads on.
use Rattle.service_examples.specs.Helpers.{Led}
use Rattle.service_examples.proofs.hosts.says.Given as goal

abbrev pub invariant-loop-i : goal.invariant-loop-i
invariant-loop-i g l = Led g.B.Map g.S.Map l.service
