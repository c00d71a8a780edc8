-- The code is the definition, step by step.
use borrow.Author.Rules.{rules}
use Rattle.label.specs.Digests.{mixed, stirred}
use Rattle.label.proofs.digest.mix.Goals as goal

pub returns : goal.returns
unfolding mixed stirred
returns c = search rules
