-- No tape says more.
use Rattle.call_tape.proofs.Few.{few_opened}
use Rattle.call_tape.proofs.whole.most_readings.Goals as goal

pub returns-else-tape-gt-LIMIT-clause-bound : goal.returns-else-tape-gt-LIMIT-clause-bound
returns-else-tape-gt-LIMIT-clause-bound c = few_opened c.args.tape.now c.if-tape-gt-LIMIT.false
