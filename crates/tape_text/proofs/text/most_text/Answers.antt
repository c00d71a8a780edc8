-- Three bytes for each are enough, and a longer tape has none.
use Rattle.tape_text.proofs.Wording.{text_within, no_text_of_longer}
use Rattle.tape_text.proofs.text.most_text.Goals as goal

pub returns-then-tape-gt-LIMIT-clause-bound : goal.returns-then-tape-gt-LIMIT-clause-bound
returns-then-tape-gt-LIMIT-clause-bound c = no_text_of_longer c.args.tape.now c.if-tape-gt-LIMIT.true

pub returns-else-tape-gt-LIMIT-clause-bound : goal.returns-else-tape-gt-LIMIT-clause-bound
returns-else-tape-gt-LIMIT-clause-bound c = text_within c.args.tape.now
