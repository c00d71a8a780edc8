-- The first words of the line tell what it means.
use Rattle.tape_text.specs.Lines.{words}
use Rattle.tape_text.proofs.Barring.{one_meaning, means_by_first}
use Rattle.tape_text.proofs.lines.call_in.Goals as goal

pub returns-clause-means : goal.returns-clause-means
returns-clause-means c = means_by_first (words c.args.line.now) c.call_of.result (rw c.first_words-count.ensures.1 at c.call_of.ensures)

pub returns-clause-once : goal.returns-clause-once
returns-clause-once c = one_meaning
