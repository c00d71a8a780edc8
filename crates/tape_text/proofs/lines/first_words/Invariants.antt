-- The words kept are the first of the pieces that came so far.
use Rattle.tape_text.proofs.Firsts.{Kept}
use Rattle.tape_text.proofs.lines.first_words.Given as goal

abbrev pub invariant-loop-word : goal.invariant-loop-word
invariant-loop-word l = Kept l.words l.count l.yielded
