-- A kind of labels as a value: the ghost members that its type gives to the trait.
--   old_line   the old line's block numbers: what each means, and how they are spread
-- Assumes nothing.
use Rattle.label.specs.declared.Label.{Ghosts}
use Rattle.label.specs.declared.old_block.OldBlock.{OldBlock}
use Rattle.label.specs.Digests.{old_digest}

abbrev pub old_line : Ghosts OldBlock
old_line = record { number = λ l. l.0; spread = old_digest }
