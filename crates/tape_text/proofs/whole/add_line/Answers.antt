-- A line that is refused leaves the tape so far.
use Rattle.std.proofs.Common.{refl}
use Rattle.tape_text.specs.Taken.{wrong, full}
use Rattle.tape_text.proofs.Adding.{no_room}
use Rattle.tape_text.proofs.whole.add_line.Goals as goal

pub returns-in-Err-add-clause-added : goal.returns-in-Err-add-clause-added
returns-in-Err-add-clause-added c = λ area cs h.
    let n = no_room area _ _ cs c.in-Ok-Some.call c.add.result _ _ h c.add.ensures.area (rw c.in-Err-add.is refl) in
    (refl, full c.in-Ok-Some.call (rw c.in-Ok-Some.field-0-is at c.in-Ok-Some.ensures.means) n.0, n.1)

pub returns-in-Err-clause-added : goal.returns-in-Err-clause-added
returns-in-Err-clause-added c = λ area cs h. (refl, wrong c.in-Err.complaint c.in-Err.ensures.means, h)
