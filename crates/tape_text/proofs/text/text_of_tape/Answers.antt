-- A sound tape has no fault, and its calls are those that are read.
use Rattle.tape_text.proofs.Spelled.{saying_laws}
use Rattle.tape_text.proofs.Wording.{worded_sound}
use Rattle.tape_text.proofs.text.text_of_tape.Goals as goal

pub returns-in_ok-add_calls-clause-worded : goal.returns-in_ok-add_calls-clause-worded
returns-in_ok-add_calls-clause-worded c = worded_sound c.args.tape.now _ _ _ _ c.in_ok-sound.sound c.if-sound.true c.in_ok-sound.ensures.judged c.in_ok-add_calls.ensures.said

pub returns-in_err-sound-clause-laws : goal.returns-in_err-sound-clause-laws
returns-in_err-sound-clause-laws c = saying_laws

pub returns-in_err-add_calls-clause-laws : goal.returns-in_err-add_calls-clause-laws
returns-in_err-add_calls-clause-laws c = saying_laws

pub returns-in_ok-add_calls-clause-laws : goal.returns-in_ok-add_calls-clause-laws
returns-in_ok-add_calls-clause-laws c = saying_laws

pub returns-else-sound-clause-laws : goal.returns-else-sound-clause-laws
returns-else-sound-clause-laws c = saying_laws
