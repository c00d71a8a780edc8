-- The tape of the calls so far says them.
use Rattle.std.proofs.Common.{refl}
use Rattle.call_tape.proofs.Writing.{holds_says}
use Rattle.call_tape.proofs.writer.Writer.tape.Goals as goal

pub returns-clause-says : goal.returns-clause-says
returns-clause-says c = λ area cs h. holds_says area _ _ _ cs refl h
