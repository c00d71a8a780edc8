-- What the tape held stands before the call's field.
use Rattle.std.proofs.Common.{rules}
use Rattle.call_tape.specs.Calls.{Small}
use Rattle.call_tape.proofs.Writing.{holds_on}
use Rattle.call_tape.proofs.writer.Writer.add.Goals as goal

pub returns-clause-holds : goal.returns-clause-holds
returns-clause-holds c = let small : Small c.args.call = search rules in λ area cs h. holds_on area _ _ _ _ cs _ _ c.add_field.ensures.area small h
