-- The answer is what the field means, since its contents are bytes.
use Rattle.std.proofs.Common.{arith}
use Rattle.call_tape.proofs.Decoding.{decodes}
use Rattle.call_tape.proofs.calls.decode.Goals as goal

pub returns-clause-meaning : goal.returns-clause-meaning
returns-clause-meaning c = rw c.call_of.ensures (decodes c.args.contents.now (λ j. omega (arith, c.type_inv.contents j)) c.args.tag)
