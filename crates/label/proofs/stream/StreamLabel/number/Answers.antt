-- The packed parts are the definition.
use Rattle.std.proofs.Common.{rules}
use Rattle.label.specs.Digests.{stream_number}
use Rattle.label.proofs.stream.StreamLabel.number.Goals as goal

pub returns-clause-number : goal.returns-clause-number
unfolding stream_number
returns-clause-number c = search rules
