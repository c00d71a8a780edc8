-- No grant comes back.
use Rattle.rules.proofs.Places.{some_none}
use Rattle.service_examples.proofs.hosts.programs.Goals as goal

pub drop-grant-requires : goal.drop-grant-requires
drop-grant-requires g c =
    let arm = c.in-Err-default-Some in
    absurd (some_none arm._grant arm.field-0-1 arm.field-0-1-is (arm.ensures.step c.requires.0 c.requires.1).0)
