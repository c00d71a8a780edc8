-- One payload is read and replaced.
use Rattle.bucket.proofs.Lists.{set_modify}
use Rattle.table.proofs.moving.replace_payload.Goals as goal

pub returns-clause-area : goal.returns-clause-area
returns-clause-area g c = set_modify _ _ _ _ _ c.replace_payload.ensures
