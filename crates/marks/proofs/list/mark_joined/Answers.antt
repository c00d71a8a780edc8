-- One mark is written.
use Rattle.bucket.proofs.Lists.{set_modify}
use Rattle.marks.proofs.list.mark_joined.Goals as goal

pub returns : goal.returns
returns g c = set_modify _ _ _ _ _ c.set_joined.ensures
