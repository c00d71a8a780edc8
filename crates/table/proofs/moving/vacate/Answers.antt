-- The slot is freed, and the count of another first bucket falls.
use Rattle.table.proofs.Writes.{vacated_one, vacated_two}
use Rattle.table.proofs.moving.vacate.Goals as goal

pub returns-then-first-spot-clause-area : goal.returns-then-first-spot-clause-area
returns-then-first-spot-clause-area g c =
    vacated_two _ _ c.args.spot.slot g.L.Label _ _ _ c.digest.ensures c.pair-first.ensures.pair.0 _ _ c.free.ensures _ _ c.count_back.ensures c.if-first-spot.true

pub returns-else-first-spot-clause-area : goal.returns-else-first-spot-clause-area
returns-else-first-spot-clause-area g c =
    vacated_one _ _ c.args.spot.slot g.L.Label _ _ _ c.digest.ensures c.pair-first.ensures.pair.0 _ _ c.free.ensures c.if-first-spot.false
