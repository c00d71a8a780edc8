-- The slot is taken up, and the count of another first bucket rises.
use Rattle.std.proofs.Common.{get_or, ap, ◌∙◌}
use Rattle.bucket.specs.Slots.{with_slot}
use Rattle.table.proofs.Writes.{occupied_one, occupied_two}
use Rattle.table.proofs.moving.occupy.Goals as goal

pub returns-then-first-spot : goal.returns-then-first-spot
returns-then-first-spot g c =
    occupied_two _ _ c.args.spot.slot g.L.Label c.args.label _ _ c.digest-digest.ensures c.pair-first.ensures.pair.0 c.args.payload _ c.tag.ensures _ _
    (c.fill.ensures ∙ ap (with_slot (get_or c.args.buckets.now c.args.spot.bucket c.index-buckets-spot.result) c.args.spot.slot) c.holding.ensures)
    _ _ _ c.mask.ensures c.count_out.ensures c.if-first-spot.true

pub returns-else-first-spot : goal.returns-else-first-spot
returns-else-first-spot g c =
    occupied_one _ _ c.args.spot.slot g.L.Label c.args.label _ _ c.digest-digest.ensures c.pair-first.ensures.pair.0 c.args.payload _ c.tag.ensures _ _
    (c.fill.ensures ∙ ap (with_slot (get_or c.args.buckets.now c.args.spot.bucket c.index-buckets-spot.result) c.args.spot.slot) c.holding.ensures) c.if-first-spot.false
