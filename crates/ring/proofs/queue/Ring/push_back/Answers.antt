-- The value goes into the cell behind the last one, round the end of the cells.
use Rattle.std.proofs.Common.{◌+◌, set, refl, ap, arith, length-set}
use Rattle.ring.proofs.Laws.{ring_pushes}
use Rattle.ring.proofs.queue.Ring.push_back.Goals as goal

pub returns : goal.returns
returns g c =
    let r = c.args.self.now in
    record {
      room = omega arith;
      cells = ap (λ k. set r.cells.now k c.args.x) c.back_cell-at.ensures.cell;
      head = c.front_cell-head.ensures;
      count = ap (λ m. m + 1) c.len-count.ensures.count;
      area = refl;
      places = length-set _ _ _;
      items = ring_pushes r.cells.now r.head r.count c.len-count.result c.len-count.ensures.count c.back_cell-at.result c.front_cell-head.result c.args.x c.front_cell-head.ensures (omega arith) c.back_cell-at.ensures.cell;
    }
