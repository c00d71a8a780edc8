-- The front cell's value leaves, and the next cell is the front.
use Rattle.ring.proofs.Laws.{pops_of}
use Rattle.ring.proofs.queue.Ring.pop_front.Goals as goal

pub returns : goal.returns
returns g c =
    pops_of c.args.self.now c.len-count.result c.front_cell-at.result c.in_ok-x.x
    c.len-count.ensures.count c.front_cell-at.ensures c.in_ok-x.ensures
