-- The rows after a take mean the pairs after it.
use Rattle.straight.proofs.Fits.{take_fit, take_pairs}
use Rattle.straight.proofs.interface.StraightMapMap.take.Goals as goal

pub returns-clause-map : goal.returns-clause-map
returns-clause-map g c =
    let num = g.L.Label.number in
    let rows = c.args.self.now.rows.now in
    let after = c.take.new.self.rows.now in
    record {
      fit = take_fit num rows after (num c.args.label) c.take.ensures.area;
      after = take_pairs num rows after (num c.args.label) c.take.ensures.area c.args.self.now.kept;
      answer = c.take.ensures.answer;
    }
