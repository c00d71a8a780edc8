-- The grant is given, and its ending accepted.
use Rattle.service.proofs.Passing.{passes, passes_through}
use Rattle.service.proofs.state.Service.pass.Goals as goal

pub returns-clause-leaves : goal.returns-clause-leaves
returns-clause-leaves g c = passes g.B.Map g.S.Map c.args.self.now c.give.new.self c.end.new.self c.args.ending c.args.n c.in_ok-b.b c.end.result c.in_ok-b.ensures.faulty c.in_ok-b.ensures.leaves c.end.ensures.leaves

pub returns-clause-step : goal.returns-clause-step
returns-clause-step g c = passes_through g.B.Map g.S.Map _ _ c.args.ending c.args.n c.end.result (returns-clause-leaves g c)
