-- The block sent out, or the refusal.
use Rattle.service.proofs.Giving.{gives_sent, gives_goes}
use Rattle.service.proofs.state.Service.give.Goals as goal

pub returns-clause-leaves : goal.returns-clause-leaves
returns-clause-leaves g c = gives_sent g.B.Map g.S.Map _ _ c.args.n c.send.result c.in_ok-allows.ensures c.send.ensures.leaves

pub returns-clause-step : goal.returns-clause-step
returns-clause-step g c = gives_goes g.B.Map g.S.Map _ _ c.args.n c.send.result (returns-clause-leaves g c)
