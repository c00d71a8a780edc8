-- The grant taken out is ended.
use Rattle.std.proofs.Common.{refl}
use Rattle.rules.specs.declared.Call.TheVariants.{Condemn}
use Rattle.service.specs.declared.entry.Ending.TheVariants as end
use Rattle.service.proofs.Fixed.{finishes_fixed}
use Rattle.player.proofs.Standing.{obeyed_ending}
use Rattle.player.proofs.obeying.condemn.Goals as goal

pub returns-clause-obeys : goal.returns-clause-obeys
returns-clause-obeys g c =
    obeyed_ending g.B.Map g.S.Map _ _ Condemn (λ x. refl) c.args.n _ _ _ _ c.in_ok-grant.grant _ c.condemn-ended.result _ refl c.in_ok-grant.ensures.taken c.shown-id.ensures c.give_back.ensures.back
    (finishes_fixed g.B.Map g.S.Map _ _ end.Condemn c.in_ok-grant.grant c.condemn-ended.result c.condemn-ended.ensures.leaves) c.condemn-ended.ensures.step
