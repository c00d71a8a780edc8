-- The grant taken out is ended.
use Rattle.std.proofs.Common.{refl}
use Rattle.rules.specs.declared.Call.TheVariants.{Abandon}
use Rattle.service.specs.declared.entry.Ending.TheVariants as end
use Rattle.service.proofs.Fixed.{finishes_fixed}
use Rattle.player.proofs.Standing.{obeyed_ending}
use Rattle.player.proofs.obeying.abandon.Goals as goal

pub returns-clause-obeys : goal.returns-clause-obeys
returns-clause-obeys g c =
    obeyed_ending g.B.Map g.S.Map _ _ Abandon (λ x. refl) c.args.n _ _ _ _ c.in_ok-grant.grant _ c.abandon-ended.result _ refl c.in_ok-grant.ensures.taken c.shown-id.ensures c.give_back.ensures.back
    (finishes_fixed g.B.Map g.S.Map _ _ end.Abandon c.in_ok-grant.grant c.abandon-ended.result c.abandon-ended.ensures.leaves) c.abandon-ended.ensures.step
