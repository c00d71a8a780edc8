-- The grant taken out is ended.
use Rattle.std.proofs.Common.{refl}
use Rattle.rules.specs.declared.Call.TheVariants.{Commit}
use Rattle.service.specs.declared.entry.Ending.TheVariants as end
use Rattle.service.proofs.Fixed.{finishes_fixed}
use Rattle.player.proofs.Standing.{obeyed_ending}
use Rattle.player.proofs.obeying.commit.Goals as goal

pub returns-clause-obeys : goal.returns-clause-obeys
returns-clause-obeys g c =
    obeyed_ending g.B.Map g.S.Map _ _ Commit (λ x. refl) c.args.n _ _ _ _ c.in_ok-grant.grant _ c.commit-ended.result _ refl c.in_ok-grant.ensures.taken c.shown-id.ensures c.give_back.ensures.back
    (finishes_fixed g.B.Map g.S.Map _ _ end.Commit c.in_ok-grant.grant c.commit-ended.result c.commit-ended.ensures.leaves) c.commit-ended.ensures.step
