-- The ending of a grant that is out.
use Rattle.std.proofs.Common.{Some, Ok, refl, subst}
use Rattle.service.specs.Turns.{Turns}
use Rattle.service.proofs.Endings.{grant_ended, ends_goes}
use Rattle.service.proofs.state.Service.end.Goals as goal

pub returns-clause-leaves : goal.returns-clause-leaves
returns-clause-leaves g c =
    let n = c.args.n in
    let turns = subst (λ v. Turns c.find-entry.result v (Some c.in_ok-turn.turn)) c.event.ensures (subst (Turns c.find-entry.result c.event.result) c.in_ok-turn.ensures.ok_part c.advance.ensures) in (
      refl,
      grant_ended g.B.Map g.S.Map c.args.self.now n _ (g.met.L.BlockNumber.made n _ c.from-label.ensures) _ _ c.find-entry.ensures c.args.ending c.args.b c.in_ok-turn.turn _ _ _ _ _ _ turns
          c.store.ensures c.release.ensures c.condemn.ensures.cells c.condemn.ensures.area c.saturating_sub-self.ensures c.count_lost-self.ensures,
    )

pub returns-clause-step : goal.returns-clause-step
returns-clause-step g c = ends_goes g.B.Map g.S.Map _ _ c.args.ending c.args.n c.args.b (Ok c.args.b) (returns-clause-leaves g c)
