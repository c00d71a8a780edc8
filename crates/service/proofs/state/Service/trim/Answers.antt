-- A settled block is removed.
use Rattle.std.proofs.Common.{◌≡◌, Ok, subst, rules}
use Rattle.rules.specs.Rules.{settled_of}
use Rattle.service.specs.declared.entry.Event.TheVariants.{Trim}
use Rattle.service.specs.Turns.{Turns}
use Rattle.service.proofs.Reading.{trimmed, trims_goes}
use Rattle.service.proofs.state.Service.trim.Goals as goal

pub returns-clause-leaves : goal.returns-clause-leaves
returns-clause-leaves g c =
    let turns = subst (Turns c.find-entry.result Trim) c.in_ok-ok_or.ensures.ok_part c.advance.ensures in
    let told : c.settled_block-block.result ≡ settled_of c.take-taken.result = search rules in
    trimmed g.B.Map g.S.Map c.args.self.now c.args.n _ (g.met.L.BlockNumber.made c.args.n _ c.from-label.ensures) _ _ c.find-entry.ensures c.in_ok-ok_or.field-0 _ _ _ _ c.in_ok-allows.ensures turns c.take-taken.ensures told c.release.ensures

pub returns-clause-step : goal.returns-clause-step
returns-clause-step g c = trims_goes g.B.Map g.S.Map _ _ c.args.n (Ok c.settled_block-block.result) (returns-clause-leaves g c)
