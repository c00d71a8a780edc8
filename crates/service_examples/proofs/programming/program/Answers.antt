-- The ending of the grant just given is accepted.
use Rattle.std.proofs.Common.{◌≡◌, Ok, subst, rules}
use Rattle.service.specs.Service.{StepsBy, Begins, begun}
use Rattle.rules.specs.declared.Call.TheVariants.{Begin as begin}
use Rattle.service_examples.proofs.Held.{held_programs}
use Rattle.service_examples.proofs.programming.program.Goals as goal

pub returns-clause-step : goal.returns-clause-step
returns-clause-step g c =
    let grant = c.in_ok-grant.grant in
    let s = c.args.service.now in
    let n = c.args.n in
    let was : c.begin.result ≡ Ok grant = search rules in
    let begins = subst (λ r. Begins g.B.Map g.S.Map s n r c.begin.new.self) was c.begin.ensures.leaves in
    let goes = subst (λ r. StepsBy g.B.Map g.S.Map s (begin n) (begun r) c.begin.new.self) was c.begin.ensures.step in
    λ h lived. held_programs g.B.Map g.S.Map _ _ c.args.took n grant begins.0 h (goes h lived) c.settle.result c.map_err-2.result _ c.map_err-2.ensures.cases c.settle.ensures.step

pub returns-in_err-grant-clause-faulty : goal.returns-in_err-grant-clause-faulty
returns-in_err-grant-clause-faulty g c = λ e f. let told = c.begin.ensures.faulty e f in (search rules, told.1)
