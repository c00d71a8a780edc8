-- No grant of a life is refused its ending.
use Rattle.std.proofs.Common.{is_ok, sym, refl, ap, ◌∙◌, ◌∷◌, Some}
use Rattle.std.proofs.lemmas.Bool.{false≢true}
use Rattle.rules.specs.declared.Call.TheVariants.{Abandon}
use Rattle.rules.specs.declared.Answer.TheVariants.{Block}
use Rattle.service.specs.declared.entry.Ending.TheVariants as end
use Rattle.service.specs.Service.{plain}
use Rattle.service.proofs.Fixed.{finishes_fixed, fixed_none, fixed_more}
use Rattle.player.specs.Playing.{given_up}
use Rattle.player.proofs.Standing.{abandoned, given_up_last}
use Rattle.player.proofs.settling.settle.Goals as goal

pub loop-grant-init : goal.loop-grant-init
loop-grant-init g c = (fixed_none g.B.Map g.S.Map _, λ h stood. (h, stood, refl))

pub returns-in-Err-clause-fixed : goal.returns-in-Err-clause-fixed
returns-in-Err-clause-fixed g c = fixed_more g.B.Map g.S.Map _ _ _ c.loop-grant.invariant.0 (finishes_fixed g.B.Map g.S.Map _ _ end.Abandon c.in-Some.grant c.abandon.result c.abandon.ensures.leaves)

pub returns-in-Err-clause-settled : goal.returns-in-Err-clause-settled
returns-in-Err-clause-settled g c = λ h stood.
    let fixed = finishes_fixed g.B.Map g.S.Map _ _ end.Abandon c.in-Some.grant c.abandon.result c.abandon.ensures.leaves in
    let was = c.loop-grant.invariant.1 h stood in
    absurd (false≢true (sym (ap is_ok c.in-Err.is) ∙ (abandoned g.B.Map g.S.Map _ _ _ _ c.in-Some.grant c.in-Some.ensures.items fixed c.abandon.result c.abandon.ensures.leaves c.abandon.ensures.step was.0 was.1).0))

pub loop-grant-preserved : goal.loop-grant-preserved
loop-grant-preserved g c =
    let fixed = finishes_fixed g.B.Map g.S.Map _ _ end.Abandon c.in-Some.grant c.abandon.result c.abandon.ensures.leaves in (
      fixed_more g.B.Map g.S.Map _ _ _ c.loop-grant.invariant.0 fixed,
      λ h stood.
          let was = c.loop-grant.invariant.1 h stood in (
            (Abandon (plain c.in-Some.grant), Block (Some c.in-Some.grant.block)) ∷ was.0,
            (abandoned g.B.Map g.S.Map _ _ _ _ c.in-Some.grant c.in-Some.ensures.items fixed c.abandon.result c.abandon.ensures.leaves c.abandon.ensures.step was.0 was.1).1,
            sym (given_up_last _ c.in-Some.grant was.0) ∙ ap (λ x. given_up x was.0) (sym c.in-Some.ensures.items) ∙ was.2,
          ),
    )
