-- The label's slot is freed, or there is none.
use Rattle.std.proofs.Common.{sym, ◌∙◌, subst}
use Rattle.table.specs.Finding.{Looks}
use Rattle.table.specs.Moving.{Takes}
use Rattle.table.proofs.Answering.{took, took_none}
use Rattle.table.proofs.taking.take.Goals as goal

pub returns-in_err-spot : goal.returns-in_err-spot
returns-in_err-spot g c = λ kept.
    let kind = g.L.Label in
    let bs = c.args.buckets.now in
    let n = kind.number c.args.label in
    subst (λ r. Takes kind bs n r bs) (sym c.from_residual.ensures)
    (took_none kind bs n (sym c.allowed.ensures.test ∙ c.if-not-allowed.false) kept _ (subst (λ o. Looks kind bs n o c.locate-spot.result.1) c.in_err-spot.was c.locate-spot.ensures.rule))

pub returns : goal.returns
returns g c = λ kept.
    let kind = g.L.Label in
    let bs = c.args.buckets.now in
    let n = kind.number c.args.label in
    took kind bs n (sym c.allowed.ensures.test ∙ c.if-not-allowed.false) kept _ _
    (subst (λ o. Looks kind bs n o c.locate-spot.result.1) c.in_ok-spot.was c.locate-spot.ensures.rule) _ _ c.vacate.ensures.slot c.vacate.ensures.area
