-- A service is made fresh, or with the refusal of its check.
use Rattle.std.proofs.Common.{arith, refl, ap, ◌∙◌}
use Rattle.rules.proofs.Progress.{laws}
use Rattle.ring.specs.Queue.{items, places}
use Rattle.service.proofs.Making.{made_fresh, made_refused}
use Rattle.service.proofs.state.Service.new.Goals.{in-None, in-Some}
use Rattle.service.proofs.state.Service.new.Goals as goal

pub returns-clause-makes : goal.returns-clause-makes
returns-clause-makes g c =
    let a = c.args in
    let seen = c.check.ensures in
    elim c.match-fault.branch [
      | in-None w ↦ made_fresh g.B.Map g.S.Map a.cells a.marks a.limit a.entries a.streams _ c.check.result c.err-fault.ensures.value w.in-None.is (omega arith) seen.sizes seen.maps
          (ap places w.pool-is ∙ w.full-pool.ensures.places ∙ w.number.auto.cells) (ap items w.pool-is ∙ w.full-pool.ensures.items ∙ w.number.ensures)
          (w.marks-is ∙ w.fill.ensures.after (λ y e. e)) refl refl
      | in-Some w ↦ made_refused g.B.Map g.S.Map a.cells a.marks a.limit a.entries a.streams _ c.check.result c.err-fault.ensures.value _ w.in-Some.is seen.sizes seen.maps
    ]

pub returns-clause-laws : goal.returns-clause-laws
returns-clause-laws g c = laws _
