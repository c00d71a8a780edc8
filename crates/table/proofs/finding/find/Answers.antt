-- The slot's payload, by the rule; in a well-kept table it is the label's, and so it is in every twin.
use Rattle.std.proofs.Common.{sym, ◌∙◌, subst}
use Rattle.table.specs.Finding.{Finds, Looks}
use Rattle.table.proofs.Answering.{found, found_none, same_find}
use Rattle.table.proofs.finding.find.Goals.{in-Some, in-None}
use Rattle.table.proofs.finding.find.Goals as goal

pub returns : goal.returns
returns g c =
    let kind = g.L.Label in
    let bs = c.args.buckets.now in
    let n = kind.number c.args.label in
    let read = c.locate-spot.result.1 in
    let right = sym c.allowed.ensures.test ∙ c.if-not-allowed.false in
    let finds : Finds kind bs n (record { payload = c.match-spot.payload; read = read }) =
    elim c.match-spot.branch [
      | in-Some w ↦ subst (λ p. Finds kind bs n (record { payload = p; read = read })) (sym w.payload-is)
          (found kind bs n right w.in-Some.x read w.payload_at.result (subst (λ o. Looks kind bs n o read) w.in-Some.is c.locate-spot.ensures.rule) w.payload_at.ensures)
      | in-None w ↦ subst (λ p. Finds kind bs n (record { payload = p; read = read })) (sym w.payload-is)
          (found_none kind bs n right read (subst (λ o. Looks kind bs n o read) w.in-None.is c.locate-spot.ensures.rule))
    ] in
    record { find = finds; alike = same_find kind bs n _ finds }
