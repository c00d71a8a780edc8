-- Each reading adds its fault, if it has one.
use Rattle.std.proofs.Common.{arith, ◌≡◌, [], ◌∷◌, ◌++◌, length, ap, ◌∙◌, refl}
use Rattle.call_tape.specs.Soundness.{faults_in}
use Rattle.call_tape.proofs.Cutting.{Bytes}
use Rattle.call_tape.proofs.Few.{ample_on}
use Rattle.call_tape.proofs.Judging.{faults_added, tape_laws}
use Rattle.call_tape.proofs.Runs.{opened_reads, unopened_reads}
use Rattle.call_tape.proofs.Sorting.{fault_behind, no_fault_more}
use Rattle.call_tape.proofs.soundness.faults_of.Goals as goal
use Rattle.call_tape.proofs.soundness.faults_of.Goals.{in-Ok+in-None, in-Err}

pub loop-reading-preserved-in-Err-outcome : goal.loop-reading-preserved-in-Err-outcome
loop-reading-preserved-in-Err-outcome c =
    let i = c.loop-reading.invariant in
    let more = fault_behind c.loop-reading.yielded c.in-Some.reading c.reserve.new.self.items c.loop-reading.faults.items c.push.new.self.items c.in-Err-outcome.refusal c.in-Err-outcome.is i.0 (rw c.unwrap.ensures at c.push.ensures.items) in
    (more, ample_on c.args.tape.now c.loop-reading.reading-iterator c.next.new.self c.in-Some.reading _ _ _ _ c.in-Some.ensures.steps i.1 (omega arith) (omega arith), omega arith)

pub loop-reading-preserved : goal.loop-reading-preserved
loop-reading-preserved c =
    let i = c.loop-reading.invariant in
    let more = no_fault_more c.loop-reading.yielded c.in-Some.reading c.in_default.field-0 c.in_default.is in
    (rw more i.0, ample_on c.args.tape.now c.loop-reading.reading-iterator c.next.new.self c.in-Some.reading _ _ _ _ c.in-Some.ensures.steps i.1 (omega arith) (omega arith), omega arith)

pub returns-clause-judged : goal.returns-clause-judged
returns-clause-judged c =
    let before = c.args.faults.now in
    let after = c.match-new.faults in
    let bytes : Bytes c.args.tape.now = λ j. omega (arith, c.type_inv.tape j) in
    let many : c.len.result ≡ length after.items = c.len.ensures ∙ after.ok.0 in
    let few : c.len-before.result ≡ length before.items = c.len-before.ensures ∙ before.ok.0 in
    elim c.match-new.branch [
      | in-Ok+in-None w ↦
          let l = w.loop-reading in
          let opened = rw (← w.into_iter-reading-iterator.ensures.into_iter_gives) at w.in-Ok.ensures in
          let says = opened_reads c.args.tape.now _ l.yielded opened (_, l.yielded_by, λ _. (w.next.new.self, w.in-None.ensures.steps)) in
          let is = ap (λ v. v.items) w.faults-is ∙ (l.invariant.0 ∙ ap (λ xs. xs ++ faults_in l.yielded) c.reserve.ensures.items) in
          faults_added c.args.tape.now l.yielded bytes says before.items after.items c.len.result c.len-before.result is many few
      | in-Err w ↦
          let says = unopened_reads c.args.tape.now w.in-Err.fault _ w.in-Err.ensures refl in
          let pushed = rw w.unwrap-in-Err.ensures at w.push-in-Err.ensures.items in
          let is = ap (λ v. v.items) w.faults-is ∙ (pushed ∙ ap (λ xs. xs ++ w.in-Err.fault ∷ []) c.reserve.ensures.items) in
          faults_added c.args.tape.now _ bytes says before.items after.items c.len.result c.len-before.result is many few
    ]

pub returns-in_err-reserve-clause-laws : goal.returns-in_err-reserve-clause-laws
returns-in_err-reserve-clause-laws c = tape_laws

pub returns-clause-laws : goal.returns-clause-laws
returns-clause-laws c = tape_laws
