-- Each call that is read adds its line.
use Rattle.std.proofs.Common.{arith, ◌++◌, ap, ◌∙◌}
use Rattle.call_tape.specs.Soundness.{calls_in}
use Rattle.call_tape.proofs.Cutting.{Bytes}
use Rattle.call_tape.proofs.Runs.{opened_reads}
use Rattle.tape_text.specs.Lines.{said}
use Rattle.tape_text.proofs.Wording.{call_said, fault_unsaid, on_tape, line_fits, unopened_said}
use Rattle.tape_text.proofs.text.add_calls.Goals as goal

pub returns-in_default-clause-said : goal.returns-in_default-clause-said
returns-in_default-clause-said c = unopened_said c.args.tape.now c.in_default.field-0 _ c.in_default.ensures

pub add_call-requires : goal.add_call-requires
add_call-requires c =
    let r = c.loop-reading.reading-iterator in
    let s = c.next.new.self in
    let bytes : Bytes c.args.tape.now = λ j. omega (arith, c.type_inv.tape j) in
    let i = c.loop-reading.invariant in
    omega (arith, i, line_fits c.args.tape.now r s c.in-Some.reading c.in-Some.ensures.steps i.1 c.in-Ok-outcome.call bytes c.in-Ok-outcome.is, on_tape c.args.tape.now r s c.in-Some.reading c.in-Some.ensures.steps i.1)

pub loop-reading-preserved-in-Ok-outcome : goal.loop-reading-preserved-in-Ok-outcome
loop-reading-preserved-in-Ok-outcome c =
    let r = c.loop-reading.reading-iterator in
    let s = c.next.new.self in
    let bytes : Bytes c.args.tape.now = λ j. omega (arith, c.type_inv.tape j) in
    let i = c.loop-reading.invariant in
    let on = on_tape c.args.tape.now r s c.in-Some.reading c.in-Some.ensures.steps i.1 in
    let fits = line_fits c.args.tape.now r s c.in-Some.reading c.in-Some.ensures.steps i.1 c.in-Ok-outcome.call bytes c.in-Ok-outcome.is in
    let said = call_said c.loop-reading.yielded c.in-Some.reading _ _ i.0 c.in-Ok-outcome.call _ c.in-Ok-outcome.is c.add_call.ensures.bytes in
    (said, on.0, on.2, omega (arith, fits), omega arith)

pub loop-reading-preserved : goal.loop-reading-preserved
loop-reading-preserved c =
    let i = c.loop-reading.invariant in
    let on = on_tape c.args.tape.now c.loop-reading.reading-iterator c.next.new.self c.in-Some.reading c.in-Some.ensures.steps i.1 in
    (fault_unsaid c.loop-reading.yielded c.in-Some.reading _ _ i.0 c.in_default-outcome.field-0 c.in_default-outcome.is, on.0, on.2, omega (arith, on), i.4)

pub returns-clause-said : goal.returns-clause-said
returns-clause-said c =
    let l = c.loop-reading in
    let opened = rw (← c.into_iter-reading-iterator.ensures.into_iter_gives) at c.in-Ok.ensures in
    (l.yielded, opened_reads c.args.tape.now _ l.yielded opened (_, l.yielded_by, λ _. (c.next.new.self, c.in-None.ensures.steps)), l.invariant.0 ∙ ap (λ t. t ++ said (calls_in l.yielded)) c.reserve.ensures.bytes)
