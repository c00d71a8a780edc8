-- A tape that is opened is read to its end, and one that is not is one fault.
use Rattle.std.proofs.Common.{◌++◌, ap, ◌∙◌}
use Rattle.call_tape.proofs.Judging.{tape_laws}
use Rattle.call_tape.proofs.Runs.{opened_reads}
use Rattle.call_tape.proofs.whole.readings.Goals as goal

pub returns-in-None-clause-added : goal.returns-in-None-clause-added
returns-in-None-clause-added c =
    let l = c.loop-reading in
    let opened = rw (← c.into_iter-reading-iterator.ensures.into_iter_gives) at c.in-Ok.ensures in
    (l.yielded, opened_reads c.args.tape.now _ l.yielded opened (_, l.yielded_by, λ _. (c.next.new.self, c.in-None.ensures.steps)), l.invariant.0 ∙ ap (λ xs. xs ++ l.yielded) c.reserve.ensures.items)

pub returns-in_err-reserve-clause-laws : goal.returns-in_err-reserve-clause-laws
returns-in_err-reserve-clause-laws c = tape_laws

pub returns-in-None-clause-laws : goal.returns-in-None-clause-laws
returns-in-None-clause-laws c = tape_laws

pub returns-in-Err-clause-laws : goal.returns-in-Err-clause-laws
returns-in-Err-clause-laws c = tape_laws
