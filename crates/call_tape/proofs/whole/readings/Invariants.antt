-- The readings so far stand behind those that were there, and there is room for those that are left.
use Rattle.std.proofs.Common.{◌≡◌, ◌≤◌, ◌++◌, vec_items, vec_len, vec_capacity}
use Rattle.call_tape.proofs.Few.{Ample}
use Rattle.call_tape.proofs.whole.readings.Given as goal

abbrev pub invariant-loop-reading : goal.invariant-loop-reading
invariant-loop-reading l =
    (vec_items l.all ≡ vec_items l.initial.all ++ l.yielded)
    × Ample l.fn.tape l.reading-iterator (vec_len l.all) (vec_capacity l.all)
    × (vec_capacity l.initial.all ≤ vec_capacity l.all)
