-- The faults of the readings so far stand behind those that were there, and there is room for what is left.
use Rattle.std.proofs.Common.{◌≡◌, ◌≤◌, ◌++◌, vec_items, vec_len, vec_capacity}
use Rattle.call_tape.specs.Soundness.{faults_in}
use Rattle.call_tape.proofs.Few.{Ample}
use Rattle.call_tape.proofs.soundness.faults_of.Given as goal

abbrev pub invariant-loop-reading : goal.invariant-loop-reading
invariant-loop-reading l =
    (vec_items l.faults ≡ vec_items l.initial.faults ++ faults_in l.yielded)
    × Ample l.fn.tape l.reading-iterator (vec_len l.faults) (vec_capacity l.faults)
    × (vec_capacity l.initial.faults ≤ vec_capacity l.faults)
