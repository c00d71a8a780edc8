-- Lines that are added to a tape, one behind the other.
use Rattle.std.proofs.Common.{ℕ, ◌<◌, List, [], ◌∷◌, ◌++◌, length, Result, Ok, Err, IsErr, arith, length-append}
use Rattle.std.specs.Bool.{⊤}
use Rattle.refusal.specs.declared.Refusal.{Refusal}
use Rattle.call_tape.specs.declared.calls.Call.{Call}
use Rattle.call_tape.specs.Written.{encoded, written}
use Rattle.call_tape.proofs.Writing.{length_written_append, held_length}
use Rattle.call_tape.specs.Writing.{room, Holds, Added}

-- a call for which the tape has no room, and what the tape holds then
pub no_room : (Z A : List ℕ) (u : ℕ) (cs : List Call) (c : Call) (r : Result ⊤ Refusal) (B : List ℕ) (v : ℕ) → Holds Z A u cs → Added A u (encoded c) r B v → IsErr r
    → (room Z < length (written (cs ++ c ∷ []))) × Holds Z B v cs
no_room Z A u cs c (Ok _) B v h a e = absurd cc
no_room Z A u cs c (Err x) B v (small, at, within, laid) (over, is, same, count) e =
    let n = held_length Z A u cs (small, at, within, laid) in
    (omega (arith, over, n, at, length_written_append cs (c ∷ []), length-append (encoded c) []), rw (same, count) (small, at, within, laid))
