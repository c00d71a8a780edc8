-- The text of the calls so far is added, and takes no more than the tape so far allows.
use Rattle.std.proofs.Common.{◌≡◌, ◌+◌, ◌*◌, ◌≤◌, ◌++◌, length, string_bytes, string_len}
use Rattle.std.specs.String.{string_capacity}
use Rattle.call_tape.specs.Soundness.{calls_in}
use Rattle.tape_text.specs.Lines.{said}
use Rattle.tape_text.proofs.text.add_calls.Given as goal

abbrev pub invariant-loop-reading : goal.invariant-loop-reading
invariant-loop-reading l =
    (string_bytes l.text ≡ string_bytes l.initial.text ++ said (calls_in l.yielded))
    × (l.reading-iterator.tape.now ≡ l.fn.tape)
    × (l.reading-iterator.place ≤ length l.fn.tape)
    × (string_len l.text ≤ string_len l.initial.text + 3 * l.reading-iterator.place)
    × (string_len l.initial.text + 3 * length l.fn.tape ≤ string_capacity l.text)
