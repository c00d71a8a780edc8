-- The word and the numbers so far are added, and there is room for the others.
use Rattle.std.proofs.Common.{◌≡◌, ◌+◌, ◌≤◌, ◌++◌, length, take, string_bytes, string_len}
use Rattle.std.specs.String.{string_capacity}
use Rattle.tape_text.specs.Calls.{spaced}
use Rattle.tape_text.proofs.text.add_words.Given as goal

abbrev pub invariant-loop-number : goal.invariant-loop-number
invariant-loop-number l =
    (string_bytes l.text ≡ string_bytes l.initial.text ++ spaced (take l.number-index l.numbers))
    × (string_len l.text ≡ string_len l.initial.text + length (spaced (take l.number-index l.numbers)))
    × (string_capacity l.initial.text ≤ string_capacity l.text)
