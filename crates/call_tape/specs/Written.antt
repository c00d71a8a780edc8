-- Calls written as a tape, and what such a tape says.
--   encoded c       the field of the call c
--   written cs      the tape of the calls cs, field after field
--   AllSmall cs     the numbers of the calls cs have four bytes at most
--   placed p cs     the readings of those calls, where the first field stands at the place p
--   WrittenReads    a tape that is written from calls says those calls
--   OnlyWritten     a tape of bytes that says calls and no fault is the one that is written from those calls
-- Assumes nothing.
use Rattle.std.specs.Prelude.{◌≡◌, ℕ, ◌+◌, ◌/◌, ◌%◌, ◌<◌, ◌≤◌, List, [], ◌∷◌, ◌++◌, length, Ok, slice_index}
use Rattle.call_tape.specs.declared.calls.Call.{Call}
use Rattle.call_tape.specs.declared.fields.Reading.{Reading}
use Rattle.call_tape.specs.Calls.{tag_of, contents_of, Small}
use Rattle.call_tape.specs.Fields.{most_bytes}
use Rattle.call_tape.specs.Tapes.{Tape}

abbrev pub encoded : Call → List ℕ
encoded c = tag_of c ∷ (length (contents_of c) / 256) % 256 ∷ length (contents_of c) % 256 ∷ contents_of c

abbrev pub written : List Call → List ℕ
written [] = []
written (c ∷ cs) = encoded c ++ written cs

abbrev pub AllSmall : List Call → Type 0
AllSmall [] = Unit {0}
AllSmall (c ∷ cs) = Small c × AllSmall cs

abbrev pub placed : ℕ → List Call → List Reading
placed p [] = []
placed p (c ∷ cs) = record { place = p; outcome = Ok c } ∷ placed (p + 3 + length (contents_of c)) cs

abbrev pub WrittenReads : Type 0
WrittenReads = (cs : List Call) → AllSmall cs → length (written cs) ≤ most_bytes → Tape (written cs) (placed 0 cs)

abbrev pub OnlyWritten : Type 0
OnlyWritten = (T : List ℕ) (cs : List Call) → ((j : ℕ) → slice_index T j < 256) → Tape T (placed 0 cs) → T ≡ written cs
