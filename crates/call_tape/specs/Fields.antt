-- The fields of a tape: a tag byte, a length of two bytes, big end first, and that many bytes of contents.
--   tag_at T p, size_at T p, contents_at T p   the tag, the length and the contents of the field at the place p of the tape T
--   behind T p        the place behind it
--   Whole T p         all of it stands on the tape
--   Cut T p           it begins on the tape, and the tape ends inside it
--   most_bytes        the most bytes of a tape
--   most_from T p     the most readings that the tape T can have from the place p on
--   most_readings T   the most that it can have in all
--   Opened T r        what opening T answers
--   First L p r       the bytes L, which stand at the place p, begin with the field r
--   Taken T p r q     taking the field at p answers r, and goes on at q
--   Next T p r q      the same of what the field says
--   Further T p r q   a reading leads on, stays within the tape, and leaves fewer
--   Gives s r t       the reader s gives the reading r, and is then t
-- Assumes nothing; a byte past the tape's end counts as 0.
use Rattle.std.specs.Prelude.{◌≡◌, ℕ, ◌+◌, ◌-◌, ◌*◌, ◌/◌, ◌<◌, ◌≤◌, ◌⊎◌, List, length, take, drop, Some, None, Ok, Err, Option, Result, slice_index, nat_le, if◌then◌else◌}
use Rattle.refusal.specs.declared.Refusal.TheVariants.{FieldCutShort, TapeTooLong}
use Rattle.call_tape.specs.declared.faults.Fault.{Fault}
use Rattle.call_tape.specs.declared.fields.Field.{Field}
use Rattle.call_tape.specs.declared.fields.Reader.{Reader}
use Rattle.call_tape.specs.declared.fields.Reading.{Reading}
use Rattle.call_tape.specs.Calls.{decoded}

abbrev pub tag_at : List ℕ → ℕ → ℕ
tag_at T p = slice_index T p

abbrev pub size_at : List ℕ → ℕ → ℕ
size_at T p = slice_index T (p + 1) * 256 + slice_index T (p + 2)

abbrev pub contents_at : List ℕ → ℕ → List ℕ
contents_at T p = take (size_at T p) (drop (p + 3) T)

abbrev pub behind : List ℕ → ℕ → ℕ
behind T p = p + 3 + size_at T p

abbrev pub Whole : List ℕ → ℕ → Type 0
Whole T p = behind T p ≤ length T

abbrev pub Cut : List ℕ → ℕ → Type 0
Cut T p = (p < length T) × (length T < behind T p)

abbrev pub most_bytes : ℕ
most_bytes = 65535

-- a field has three bytes or more, unless the tape's end cuts it short
abbrev pub most_from : List ℕ → ℕ → ℕ
most_from T p = (length T - p + 2) / 3

-- a longer tape is one fault
abbrev pub most_readings : List ℕ → ℕ
most_readings T = if nat_le (length T) most_bytes then most_from T 0 else 1

-- a longer tape is not opened
abbrev pub Opened : List ℕ → Result Reader Fault → Type 0
Opened T (Ok r) = (length T ≤ most_bytes) × (r.tape.now ≡ T) × (r.place ≡ 0)
Opened T (Err f) = (most_bytes < length T) × (f ≡ record { place = 0; refusal = TapeTooLong })

abbrev pub First : List ℕ → ℕ → Option Field → Type 0
First L p None = length L < behind L 0
First L p (Some f) = Whole L 0 × (f.place ≡ p) × (f.tag ≡ tag_at L 0) × (f.contents.now ≡ contents_at L 0)

-- behind a field that is cut short nothing is left
abbrev pub Taken : List ℕ → ℕ → Option (Result Field Fault) → ℕ → Type 0
Taken T p None q = (length T ≤ p) × (q ≡ p)
Taken T p (Some (Ok f)) q = Whole T p × (f.place ≡ p) × (f.tag ≡ tag_at T p) × (f.contents.now ≡ contents_at T p) × (q ≡ behind T p)
Taken T p (Some (Err e)) q = Cut T p × (e ≡ record { place = p; refusal = FieldCutShort }) × (q ≡ length T)

abbrev pub Next : List ℕ → ℕ → Option Reading → ℕ → Type 0
Next T p None q = (length T ≤ p) × (q ≡ p)
Next T p (Some r) q =
    (Cut T p × (r ≡ record { place = p; outcome = Err FieldCutShort }) × (q ≡ length T))
    ⊎ (Whole T p × (r ≡ record { place = p; outcome = decoded (tag_at T p) (contents_at T p) }) × (q ≡ behind T p))

abbrev pub Further : List ℕ → ℕ → Option Reading → ℕ → Type 0
Further T p None q = (length T ≤ p) × (q ≡ p)
Further T p (Some r) q = (p < q) × (q ≤ length T) × (r.place ≡ p) × (most_from T q < most_from T p)

abbrev pub Gives : Reader → Option Reading → Reader → Type 0
Gives s r t = (t.tape.now ≡ s.tape.now) × Next s.tape.now s.place r t.place
