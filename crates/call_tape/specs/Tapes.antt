-- What a whole tape says.
--   Reads T p rs   from the place p on, the tape T says the readings rs, in order
--   Tape T rs      the whole tape T says rs
--   OneReading     no tape says two things
--   HasAtMost T n  the tape T says no more than n readings
--   ReadingsAdded T xs ys   ys is xs, and behind it all that the tape T says
-- Assumes nothing.
use Rattle.std.specs.Prelude.{◌≡◌, ℕ, ◌<◌, ◌≤◌, ◌⊎◌, List, [], ◌∷◌, ◌++◌, length, Err}
use Rattle.refusal.specs.declared.Refusal.TheVariants.{FieldCutShort, TapeTooLong}
use Rattle.call_tape.specs.declared.fields.Reading.{Reading}
use Rattle.call_tape.specs.Calls.{decoded}
use Rattle.call_tape.specs.Fields.{tag_at, contents_at, behind, Whole, Cut, most_bytes}

-- nothing is left; a field is cut short, and ends the tape; a whole field, whatever it says, and the fields behind it
pub data Reads (T : List ℕ) : ℕ → List Reading → Type 0 where
  end : (p : ℕ) → length T ≤ p → Reads T p []
  short : (p : ℕ) → Cut T p → Reads T p (record { place = p; outcome = Err FieldCutShort } ∷ [])
  field : (p : ℕ) (rs : List Reading) → Whole T p → Reads T (behind T p) rs → Reads T p (record { place = p; outcome = decoded (tag_at T p) (contents_at T p) } ∷ rs)

-- a tape above 65,535 bytes is one fault, and no field of it is read
abbrev pub Tape : List ℕ → List Reading → Type 0
Tape T rs =
    ((most_bytes < length T) × (rs ≡ (record { place = 0; outcome = Err TapeTooLong } ∷ [])))
    ⊎ ((length T ≤ most_bytes) × Reads T 0 rs)

abbrev pub OneReading : Type 0
OneReading = (T : List ℕ) (xs ys : List Reading) → Tape T xs → Tape T ys → xs ≡ ys

abbrev pub HasAtMost : List ℕ → ℕ → Type 0
HasAtMost T n = (rs : List Reading) → Tape T rs → length rs ≤ n

abbrev pub ReadingsAdded : List ℕ → List Reading → List Reading → Type 0
ReadingsAdded T xs ys = (rs : List Reading) × Tape T rs × (ys ≡ xs ++ rs)
