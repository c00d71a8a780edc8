-- A whole text, taken as a tape, and a whole tape as text.
--   NoText text f       the text is not UTF-8; f is the fault, on the line of the first byte that is none
--   Barred n cs L e     the line L cannot be added behind the calls cs in a room of n bytes, and e is why
--   LineAdded L i Z cs r B u   the line L, of the number i, is added behind the calls cs in the area Z: the answer is r, the area is then B, with a tape of u bytes
--   FirstBarred text A B f   the line of f is the first that is barred from the area A, which is left as B
--   AllTaped text A n B   the lines of the text are a tape of n bytes in the area A, which is left as B
--   Taped text A r B    r is the length of the tape of the text in the area A, or why there is none, and A is left as B
--   OneTaping           a text gives one tape or one fault, and leaves one area
--   most_text T         the most bytes of text that the tape T can have
--   HasTextWithin T n   where T is sound, its text has no more than n bytes
--   CallsSaid T x y     y is x, and behind it the text of the calls on the tape T
--   Worded T x fs y gs b   b says that T is sound, and y is x and its text; or that it is not, and gs is fs and its faults
--   GivesBack           the text of a sound tape's calls gives that tape, where the area has room for it
-- Assumes nothing.
use Rattle.std.specs.Prelude.{◌≡◌, ℕ, ◌+◌, ◌*◌, ◌<◌, ◌≤◌, ◌⊎◌, List, [], ◌∷◌, ◌++◌, length, take, Ok, Err, Result, Bool, true, false, ⊤, nat_le, if◌then◌else◌}
use Rattle.std.specs.Str.{IsUtf8}
use Rattle.std.specs.Str.Lines.{lines}
use Rattle.utf8.specs.Lines.{line_of_fault}
use Rattle.call_tape.specs.declared.calls.Call.{Call}
use Rattle.call_tape.specs.declared.faults.Fault.{Fault}
use Rattle.call_tape.specs.declared.fields.Reading.{Reading}
use Rattle.call_tape.specs.Fields.{most_bytes}
use Rattle.call_tape.specs.Soundness.{Sound, Unsound, calls_in}
use Rattle.call_tape.specs.Tapes.{Tape}
use Rattle.call_tape.specs.Written.{written}
use Rattle.call_tape.specs.Writing.{room, Holds}
use Rattle.tape_text.specs.declared.complaints.Complaint.{Complaint}
use Rattle.tape_text.specs.declared.complaints.Complaint.TheVariants.{NotText, NoRoom}
use Rattle.tape_text.specs.declared.complaints.LineFault.{LineFault}
use Rattle.tape_text.specs.Calls.{Says, Wrong}
use Rattle.tape_text.specs.Lines.{words, LinesSay, said}

abbrev pub NoText : List ℕ → LineFault → Type 0
NoText text f = ¬ IsUtf8 text × (f ≡ record { line = line_of_fault text; complaint = NotText })

-- it says no call; it says one for which the tape has no room
pub data Barred (n : ℕ) (cs : List Call) (L : List ℕ) : Complaint → Type 0 where
  wrong : (e : Complaint) → Wrong (words L) e → Barred n cs L e
  full : (c : Call) → Says (words L) c → n < length (written (cs ++ c ∷ [])) → Barred n cs L NoRoom

abbrev pub LineAdded : List ℕ → ℕ → List ℕ → List Call → Result ⊤ LineFault → List ℕ → ℕ → Type 0
LineAdded L i Z cs (Ok _) B u = ((words L ≡ []) × Holds Z B u cs) ⊎ ((c : Call) × Says (words L) c × Holds Z B u (cs ++ c ∷ []))
LineAdded L i Z cs (Err f) B u = (f.line ≡ i) × Barred (room Z) cs L f.complaint × Holds Z B u cs

-- the lines before it stand as a tape
abbrev pub FirstBarred : List ℕ → List ℕ → List ℕ → LineFault → Type 0
FirstBarred text A B f = (before : List (List ℕ)) × (L : List ℕ) × (after : List (List ℕ)) × (cs : List Call)
    × (lines text ≡ before ++ L ∷ after) × (f.line ≡ length before + 1)
    × LinesSay before cs × Holds A B (length (written cs)) cs × Barred (room A) cs L f.complaint

-- every line is taken
pub record AllTaped (text A : List ℕ) (n : ℕ) (B : List ℕ) : Type 0 where
  pub utf8 : IsUtf8 text
  pub calls : List Call
  pub say : LinesSay (lines text) calls
  pub holds : Holds A B n calls

abbrev pub Taped : List ℕ → List ℕ → Result ℕ LineFault → List ℕ → Type 0
Taped text A (Ok n) B = AllTaped text A n B
Taped text A (Err f) B = (NoText text f × (B ≡ A)) ⊎ (IsUtf8 text × FirstBarred text A B f)

abbrev pub OneTaping : Type 0
OneTaping = (text A B C : List ℕ) (r s : Result ℕ LineFault) → Taped text A r B → Taped text A s C → (r ≡ s) × (B ≡ C)

-- a call's line has three bytes at most for each byte of its field; a longer tape is not sound
abbrev pub most_text : List ℕ → ℕ
most_text T = if nat_le (length T) most_bytes then 3 * length T else 0

abbrev pub HasTextWithin : List ℕ → ℕ → Type 0
HasTextWithin T n = (cs : List Call) → Sound T cs → length (said cs) ≤ n

abbrev pub CallsSaid : List ℕ → List ℕ → List ℕ → Type 0
CallsSaid T x y = (rs : List Reading) × Tape T rs × (y ≡ x ++ said (calls_in rs))

-- what is not added to is as it was; of the faults the first is named
abbrev pub Worded : List ℕ → List ℕ → List Fault → List ℕ → List Fault → Bool → Type 0
Worded T x fs y gs true = ((cs : List Call) × Sound T cs × (y ≡ x ++ said cs)) × (gs ≡ fs)
Worded T x fs y gs false = (y ≡ x) × ((all : List Fault) × (gs ≡ fs ++ all) × Unsound T all)

abbrev pub GivesBack : Type 0
GivesBack = (T A B : List ℕ) (cs : List Call) (r : Result ℕ LineFault) → Sound T cs → length T ≤ length A → Taped (said cs) A r B → (r ≡ Ok (length T)) × (take (length T) B ≡ T)
