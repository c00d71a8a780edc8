-- A tape is sound, or has a first fault.
--   Sound T cs       the tape T is that of the calls cs
--   Faulty T p e     the field at the place p of T has the fault e
--   FirstFault T f   f is the first fault of T: what stands before it is the tape of calls
--   calls_in rs, faults_in rs   the calls, and the faults, among the readings rs, in order
--   Unsound T all    T has faults, all of them in order, of which the first is named
--   Judged T all b   the faults `all` of T: none where b says that it is sound, or else all that it has
--   FaultsAdded T xs ys b   ys is xs, and behind it the faults of T, by which b judges it
--   WrittenAgain     a sound tape's calls, added in order to a new tape in any area, give that tape
--   SoundFaultless   a sound tape says no fault
-- Assumes nothing.
use Rattle.std.specs.Prelude.{◌≡◌, ℕ, ◌<◌, ◌≤◌, List, [], ◌∷◌, ◌++◌, length, take, Ok, Err, Result, IsOk, ◌≢◌, Bool, true, false, ⊤}
use Rattle.refusal.specs.declared.Refusal.{Refusal}
use Rattle.refusal.specs.declared.Refusal.TheVariants.{FieldCutShort, UnknownTag, WrongFieldLength, TapeTooLong}
use Rattle.call_tape.specs.declared.calls.Call.{Call}
use Rattle.call_tape.specs.declared.faults.Fault.{Fault}
use Rattle.call_tape.specs.declared.fields.Reading.{Reading}
use Rattle.call_tape.specs.Calls.{tag_of, contents_of}
use Rattle.call_tape.specs.Fields.{tag_at, size_at, Whole, Cut, most_bytes}
use Rattle.call_tape.specs.Tapes.{Tape}
use Rattle.call_tape.specs.Written.{encoded, written, AllSmall}
use Rattle.call_tape.specs.Writing.{Added, Holds}

abbrev pub Sound : List ℕ → List Call → Type 0
Sound T cs = (length T ≤ most_bytes) × AllSmall cs × (T ≡ written cs)

-- the tape ends inside the field; no call has its tag; the call of its tag has contents of another length
pub data Faulty (T : List ℕ) (p : ℕ) : Refusal → Type 0 where
  cut : Cut T p → Faulty T p FieldCutShort
  unknown : Whole T p → ((c : Call) → tag_at T p ≢ tag_of c) → Faulty T p UnknownTag
  wrong : Whole T p → (c : Call) → tag_at T p ≡ tag_of c → (size_at T p ≢ length (contents_of c)) → Faulty T p WrongFieldLength

pub data FirstFault (T : List ℕ) : Fault → Type 0 where
  long : most_bytes < length T → FirstFault T (record { place = 0; refusal = TapeTooLong })
  field : (cs : List Call) (e : Refusal) → length T ≤ most_bytes → AllSmall cs → take (length (written cs)) T ≡ written cs → Faulty T (length (written cs)) e
      → FirstFault T (record { place = length (written cs); refusal = e })

abbrev pub calls_in : List Reading → List Call
calls_in [] = []
calls_in (r ∷ rs) = elim r.outcome [ Ok c ↦ c ∷ calls_in rs | Err e ↦ calls_in rs ]

abbrev pub faults_in : List Reading → List Fault
faults_in [] = []
faults_in (r ∷ rs) = elim r.outcome [ Ok c ↦ faults_in rs | Err e ↦ record { place = r.place; refusal = e } ∷ faults_in rs ]

abbrev pub Unsound : List ℕ → List Fault → Type 0
Unsound T all = (f : Fault) × (fs : List Fault) × (rs : List Reading) × (all ≡ f ∷ fs) × FirstFault T f × Tape T rs × (all ≡ faults_in rs)

abbrev pub Judged : List ℕ → List Fault → Bool → Type 0
Judged T all true = (all ≡ []) × ((cs : List Call) × Sound T cs)
Judged T all false = Unsound T all

abbrev pub FaultsAdded : List ℕ → List Fault → List Fault → Bool → Type 0
FaultsAdded T xs ys sound = (all : List Fault) × (ys ≡ xs ++ all) × Judged T all sound

-- each call is accepted where the area has room for the tape, and in the end the tape is there
pub record WrittenAgain : Type 0 where
  pub accepted : (T Z A B : List ℕ) (u v : ℕ) (before after : List Call) (c : Call) (r : Result ⊤ Refusal)
      → Sound T (before ++ c ∷ after) → length T ≤ length Z → Holds Z A u before → Added A u (encoded c) r B v → IsOk r
  pub same : (T Z A : List ℕ) (u : ℕ) (cs : List Call) → Sound T cs → Holds Z A u cs → take u A ≡ T

abbrev pub SoundFaultless : Type 0
SoundFaultless = (T : List ℕ) (cs : List Call) (rs : List Reading) → Sound T cs → Tape T rs → faults_in rs ≡ []
