-- Calls added to a tape in an area, one behind the other.
--   room A            how many bytes a tape in the area A can have
--   Added A u xs r B v   the bytes xs, added behind the first u of the area A, give the answer r, the area B and v bytes of tape
--   Holds Z A u cs    the area A is Z with the tape of the calls cs, of u bytes, at its start
--   with_added cs c r the calls of a tape of cs, to which c was added with the answer r
-- Assumes nothing.
use Rattle.std.specs.Prelude.{◌≡◌, ℕ, ◌+◌, ◌<◌, ◌≤◌, List, [], ◌∷◌, ◌++◌, length, take, drop, min, Ok, Err, Result, ⊤}
use Rattle.refusal.specs.declared.Refusal.{Refusal}
use Rattle.refusal.specs.declared.Refusal.TheVariants.{AreaTooShort}
use Rattle.call_tape.specs.declared.calls.Call.{Call}
use Rattle.call_tape.specs.Fields.{most_bytes}
use Rattle.call_tape.specs.Written.{written, AllSmall}

abbrev pub room : List ℕ → ℕ
room A = min (length A) most_bytes

-- refused exactly where the bytes pass the room, and then every byte and the count are as they were
abbrev pub Added : List ℕ → ℕ → List ℕ → Result ⊤ Refusal → List ℕ → ℕ → Type 0
Added A u xs (Ok _) B v = (u + length xs ≤ room A) × (v ≡ u + length xs) × (B ≡ take u A ++ (xs ++ drop v A))
Added A u xs (Err e) B v = (room A < u + length xs) × (e ≡ AreaTooShort) × (B ≡ A) × (v ≡ u)

abbrev pub Holds : List ℕ → List ℕ → ℕ → List Call → Type 0
Holds Z A u cs = AllSmall cs × (u ≡ length (written cs)) × (u ≤ room Z) × (A ≡ written cs ++ drop u Z)

abbrev pub with_added : List Call → Call → Result ⊤ Refusal → List Call
with_added cs c (Ok _) = cs ++ c ∷ []
with_added cs c (Err e) = cs
