-- How many readings a tape can have.
use Rattle.std.proofs.Common.{◌≡◌, ℕ, ◌+◌, ◌/◌, ◌<◌, ◌≤◌, List, length, Some, ap, ◌∙◌, inl, inr, arith}
use Rattle.std.proofs.lemmas.Bool.Decides.{nat_tests}
use Rattle.call_tape.specs.declared.fields.Reader.{Reader}
use Rattle.call_tape.specs.declared.fields.Reading.{Reading}
use Rattle.call_tape.specs.Fields.{behind, Next, Gives, most_bytes, most_from, most_readings}
use Rattle.call_tape.specs.Tapes.{Reads, end, short, field, HasAtMost}

-- a reading more leaves one fewer at least
pub next_fewer : (T : List ℕ) (p : ℕ) (r : Reading) (q : ℕ) → Next T p (Some r) q → most_from T q < most_from T p
next_fewer T p r q (inl (c, e, b)) = omega (arith, b)
next_fewer T p r q (inr (w, e, b)) = omega (arith, b)

pub gives_fewer : (s t : Reader) (r : Reading) → Gives s (Some r) t → most_from s.tape.now t.place < most_from s.tape.now s.place
gives_fewer s t r (same, next) = next_fewer s.tape.now s.place r t.place next

pub few_from : (T : List ℕ) (p : ℕ) (rs : List Reading) → Reads T p rs → length rs ≤ most_from T p
few_from T p rs (end _ l) = omega arith
few_from T p rs (short _ c) = omega arith
few_from T p rs (field _ ss w h) = omega (arith, few_from T (behind T p) ss h)

-- a tape that is opened
pub most_opened : (T : List ℕ) → length T ≤ most_bytes → most_readings T ≡ most_from T 0
most_opened T l = grind (arith, nat_tests)

pub most_unopened : (T : List ℕ) → most_bytes < length T → most_readings T ≡ 1
most_unopened T l = grind (arith, nat_tests)

-- and no tape says more
pub few_readings : (T : List ℕ) → HasAtMost T (most_readings T)
few_readings T rs (inl (l, e)) = omega (arith, ap length e, most_unopened T l)
few_readings T rs (inr (l, h)) = omega (arith, few_from T 0 rs h, most_opened T l)

pub few_opened : (T : List ℕ) → length T ≤ most_bytes → HasAtMost T ((length T + 2) / 3)
few_opened T l rs h = omega (arith, few_readings T rs h, most_opened T l)

-- the reader r of the tape T leaves no more readings than a vector of this length and capacity has room for
abbrev pub Ample : List ℕ → Reader → ℕ → ℕ → Type 0
Ample T r len room = (r.tape.now ≡ T) × (len + most_from T r.place ≤ room)

pub ample_on : (T : List ℕ) (r s : Reader) (x : Reading) (len room m n : ℕ) → Gives r (Some x) s → Ample T r len room → m ≤ len + 1 → room ≤ n → Ample T s m n
ample_on T r s x len room m n gives (at, fits) l k =
    let fewer : most_from T s.place < most_from T r.place = rw at at (gives_fewer r s x gives) in
    (gives.0 ∙ at, omega (arith, fewer, fits))
