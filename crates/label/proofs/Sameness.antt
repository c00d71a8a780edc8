-- Labels are the same by their numbers, whichever of two is asked first.
use Rattle.std.proofs.Common.{◌≡◌, ℕ, eqb, arith}
use Rattle.std.proofs.lemmas.Bool.Decides.{nat_tests}

pub eqb_swap : (a b : ℕ) → eqb a b ≡ eqb b a
eqb_swap a b = grind (arith, nat_tests)
