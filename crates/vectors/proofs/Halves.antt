-- A line is cut at its first blank. Where it says a vector, that is the one between its numerals, since digits are no blanks.
use Rattle.std.proofs.Common.{◌≡◌, ◌≢◌, ℕ, ◌<◌, List, length, get_or, Option, Some, None, Bor, arith, lit<}
use Rattle.std.proofs.lemmas.Str.Parse.{IsNumeralModel, numerals_by_value, tells_digits, not_in_digits}
use Rattle.std.proofs.lemmas.Str.Pattern.{IsSplitOnceResult, split_after}
use Rattle.std.specs.Str.Parse.{AllDigits, digits_value}
use Rattle.vectors.specs.declared.agreement.Vector.{Vector}
use Rattle.vectors.specs.Reading.{Writes, Says, SaysNothing}

numerals : IsNumeralModel (AllDigits 10) (digits_value 10)
numerals = numerals_by_value _ tells_digits

no_blank : (digits : List ℕ) (n : ℕ) → Writes digits n → (i : ℕ) → i < length digits → get_or digits i 0 ≢ 32
no_blank digits n w = not_in_digits numerals digits 32 w.numeral.1 (λ range. omega arith)

pub record Halves (first second : List ℕ) (v : Vector) : Type 0 where
  pub input : Writes first v.input
  pub output : Writes second v.output

module _ (line : List ℕ) (r : Option (Bor (List ℕ) × Bor (List ℕ))) (cut : IsSplitOnceResult 32 line r) where
  pub uncut : r ≡ None → SaysNothing line
  uncut is v says = rw is at (split_after 32 line says.input says.output r cut (lit< tt) says.parts (no_blank says.input v.input says.input_is))

  pub halves : (x : Bor (List ℕ) × Bor (List ℕ)) → r ≡ Some x → (v : Vector) → Says line v → Halves x.0.now x.1.now v
  halves x is v says =
      let (first, second) = rw is at (split_after 32 line says.input says.output r cut (lit< tt) says.parts (no_blank says.input v.input says.input_is)) in
      record { input = rw first says.input_is; output = rw second says.output_is }
