-- The vectors that a text says, a line for each.
--   Writes ds n         the digits ds are a numeral of n, which is below 2 ^ 64
--   Says l v            the line l says the vector v
--   SaysNothing l       the line l says none
--   FailsAt ls n        of the lines ls, the one numbered n is the first that says no vector
--   ReadsVectors t r    what r is, where the vectors of the text t are asked for
--   error_text e        an error as text
-- Assumes nothing.
use Rattle.std.specs.Prelude.{◌≡◌, ℕ, ◌+◌, ◌^◌, ◌<◌, List, [], ◌∷◌, ◌++◌, length, Vec, Result, Ok, Err, codes, decimal}
use Rattle.std.specs.Bool.{⊤}
use Rattle.std.specs.List.{AllZip}
use Rattle.std.specs.Str.Lines.{lines}
use Rattle.std.specs.Str.Parse.{IsNumeral, digits_value}
use Rattle.std.specs.declared.alloc.Global.{Global}
use Rattle.vectors.specs.declared.agreement.Vector.{Vector}
use Rattle.vectors.specs.declared.reading.ReadError.{ReadError}
use Rattle.vectors.specs.declared.reading.ReadError.TheVariants.{NoText, NoVector, NoLines, OutOfMemory}

pub record Writes (digits : List ℕ) (n : ℕ) : Type 0 where
  pub numeral : IsNumeral 10 digits
  pub value : digits_value 10 digits ≡ n
  pub fits : n < 2 ^ 64

-- two numerals with one blank between them, and nothing else
pub record Says (line : List ℕ) (v : Vector) : Type 0 where
  pub input : List ℕ
  pub output : List ℕ
  pub parts : line ≡ input ++ 32 ∷ output
  pub input_is : Writes input v.input
  pub output_is : Writes output v.output

abbrev pub SaysNothing : List ℕ → Type 0
SaysNothing line = (v : Vector) → ¬ Says line v

-- lines are counted from 1
pub record FailsAt (lines : List (List ℕ)) (n : ℕ) : Type 0 where
  pub good : List (List ℕ)
  pub bad : List ℕ
  pub rest : List (List ℕ)
  pub vectors : List Vector
  pub parts : lines ≡ good ++ bad ∷ rest
  pub number : n ≡ length good + 1
  pub before : AllZip Says good vectors
  pub here : SaysNothing bad

-- as many vectors as lines, one or more; nothing is said of an error for want of memory
abbrev pub ReadsVectors : List ℕ → Result (Vec Vector Global) ReadError → Type 0
ReadsVectors text (Ok vectors) = (0 < length (lines text)) × AllZip Says (lines text) vectors.items
ReadsVectors text (Err (NoVector n)) = FailsAt (lines text) n
ReadsVectors text (Err NoLines) = lines text ≡ []
ReadsVectors text (Err (NoText n)) = ⊥
ReadsVectors text (Err OutOfMemory) = ⊤

abbrev pub error_text : ReadError → List ℕ
error_text (NoText n) = codes "line " ++ (decimal n ++ codes ": the bytes are not text in UTF-8")
error_text (NoVector n) = codes "line " ++ (decimal n ++ codes ": two decimal numbers below 2^64, with a blank between them, were expected")
error_text NoLines = codes "there are no lines, so nothing was compared"
error_text OutOfMemory = codes "out of memory"
