-- The numbers of a call, as words.
--   texts ws              the texts of the words ws
--   Number limit w n      the word w is a decimal numeral of the number n, which is `limit` or less; a plus may lead
--   NoNumber limit w      w is no numeral of a number up to `limit`
--   Numbers limits ws ns  the words ws are numerals of the numbers ns, each up to its own of the limits
--   FirstBad limits ws i j t   the words stand from the place i on; that at j is the first that is no numeral up to its limit, which is t
--   Complains limits ws e   e says what is wrong with the words ws, where numbers up to the limits are wanted
--   Reads i limit w r     r is the number that the word w, at the place i, writes, or what is wrong with it
--   ReadsAll limits ws v r   r is something of the numbers v that the words ws write, or what is wrong with them
-- Assumes nothing.
use Rattle.std.specs.Prelude.{◌≡◌, ℕ, ◌+◌, ◌≤◌, ◌≢◌, ◌⊎◌, List, [], ◌∷◌, length, map, Ok, Err, Result, MatchResult}
use Rattle.std.specs.Borrow.{Bor}
use Rattle.std.specs.Str.Parse.{IsNumeral, digits_value, without_leading_plus}
use Rattle.tape_text.specs.declared.complaints.Complaint.{Complaint}
use Rattle.tape_text.specs.declared.complaints.Complaint.TheVariants.{WrongCount, BadNumber}

abbrev pub texts : List (Bor (List ℕ)) → List (List ℕ)
texts ws = map (λ w. w.now) ws

abbrev pub Number : ℕ → List ℕ → ℕ → Type 0
Number limit w n = IsNumeral 10 (without_leading_plus w) × (n ≡ digits_value 10 (without_leading_plus w)) × (n ≤ limit)

abbrev pub NoNumber : ℕ → List ℕ → Type 0
NoNumber limit w = (n : ℕ) → ¬ Number limit w n

abbrev pub Numbers : List ℕ → List (List ℕ) → List ℕ → Type 0
Numbers [] [] [] = Unit {0}
Numbers (limit ∷ limits) (w ∷ ws) (n ∷ ns) = Number limit w n × Numbers limits ws ns
Numbers _ _ _ = ⊥

abbrev pub FirstBad : List ℕ → List (List ℕ) → ℕ → ℕ → ℕ → Type 0
FirstBad (limit ∷ limits) (w ∷ ws) i j t = (NoNumber limit w × (j ≡ i) × (t ≡ limit)) ⊎ ((n : ℕ) × Number limit w n × FirstBad limits ws (i + 1) j t)
FirstBad _ _ i j t = ⊥

-- the place of the first word behind the call's is 2
pub data Complains (limits : List ℕ) (ws : List (List ℕ)) : Complaint → Type 0 where
  count : length ws ≢ length limits → Complains limits ws (WrongCount (length limits))
  number : (j t : ℕ) → length ws ≡ length limits → FirstBad limits ws 2 j t → Complains limits ws (BadNumber j t)

abbrev pub Reads : ℕ → ℕ → List ℕ → Result ℕ Complaint → Type 0
Reads i limit w (Ok n) = Number limit w n
Reads i limit w (Err e) = (e ≡ BadNumber i limit) × NoNumber limit w

abbrev pub ReadsAll : {A : Type 0} → List ℕ → List (List ℕ) → (A → List ℕ) → Result A Complaint → Type 0
ReadsAll limits ws v r = MatchResult r (λ a. Numbers limits ws (v a)) (Complains limits ws)
