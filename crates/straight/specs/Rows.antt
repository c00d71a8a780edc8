-- The rows of an area, and what each call makes of them. num gives a label's number.
--   Right k                an area of k rows is right
--   Checked k r            what the check of an area of k rows answers
--   Shaped k n             a map over k rows has the shape n
--   live rows              the rows that count: all, or none of too large an area
--   within f rows          f of the rows, or the rows of too large an area as they are
--   holds num r n          whether the row r is used and its label has the number n
--   look num rows n        the payload of the first row that holds n
--   place num rows n       the index of the first row that holds n, or none
--   spare rows             the index of the first unused row, or none
--   busy rows              the number of used rows
--   numbers num rows       the numbers of the used rows
--   apart num rows         whether each number is held by one row at most
--   WellKept num rows      the rows that count are apart
--   unused r               the row r with its mark cleared
--   emptied rows           every mark cleared
--   at_first p f rows      the first row that passes p made what f makes of it
--   replaced num rows n v  the payload of the first row that holds n replaced by v
--   filled rows l v        the label l and the payload v put into the first unused row
--   cleared num rows n     the mark of the first row that holds n cleared
--   put_rows, put_answer   the rows after a put, and what it answers
--   take_rows              the rows after a take
--   ask_answer             what an ask answers
-- Assumes nothing.
use Rattle.std.specs.Prelude.{◌≡◌, ℕ, ◌<◌, ◌≤◌, Bool, true, false, not, cond, List, [], ◌∷◌, length, map, filter, position, is_some, Some, None, Ok, Err, Option, Result, ◌==◌, nat_lt}
use Rattle.refusal.specs.declared.Refusal.{Refusal}
use Rattle.refusal.specs.declared.Refusal.TheVariants.{BadSize}
use Rattle.map.specs.declared.Denied.{Denied}
use Rattle.map.specs.declared.Denied.TheVariants.{Full}
use Rattle.straight.specs.declared.rows.Row.{Row}

abbrev pub Right : ℕ → Type 0
Right k = (0 < k) × (k ≤ 256)

abbrev pub Checked : {U : Type 0} → ℕ → Result U Refusal → Type 0
Checked k (Ok _) = Right k
Checked k (Err e) = (e ≡ BadSize) × (Right k → ⊥)

abbrev pub Shaped : ℕ → ℕ → Type 0
Shaped k n = (Right k → n ≡ k) × ((Right k → ⊥) → n ≡ 0)

-- an area of no rows is wrong too, and has none that count either way
abbrev pub live : {L V : Type 0} → List (Row L V) → List (Row L V)
live rows = cond (nat_lt (length rows) 257) rows []

abbrev pub within : {L V : Type 0} → (List (Row L V) → List (Row L V)) → List (Row L V) → List (Row L V)
within f rows = cond (nat_lt (length rows) 257) (f rows) rows

abbrev pub unused : {L V : Type 0} → Row L V → Row L V
unused r = record { used = false; label = r.label; payload = r.payload }

abbrev pub emptied : {L V : Type 0} → List (Row L V) → List (Row L V)
emptied rows = map unused rows

abbrev pub spare : {L V : Type 0} → List (Row L V) → Option ℕ
spare rows = position (λ r. not r.used) rows

abbrev pub busy : {L V : Type 0} → List (Row L V) → ℕ
busy rows = length (filter (λ r. r.used) rows)

abbrev pub at_first : {R : Type 0} → (R → Bool) → (R → R) → List R → List R
at_first p f [] = []
at_first p f (r ∷ rs) = cond (p r) (f r ∷ rs) (r ∷ at_first p f rs)

abbrev pub filled : {L V : Type 0} → List (Row L V) → L → V → List (Row L V)
filled rows l v = at_first (λ r. not r.used) (λ _. record { used = true; label = l; payload = v }) rows

module _ {L V : Type 0} (num : L → ℕ) where
  abbrev pub holds : Row L V → ℕ → Bool
  holds r n = cond r.used (num r.label == n) false

  abbrev pub look : List (Row L V) → ℕ → Option V
  look [] n = None
  look (r ∷ rs) n = cond (holds r n) (Some r.payload) (look rs n)

  abbrev pub place : List (Row L V) → ℕ → Option ℕ
  place rows n = position (λ r. holds r n) rows

  abbrev pub numbers : List (Row L V) → List ℕ
  numbers rows = map (λ r. num r.label) (filter (λ r. r.used) rows)

  abbrev pub apart : List (Row L V) → Bool
  apart [] = true
  apart (r ∷ rs) = cond r.used (cond (is_some (look rs (num r.label))) false (apart rs)) (apart rs)

  abbrev pub WellKept : List (Row L V) → Type 0
  WellKept rows = apart (live rows) ≡ true

  abbrev pub replaced : List (Row L V) → ℕ → V → List (Row L V)
  replaced rows n v = at_first (λ r. holds r n) (λ r. record { used = true; label = r.label; payload = v }) rows

  abbrev pub cleared : List (Row L V) → ℕ → List (Row L V)
  cleared rows n = at_first (λ r. holds r n) unused rows

  abbrev pub put_rows : L → V → List (Row L V) → List (Row L V)
  put_rows l v rows = cond (is_some (look rows (num l))) (replaced rows (num l) v) (filled rows l v)

  abbrev pub put_answer : ℕ → List (Row L V) → Result (Option V) Denied
  put_answer n rows = cond (is_some (look rows n)) (Ok (look rows n)) (cond (is_some (spare rows)) (Ok None) (Err Full))

  abbrev pub take_rows : ℕ → List (Row L V) → List (Row L V)
  take_rows n rows = cleared rows n

  abbrev pub ask_answer : ℕ → List (Row L V) → Bool
  ask_answer n rows = cond (is_some (look rows n)) true (is_some (spare rows))
