-- What the words behind a call's word give.
use Rattle.std.proofs.Common.{◌≡◌, ℕ, ◌<◌, ◌≤◌, ◌≢◌, List, [], ◌∷◌, length, get_or, codes, Bor, Result, IsErrAnd, Ok, Err, MatchResult, inl, refl, arith}
use Rattle.std.proofs.lemmas.List.{length-map}
use Rattle.std.proofs.lemmas.Result.{err_from_is_err_and}
use Rattle.tape_text.specs.declared.complaints.Complaint.{Complaint}
use Rattle.tape_text.specs.declared.complaints.Complaint.TheVariants.{WrongCount, BadNumber}
use Rattle.call_tape.specs.declared.calls.Call.{Call}
use Rattle.call_tape.specs.declared.calls.Call.TheVariants.{Write, Drop, Spoil, Read, Trim, Open, Append, Close, Tally}
use Rattle.tape_text.specs.Numbers.{texts, Reads, Numbers, FirstBad, Complains, count, number}
use Rattle.tape_text.specs.Calls.{word_of, limits_of, number_limits, Says, Wrong, numbers}

-- what a slice pattern reads past the end
abbrev pub no_word : Bor (List ℕ)
no_word = record { ref_ptr = (0, 0); now = [] }

-- what the exit of a `?` returns
pub err_exit : {T E : Type 0} (r : Result T E) (e : E) (P : T → Type 0) (Q : E → Type 0) → IsErrAnd r (λ y. y ≡ e) → Q e → MatchResult r P Q
err_exit r e P Q h q = let p = err_from_is_err_and r h in rw (p.1, p.2) q

pub miscounted : (limits : List ℕ) (ws : List (Bor (List ℕ))) → length ws ≢ length limits → Complains limits (texts ws) (WrongCount (length limits))
miscounted limits ws h = count (simp length-map h)

pub misread : (limits : List ℕ) (ws : List (Bor (List ℕ))) (e : Complaint) (j t : ℕ) → e ≡ BadNumber j t → length ws ≡ length limits → FirstBad limits (texts ws) 2 j t → Complains limits (texts ws) e
misread limits ws e j t k l h = rw k (number j t (simp length-map l) h)

-- a list of one element, of three, of five
module _ (P : List (Bor (List ℕ)) → Type 0) (d : Bor (List ℕ)) where
  pub at_one : (ws : List (Bor (List ℕ))) → 1 ≤ length ws → length ws < 2 → P (get_or ws 0 d ∷ []) → P ws
  at_one [] l h p = absurd (omega arith)
  at_one (a ∷ []) l h p = p
  at_one (a ∷ b ∷ ws) l h p = absurd (omega arith)

  pub at_three : (ws : List (Bor (List ℕ))) → 3 ≤ length ws → length ws < 4 → P (get_or ws 0 d ∷ get_or ws 1 d ∷ get_or ws 2 d ∷ []) → P ws
  at_three [] l h p = absurd (omega arith)
  at_three (a ∷ []) l h p = absurd (omega arith)
  at_three (a ∷ b ∷ []) l h p = absurd (omega arith)
  at_three (a ∷ b ∷ c ∷ []) l h p = p
  at_three (a ∷ b ∷ c ∷ e ∷ ws) l h p = absurd (omega arith)

  pub at_five : (ws : List (Bor (List ℕ))) → 5 ≤ length ws → length ws < 6 → P (get_or ws 0 d ∷ get_or ws 1 d ∷ get_or ws 2 d ∷ get_or ws 3 d ∷ get_or ws 4 d ∷ []) → P ws
  at_five [] l h p = absurd (omega arith)
  at_five (a ∷ []) l h p = absurd (omega arith)
  at_five (a ∷ b ∷ []) l h p = absurd (omega arith)
  at_five (a ∷ b ∷ c ∷ []) l h p = absurd (omega arith)
  at_five (a ∷ b ∷ c ∷ e ∷ []) l h p = absurd (omega arith)
  at_five (a ∷ b ∷ c ∷ e ∷ f ∷ []) l h p = p
  at_five (a ∷ b ∷ c ∷ e ∷ f ∷ g ∷ ws) l h p = absurd (omega arith)

-- a word that is none of the nine is no call's
pub unlike : (w : List ℕ) → w ≢ codes "write" → w ≢ codes "drop" → w ≢ codes "spoil" → w ≢ codes "read" → w ≢ codes "trim" → w ≢ codes "open" → w ≢ codes "append" → w ≢ codes "close" → w ≢ codes "tally" → (c : Call) → w ≢ word_of c
unlike w write drop spoil read trim opens append close tally (Write n) = write
unlike w write drop spoil read trim opens append close tally (Drop n) = drop
unlike w write drop spoil read trim opens append close tally (Spoil n) = spoil
unlike w write drop spoil read trim opens append close tally (Read n) = read
unlike w write drop spoil read trim opens append close tally (Trim n) = trim
unlike w write drop spoil read trim opens append close tally (Open o) = opens
unlike w write drop spoil read trim opens append close tally (Append l) = append
unlike w write drop spoil read trim opens append close tally (Close l) = close
unlike w write drop spoil read trim opens append close tally Tally = tally

-- the one number of a call
pub one_read : (w : List ℕ) (r : Result ℕ Complaint) → Reads 2 4294967295 w r → MatchResult r (λ n. Numbers number_limits (w ∷ []) (n ∷ [])) (Complains number_limits (w ∷ []))
one_read w (Ok n) h = (h, tt)
one_read w (Err e) h = rw h.0 (number 2 4294967295 refl (inl (h.1, refl, refl)))

-- the exit of a `?` behind the word of the call c
pub wrong_exit : (c : Call) (w : List ℕ) (ws : List (List ℕ)) (r : Result Call Complaint) (e : Complaint) → w ≡ word_of c → IsErrAnd r (λ y. y ≡ e) → Complains (limits_of c) ws e → MatchResult r (Says (w ∷ ws)) (Wrong (w ∷ ws))
wrong_exit c w ws r e k h bad = err_exit r e _ _ h (numbers c w ws e k bad)
