-- A field that decodes is a call's own field, and a call's own field decodes to it.
use Rattle.std.proofs.Common.{◌≡◌, ℕ, ◌+◌, ◌/◌, ◌%◌, ◌<◌, ◌≤◌, eqb, List, [], ◌∷◌, ◌++◌, length, get_or, drop, Ok, Result, refl, ap, ◌∙◌, arith}
use Rattle.std.proofs.lemmas.Bool.{cond_both, eqb-true, eqb-false}
use Rattle.std.proofs.lemmas.List.{drop_all, drop_more}
use Rattle.refusal.specs.declared.Refusal.{Refusal}
use Rattle.label.specs.declared.stream.StreamLabel.{StreamLabel}
use Rattle.call_tape.specs.declared.calls.Opening.{Opening}
use Rattle.call_tape.specs.declared.calls.Call.{Call}
use Rattle.call_tape.specs.declared.calls.Call.TheVariants.{Write, Drop, Spoil, Read, Trim, Open, Append, Close, Tally}
use Rattle.call_tape.specs.Calls.{four, pair, number_at, stream_at, opening_of, bytes_of, label_bytes, tag_of, contents_of, sized, decoded, SmallLabel, Small, Decodes, call, unknown, wrong, OwnField}

-- the bytes of a number are the number, and so it is with a label's
four_bytes : (n : ℕ) → n < 4294967296 → four ((n / 16777216) % 256) ((n / 65536) % 256) ((n / 256) % 256) (n % 256) ≡ n
four_bytes n h = omega arith

own_label : (l : StreamLabel) → SmallLabel l → stream_at (label_bytes l) 0 ≡ l
own_label l h = let e : pair ((l.channel / 256) % 256) (l.channel % 256) ≡ l.channel = omega (arith, h.1) in ap (λ (c : ℕ). record { port = l.port; channel = c; session = l.session }) e

own_opening : (o : Opening) → Small (Open o) → opening_of (contents_of (Open o)) ≡ o
own_opening o h =
    let s = own_label o.stream h.0 in
    let f = four_bytes o.first h.1 in
    let n = four_bytes o.length h.2 in
    λ i. record { stream = s i; first = f i; length = n i }

pub own_field : OwnField
own_field (Write n) h = ap (λ (k : ℕ). Ok (Write k)) (four_bytes n h)
own_field (Drop n) h = ap (λ (k : ℕ). Ok (Drop k)) (four_bytes n h)
own_field (Spoil n) h = ap (λ (k : ℕ). Ok (Spoil k)) (four_bytes n h)
own_field (Read n) h = ap (λ (k : ℕ). Ok (Read k)) (four_bytes n h)
own_field (Trim n) h = ap (λ (k : ℕ). Ok (Trim k)) (four_bytes n h)
own_field (Open o) h = ap (λ k. Ok (Open k)) (own_opening o h)
own_field (Append l) h = ap (λ k. Ok (Append k)) (own_label l h)
own_field (Close l) h = ap (λ k. Ok (Close k)) (own_label l h)
own_field Tally h = refl

-- and four bytes in a row are those of the number, or of the label, that is read from them
module _ (xs : List ℕ) (h : (j : ℕ) → get_or xs j 0 < 256) where
  four_at : (p : ℕ) → p + 4 ≤ length xs → drop p xs ≡ get_or xs p 0 ∷ get_or xs (p + 1) 0 ∷ get_or xs (p + 2) 0 ∷ get_or xs (p + 3) 0 ∷ drop (p + 4) xs
  four_at p l =
      let a = drop_more xs p 0 (omega arith) in
      let b : drop (p + 1) xs ≡ get_or xs (p + 1) 0 ∷ drop (p + 2) xs = rw (drop_more xs (p + 1) 0 (omega arith)) (ap (λ k. get_or xs (p + 1) 0 ∷ drop k xs) (omega arith)) in
      let c : drop (p + 2) xs ≡ get_or xs (p + 2) 0 ∷ drop (p + 3) xs = rw (drop_more xs (p + 2) 0 (omega arith)) (ap (λ k. get_or xs (p + 2) 0 ∷ drop k xs) (omega arith)) in
      let d : drop (p + 3) xs ≡ get_or xs (p + 3) 0 ∷ drop (p + 4) xs = rw (drop_more xs (p + 3) 0 (omega arith)) (ap (λ k. get_or xs (p + 3) 0 ∷ drop k xs) (omega arith)) in
      cc

  small_number : (p : ℕ) → number_at xs p < 4294967296
  small_number p = omega (arith, h p, h (p + 1), h (p + 2), h (p + 3))

  small_label : (p : ℕ) → SmallLabel (stream_at xs p)
  small_label p = (h p, omega (arith, h (p + 1), h (p + 2)), h (p + 3))

  number_bytes : (p : ℕ) → p + 4 ≤ length xs → drop p xs ≡ bytes_of (number_at xs p) ++ drop (p + 4) xs
  number_bytes p l =
      let a : get_or xs p 0 ≡ (number_at xs p / 16777216) % 256 = omega (arith, h p, h (p + 1), h (p + 2), h (p + 3)) in
      let b : get_or xs (p + 1) 0 ≡ (number_at xs p / 65536) % 256 = omega (arith, h p, h (p + 1), h (p + 2), h (p + 3)) in
      let c : get_or xs (p + 2) 0 ≡ (number_at xs p / 256) % 256 = omega (arith, h p, h (p + 1), h (p + 2), h (p + 3)) in
      let d : get_or xs (p + 3) 0 ≡ number_at xs p % 256 = omega (arith, h p, h (p + 1), h (p + 2), h (p + 3)) in
      let e = four_at p l in
      cc

  stream_bytes : (p : ℕ) → p + 4 ≤ length xs → drop p xs ≡ label_bytes (stream_at xs p) ++ drop (p + 4) xs
  stream_bytes p l =
      let b : get_or xs (p + 1) 0 ≡ (pair (get_or xs (p + 1) 0) (get_or xs (p + 2) 0) / 256) % 256 = omega (arith, h (p + 1), h (p + 2)) in
      let c : get_or xs (p + 2) 0 ≡ pair (get_or xs (p + 1) 0) (get_or xs (p + 2) 0) % 256 = omega (arith, h (p + 1), h (p + 2)) in
      let e = four_at p l in
      cc

  nothing_behind : (p : ℕ) → length xs ≡ p → drop p xs ≡ []
  nothing_behind p e = drop_all p xs (omega arith)

  number_is : length xs ≡ 4 → xs ≡ bytes_of (number_at xs 0)
  number_is e = rw (nothing_behind 4 e) at (number_bytes 0 (omega arith))

  label_is : length xs ≡ 4 → xs ≡ label_bytes (stream_at xs 0)
  label_is e = rw (nothing_behind 4 e) at (stream_bytes 0 (omega arith))

  opening_is : length xs ≡ 12 → xs ≡ contents_of (Open (opening_of xs))
  opening_is e =
      let a : xs ≡ label_bytes (stream_at xs 0) ++ drop 4 xs = stream_bytes 0 (omega arith) in
      let b : drop 4 xs ≡ bytes_of (number_at xs 4) ++ drop 8 xs = number_bytes 4 (omega arith) in
      let c : drop 8 xs ≡ bytes_of (number_at xs 8) ++ drop 12 xs = number_bytes 8 (omega arith) in
      let d : drop 12 xs ≡ [] = nothing_behind 12 e in
      cc

  -- contents read as the call c, which has k bytes of them
  module _ (t : ℕ) where
    read_as : (k : ℕ) (c : Call) → t ≡ tag_of c → length (contents_of c) ≡ k → (length xs ≡ k → Small c × (xs ≡ contents_of c)) → Decodes t xs (sized k xs c)
    read_as k c e n is = cond_both (eqb (length xs) k) _ _ P
        (λ q. let (s, o) = is (eqb-true (length xs) k q) in call c s e o)
        (λ q. wrong c e (λ z. eqb-false (length xs) k q (z ∙ n)))
      where
        P : Result Call Refusal → Type 0
        P o = Decodes t xs o

    no_call : (t ≡ 1 → ⊥) → (t ≡ 2 → ⊥) → (t ≡ 3 → ⊥) → (t ≡ 4 → ⊥) → (t ≡ 5 → ⊥) → (t ≡ 6 → ⊥) → (t ≡ 7 → ⊥) → (t ≡ 8 → ⊥) → (t ≡ 9 → ⊥) → (c : Call) → t ≡ tag_of c → ⊥
    no_call a b c d e f g h i (Write n) = a
    no_call a b c d e f g h i (Drop n) = b
    no_call a b c d e f g h i (Spoil n) = c
    no_call a b c d e f g h i (Read n) = d
    no_call a b c d e f g h i (Trim n) = e
    no_call a b c d e f g h i (Open o) = f
    no_call a b c d e f g h i (Append l) = g
    no_call a b c d e f g h i (Close l) = h
    no_call a b c d e f g h i Tally = i

    abbrev number : ℕ
    number = number_at xs 0

    abbrev stream : StreamLabel
    stream = stream_at xs 0

    pub decodes : Decodes t xs (decoded t xs)
    decodes =
        cond_both (eqb t 1) _ _ P (λ e. read_as 4 (Write number) (eqb-true t 1 e) refl (λ n. (small_number 0, number_is n)))
        (λ a. cond_both (eqb t 2) _ _ P (λ e. read_as 4 (Drop number) (eqb-true t 2 e) refl (λ n. (small_number 0, number_is n)))
        (λ b. cond_both (eqb t 3) _ _ P (λ e. read_as 4 (Spoil number) (eqb-true t 3 e) refl (λ n. (small_number 0, number_is n)))
        (λ c. cond_both (eqb t 4) _ _ P (λ e. read_as 4 (Read number) (eqb-true t 4 e) refl (λ n. (small_number 0, number_is n)))
        (λ d. cond_both (eqb t 5) _ _ P (λ e. read_as 4 (Trim number) (eqb-true t 5 e) refl (λ n. (small_number 0, number_is n)))
        (λ f. cond_both (eqb t 6) _ _ P (λ e. read_as 12 (Open (opening_of xs)) (eqb-true t 6 e) refl (λ n. ((small_label 0, small_number 4, small_number 8), opening_is n)))
        (λ g. cond_both (eqb t 7) _ _ P (λ e. read_as 4 (Append stream) (eqb-true t 7 e) refl (λ n. (small_label 0, label_is n)))
        (λ i. cond_both (eqb t 8) _ _ P (λ e. read_as 4 (Close stream) (eqb-true t 8 e) refl (λ n. (small_label 0, label_is n)))
        (λ j. cond_both (eqb t 9) _ _ P (λ e. read_as 0 Tally (eqb-true t 9 e) refl (λ n. (tt, nothing_behind 0 n)))
        (λ k. unknown (no_call (eqb-false t 1 a) (eqb-false t 2 b) (eqb-false t 3 c) (eqb-false t 4 d) (eqb-false t 5 f) (eqb-false t 6 g) (eqb-false t 7 i) (eqb-false t 8 j) (eqb-false t 9 k)))))))))))
      where
        P : Result Call Refusal → Type 0
        P o = Decodes t xs o
