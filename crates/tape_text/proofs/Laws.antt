-- A text gives one tape or one fault, and the text of calls gives their tape.
use Rattle.std.proofs.Common.{◌≡◌, ℕ, ◌<◌, ◌≤◌, ◌⊎◌, zero, suc, List, [], ◌∷◌, ◌++◌, length, drop, decimal, Ok, Err, refl, sym, ap, ◌∙◌, inl, inr, rules, arith, lit<}
use Rattle.std.specs.Str.{IsUtf8, IsAscii}
use Rattle.std.specs.Str.Lines.{lines}
use Rattle.std.proofs.lemmas.Str.{IsUtf8-from_ascii, IsAscii-append}
use Rattle.std.proofs.lemmas.Str.Ascii.{IsAscii-nil}
use Rattle.std.proofs.lemmas.Fmt.{IsAscii-decimal}
use lib.Seq.{take-append_seam}
use Rattle.call_tape.specs.declared.calls.Call.{Call}
use Rattle.call_tape.specs.declared.calls.Call.TheVariants.{Write, Drop, Spoil, Read, Trim, Open, Append, Close, Tally}
use Rattle.call_tape.specs.Soundness.{Sound}
use Rattle.call_tape.specs.Written.{written, AllSmall}
use Rattle.call_tape.specs.Writing.{room, Holds}
use Rattle.tape_text.specs.declared.complaints.LineFault.{LineFault}
use Rattle.tape_text.specs.Calls.{word_of, limits_of, values_of, spaced, call_text}
use Rattle.tape_text.specs.Lines.{LinesSay, said}
use Rattle.tape_text.specs.Taken.{NoText, FirstBarred, OneTaping, GivesBack}
use Rattle.tape_text.proofs.Once.{one_saying}
use Rattle.tape_text.proofs.Spelled.{Within, small_within, said_reads}
use Rattle.tape_text.proofs.Barring.{barred_once, none_barred}

no_text : (text : List ℕ) (f : LineFault) → NoText text f → IsUtf8 text → ⊥
no_text text f k h = k.0 h

one_no_text : (text : List ℕ) (f g : LineFault) → NoText text f → NoText text g → f ≡ g
one_no_text text f g h k = h.1 ∙ sym k.1

-- two ways to cut a list at an element cut it at one place, or the one further on than the other
cut_once : (b : List (List ℕ)) (L : List ℕ) (a : List (List ℕ)) (c : List (List ℕ)) (M : List ℕ) (d : List (List ℕ)) → b ++ L ∷ a ≡ c ++ M ∷ d
    → ((b ≡ c) × (L ≡ M)) ⊎ (((mid : List (List ℕ)) × (c ≡ b ++ L ∷ mid)) ⊎ ((mid : List (List ℕ)) × (b ≡ c ++ M ∷ mid)))
cut_once [] L a [] M d e = inl (refl, cc)
cut_once [] L a (x ∷ c) M d e = inr (inl (c, cc))
cut_once (x ∷ b) L a [] M d e = inr (inr (b, cc))
cut_once (x ∷ b) L a (y ∷ c) M d e =
    let rest : b ++ L ∷ a ≡ c ++ M ∷ d = cc in
    let first : x ≡ y = cc in
    elim (cut_once b L a c M d rest) [
      | inl h ↦ inl (let p = h.0 in cc, h.1)
      | inr (inl h) ↦ inr (inl (h.0, let p = h.1 in cc))
      | inr (inr h) ↦ inr (inr (h.0, let p = h.1 in cc))
    ]

-- an area with the tape of the same calls at its start
one_area : (A B C : List ℕ) (m n : ℕ) (cs ds : List Call) → Holds A B m cs → Holds A C n ds → cs ≡ ds → B ≡ C
one_area A B C m n cs ds h k same =
    let long : m ≡ n = h.1 ∙ (ap (λ z. length (written z)) same ∙ sym k.1) in
    h.3 ∙ ((λ i. written (same i) ++ drop (long i) A) ∙ sym k.3)

one_fault : (text A B C : List ℕ) (f g : LineFault) → FirstBarred text A B f → FirstBarred text A C g → (f ≡ g) × (B ≡ C)
one_fault text A B C f g (b, L, a, cs, is, line, say, hold, bar) (c, M, d, ds, was, line', say', hold', bar') =
    elim (cut_once b L a c M d (sym is ∙ was)) [
      | inl h ↦
          let same : cs ≡ ds = one_saying b cs ds say (rw (← h.0) at say') in
          let complaint : f.complaint ≡ g.complaint = barred_once (room A) cs L f.complaint g.complaint bar (rw (← same, ← h.1) at bar') in
          let number : f.line ≡ g.line = omega (arith, ap length h.0) in
          (λ i. record { line = number i; complaint = complaint i }, one_area A B C _ _ cs ds hold hold' same)
      | inr (inl h) ↦ absurd (none_barred (room A) b L h.0 cs ds f.complaint (rw h.1 at say') say hold'.2 bar)
      | inr (inr h) ↦ absurd (none_barred (room A) c M h.0 ds cs g.complaint (rw h.1 at say) say' hold.2 bar')
    ]

none_barred_first : (text A B : List ℕ) (cs : List Call) (f : LineFault) → LinesSay (lines text) cs → length (written cs) ≤ room A → FirstBarred text A B f → ⊥
none_barred_first text A B cs f say fit (b, L, a, ds, is, line, h, k, bar) = none_barred (room A) b L a ds cs f.complaint (rw is at say) h fit bar

roomy : (T A : List ℕ) (cs : List Call) → Sound T cs → length T ≤ length A → length (written cs) ≤ room A
roomy T A cs sound fit = rw (← sound.2) (omega (arith, sound.0))

held_roomy : (A B : List ℕ) (n : ℕ) (cs : List Call) → Holds A B n cs → length (written cs) ≤ room A
held_roomy A B n cs hold = rw hold.1 at hold.2

pub one_taping : OneTaping
one_taping text A B C (Ok m) (Ok n) h k =
    let same = one_saying (lines text) h.calls k.calls h.say k.say in
    (ap (λ z. Ok z) (h.holds.1 ∙ (ap (λ z. length (written z)) same ∙ sym k.holds.1)), one_area A B C m n h.calls k.calls h.holds k.holds same)
one_taping text A B C (Ok m) (Err f) h (inl k) = absurd (no_text text f k.0 h.utf8)
one_taping text A B C (Ok m) (Err f) h (inr (_, k)) = absurd (none_barred_first text A C h.calls f h.say (held_roomy A B m h.calls h.holds) k)
one_taping text A B C (Err f) (Ok n) (inl h) k = absurd (no_text text f h.0 k.utf8)
one_taping text A B C (Err f) (Ok n) (inr (_, h)) k = absurd (none_barred_first text A B k.calls f k.say (held_roomy A C n k.calls k.holds) h)
one_taping text A B C (Err f) (Err g) (inl h) (inl k) = (ap (λ z. Err z) (one_no_text text f g h.0 k.0), h.1 ∙ sym k.1)
one_taping text A B C (Err f) (Err g) (inl h) (inr (t, k)) = absurd (no_text text f h.0 t)
one_taping text A B C (Err f) (Err g) (inr (t, h)) (inl k) = absurd (no_text text g k.0 t)
one_taping text A B C (Err f) (Err g) (inr (_, h)) (inr (_, k)) = let o = one_fault text A B C f g h k in (ap (λ z. Err z) o.0, o.1)

-- what is said is ASCII
ascii_cons : (x : ℕ) (xs : List ℕ) → x < 128 → IsAscii xs → IsAscii (x ∷ xs)
ascii_cons x xs l h zero = l
ascii_cons x xs l h (suc k) = h k

abbrev Below : List ℕ → Type 0
Below [] = Unit {0}
Below (x ∷ xs) = (x < 128) × Below xs

ascii_from_below : (xs : List ℕ) → Below xs → IsAscii xs
ascii_from_below [] h = IsAscii-nil
ascii_from_below (x ∷ xs) h = ascii_cons x xs h.0 (ascii_from_below xs h.1)

word_below : (c : Call) → Below (word_of c)
word_below (Write n) = search rules
word_below (Drop n) = search rules
word_below (Spoil n) = search rules
word_below (Read n) = search rules
word_below (Trim n) = search rules
word_below (Open o) = search rules
word_below (Append l) = search rules
word_below (Close l) = search rules
word_below Tally = search rules

ascii_spaced : (limits ns : List ℕ) → Within limits ns → IsAscii (spaced ns)
ascii_spaced [] [] h = IsAscii-nil
ascii_spaced (limit ∷ limits) (n ∷ ns) h = ascii_cons 32 (decimal n ++ spaced ns) (lit< tt) (IsAscii-append (decimal n) (spaced ns) (IsAscii-decimal n (omega arith)) (ascii_spaced limits ns h.2))
ascii_spaced _ _ h = absurd h

ascii_said : (cs : List Call) → AllSmall cs → IsAscii (said cs)
ascii_said [] h = IsAscii-nil
ascii_said (c ∷ cs) h =
    let text = IsAscii-append (word_of c) (spaced (values_of c)) (ascii_from_below (word_of c) (word_below c)) (ascii_spaced (limits_of c) (values_of c) (small_within c h.0)) in
    IsAscii-append (call_text c) (10 ∷ said cs) text (ascii_cons 10 (said cs) (lit< tt) (ascii_said cs h.1))

pub gives_back : GivesBack
gives_back T A B cs (Ok n) sound fit k =
    let same : k.calls ≡ cs = one_saying (lines (said cs)) k.calls cs k.say (said_reads cs sound.1) in
    let long : n ≡ length T = k.holds.1 ∙ (ap (λ z. length (written z)) same ∙ sym (ap length sound.2)) in
    (ap (λ z. Ok z) long, rw (← long, k.holds.3, k.holds.1) (take-append_seam (written k.calls) _ ∙ (ap written same ∙ sym sound.2)))
gives_back T A B cs (Err f) sound fit (inl k) = absurd (no_text (said cs) f k.0 (IsUtf8-from_ascii (said cs) (ascii_said cs sound.1)))
gives_back T A B cs (Err f) sound fit (inr (_, k)) = absurd (none_barred_first (said cs) A B cs f (said_reads cs sound.1) (roomy T A cs sound fit) k)
