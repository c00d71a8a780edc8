-- Every tape of bytes is sound or has a first fault, and not both.
use Rattle.std.proofs.Common.{◌≡◌, ℕ, ◌+◌, ◌≤◌, ◌⊎◌, List, [], ◌∷◌, ◌++◌, length, get_or, take, drop, Result, sym, refl, ap, ◌∙◌, inl, inr, subst, arith, length-append, length-drop, append-nil, append_assoc, take-append-drop, Bool, true, false, ◌==◌, eqb-true, IsOk, Ok, Err}
use Rattle.std.specs.Bool.{⊤}
use Rattle.std.proofs.lemmas.List.{length-take-le, take_all}
use Rattle.std.proofs.lemmas.Bool.{eqb-false}
use Rattle.std.proofs.lemmas.Bool.Decides.{nat_tests}
use lib.Seq.{take-append_seam}
use Rattle.refusal.specs.declared.Refusal.{Refusal}
use Rattle.refusal.specs.declared.Refusal.TheVariants.{FieldCutShort, UnknownTag, WrongFieldLength, TapeTooLong}
use Rattle.call_tape.specs.declared.calls.Call.{Call}
use Rattle.call_tape.specs.declared.faults.Fault.{Fault}
use Rattle.call_tape.specs.declared.fields.Reading.{Reading}
use Rattle.call_tape.specs.Calls.{tag_of, contents_of, Small, Decodes, call, unknown, wrong}
use Rattle.call_tape.specs.Fields.{tag_at, size_at, contents_at, behind, Whole}
use Rattle.call_tape.specs.Soundness.{Sound, Faulty, cut, FirstFault, long, calls_in, faults_in, Judged, FaultsAdded, WrittenAgain, SoundFaultless}
use Rattle.call_tape.specs.Soundness as sound
use Rattle.call_tape.specs.Laws.{TapeLaws}
use Rattle.call_tape.specs.Tapes.{Reads, end, short, field, Tape}
use Rattle.call_tape.specs.Written.{encoded, written, AllSmall, placed, OnlyWritten}
use Rattle.call_tape.specs.Writing.{Added, Holds}
use Rattle.call_tape.proofs.Decoding.{decodes}
use Rattle.call_tape.proofs.Cutting.{Bytes, bytes_part, cut_up, digits}
use Rattle.call_tape.proofs.Runs.{one_reading}
use Rattle.call_tape.proofs.Written.{written_reads}
use Rattle.call_tape.proofs.Writing.{written_more, length_written_append, small_more, held_length}

length_none : {A : Type 0} (xs : List A) → length xs ≡ 0 → xs ≡ []
length_none [] e = refl
length_none (x ∷ xs) e = absurd (omega (arith, e))

-- behind the calls cs the tape says the readings rs: it is sound, or one of them is its first fault
abbrev pub Verdict : List ℕ → List Call → List Reading → Type 0
Verdict T cs rs =
    ((faults_in rs ≡ []) × Sound T (cs ++ calls_in rs))
    ⊎ ((f : Fault) × (fs : List Fault) × (faults_in rs ≡ f ∷ fs) × FirstFault T f)

module _ (T : List ℕ) (bytes : Bytes T) (l : length T ≤ 65535) where
  -- the tape up to the place behind a call's field
  field_more : (p : ℕ) (cs : List Call) (c : Call) → p ≤ length T → take p T ≡ written cs → Whole T p → tag_at T p ≡ tag_of c → contents_at T p ≡ contents_of c → T ≡ written (cs ++ c ∷ []) ++ drop (behind T p) T
  field_more p cs c h e w t xs =
      let n : size_at T p ≡ length (contents_of c) = sym (length-take-le (size_at T p) (drop (p + 3) T) (rw length-drop (omega arith))) ∙ ap length xs in
      let (a, b) = digits (get_or T (p + 1) 0) (get_or T (p + 2) 0) (length (contents_of c)) (bytes (p + 1)) (bytes (p + 2)) n in
      let d : drop p T ≡ encoded c ++ drop (behind T p) T = let w' = cut_up T p w in cc in
      sym (take-append-drop p T) ∙ (rw (e, d) (sym (append_assoc (written cs) (encoded c) (drop (behind T p) T))) ∙ ap (λ z. z ++ drop (behind T p) T) (sym (written_more cs c)))

  next_place : (p : ℕ) (cs : List Call) (c : Call) → take p T ≡ written cs → Whole T p → tag_at T p ≡ tag_of c → contents_at T p ≡ contents_of c
      → (behind T p ≡ length (written (cs ++ c ∷ []))) × (take (behind T p) T ≡ written (cs ++ c ∷ []))
  next_place p cs c e w t xs =
      let W = written (cs ++ c ∷ []) in
      let f : T ≡ W ++ drop (behind T p) T = field_more p cs c (omega arith) e w t xs in
      let n : behind T p ≡ length W = omega (arith, ap length f ∙ length-append W (drop (behind T p) T), length-drop (behind T p) T) in
      (n, ap (take (behind T p)) f ∙ (ap (λ i. take i (W ++ drop (behind T p) T)) n ∙ take-append_seam W (drop (behind T p) T)))

  one_field : (p : ℕ) (cs : List Call) (ss : List Reading) (o : Result Call Refusal) → AllSmall cs → p ≡ length (written cs) → take p T ≡ written cs → Whole T p
      → Decodes (tag_at T p) (contents_at T p) o → ((c : Call) → Small c → tag_at T p ≡ tag_of c → contents_at T p ≡ contents_of c → Verdict T (cs ++ c ∷ []) ss)
      → Verdict T cs (record { place = p; outcome = o } ∷ ss)
  one_field p cs ss o small at e w (call c s t xs) on = elim (on c s t xs) [
    | inl (none, is) ↦ inl (none, subst (Sound T) (append_assoc cs (c ∷ []) (calls_in ss)) is)
    | inr (f, fs, is, first) ↦ inr (f, fs, is, first)
  ]
  one_field p cs ss o small at e w (unknown n) on = inr (record { place = p; refusal = UnknownTag }, faults_in ss, refl, rw at (sound.field cs UnknownTag l small (rw (← at) e) (rw (← at) (sound.unknown w n))))
  one_field p cs ss o small at e w (wrong c t n) on =
      let s : length (contents_at T p) ≡ size_at T p = length-take-le (size_at T p) (drop (p + 3) T) (rw length-drop (omega arith)) in
      inr (record { place = p; refusal = WrongFieldLength }, faults_in ss, refl, rw at (sound.field cs WrongFieldLength l small (rw (← at) e) (rw (← at) (sound.wrong w c t (λ z. n (s ∙ z))))))

  pub judged_on : (p : ℕ) (cs : List Call) (rs : List Reading) → Reads T p rs → AllSmall cs → p ≡ length (written cs) → take p T ≡ written cs → Verdict T cs rs
  judged_on p cs rs (end _ h) small at e = inl (refl, (l, rw (append-nil cs) small, sym (take_all p T h) ∙ (e ∙ ap written (sym (append-nil cs)))))
  judged_on p cs rs (short _ c) small at e = inr (record { place = p; refusal = FieldCutShort }, [], refl, rw at (sound.field cs FieldCutShort l small (rw (← at) e) (rw (← at) (cut c))))
  judged_on p cs rs (field _ ss w k) small at e =
      one_field p cs ss _ small at e w (decodes (contents_at T p) (bytes_part T (size_at T p) (p + 3) bytes) (tag_at T p))
      (λ c s t xs. let (n, m) = next_place p cs c e w t xs in judged_on (behind T p) (cs ++ c ∷ []) ss k (small_more cs c small s) n m)

-- the whole tape, by what it says
pub judged : (T : List ℕ) (rs : List Reading) → Bytes T → Tape T rs → Verdict T [] rs
judged T rs bytes (inl (l, e)) = rw e (inr (record { place = 0; refusal = TapeTooLong }, [], refl, long l))
judged T rs bytes (inr (l, h)) = judged_on T bytes l 0 [] rs h tt refl refl

module _ (T : List ℕ) (rs : List Reading) (bytes : Bytes T) (h : Tape T rs) where
  sound_calls : length (faults_in rs) ≡ 0 → Sound T (calls_in rs)
  sound_calls n = elim (judged T rs bytes h) [
    | inl (none, is) ↦ is
    | inr (f, gs, is, first) ↦ absurd (omega (arith, n, ap length is))
  ]

  -- the faults, by whether there are any
  judged_faults : (b : Bool) → (length (faults_in rs) == 0) ≡ b → Judged T (faults_in rs) b
  judged_faults true e =
      let n : length (faults_in rs) ≡ 0 = eqb-true (length (faults_in rs)) 0 e in
      (length_none (faults_in rs) n, (calls_in rs, sound_calls n))
  judged_faults false e = elim (judged T rs bytes h) [
    | inl (none, is) ↦ absurd (eqb-false (length (faults_in rs)) 0 e (ap length none))
    | inr (f, gs, is, first) ↦ (f, gs, rs, is, first, h, refl)
  ]

  -- the faults behind xs, by whether the whole is longer than xs
  pub faults_added : (xs ys : List Fault) (m n : ℕ) → ys ≡ xs ++ faults_in rs → m ≡ length ys → n ≡ length xs → FaultsAdded T xs ys (m == n)
  faults_added xs ys m n e p q = (faults_in rs, e, judged_faults (m == n) (same (length (faults_in rs)) m n (omega (arith, p, q, ap length e, length-append xs (faults_in rs)))))
    where
      same : (k m n : ℕ) → m ≡ n + k → (k == 0) ≡ (m == n)
      same k m n h = grind (arith, nat_tests)

placed_faultless : (p : ℕ) (cs : List Call) → faults_in (placed p cs) ≡ []
placed_faultless p [] = refl
placed_faultless p (c ∷ cs) = placed_faultless (p + 3 + length (contents_of c)) cs

calls_placed : (p : ℕ) (cs : List Call) → calls_in (placed p cs) ≡ cs
calls_placed p [] = refl
calls_placed p (c ∷ cs) = ap (λ ds. c ∷ ds) (calls_placed (p + 3 + length (contents_of c)) cs)

-- a tape that says calls and no fault is the one that is written from those calls
pub only_written : OnlyWritten
only_written T cs bytes says = (rw (calls_placed 0 cs) at (sound_calls T (placed 0 cs) bytes says (ap length (placed_faultless 0 cs)))).2

pub sound_faultless : SoundFaultless
sound_faultless T cs rs (l, small, is) h =
    let w : Tape T (placed 0 cs) = rw is (written_reads cs small (rw (← is) l)) in
    ap faults_in (one_reading T rs (placed 0 cs) h w) ∙ placed_faultless 0 cs

pub sound_said : (T : List ℕ) (cs : List Call) (rs : List Reading) → Sound T cs → Tape T rs → calls_in rs ≡ cs
sound_said T cs rs (l, small, is) h =
    let w : Tape T (placed 0 cs) = rw is (written_reads cs small (rw (← is) l)) in
    ap calls_in (one_reading T rs (placed 0 cs) h w) ∙ calls_placed 0 cs

pub written_again : WrittenAgain
written_again = record { accepted = accepted; same = same }
  where
    accepted : (T Z A B : List ℕ) (u v : ℕ) (before after : List Call) (c : Call) (r : Result ⊤ Refusal)
        → Sound T (before ++ c ∷ after) → length T ≤ length Z → Holds Z A u before → Added A u (encoded c) r B v → IsOk r
    accepted T Z A B u v before after c (Ok x) sound fit held added = refl
    accepted T Z A B u v before after c (Err e) sound fit held added = absurd (omega (arith, sound.0, ap length sound.2, length_written_append before (c ∷ after), length-append (encoded c) (written after), held.1, held_length Z A u before held, added.0))

    same : (T Z A : List ℕ) (u : ℕ) (cs : List Call) → Sound T cs → Holds Z A u cs → take u A ≡ T
    same T Z A u cs (l, small, is) (small', at, within, laid) = rw (laid, at) (take-append_seam (written cs) _ ∙ sym is)

pub tape_laws : TapeLaws
tape_laws = record { once = one_reading; written = written_reads; only = only_written; again = written_again; faultless = sound_faultless }
