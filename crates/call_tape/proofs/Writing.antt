-- A call that is added stands behind the calls that a tape held.
use Rattle.std.proofs.Common.{◌≡◌, ℕ, ◌+◌, List, [], ◌∷◌, ◌++◌, length, take, drop, Ok, Err, Result, sym, ap, ◌∙◌, append_assoc, arith, append-nil, length-append, length-drop}
use Rattle.std.specs.Bool.{⊤}
use Rattle.std.proofs.lemmas.Slice.{drop-append-drop}
use lib.Seq.{take-append_seam}
use Rattle.refusal.specs.declared.Refusal.{Refusal}
use Rattle.call_tape.specs.declared.calls.Call.{Call}
use Rattle.call_tape.specs.Calls.{Small}
use Rattle.call_tape.specs.Tapes.{Tape}
use Rattle.call_tape.specs.Written.{encoded, written, AllSmall, placed}
use Rattle.call_tape.specs.Writing.{Added, Holds, with_added}
use Rattle.call_tape.proofs.Written.{written_reads}

pub written_more : (cs : List Call) (c : Call) → written (cs ++ c ∷ []) ≡ written cs ++ encoded c
written_more [] c = append-nil (encoded c)
written_more (d ∷ cs) c = ap (λ z. encoded d ++ z) (written_more cs c) ∙ sym (append_assoc (encoded d) (written cs) (encoded c))

pub length_written_append : (cs ds : List Call) → length (written (cs ++ ds)) ≡ length (written cs) + length (written ds)
length_written_append [] ds = omega arith
length_written_append (c ∷ cs) ds = simp length-append (omega (arith, length_written_append cs ds))

pub small_more : (cs : List Call) (c : Call) → AllSmall cs → Small c → AllSmall (cs ++ c ∷ [])
small_more [] c h s = (s, tt)
small_more (d ∷ cs) c h s = (h.0, small_more cs c h.1 s)

-- a tape at its start leaves an area as long as it was
pub held_length : (Z A : List ℕ) (u : ℕ) (cs : List Call) → Holds Z A u cs → length A ≡ length Z
held_length Z A u cs (small, at, within, is) = ap length is ∙ (length-append (written cs) (drop u Z) ∙ omega (arith, at, length-drop u Z))

pub holds_on : (Z A B : List ℕ) (u v : ℕ) (cs : List Call) (c : Call) (r : Result ⊤ Refusal) → Added A u (encoded c) r B v → Small c → Holds Z A u cs → Holds Z B v (with_added cs c r)
holds_on Z A B u v cs c (Err e) (full, is, same, count) s h = rw (same, count) h
holds_on Z A B u v cs c (Ok x) (fits, count, bytes) s (small, at, within, is) =
    let n = held_length Z A u cs (small, at, within, is) in
    let front : take u A ≡ written cs = rw (is, at) (take-append_seam (written cs) _) in
    let rest : drop v A ≡ drop v Z = ap (drop v) is ∙ drop-append-drop u Z (written cs) v (omega (arith, count)) (sym at) in
    let l : length (written (cs ++ c ∷ [])) ≡ length (written cs) + length (encoded c) = ap length (written_more cs c) ∙ length-append (written cs) (encoded c) in (
      small_more cs c small s,
      omega (arith, count, at, l),
      rw n at (rw (← count) at fits),
      bytes ∙ ((λ i. front i ++ (encoded c ++ rest i)) ∙ (sym (append_assoc (written cs) (encoded c) (drop v Z)) ∙ ap (λ z. z ++ drop v Z) (sym (written_more cs c)))),
    )

pub holds_says : (Z A T : List ℕ) (u : ℕ) (cs : List Call) → T ≡ take u A → Holds Z A u cs → (T ≡ written cs) × Tape T (placed 0 cs)
holds_says Z A T u cs e (small, at, within, is) =
    let front : take u A ≡ written cs = rw (is, at) (take-append_seam (written cs) _) in
    (e ∙ front, rw (e ∙ front) (written_reads cs small (omega (arith, at))))
