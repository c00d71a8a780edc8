-- What a reader gives until nothing is left is all that the tape says, and no tape says two things.
use Rattle.std.proofs.Common.{◌≡◌, ℕ, ◌≤◌, List, [], ◌∷◌, length, Some, Ok, Err, refl, sym, ◌∙◌, inl, inr, arith}
use Rattle.std.specs.Iterator.{DrainsIf}
use Rattle.call_tape.specs.declared.faults.Fault.{Fault}
use Rattle.call_tape.specs.declared.fields.Reader.{Reader}
use Rattle.call_tape.specs.declared.fields.Reading.{Reading}
use Rattle.call_tape.specs.Fields.{behind, Opened, Next, Gives}
use Rattle.call_tape.specs.Tapes.{Reads, end, short, field, Tape, OneReading}

nothing_left : (T : List ℕ) (p : ℕ) (ss : List Reading) → length T ≤ p → Reads T p ss → ss ≡ []
nothing_left T p ss l (end _ e) = refl
nothing_left T p ss l (short _ c) = absurd (omega arith)
nothing_left T p ss l (field _ rs w h) = absurd (omega arith)

pub one_more : (T : List ℕ) (q : ℕ) (r : Reading) (q' : ℕ) (ss : List Reading) → Next T q (Some r) q' → Reads T q' ss → Reads T q (r ∷ ss)
one_more T q r q' ss (inl (c, e, b)) h =
    let n : ss ≡ [] = nothing_left T q' ss (omega (arith, b)) h in
    rw (e, n) (short q c)
one_more T q r q' ss (inr (w, e, b)) h = rw e (field q ss w (rw b at h))

pub drained : (r : Reader) (xs : List Reading) → DrainsIf Gives (Unit {0}) r xs → Reads r.tape.now r.place xs
drained r [] (t, same, ends) = rw same (end _ (ends tt).1.1.0)
drained r (x ∷ xs) (t, (s, some, more), ends) = one_more _ _ x s.place xs some.1 (rw some.0 at (drained s xs (t, more, ends)))

reads_once : (T : List ℕ) (p : ℕ) (xs ys : List Reading) → Reads T p xs → Reads T p ys → xs ≡ ys
reads_once T p xs ys (end _ e) h = sym (nothing_left T p ys e h)
reads_once T p xs ys (short _ c) (end _ e) = absurd (omega arith)
reads_once T p xs ys (short _ c) (short _ d) = refl
reads_once T p xs ys (short _ c) (field _ rs w h) = absurd (omega arith)
reads_once T p xs ys (field _ rs w h) (end _ e) = absurd (omega arith)
reads_once T p xs ys (field _ rs w h) (short _ d) = absurd (omega arith)
reads_once T p xs ys (field _ rs w h) (field _ ss v k) = let e = reads_once T (behind T p) rs ss h k in cc

pub one_reading : OneReading
one_reading T xs ys (inl (l, e)) (inl (m, f)) = e ∙ sym f
one_reading T xs ys (inl (l, e)) (inr (m, f)) = absurd (omega arith)
one_reading T xs ys (inr (l, e)) (inl (m, f)) = absurd (omega arith)
one_reading T xs ys (inr (l, e)) (inr (m, f)) = reads_once T 0 xs ys e f

-- the whole tape, by what opening it answers
pub opened_reads : (T : List ℕ) (r : Reader) (rs : List Reading) → Opened T (Ok r) → DrainsIf Gives (Unit {0}) r rs → Tape T rs
opened_reads T r rs (l, e, z) ran = inr (l, rw (e, z) at (drained r rs ran))

pub unopened_reads : (T : List ℕ) (f : Fault) (rs : List Reading) → Opened T (Err f) → rs ≡ (record { place = f.place; outcome = Err f.refusal } ∷ []) → Tape T rs
unopened_reads T f rs (l, e) h = inl (l, rw e at h)
