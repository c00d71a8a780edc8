-- A text that is taken line by line.
use Rattle.std.proofs.Common.{◌≡◌, ℕ, ◌+◌, ◌<◌, List, [], ◌∷◌, ◌++◌, length, take, drop, get_or, map, Bor, Result, Ok, Err, IsErrAnd, refl, sym, ap, inl, inr, arith, ◌∙◌}
use Rattle.std.specs.Str.{IsUtf8}
use Rattle.std.specs.Str.Lines.{lines}
use Rattle.std.specs.List.{enumerate_from}
use Rattle.std.proofs.lemmas.List.{map-append, length-map}
use Rattle.std.proofs.lemmas.Result.{err_from_is_err_and}
use Rattle.call_tape.specs.declared.calls.Call.{Call}
use Rattle.call_tape.specs.Written.{written}
use Rattle.call_tape.specs.Writing.{Holds}
use Rattle.tape_text.specs.declared.complaints.LineFault.{LineFault}
use Rattle.tape_text.specs.Lines.{LinesSay}
use Rattle.tape_text.specs.Taken.{LineAdded, Taped}
use Rattle.tape_text.proofs.Sayings.{one_blank_more, one_call_more}

-- a numbered line, and its text
abbrev pub Numbered : Type 0
Numbered = ℕ × Bor (List ℕ)

abbrev pub shown : Numbered → ℕ × List ℕ
shown p = (p.0, p.1.now)

abbrev pub texts_in : List Numbered → List (List ℕ)
texts_in ps = map (λ p. p.1.now) ps

-- the line behind those that were numbered from k on
pub line_behind_those : (k : ℕ) (ls : List (List ℕ)) (ps : List Numbered) (x : Numbered) → map shown ps ≡ take (length ps) (enumerate_from k ls) → length ps < length (enumerate_from k ls) → shown x ≡ get_or (enumerate_from k ls) (length ps) (shown x)
    → (after : List (List ℕ)) × (ls ≡ texts_in ps ++ x.1.now ∷ after) × (x.0 ≡ k + length ps)
line_behind_those k [] ps x e h t = absurd (omega arith)
line_behind_those k (l ∷ ls) [] x e h t = (ls, ap (λ z. z ∷ ls) (sym (ap (λ (p : ℕ × List ℕ). p.1) t)), omega (arith, ap (λ (p : ℕ × List ℕ). p.0) t))
line_behind_those k (l ∷ ls) (p ∷ ps) x e h t =
    let first : shown p ≡ (k, l) = cc in
    let same : p.1.now ≡ l = ap (λ (q : ℕ × List ℕ). q.1) first in
    let more : map shown ps ≡ take (length ps) (enumerate_from (k + 1) ls) = cc in
    let below : length ps < length (enumerate_from (k + 1) ls) = omega arith in
    let r = line_behind_those (k + 1) ls ps x more below t in
    (r.0, cc r.1, omega (arith, r.2))

pub all_texts : (k : ℕ) (ls : List (List ℕ)) (ps : List Numbered) → map shown ps ≡ enumerate_from k ls → texts_in ps ≡ ls
all_texts k [] [] e = refl
all_texts k [] (p ∷ ps) e = absurd cc
all_texts k (l ∷ ls) [] e = absurd cc
all_texts k (l ∷ ls) (p ∷ ps) e =
    let first : shown p ≡ (k, l) = cc in
    let same : p.1.now ≡ l = ap (λ (q : ℕ × List ℕ). q.1) first in
    let r = all_texts (k + 1) ls ps cc in
    cc

-- what is said so far, and by one line more
abbrev pub SaidSoFar : List Numbered → List ℕ → List ℕ → ℕ → Type 0
SaidSoFar ps Z A u = (cs : List Call) × LinesSay (texts_in ps) cs × Holds Z A u cs

pub one_more : (ps : List Numbered) (x : Numbered) (i : ℕ) (Z A B : List ℕ) (u v : ℕ) → (h : SaidSoFar ps Z A u) → LineAdded x.1.now i Z h.0 (Ok tt) B v → SaidSoFar (ps ++ x ∷ []) Z B v
one_more ps x i Z A B u v (cs, say, hold) (inl (w, k)) = (cs, rw (map-append (λ (p : Numbered). p.1.now) ps (x ∷ [])) (one_blank_more (texts_in ps) cs x.1.now say w), k)
one_more ps x i Z A B u v (cs, say, hold) (inr (c, w, k)) = (cs ++ c ∷ [], rw (map-append (λ (p : Numbered). p.1.now) ps (x ∷ [])) (one_call_more (texts_in ps) cs x.1.now c say w), k)

-- what the exit of a `?` returns
pub taped_exit : (text A B : List ℕ) (r : Result ℕ LineFault) (f : LineFault) → IsErrAnd r (λ y. y ≡ f) → Taped text A (Err f) B → Taped text A r B
taped_exit text A B r f h k = let p = err_from_is_err_and r h in rw (p.1, p.2) k

held_whole : (Z B : List ℕ) (u : ℕ) (cs : List Call) → Holds Z B u cs → Holds Z B (length (written cs)) cs
held_whole Z B u cs hold = rw hold.1 at hold

-- the line that is not added
pub barred_line : (text : List ℕ) (ps : List Numbered) (x : Numbered) (Z A B : List ℕ) (u v : ℕ) (f : LineFault) → IsUtf8 text → (h : SaidSoFar ps Z A u)
    → (after : List (List ℕ)) × (lines text ≡ texts_in ps ++ x.1.now ∷ after) × (x.0 ≡ 0 + length ps) → LineAdded x.1.now (x.0 + 1) Z h.0 (Err f) B v → Taped text Z (Err f) B
barred_line text ps x Z A B u v f t (cs, say, hold) (after, is, at) (number, barred, held) =
    inr (t, (texts_in ps, x.1.now, after, cs, is, simp length-map (omega arith), say, held_whole Z B v cs held, barred))

-- every line is added
pub whole_text : (text : List ℕ) (ps : List Numbered) (Z A : List ℕ) (u n : ℕ) → IsUtf8 text → SaidSoFar ps Z A u
    → map shown ps ≡ enumerate_from 0 (lines text) → n ≡ u → Taped text Z (Ok n) A
whole_text text ps Z A u n t (cs, say, hold) seen is = record { utf8 = t; calls = cs; say = rw (← all_texts 0 (lines text) ps seen) say; holds = rw is hold }

-- the area that a new writer is over is the one that was lent, and what it is in the end
pub fresh : (Z A : List ℕ) (u : ℕ) → Holds Z A u [] → A ≡ Z
fresh Z A u h = h.3 ∙ ap (λ k. drop k Z) h.1

pub left_as : (text Z Y A B : List ℕ) (r : Result ℕ LineFault) → Y ≡ Z → B ≡ A → Taped text Y r A → Taped text Z r B
left_as text Z Y A B r y b h = rw (← y, b) h
