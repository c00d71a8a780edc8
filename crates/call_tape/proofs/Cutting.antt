-- A field of a tape of bytes, cut out of it.
use Rattle.std.proofs.Common.{◌≡◌, ℕ, ◌+◌, ◌*◌, ◌/◌, ◌%◌, ◌<◌, List, ◌∷◌, ◌++◌, get_or, take, drop, sym, ap, ◌∙◌, arith, take-append-drop}
use Rattle.std.proofs.lemmas.List.{get_or-take, get_or-drop, get_or_past, drop_more, drop-drop}
use Rattle.std.proofs.lemmas.Grind.{common_steps}
use Rattle.call_tape.specs.Fields.{tag_at, size_at, contents_at, behind, Whole}

abbrev pub Bytes : List ℕ → Type 0
Bytes T = (j : ℕ) → get_or T j 0 < 256

pub bytes_part : (T : List ℕ) (n i : ℕ) → Bytes T → Bytes (take n (drop i T))
bytes_part T n i h j = grind (arith, common_steps, get_or-take, get_or_past, get_or-drop)

-- the field at p, and what stands behind it
pub cut_up : (T : List ℕ) (p : ℕ) → Whole T p
    → drop p T ≡ tag_at T p ∷ get_or T (p + 1) 0 ∷ get_or T (p + 2) 0 ∷ (contents_at T p ++ drop (behind T p) T)
cut_up T p w =
    let a = drop_more T p 0 (omega arith) in
    let b : drop (p + 1) T ≡ get_or T (p + 1) 0 ∷ drop (p + 2) T = rw (drop_more T (p + 1) 0 (omega arith)) (ap (λ k. get_or T (p + 1) 0 ∷ drop k T) (omega arith)) in
    let c : drop (p + 2) T ≡ get_or T (p + 2) 0 ∷ drop (p + 3) T = rw (drop_more T (p + 2) 0 (omega arith)) (ap (λ k. get_or T (p + 2) 0 ∷ drop k T) (omega arith)) in
    let d : drop (p + 3) T ≡ contents_at T p ++ drop (behind T p) T = sym (take-append-drop (size_at T p) (drop (p + 3) T)) ∙ ap (λ z. contents_at T p ++ z) (drop-drop (size_at T p) (p + 3) T) in
    cc

pub digits : (a b n : ℕ) → a < 256 → b < 256 → a * 256 + b ≡ n → (a ≡ (n / 256) % 256) × (b ≡ n % 256)
digits a b n ha hb e = (omega arith, omega arith)
