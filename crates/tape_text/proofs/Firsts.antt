-- The first words of a line, kept one by one.
use Rattle.std.proofs.Common.{◌≡◌, ℕ, ◌+◌, ◌<◌, ◌≤◌, suc, Bool, true, false, min, not, ◌==◌, List, [], ◌∷◌, ◌++◌, length, take, set, filter, Bor, refl, sym, ap, ◌∙◌, arith, append-nil, length-append, length-take}
use Rattle.std.proofs.lemmas.List.{take_all, map-append, take-append-le, length-map, length-take-le, length-set}
use Rattle.std.proofs.lemmas.List.Elements.{filter-append}
use lib.Seq.{take-suc-set}
use Rattle.tape_text.specs.Numbers.{texts}

abbrev Piece : Type 0
Piece = Bor (List ℕ)

abbrev full : List ℕ → Bool
full w = not (length w == 0)

-- of the pieces that came, the words, and the first seven of them that are kept
abbrev pub Kept : List Piece → ℕ → List Piece → Type 0
Kept ws n came = (n ≤ 7) × (length ws ≡ 7) × (texts (take n ws) ≡ take 7 (filter full (texts came)))

module _ (ws came : List Piece) (n : ℕ) (w : Piece) (h : Kept ws n came) where
  one_piece : filter full (texts (came ++ w ∷ [])) ≡ filter full (texts came) ++ filter full (w.now ∷ [])
  one_piece = ap (filter full) (map-append (λ (p : Piece). p.now) came (w ∷ [])) ∙ filter-append full (texts came) (w.now ∷ [])

  how_many : n ≡ min 7 (length (filter full (texts came)))
  how_many = sym (length-map (take n ws) (λ (p : Piece). p.now) ∙ length-take-le n ws (omega (arith, h.0, h.1))) ∙ (ap length h.2 ∙ length-take 7 (filter full (texts came)))

  pub kept_none : full w.now ≡ false → Kept ws n (came ++ w ∷ [])
  kept_none e = (h.0, h.1, h.2 ∙ ap (take 7) (sym (one_piece ∙ rw e (append-nil (filter full (texts came))))))

  pub kept_seven : (n < 7 → ⊥) → Kept ws n (came ++ w ∷ [])
  kept_seven e = (h.0, h.1, h.2 ∙ (sym (take-append-le 7 (filter full (texts came)) (filter full (w.now ∷ [])) (omega (arith, h.0, how_many))) ∙ ap (take 7) (sym one_piece)))

  pub kept_more : full w.now ≡ true → n < 7 → Kept (set ws n w) (n + 1) (came ++ w ∷ [])
  kept_more e l =
      let F = filter full (texts came) in
      let few : length F ≡ n = omega (arith, how_many) in
      let last : filter full (w.now ∷ []) ≡ w.now ∷ [] = rw e refl in
      let long : length (F ++ w.now ∷ []) ≤ 7 = omega (arith, few, length-append F (w.now ∷ [])) in
      let kept : texts (take (n + 1) (set ws n w)) ≡ texts (take n ws) ++ w.now ∷ [] = rw (next n) (ap texts (take-suc-set ws n w (omega (arith, h.1))) ∙ map-append (λ (p : Piece). p.now) (take n ws) (w ∷ [])) in
      let said : texts (take n ws) ≡ F = h.2 ∙ take_all 7 F (omega (arith, few)) in
      (omega (arith, l), length-set ws n w ∙ h.1, kept ∙ (ap (λ z. z ++ w.now ∷ []) said ∙ sym (ap (take 7) (one_piece ∙ ap (λ z. F ++ z) last) ∙ take_all 7 (F ++ w.now ∷ []) long)))
    where
      next : (i : ℕ) → i + 1 ≡ suc i
      next i = omega arith
