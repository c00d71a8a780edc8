-- The grants held: one is taken out, one is kept.
use Rattle.std.proofs.Common.{◌≡◌, ℕ, zero, suc, ◌<◌, true, false, cond, Bool, eqb, List, [], ◌∷◌, ◌++◌, length, get_or, take, drop, Some, None, Option, sym, refl, ap, ◌∙◌, subst, ◌⊎◌, inl, inr, ⊎_elim, arith, ◌≤◌, nat_lt, ◌==◌}
use Rattle.std.specs.List.{position, position_or_len, remove}
use Rattle.std.specs.Map.{update}
use Rattle.std.proofs.lemmas.Map.{update_here, update_apart}
use Rattle.std.proofs.lemmas.List.Quantifiers.{position-Some}
use Rattle.std.proofs.lemmas.List.Sums.{fails_before_first}
use Rattle.std.proofs.lemmas.Bool.{cases_eq, eq-eqb, ne_eqb, eqb-true, ltb-false, false≢true}
use Rattle.std.proofs.lemmas.Option.{none-some}
use Rattle.map.specs.Sets.{member, Distinct}
use Rattle.map.proofs.Lists.{not_in, in_head, in_tail, in_right, distinct_last}
use Rattle.rules.proofs.Places.{updated}
use Rattle.service.specs.declared.grant.Grant.{Grant}
use Rattle.player.specs.Hands.{block_at, without, numbers, Holds, Taken}

module _ (n : ℕ) where
  is_for : Grant → Bool
  is_for g = g.number == n

  none_at : (gs : List Grant) → ((k : ℕ) (d : Grant) → k < length gs → ((get_or gs k d).number == n) ≡ false) → block_at gs n ≡ None
  none_at [] f = refl
  none_at (g ∷ gs) f =
      ap (λ b. cond b (Some g.block) (block_at gs n)) (f 0 g (omega arith)) ∙ none_at gs (λ k d l. f (suc k) d (omega arith))

  some_at : (gs : List Grant) (i : ℕ) (d : Grant) → i < length gs → ((get_or gs i d).number == n) ≡ true → ((k : ℕ) → k < i → ((get_or gs k d).number == n) ≡ false)
      → (block_at gs n ≡ Some (get_or gs i d).block) × (take i gs ++ drop (suc i) gs ≡ without gs n)
  some_at [] i d l e f = absurd (omega arith)
  some_at (g ∷ gs) zero d l e f = (
    ap (λ b. cond b (Some g.block) (block_at gs n)) e,
    sym (ap (λ b. cond b gs (g ∷ without gs n)) e),
  )
  some_at (g ∷ gs) (suc i) d l e f =
      let not_first : (g.number == n) ≡ false = f 0 (omega arith) in
      let rest = some_at gs i d (omega arith) e (λ k h. f (suc k) (omega arith)) in (
        ap (λ b. cond b (Some g.block) (block_at gs n)) not_first ∙ rest.0,
        ap (λ xs. g ∷ xs) rest.1 ∙ sym (ap (λ b. cond b gs (g ∷ without gs n)) not_first),
      )

  pub taken : (gs : List Grant) (i : ℕ) (g : Grant) → Some i ≡ position (λ x. x.number == n) gs → g ≡ get_or gs i g → (gs' : List Grant) → gs' ≡ remove gs i → Taken gs n (Some g) gs'
  taken gs i g at is gs' rest =
      let first = position-Some (λ (x : Grant). x.number == n) gs i g (sym at) in
      let both = some_at gs i g first.0 first.1 first.2 in (
        eqb-true g.number n (ap (λ (x : Grant). x.number == n) is ∙ first.1),
        both.0 ∙ ap (λ (x : Grant). Some x.block) (sym is),
        rest ∙ both.1,
      )

  pub untaken : (gs gs' : List Grant) → None ≡ position (λ x. x.number == n) gs → gs' ≡ gs → Taken gs n None gs'
  untaken gs gs' at same = (none_at gs (λ k d l. fails_before_first (λ (x : Grant). x.number == n) gs k d (past k l)), same)
    where
      len : ℕ
      len = position_or_len (λ (x : Grant). x.number == n) gs

      go : (b : Bool) → nat_lt len (length gs) ≡ b → None ≡ cond b (Some len) None → length gs ≤ len
      go true e z = absurd (none-some len z)
      go false e z = omega (arith, ltb-false len (length gs) e)

      past : (k : ℕ) → k < length gs → k < len
      past k l = let enough : length gs ≤ len = go (nat_lt len (length gs)) refl at in omega arith

-- ---- what the grants then are

in_hand : (gs : List Grant) (n : ℕ) → member n (numbers gs) ≡ true → block_at gs n ≡ None → ⊥
in_hand [] n i none = false≢true i
in_hand (g ∷ gs) n i none = go (in_hand gs n) (cases_eq g.number n)
  where
    go : (member n (numbers gs) ≡ true → block_at gs n ≡ None → ⊥) → (g.number ≡ n) ⊎ (g.number ≡ n → ⊥) → ⊥
    go more (inl e) = none-some g.block (sym none ∙ ap (λ b. cond b (Some g.block) (block_at gs n)) (eq-eqb g.number n e))
    go more (inr ne) =
        more
        (sym (ap (λ b. cond b true (member n (numbers gs))) (ne_eqb n g.number (λ e. ne (sym e)))) ∙ i)
        (sym (ap (λ b. cond b (Some g.block) (block_at gs n)) (ne_eqb g.number n ne)) ∙ none)

-- the others of a list
skipped : (g : Grant) (gs : List Grant) (m : ℕ) → (g.number ≡ m → ⊥) → block_at (g ∷ gs) m ≡ block_at gs m
skipped g gs m ne = ap (λ b. cond b (Some g.block) (block_at gs m)) (ne_eqb g.number m ne)

first_at : (g : Grant) (gs : List Grant) (m : ℕ) → g.number ≡ m → block_at (g ∷ gs) m ≡ Some g.block
first_at g gs m e = ap (λ b. cond b (Some g.block) (block_at gs m)) (eq-eqb g.number m e)

-- a grant kept is found at its number, and no other changes
kept_here : (gs : List Grant) (g : Grant) → block_at gs g.number ≡ None → block_at (gs ++ g ∷ []) g.number ≡ Some g.block
kept_here [] g none = first_at g [] g.number refl
kept_here (x ∷ xs) g none = go (kept_here xs g) (cases_eq x.number g.number)
  where
    go : (block_at xs g.number ≡ None → block_at (xs ++ g ∷ []) g.number ≡ Some g.block) → (x.number ≡ g.number) ⊎ (x.number ≡ g.number → ⊥) → block_at (x ∷ (xs ++ g ∷ [])) g.number ≡ Some g.block
    go more (inl e) = absurd (none-some x.block (sym none ∙ first_at x xs g.number e))
    go more (inr ne) = skipped x (xs ++ g ∷ []) g.number ne ∙ more (sym (skipped x xs g.number ne) ∙ none)

kept_apart : (gs : List Grant) (g : Grant) (m : ℕ) → (m ≡ g.number → ⊥) → block_at (gs ++ g ∷ []) m ≡ block_at gs m
kept_apart [] g m ne = skipped g [] m (λ e. ne (sym e))
kept_apart (x ∷ xs) g m ne = go (kept_apart xs g m ne) (cases_eq x.number m)
  where
    go : block_at (xs ++ g ∷ []) m ≡ block_at xs m → (x.number ≡ m) ⊎ (x.number ≡ m → ⊥) → block_at (x ∷ (xs ++ g ∷ [])) m ≡ block_at (x ∷ xs) m
    go more (inl e) = first_at x (xs ++ g ∷ []) m e ∙ sym (first_at x xs m e)
    go more (inr out) = skipped x (xs ++ g ∷ []) m out ∙ more ∙ sym (skipped x xs m out)

numbers_last : (gs : List Grant) (g : Grant) → numbers (gs ++ g ∷ []) ≡ numbers gs ++ g.number ∷ []
numbers_last [] g = refl
numbers_last (x ∷ xs) g = ap (λ ys. x.number ∷ ys) (numbers_last xs g)

pub holds_kept : (f : ℕ → Option ℕ) (gs : List Grant) (g : Grant) → Holds f gs → f g.number ≡ None → Holds (update eqb f g.number (Some g.block)) (gs ++ g ∷ [])
holds_kept f gs g h free =
    let none : block_at gs g.number ≡ None = h.all g.number ∙ free in
    record {
      apart = subst Distinct (sym (numbers_last gs g)) (distinct_last (numbers gs) g.number h.apart (λ i. in_hand gs g.number i none));
      all = λ m. ⊎_elim
          (λ u. ap (block_at (gs ++ g ∷ [])) u.0 ∙ kept_here gs g none ∙ sym u.1)
          (λ u. kept_apart gs g m u.0 ∙ h.all m ∙ sym u.1)
          (updated f g.number (Some g.block) m);
    }

-- a grant taken out leaves the others
without_in : (gs : List Grant) (n x : ℕ) → member x (numbers (without gs n)) ≡ true → member x (numbers gs) ≡ true
without_in [] n x i = i
without_in (g ∷ gs) n x i = go (without_in gs n x) (cases_eq g.number n)
  where
    out : (g.number ≡ n → ⊥) → without (g ∷ gs) n ≡ g ∷ without gs n
    out ne = ap (λ b. cond b gs (g ∷ without gs n)) (ne_eqb g.number n ne)

    here : g.number ≡ n → without (g ∷ gs) n ≡ gs
    here e = ap (λ b. cond b gs (g ∷ without gs n)) (eq-eqb g.number n e)

    at : (member x (numbers (without gs n)) ≡ true → member x (numbers gs) ≡ true) → (x ≡ g.number) ⊎ (x ≡ g.number → ⊥) → member x (numbers (g ∷ without gs n)) ≡ true → member x (numbers (g ∷ gs)) ≡ true
    at more (inl e) j = ap (λ b. cond b true (member x (numbers gs))) (eq-eqb x g.number e)
    at more (inr ne) j =
        ap (λ b. cond b true (member x (numbers gs))) (ne_eqb x g.number ne)
        ∙ more (sym (ap (λ b. cond b true (member x (numbers (without gs n)))) (ne_eqb x g.number ne)) ∙ j)

    go : (member x (numbers (without gs n)) ≡ true → member x (numbers gs) ≡ true) → (g.number ≡ n) ⊎ (g.number ≡ n → ⊥) → member x (numbers (g ∷ gs)) ≡ true
    go more (inl e) = in_tail x g.number (numbers gs) (ap (λ ys. member x (numbers ys)) (sym (here e)) ∙ i)
    go more (inr ne) = at more (cases_eq x g.number) (ap (λ ys. member x (numbers ys)) (sym (out ne)) ∙ i)

distinct_without : (gs : List Grant) (n : ℕ) → Distinct (numbers gs) → Distinct (numbers (without gs n))
distinct_without [] n d = d
distinct_without (g ∷ gs) n d = go (distinct_without gs n d.1) (cases_eq g.number n)
  where
    go : Distinct (numbers (without gs n)) → (g.number ≡ n) ⊎ (g.number ≡ n → ⊥) → Distinct (numbers (without (g ∷ gs) n))
    go more (inl e) = subst (λ ys. Distinct (numbers ys)) (sym (ap (λ b. cond b gs (g ∷ without gs n)) (eq-eqb g.number n e))) d.1
    go more (inr ne) =
        subst (λ ys. Distinct (numbers ys)) (sym (ap (λ b. cond b gs (g ∷ without gs n)) (ne_eqb g.number n ne)))
        ((not_in g.number (numbers (without gs n))).0 (λ i. (not_in g.number (numbers gs)).1 d.0 (without_in gs n g.number i)), more)

none_of_others : (gs : List Grant) (n : ℕ) → (member n (numbers gs) ≡ true → ⊥) → block_at gs n ≡ None
none_of_others [] n no' = refl
none_of_others (g ∷ gs) n no' =
    let ne : g.number ≡ n → ⊥ = λ e. no' (ap (λ b. cond b true (member n (numbers gs))) (eq-eqb n g.number (sym e))) in
    skipped g gs n ne ∙ none_of_others gs n (λ i. no' (in_tail n g.number (numbers gs) i))

without_at : (gs : List Grant) (n : ℕ) → Distinct (numbers gs) → (m : ℕ) → block_at (without gs n) m ≡ update eqb (block_at gs) n None m
without_at [] n d m = ⊎_elim (λ u. sym u.1) (λ u. sym u.1) (updated (block_at []) n None m)
without_at (g ∷ gs) n d m = go (without_at gs n d.1 m) (cases_eq g.number n) (updated (block_at (g ∷ gs)) n None m)
  where
    here : g.number ≡ n → block_at (without (g ∷ gs) n) m ≡ block_at gs m
    here e = ap (λ ys. block_at ys m) (ap (λ b. cond b gs (g ∷ without gs n)) (eq-eqb g.number n e))

    out : (g.number ≡ n → ⊥) → block_at (without (g ∷ gs) n) m ≡ block_at (g ∷ without gs n) m
    out ne = ap (λ ys. block_at ys m) (ap (λ b. cond b gs (g ∷ without gs n)) (ne_eqb g.number n ne))

    rest : block_at (without gs n) m ≡ update eqb (block_at gs) n None m → (g.number ≡ m) ⊎ (g.number ≡ m → ⊥) → (m ≡ n → ⊥) → block_at (g ∷ without gs n) m ≡ block_at (g ∷ gs) m
    rest more (inl e) ne = first_at g (without gs n) m e ∙ sym (first_at g gs m e)
    rest more (inr no') ne = skipped g (without gs n) m no' ∙ more ∙ update_apart (block_at gs) n None m ne ∙ sym (skipped g gs m no')

    go : block_at (without gs n) m ≡ update eqb (block_at gs) n None m → (g.number ≡ n) ⊎ (g.number ≡ n → ⊥) → ((m ≡ n) × (update eqb (block_at (g ∷ gs)) n None m ≡ None)) ⊎ ((m ≡ n → ⊥) × (update eqb (block_at (g ∷ gs)) n None m ≡ block_at (g ∷ gs) m)) → block_at (without (g ∷ gs) n) m ≡ update eqb (block_at (g ∷ gs)) n None m
    go more (inl e) (inl u) = here e ∙ none_of_others gs m (λ i. (not_in g.number (numbers gs)).1 d.0 (subst (λ z. member z (numbers gs) ≡ true) (u.0 ∙ sym e) i)) ∙ sym u.1
    go more (inl e) (inr u) = here e ∙ sym (skipped g gs m (λ q. u.0 (sym q ∙ e))) ∙ sym u.1
    go more (inr ne) (inl u) =
        out ne ∙ skipped g (without gs n) m (λ q. ne (q ∙ u.0)) ∙ more ∙ ap (update eqb (block_at gs) n None) u.0 ∙ update_here (block_at gs) n None ∙ sym u.1
    go more (inr ne) (inr u) = out ne ∙ rest more (cases_eq g.number m) u.0 ∙ sym u.1

pub holds_without : (f : ℕ → Option ℕ) (gs : List Grant) (n : ℕ) → Holds f gs → Holds (update eqb f n None) (without gs n)
holds_without f gs n h = record {
  apart = distinct_without gs n h.apart;
  all = λ m. without_at gs n h.apart m ∙ ⊎_elim
      (λ u. ap (update eqb (block_at gs) n None) u.0 ∙ update_here (block_at gs) n None ∙ sym u.1)
      (λ u. update_apart (block_at gs) n None m u.0 ∙ h.all m ∙ sym u.1)
      (updated f n None m);
}

-- ---- the newest grant

last_at : (gs : List Grant) (g : Grant) → Distinct (numbers (gs ++ g ∷ [])) → block_at gs g.number ≡ None
last_at [] g d = refl
last_at (x ∷ xs) g d =
    skipped x xs g.number (λ e. (not_in x.number (numbers (xs ++ g ∷ []))).1 d.0
    (subst (λ ys. member x.number ys ≡ true) (sym (numbers_last xs g)) (subst (λ n. member n (numbers xs ++ g.number ∷ []) ≡ true) (sym e) (in_right g.number (numbers xs) (g.number ∷ []) (in_head g.number [])))))
    ∙ last_at xs g d.1

without_last : (gs : List Grant) (g : Grant) → block_at gs g.number ≡ None → without (gs ++ g ∷ []) g.number ≡ gs
without_last [] g none = ap (λ b. cond b [] (g ∷ [])) (eq-eqb g.number g.number refl)
without_last (x ∷ xs) g none = go (without_last xs g) (cases_eq x.number g.number)
  where
    go : (block_at xs g.number ≡ None → without (xs ++ g ∷ []) g.number ≡ xs) → (x.number ≡ g.number) ⊎ (x.number ≡ g.number → ⊥) → without (x ∷ (xs ++ g ∷ [])) g.number ≡ x ∷ xs
    go more (inl e) = absurd (none-some x.block (sym none ∙ first_at x xs g.number e))
    go more (inr ne) =
        ap (λ b. cond b (xs ++ g ∷ []) (x ∷ without (xs ++ g ∷ []) g.number)) (ne_eqb x.number g.number ne)
        ∙ ap (λ ys. x ∷ ys) (more (sym (skipped x xs g.number ne) ∙ none))

pub newest : (gs rest : List Grant) (g : Grant) (f : ℕ → Option ℕ) → gs ≡ rest ++ g ∷ [] → Holds f gs → (block_at gs g.number ≡ Some g.block) × (without gs g.number ≡ rest)
newest gs rest g f is h =
    let none = last_at rest g (subst (λ xs. Distinct (numbers xs)) is h.apart) in (
      ap (λ xs. block_at xs g.number) is ∙ kept_here rest g none,
      ap (λ xs. without xs g.number) is ∙ without_last rest g none,
    )
