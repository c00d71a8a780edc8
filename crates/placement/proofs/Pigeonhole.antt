-- Where each place is given to at most four numbers, a list of numbers is at most four times as long as the list of their places.
use Rattle.std.proofs.Common.{◌≡◌, ℕ, zero, suc, ◌*◌, ◌<◌, ◌≤◌, Bool, true, false, cond, not, ◌&&◌, eqb, List, [], ◌∷◌, length, filter, refl, ap, inl, inr, ⊎_elim, arith}
use Rattle.std.proofs.lemmas.List.Filters.{length-filter_both}
use Rattle.std.proofs.lemmas.Bool.Decides.{nat_tests}
use Rattle.std.proofs.lemmas.Bool.{and_from, cases_eq, cond_both, eqb-false, not-true}
use Rattle.map.specs.Sets.{AtMost, Distinct, ◌∈◌}
use Rattle.map.proofs.Lists.{clash, distinct_short, in_cons, not_in, skip}

-- ---- what a filter keeps

module _ (p : ℕ → Bool) where
  -- one number more in front
  kept : (y x : ℕ) (ks xs : List ℕ) → (x ∈ ks → (x ∈ xs) × (p x ≡ true)) → x ∈ cond (p y) (y ∷ ks) ks → (x ∈ y ∷ xs) × (p x ≡ true)
  kept y x ks xs on h = grind (arith, nat_tests)

  in_kept : (xs : List ℕ) (x : ℕ) → x ∈ filter p xs → (x ∈ xs) × (p x ≡ true)
  in_kept [] x h = clash false refl h
  in_kept (y ∷ xs) x h = kept y x (filter p xs) xs (in_kept xs x) h

  distinct_kept : (xs : List ℕ) → Distinct xs → Distinct (filter p xs)
  distinct_kept [] d = tt
  distinct_kept (x ∷ xs) d =
      cond_both (p x) (x ∷ filter p xs) (filter p xs) Distinct
      (λ _. ((not_in x (filter p xs)).0 (λ i. (not_in x xs).1 d.0 (in_kept xs x i).0), distinct_kept xs d.1))
      (λ _. distinct_kept xs d.1)

-- ---- four for each place

pub four_each : (given : ℕ → ℕ) (s : ℕ → Bool) (xs ys : List ℕ) → ((i : ℕ) → AtMost 4 (λ n. s n && eqb (given n) i)) → Distinct ys
    → ((y : ℕ) → y ∈ ys → s y ≡ true) → ((y : ℕ) → y ∈ ys → given y ∈ xs) → length ys ≤ 4 * length xs
four_each given s [] ys four d inside listed = distinct_short ys [] d listed
four_each given s (x ∷ xs) ys four d inside listed =
    let here : ℕ → Bool = λ y. eqb (given y) x in
    let there : ℕ → Bool = λ y. not (here y) in
    let all = length-filter_both here there (λ _. refl) ys in
    let few = (four x).short in
    let some : length (filter here ys) ≤ length (four x).list = distinct_short (filter here ys) (four x).list (distinct_kept here ys d)
    (λ y i. let r = in_kept here ys y i in (four x).covers y (and_from (s y) (here y) (inside y r.0) r.1)) in
    let rest : length (filter there ys) ≤ 4 * length xs = four_each given s xs (filter there ys) four (distinct_kept there ys d)
    (λ y i. inside y (in_kept there ys y i).0)
    (λ y i. let r = in_kept there ys y i in skip (given y) x xs (eqb-false (given y) x (not-true (here y) r.1)) (listed y r.0)) in
    omega arith

-- ---- the values of a function at the numbers below c

module _ (f : ℕ → ℕ) where
  abbrev pub values : ℕ → List ℕ
  values zero = []
  values (suc c) = f c ∷ values c

  pub length_values : (c : ℕ) → length (values c) ≡ c
  length_values zero = refl
  length_values (suc c) = ap suc (length_values c)

  pub in_values : (c x : ℕ) → x < c → f x ∈ values c
  in_values zero x l = absurd (omega arith)
  in_values (suc c) x l = (in_cons (f x) (f c) (values c)).1 (⊎_elim (λ e. inl (ap f e)) (λ ne. inr (in_values c x (omega arith))) (cases_eq x c))

  pub of_values : (c y : ℕ) → y ∈ values c → (x : ℕ) × (x < c) × (y ≡ f x)
  of_values zero y h = clash false refl h
  of_values (suc c) y h =
      ⊎_elim
      (λ e. (c, omega arith, e))
      (λ i. let r = of_values c y i in let l = r.1 in (r.0, omega arith, r.2))
      ((in_cons y (f c) (values c)).0 h)

  pub distinct_values : (c : ℕ) → ((x y : ℕ) → x < c → y < c → f x ≡ f y → x ≡ y) → Distinct (values c)
  distinct_values zero apart = tt
  distinct_values (suc c) apart = (
    (not_in (f c) (values c)).0 (λ h.
        let r = of_values c (f c) h in
        let l = r.1 in
        let e = apart c r.0 (omega arith) (omega arith) r.2 in
        omega arith),
    distinct_values c (λ x y l m. apart x y (omega arith) (omega arith)),
  )
