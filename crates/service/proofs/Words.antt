-- Small facts that the calls' proofs share: fronts of lists, entries, marks.
use Rattle.std.proofs.Common.{◌≡◌, ℕ, zero, suc, ◌+◌, ◌<◌, ◌≤◌, true, false, ◌||◌, eqb, ◌⊎◌, ◌↔◌, List, [], ◌∷◌, ◌++◌, length, set, replicate, is_some, Some, None, Ok, Err, Option, sym, refl, ap, ◌∙◌, subst, inl, inr, ⊎_elim, append-nil, arith, length-append, length-set}
use Rattle.std.specs.List.{slice_get}
use Rattle.std.proofs.lemmas.List.{get_or-set_same, get_or-set_other}
use Rattle.std.proofs.lemmas.Bool.{cases_eq, eq-eqb, ne_eqb, or_cases, or_right, true≢false, eqb-true}
use Rattle.std.proofs.lemmas.Option.{same_Some}
use Rattle.map.specs.Sets.{Number}
use Rattle.map.proofs.Sets.{number_more}
use Rattle.ring.specs.declared.queue.Ring.{Ring}
use Rattle.ring.specs.Queue.{items, places, Pops, Popped}
use Rattle.rules.specs.declared.Entry.{Entry}
use Rattle.rules.specs.declared.Position.{Position}
use Rattle.rules.specs.Calls.{Labels, Standing}
use Rattle.rules.specs.Rules.{entry, back}
use Rattle.service.specs.declared.pool.Mark.{Mark}
use Rattle.service.specs.declared.pool.Mark.TheVariants.{Sound, Condemned}
use Rattle.service.specs.Pool.{Released, marked, is_condemned, lost_in}

abbrev pub at : List ℕ → (ℕ → Option Entry) → (ℕ → Option Position) → Labels → Standing
at w f x d = record { waiting = w; entries = f; streams = x; condemned = d }

-- ---- fronts

pub front_none : (xs : List ℕ) → None ≡ slice_get xs 0 → xs ≡ []
front_none [] e = refl
front_none (x ∷ xs) e = absurd (true≢false (ap is_some (sym e)))

pub not_empty : (b : ℕ) (w : List ℕ) → Some b ≡ slice_get w 0 → w ≡ [] → ⊥
not_empty b w e z = true≢false (ap is_some (e ∙ ap (λ v. slice_get v 0) z))

pub front_pops : (p q : Ring ℕ) (o : Option ℕ) (b : ℕ) → Pops p o q → Some b ≡ slice_get (items p) 0 → Popped p b q
front_pops p q None b pops e = absurd (not_empty b (items p) e pops.0)
front_pops p q (Some x) b pops e =
    let same : Some x ≡ Some b = sym (e ∙ ap (λ w. slice_get w 0) pops.items) in
    subst (λ y. Popped p y q) (same_Some x b same) pops

-- ---- a block that comes back

pub one_more : (w : List ℕ) (b p : ℕ) → length (w ++ b ∷ []) ≤ p → length w < p
one_more w b p l = omega (arith, simp length-append at l)

pub released_items : (p q : Ring ℕ) (o : Option ℕ) → Released p o q → length (items p ++ back o) ≤ places p → items q ≡ items p ++ back o
released_items p q None e l = ap items e ∙ sym (append-nil (items p))
released_items p q (Some b) (Ok u, push) l = push.items
released_items p q (Some b) (Err y, no') l =
    let less : length (items p) < places p = one_more (items p) b (places p) l in
    absurd (omega (arith, no'.1))

pub released_places : (p q : Ring ℕ) (o : Option ℕ) → Released p o q → places q ≡ places p
released_places p q None e = ap places e
released_places p q (Some b) (Ok u, push) = push.places
released_places p q (Some b) (Err y, no') = ap places no'.2

pub released_area : (p q : Ring ℕ) (o : Option ℕ) → Released p o q → q.cells.ghost_name ≡ p.cells.ghost_name
released_area p q None e = λ i. (e i).cells.ghost_name
released_area p q (Some b) (Ok u, push) = push.area
released_area p q (Some b) (Err y, no') = λ i. (no'.2 i).cells.ghost_name

-- ---- entries

pub some_entry : (o : Option ℕ) (b : ℕ) → is_some (entry o (Some b)) ≡ true
some_entry None b = refl
some_entry (Some o) b = refl

-- ---- marks

pub lost_set : (xs : List Mark) (b c : ℕ) → b < length xs → lost_in (set xs b Condemned) c ≡ (eqb c b || lost_in xs c)
lost_set xs b c l = go (cases_eq c b)
  where
    go : (c ≡ b) ⊎ (c ≡ b → ⊥) → lost_in (set xs b Condemned) c ≡ (eqb c b || lost_in xs c)
    go (inl e) = ap (lost_in (set xs b Condemned)) e ∙ ap is_condemned (get_or-set_same xs b Condemned Sound l) ∙ sym (ap (λ z. z || lost_in xs c) (eq-eqb c b e))
    go (inr ne) = ap is_condemned (get_or-set_other xs b c Condemned Sound ne) ∙ sym (ap (λ z. z || lost_in xs c) (ne_eqb c b ne))

pub marked_length : (o : Option ℕ) (xs : List Mark) → length (marked o xs) ≡ length xs
marked_length None xs = refl
marked_length (Some b) xs = length-set xs b Condemned

pub lost_more : (xs : List Mark) (b g : ℕ) → b < length xs → (lost_in xs b ≡ true → ⊥) → Number (λ c. lost_in xs c ≡ true) g → Number (λ c. lost_in (set xs b Condemned) c ≡ true) (1 + g)
lost_more xs b g l new num = number_more (λ c. lost_in xs c ≡ true) (λ c. lost_in (set xs b Condemned) c ≡ true) g b new same num
  where
    same : (c : ℕ) → (lost_in (set xs b Condemned) c ≡ true) ↔ ((c ≡ b) ⊎ (lost_in xs c ≡ true))
    same c = (
      λ t. ⊎_elim (λ q. inl (eqb-true c b q)) inr (or_cases (eqb c b) (lost_in xs c) (sym (lost_set xs b c l) ∙ t)),
      ⊎_elim (λ q. lost_set xs b c l ∙ ap (λ z. z || lost_in xs c) (eq-eqb c b q)) (λ q. lost_set xs b c l ∙ or_right (eqb c b) (lost_in xs c) q),
    )

pub none_lost : (n b : ℕ) → lost_in (replicate n Sound) b ≡ false
none_lost zero b = refl
none_lost (suc n) zero = refl
none_lost (suc n) (suc b) = none_lost n b
