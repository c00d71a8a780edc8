-- Laws of a ring's contents: a value goes in behind the last one, and the front leaves, round the end of the cells.
use Rattle.std.proofs.Common.{◌≡◌, ℕ, zero, suc, ◌+◌, ◌-◌, ◌<◌, ◌≤◌, min, List, [], ◌∷◌, ◌++◌, length, get_or, take, drop, set, Some, sym, refl, ap, ◌∙◌, ⊎_elim, sub-one, arith, length-append, length-drop, length-set, length-take}
use Rattle.std.proofs.lemmas.List.{append-nil, append_assoc, take_more_set, take_all, drop_all, drop_more, drop-set-add, drop-set-lt}
use Rattle.std.proofs.lemmas.Bool.{cases_lt}
use Rattle.std.proofs.lemmas.Bool.Decides.{nat_tests}
use Rattle.std.proofs.Math.Nat.{min-eq_left}
use Rattle.std.proofs.Math.Seq.{take-nil}
use Rattle.std.proofs.lemmas.Option.{slice_get_within}
use Rattle.std.specs.List.{slice_get}
use Rattle.ring.specs.declared.queue.Ring.{Ring}
use Rattle.ring.specs.Queue.{contents, start, held_in, items, places, around, Popped}

-- the first of n values, and the rest
take_front : {X : Type 0} (n : ℕ) (x : X) (ys : List X) → 0 < n → take n (x ∷ ys) ≡ x ∷ take (n - 1) ys
take_front zero x ys z = absurd (omega arith)
take_front (suc n) x ys z = rw sub-one

module _ {X : Type 0} (xs : List X) (h n : ℕ) where
  pub contents_length : h ≤ length xs → n ≤ length xs → length (contents xs h n) ≡ n
  contents_length a b = simp (length-append, length-take, length-drop) (omega arith)

  -- a value more at the back, before the end of the cells
  push_low : (v : X) → h + n < length xs → contents (set xs (h + n) v) h (n + 1) ≡ contents xs h n ++ v ∷ []
  push_low v l =
      let e : h + (n + 1) - length xs ≡ 0 = omega arith in
      let f : h + n - length xs ≡ 0 = omega arith in
      let r : n < length (drop h xs) = rw length-drop (omega arith) in
      rw (length-set, e, f, drop-set-add, append-nil, append-nil) (take_more_set (drop h xs) n v r)

  -- and round their end
  push_high : (v : X) → h ≤ length xs → length xs ≤ h + n → n < length xs
      → contents (set xs (h + n - length xs) v) h (n + 1) ≡ contents xs h n ++ v ∷ []
  push_high v a l b =
      let p : h + n - length xs < h = omega arith in
      let q : h + n - length xs < length xs = omega arith in
      let e : h + (n + 1) - length xs ≡ h + n - length xs + 1 = omega arith in
      let s : length (drop h xs) ≤ n + 1 = rw length-drop (omega arith) in
      let t : length (drop h xs) ≤ n = rw length-drop (omega arith) in
      rw (length-set, e, drop-set-lt, take_more_set, take_all (n + 1) (drop h xs), take_all n (drop h xs), append_assoc)

  -- the front cell leaves
  pop_low : (d : X) → h < length xs → 0 < n → contents xs h n ≡ get_or xs h d ∷ contents xs (h + 1) (n - 1)
  pop_low d l z =
      let e : h + n - length xs ≡ h + 1 + (n - 1) - length xs = omega arith in
      rw (drop_more xs h d, take_front, e)

-- a front at the end of the cells stands at their start
pop_wrap : {X : Type 0} (xs : List X) (n : ℕ) → n ≤ length xs → contents xs (length xs) n ≡ contents xs 0 n
pop_wrap xs n b =
    let e : length xs + n - length xs ≡ n = omega arith in
    let z : 0 + n - length xs ≡ 0 = omega arith in
    let a : length xs ≤ length xs = omega arith in
    rw (drop_all, e, z, take-nil, append-nil)

around_low : (h n m : ℕ) → h + n < m → around h n m ≡ h + n
around_low h n m l = grind (arith, nat_tests)

around_high : (h n m : ℕ) → m ≤ h + n → around h n m ≡ h + n - m
around_high h n m l = grind (arith, nat_tests)

-- the next value goes in at either side of the end
module _ {X : Type 0} (xs : List X) (h n at : ℕ) (a : h ≤ length xs) where
  pushed : (v : X) → n < length xs → at ≡ around h n (length xs)
      → contents (set xs at v) h (n + 1) ≡ contents xs h n ++ v ∷ []
  pushed v b e =
      ⊎_elim (λ l. rw (e, around_low h n (length xs) l) (push_low xs h n v l)) (λ l. rw (e, around_high h n (length xs) l) (push_high xs h n v a l b)) (cases_lt (h + n) (length xs))

start_in : (h n : ℕ) → h < n → start h n ≡ h
start_in h n l = grind (arith, nat_tests)

start_past : (h n : ℕ) → n ≤ h → start h n ≡ 0
start_past h n l = grind (arith, nat_tests)

start_below : (h n : ℕ) → 0 < n → start h n < n
start_below h n l = grind (arith, nat_tests)

pub start_within : (h n : ℕ) → start h n ≤ n
start_within h n = grind (arith, nat_tests)

-- the front leaves, and the next cell, or the first after the last, is the front
popped : {X : Type 0} (xs : List X) (n h : ℕ) (d : X) → n ≤ length xs → 0 < n → h < length xs
    → contents xs h n ≡ get_or xs h d ∷ contents xs (start (h + 1) (length xs)) (n - 1)
popped xs n h d b z l =
    pop_low xs h n d l z ∙ ap (λ t. get_or xs h d ∷ t)
    (⊎_elim (λ p. rw (start_in (h + 1) (length xs) p))
    (λ p. let e : h + 1 ≡ length xs = omega arith in let f : n - 1 ≤ length xs = omega arith in rw (start_past (h + 1) (length xs) p, e) (pop_wrap xs (n - 1) f))
    (cases_lt (h + 1) (length xs)))

-- the same of a ring, whatever its head h and count n are
module _ {X : Type 0} (xs : List X) (h n k : ℕ) (e : k ≡ length (held_in xs h n)) where
  count_is : min n (length xs) ≡ k
  count_is = sym (contents_length xs (start h (length xs)) (min n (length xs)) (start_within h (length xs)) (omega arith)) ∙ sym e

  ring_pops : (at : ℕ) (d : X) → at ≡ start h (length xs) → (k ≡ 0 → ⊥) → held_in xs h n ≡ get_or xs at d ∷ held_in xs (at + 1) (k - 1)
  ring_pops at d a z =
      let c = count_is in
      let b : k ≤ length xs = omega arith in
      let p : 0 < k = omega arith in
      let l : at < length xs = rw a (start_below h (length xs) (omega arith)) in
      rw (c, ← a, min-eq_left {n = k - 1} {m = length xs} (omega arith)) (popped xs k at d b p l)

  pub ring_pushes : (at s : ℕ) (v : X) → s ≡ start h (length xs) → k < length xs
      → at ≡ around (start h (length xs)) (length (held_in xs h n)) (length xs)
      → held_in (set xs at v) s (k + 1) ≡ held_in xs h n ++ v ∷ []
  ring_pushes at s v a b w =
      let c = count_is in
      let l : s < length xs = rw a (start_below h (length xs) (omega arith)) in
      let m : s ≤ length xs = omega arith in
      rw (length-set, c, ← a, start_in s (length xs) l, min-eq_left {n = k + 1} {m = length xs} (omega arith)) (rw length-set at (pushed xs s k at m v b (rw (← e, ← a) at w)))

-- the front value leaves
module _ {X : Type 0} where
  pub pops_of : (r : Ring X) (k at : ℕ) (x : X) → k ≡ length (items r) → at ≡ start r.head (places r) → Some x ≡ slice_get (items r) 0
      → Popped r x (record { cells = r.cells; head = at + 1; count = k - 1 })
  pops_of r k at x e a front =
      let some : 0 < length (items r) = slice_get_within (items r) 0 x (sym front) in
      let p = ring_pops r.cells.now r.head r.count k e at x a (λ z. omega arith) in
      let same : x ≡ get_or r.cells.now at x = let q : Some x ≡ Some (get_or r.cells.now at x) = front ∙ ap (λ xs. slice_get xs 0) p in cc in
      record {
        items = p ∙ ap (λ y. y ∷ held_in r.cells.now (at + 1) (k - 1)) (sym same);
        cells = refl;
        head = ap (λ m. m + 1) a;
        count = ap (λ m. m - 1) e;
        area = refl;
        places = refl;
      }
