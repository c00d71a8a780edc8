-- The pairs, the fit and the count that the rows mean, and how each call changes them.
use Rattle.std.proofs.Common.{◌≡◌, ℕ, ◌<◌, ◌≤◌, Bool, true, false, not, cond, eqb, List, [], ◌∷◌, length, is_some, None, Ok, Err, MatchBool, Option, Result, sym, refl, ap, ◌∙◌, subst, arith}
use mathlib.Core.Path.{fun_ext}
use Rattle.std.specs.Prelude.{filter, map}
use Rattle.std.proofs.lemmas.Bool.{cond_both}
use Rattle.std.proofs.lemmas.Bool.Decides.{nat_tests}
use Rattle.std.proofs.lemmas.List.{length-map}
use Rattle.std.proofs.lemmas.List.Sums.{count_by-le-length, length-filter}
use Rattle.map.specs.declared.Denied.{Denied}
use Rattle.map.specs.declared.Denied.TheVariants.{Full}
use Rattle.map.specs.Sets.{member, Distinct, Counts, AtMost}
use Rattle.map.specs.Meaning.{held, changed, beside, Put}
use Rattle.map.proofs.Lists.{split, clash, none_of, distinct_short}
use Rattle.map.proofs.Room.{held_room}
use Rattle.straight.specs.declared.rows.Row.{Row}
use Rattle.straight.specs.Rows.{Shaped, WellKept, holds, look, spare, busy, numbers, apart, replaced, filled, unused, live, within, emptied, put_rows, put_answer, take_rows, ask_answer}
use Rattle.straight.specs.Laws.{lawful}
use Rattle.straight.proofs.Firsts.{length_first, some_hit, some_miss}
use Rattle.straight.proofs.Changes.{look_replaced, apart_replaced, look_filled, apart_filled, filled_none, look_cleared, apart_cleared}

module _ {L V : Type 0} (num : L → ℕ) where
  member_numbers : (xs : List (Row L V)) (n : ℕ) → member n (numbers num xs) ≡ is_some (look num xs n)
  member_numbers [] n = refl
  member_numbers (r ∷ rs) n = grind (arith, nat_tests, member_numbers rs n)

  length_numbers : (xs : List (Row L V)) → length (numbers num xs) ≡ busy xs
  length_numbers xs = length-map (filter (λ r. r.used) xs) (λ r. num r.label)

  pub apart_rest : (r : Row L V) (rs : List (Row L V)) → apart num (r ∷ rs) ≡ true → apart num rs ≡ true
  apart_rest r rs h = grind arith

  distinct_numbers : (xs : List (Row L V)) → apart num xs ≡ true → Distinct (numbers num xs)
  distinct_numbers [] a = tt
  distinct_numbers (r ∷ rs) a =
      let rest = distinct_numbers rs (apart_rest r rs a) in
      cond_both r.used (r ∷ filter (λ r. r.used) rs) (filter (λ r. r.used) rs) (λ ys. Distinct (map (λ r. num r.label) ys))
      (λ t. (grind (arith, member_numbers rs (num r.label)), rest))
      (λ _. rest)

busy_le : {L V : Type 0} (xs : List (Row L V)) → busy xs ≤ length xs
busy_le xs = omega (arith, length-filter (λ r. r.used) xs, count_by-le-length (λ r. r.used) xs)

busy_lt : {L V : Type 0} (xs : List (Row L V)) → is_some (spare xs) ≡ true → busy xs < length xs
busy_lt [] h = clash false refl h
busy_lt (r ∷ rs) h = grind (arith, nat_tests, some_miss (λ r. not r.used) r rs, busy_lt rs, busy_le rs)

busy_full : {L V : Type 0} (xs : List (Row L V)) → is_some (spare xs) ≡ false → busy xs ≡ length xs
busy_full [] h = refl
busy_full (r ∷ rs) h = grind (arith, nat_tests, some_hit (λ r. not r.used) r rs, some_miss (λ r. not r.used) r rs, busy_full rs)

answered : {P Q : Type 0} (b : Bool) → (b ≡ true → P) → (b ≡ false → Q) → MatchBool b P Q
answered true f g = f refl
answered false f g = g refl

-- what the rows mean, at each method
module _ {L V : Type 0} (num : L → ℕ) (xs : List (Row L V)) where
  pub count_means : (r : ℕ) → apart num xs ≡ true → r ≡ busy xs → Counts (held (look num xs)) r
  count_means r a e = record { list = numbers num xs; apart = distinct_numbers num xs a; long = length_numbers num xs ∙ sym e; exact = member_numbers num xs }

  module _ (n : ℕ) where
    room_held : is_some (look num xs n) ≡ true → AtMost (length xs) (beside (look num xs) n)
    room_held t = held_room (look num xs) (AtMost (length xs)) (lawful num xs) n t

    room_new : is_some (spare xs) ≡ true → AtMost (length xs) (beside (look num xs) n)
    room_new k = record {
      list = n ∷ numbers num xs;
      short = omega (arith, length_numbers num xs, busy_lt xs k);
      covers = λ q h. ap (λ b. cond (eqb q n) true b) (member_numbers num xs q) ∙ h;
    }

    room_full : apart num xs ≡ true → is_some (look num xs n) ≡ false → is_some (spare xs) ≡ false → AtMost (length xs) (beside (look num xs) n) → ⊥
    room_full a f k m =
        let d : Distinct (n ∷ numbers num xs) = (member_numbers num xs n ∙ f, distinct_numbers num xs a) in
        let p : length (n ∷ numbers num xs) ≤ length m.list = distinct_short (n ∷ numbers num xs) m.list d
        (λ q h. m.covers q (ap (λ b. cond (eqb q n) true b) (sym (member_numbers num xs q)) ∙ h)) in
        omega (arith, length_numbers num xs, busy_full xs k, m.short)

    pub ask_means : (r : Bool) → apart num xs ≡ true → r ≡ ask_answer num n xs
        → MatchBool r (AtMost (length xs) (beside (look num xs) n)) (AtMost (length xs) (beside (look num xs) n) → ⊥)
    ask_means r a e =
        answered r
        (λ t. split (is_some (look num xs n)) room_held (λ f. room_new (grind arith)))
        (λ f. room_full a (grind arith) (grind arith))

  module _ (l : L) (v : V) (a : apart num xs ≡ true) where
    pub put_means : (r : Result (Option V) Denied) → r ≡ put_answer num (num l) xs → Put (look num xs) (AtMost (length xs)) (num l) v (look num (put_rows num l v xs)) r
    put_means (Ok old) e = (
      grind (arith, none_of (look num xs (num l))),
      split (is_some (look num xs (num l))) (room_held (num l)) (λ f. room_new (num l) (grind arith)),
      fun_ext (λ q. grind (arith, look_replaced num xs (num l) v q, look_filled num xs l v q)),
    )
    put_means (Err Full) e = let same : put_rows num l v xs ≡ xs = grind (arith, filled_none xs l v) in (
      none_of (look num xs (num l)) (grind arith),
      room_full (num l) a (grind arith) (grind arith),
      ap (look num) same,
    )

    pub put_apart : apart num (put_rows num l v xs) ≡ true
    put_apart = grind (arith, apart_replaced num xs (num l) v, apart_filled num xs l v)

-- lengths

pub length_put : {L V : Type 0} (num : L → ℕ) (l : L) (v : V) (xs : List (Row L V)) → length (put_rows num l v xs) ≡ length xs
length_put num l v xs =
    cond_both (is_some (look num xs (num l))) (replaced num xs (num l) v) (filled xs l v) (λ ys. length ys ≡ length xs) (λ _. length_first _ _ xs) (λ _. length_first _ _ xs)

pub live_within : {L V : Type 0} (f : List (Row L V) → List (Row L V)) → ((ys : List (Row L V)) → length (f ys) ≡ length ys) → f [] ≡ [] → (rows : List (Row L V)) → live (within f rows) ≡ f (live rows)
live_within f h z rows = grind (arith, nat_tests, h rows)

-- the calls that write, at the rows of the area
module _ {L V : Type 0} (num : L → ℕ) (rows after : List (Row L V)) where
  module _ (l : L) (v : V) (e : after ≡ within (put_rows num l v) rows) where
    put_live : live after ≡ put_rows num l v (live rows)
    put_live = ap live e ∙ live_within (put_rows num l v) (length_put num l v) refl rows

    pub put_kept : WellKept num rows → WellKept num after
    put_kept a = ap (apart num) put_live ∙ put_apart num (live rows) l v a

    pub put_fit : length (live after) ≡ length (live rows)
    put_fit = ap length put_live ∙ length_put num l v (live rows)

    pub put_pairs : WellKept num rows → (r : Result (Option V) Denied) → r ≡ put_answer num (num l) (live rows)
        → Put (look num (live rows)) (AtMost (length (live rows))) (num l) v (look num (live after)) r
    put_pairs a r p =
        subst (λ ys. Put (look num (live rows)) (AtMost (length (live rows))) (num l) v (look num ys) r)
        (sym put_live) (put_means num (live rows) l v a r p)

  module _ (n : ℕ) (e : after ≡ within (take_rows num n) rows) where
    take_live : live after ≡ take_rows num n (live rows)
    take_live = ap live e ∙ live_within (take_rows num n) (length_first (λ r. holds num r n) unused) refl rows

    pub take_kept : WellKept num rows → WellKept num after
    take_kept a = ap (apart num) take_live ∙ apart_cleared num (live rows) n a

    pub take_fit : length (live after) ≡ length (live rows)
    take_fit = ap length take_live ∙ length_first (λ r. holds num r n) unused (live rows)

    pub take_pairs : WellKept num rows → look num (live after) ≡ changed (look num (live rows)) n None
    take_pairs a = fun_ext (λ q. ap (λ ys. look num ys q) take_live ∙ look_cleared num (live rows) n q a)

-- a fresh area

look_emptied : {L V : Type 0} (num : L → ℕ) (xs : List (Row L V)) (n : ℕ) → look num (emptied xs) n ≡ None
look_emptied num [] n = refl
look_emptied num (r ∷ rs) n = look_emptied num rs n

apart_emptied : {L V : Type 0} (num : L → ℕ) (xs : List (Row L V)) → apart num (emptied xs) ≡ true
apart_emptied num [] = refl
apart_emptied num (r ∷ rs) = apart_emptied num rs

module _ {L V : Type 0} (num : L → ℕ) (rows after : List (Row L V)) (e : after ≡ within emptied rows) where
  new_live : live after ≡ emptied (live rows)
  new_live = ap live e ∙ live_within emptied (λ ys. length-map ys unused) refl rows

  pub new_kept : WellKept num after
  new_kept = ap (apart num) new_live ∙ apart_emptied num (live rows)

  pub new_empty : (n : ℕ) → look num (live after) n ≡ None
  new_empty n = ap (λ ys. look num ys n) new_live ∙ look_emptied num (live rows) n

  pub new_shape : Shaped (length rows) (length (live after))
  new_shape =
      let same : length (live after) ≡ length (live rows) = ap length new_live ∙ length-map (live rows) unused in
      (λ right. grind (arith, nat_tests), λ wrong. grind (arith, nat_tests))
