-- Blanking place after place leaves no mark.
-- of the marks of a list of n places in `old`, those of the first j places are blank in ms
use Rattle.std.proofs.Common.{◌≡◌, ℕ, suc, ◌+◌, ◌<◌, ◌≤◌, true, false, List, [], ◌∷◌, length, sym, refl, ap, ◌∙◌, subst, ⊎_elim, arith}
use Rattle.std.proofs.lemmas.Bool.{cases_Bool, cases_eq, cases_lt, true≢false}
use Rattle.bucket.specs.Changes.{blank_mark, modify, peek, with_joined, with_mark, with_place}
use Rattle.bucket.specs.declared.slots.Bucket.{Bucket}
use Rattle.bucket.specs.declared.slots.Mark.{Mark}
use Rattle.bucket.proofs.Lists.{length_modify, peek_modify_keep, peek_modify_other, peek_modify_same}
use Rattle.table.specs.Tables.{unmarked}
use Rattle.marks.specs.Marks.{Blank, Listed, Marked, bucket_at, has_joined}
use Rattle.marks.proofs.Joining.{count_le, unmarked_modify}

pub record Wiped {L V : Type 0} (old ms : List (Bucket L V)) (n j : ℕ) : Type 0 where
  pub long : length ms ≡ length old
  pub same : unmarked ms ≡ unmarked old
  pub ahead : (i : ℕ) → j ≤ i → bucket_at ms i ≡ bucket_at old i
  pub done : (i : ℕ) → i < j → Blank ms i
  pub past : Marked old n → (i : ℕ) → n ≤ i → Blank ms i
  -- what has still joined stands at a place to come
  pub left : Marked old n → (i : ℕ) → has_joined ms i ≡ true → (t : ℕ) × (j ≤ t) × (t < n) × (bucket_at old t ≡ i)

mark_blank : (m : Mark) → m.joined ≡ false → m.bucket ≡ 0 → m.parent ≡ 0 → m.slot ≡ 0 → m ≡ blank_mark
mark_blank m a b c d =
    let e : ◌≡◌ {A = Mark} (record { bucket = m.bucket; parent = m.parent; slot = m.slot; joined = m.joined }) blank_mark = cc in e

module _ {L V : Type 0} where
  blank_all : (ms : List (Bucket L V)) → ((i : ℕ) → has_joined ms i ≡ false) → ((i : ℕ) → Blank ms i) → ms ≡ unmarked ms
  blank_all [] h z = refl
  blank_all (b ∷ ms) h z =
      ap (λ m. with_mark m b ∷ ms) (mark_blank b.mark (h 0) (z 0).0 (z 0).1 (z 0).2)
      ∙ ap (λ y. with_mark blank_mark b ∷ y) (blank_all ms (λ i. h (suc i)) (λ i. z (suc i)))

  pub wiped_none : (ms : List (Bucket L V)) (n : ℕ) → Wiped ms ms n 0
  wiped_none ms n =
      record {
        long = refl;
        same = refl;
        ahead = λ i h. refl;
        done = λ i h. absurd (omega arith);
        past = λ m. m.blank;
        left = λ m i e. let o = m.listed i e in (o.0, omega arith, o.1, o.2);
      }

  module _ (old ms : List (Bucket L V)) (n j : ℕ) (l : Listed old n) (w : Wiped old ms n j) (h : j < n) where
    pub wiped_place : j < length ms
    wiped_place = let a = count_le old in let b = l.room in let c = w.long in omega arith

    pub wiped_within : bucket_at ms j < length ms
    wiped_within = subst (λ z. z < length ms) (sym (w.ahead j (omega arith))) (subst (λ z. bucket_at old j < z) (sym w.long) (l.within j h))

    module _ (b : ℕ) (eb : b ≡ bucket_at ms j) where
      abbrev ds : List (Bucket L V)
      ds = modify (with_joined false) ms b

      abbrev cs : List (Bucket L V)
      cs = modify (with_place 0 0 0) ds j

      j_in : j < length ds
      j_in = let a = wiped_place in let d = length_modify (with_joined false) ms b in omega arith

      b_in : b < length ms
      b_in = subst (λ z. z < length ms) (sym eb) wiped_within

      blank_here : Blank cs j
      blank_here = (
        peek_modify_same (λ x. x.mark.bucket) 0 (with_place 0 0 0) ds j 0 j_in (λ x. refl),
        peek_modify_same (λ x. x.mark.parent) 0 (with_place 0 0 0) ds j 0 j_in (λ x. refl),
        peek_modify_same (λ x. x.mark.slot) 0 (with_place 0 0 0) ds j 0 j_in (λ x. refl),
      )

      there : {Y : Type 0} (g : Bucket L V → Y) (e : Y) → ((x : Bucket L V) → g (with_joined false x) ≡ g x) → (i : ℕ) → (i ≡ j → ⊥) → peek g e cs i ≡ peek g e ms i
      there g e k i ne = peek_modify_other g e (with_place 0 0 0) ds j i ne ∙ peek_modify_keep g e (with_joined false) ms b i k

      bucket_there : (i : ℕ) → (i ≡ j → ⊥) → bucket_at cs i ≡ bucket_at ms i
      bucket_there = there (λ x. x.mark.bucket) 0 (λ x. refl)

      blank_there : (i : ℕ) → (i ≡ j → ⊥) → Blank ms i → Blank cs i
      blank_there i ne z = (bucket_there i ne ∙ z.0, there (λ x. x.mark.parent) 0 (λ x. refl) i ne ∙ z.1, there (λ x. x.mark.slot) 0 (λ x. refl) i ne ∙ z.2)

      joined_ds : (i : ℕ) → has_joined cs i ≡ has_joined ds i
      joined_ds i = peek_modify_keep (λ x. x.mark.joined) false (with_place 0 0 0) ds j i (λ x. refl)

      wiped_next : Wiped old cs n (j + 1)
      wiped_next =
          record {
            long = length_modify (with_place 0 0 0) ds j ∙ length_modify (with_joined false) ms b ∙ w.long;
            same = unmarked_modify (with_place 0 0 0) (λ x. refl) ds j ∙ unmarked_modify (with_joined false) (λ x. refl) ms b ∙ w.same;
            ahead = λ i k. bucket_there i (λ e. omega arith) ∙ w.ahead i (omega arith);
            done = λ i k. ⊎_elim (λ e. subst (Blank cs) (sym e) blank_here) (λ ne. blank_there i ne (w.done i (omega arith))) (cases_eq i j);
            past = λ m i k. blank_there i (λ e. omega arith) (w.past m i k);
            left = λ m i e.
                let ib : i ≡ b → ⊥ = λ q. true≢false (sym e ∙ joined_ds i ∙ ap (has_joined ds) q ∙ peek_modify_same (λ x. x.mark.joined) false (with_joined false) ms b false b_in (λ x. refl)) in
                let o = w.left m i (sym (peek_modify_other (λ x. x.mark.joined) false (with_joined false) ms b i ib) ∙ sym (joined_ds i) ∙ e) in
                let nj : o.0 ≡ j → ⊥ = λ q. ib (sym o.3 ∙ ap (bucket_at old) q ∙ sym (w.ahead j (omega arith)) ∙ sym eb) in
                (o.0, let w = o.1 in omega (arith, nj), o.2, o.3);
          }

      pub wiped_more : (xs ys : List (Bucket L V)) → xs ≡ ds → ys ≡ modify (with_place 0 0 0) xs j → Wiped old ys n (j + 1)
      wiped_more xs ys ex ey = subst (λ z. Wiped old z n (j + 1)) (sym (ey ∙ ap (λ z. modify (with_place 0 0 0) z j) ex)) wiped_next

  pub wiped_all : (old ms : List (Bucket L V)) (n j : ℕ) → n ≤ j → Wiped old ms n j → Marked old n → ms ≡ unmarked old
  wiped_all old ms n j h w m =
      blank_all ms
      (λ i. ⊎_elim (λ e. absurd (let o = w.left m i e in let a = o.1 in let b = o.2 in omega arith)) (λ f. f) (cases_Bool (has_joined ms i)))
      (λ i. ⊎_elim (λ a. w.done i a) (λ a. w.past m i (omega arith)) (cases_lt i j))
      ∙ w.same
