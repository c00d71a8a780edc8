-- A bucket joins the reached list.
use Rattle.std.proofs.Common.{◌≡◌, ℕ, zero, suc, ◌+◌, ◌<◌, ◌≤◌, Bool, true, false, cond, List, [], ◌∷◌, length, get_or, sym, refl, ap, ◌∙◌, subst, ⊎_elim, arith}
use Rattle.std.proofs.lemmas.Bool.{cases_eq, cond-false, cond-true, true≢false}
use Rattle.bucket.specs.Changes.{blank_mark, modify, peek, with_joined, with_mark, with_place}
use Rattle.bucket.specs.declared.slots.Bucket.{Bucket}
use Rattle.bucket.specs.declared.slots.Mark.{Mark}
use Rattle.bucket.proofs.Lists.{length_modify, peek_at, peek_modify_keep, peek_modify_other, peek_modify_same}
use Rattle.table.specs.Tables.{unmarked}
use Rattle.marks.specs.Marks.{Listed, Marked, bucket_at, has_joined, joined_count, joined_to, parent_at, slot_at}

module _ {L V : Type 0} where
  -- marks are no part of what a table holds
  pub unmarked_modify : (f : Bucket L V → Bucket L V) → ((b : Bucket L V) → with_mark blank_mark (f b) ≡ with_mark blank_mark b) → (ms : List (Bucket L V)) (i : ℕ) → unmarked (modify f ms i) ≡ unmarked ms
  unmarked_modify f h [] i = refl
  unmarked_modify f h (b ∷ ms) zero = ap (λ z. z ∷ unmarked ms) (h b)
  unmarked_modify f h (b ∷ ms) (suc i) = ap (λ z. with_mark blank_mark b ∷ z) (unmarked_modify f h ms i)

  pub joined_read : (ms : List (Bucket L V)) (q : ℕ) (x : Bucket L V) (r : Bool) → q < length ms → r ≡ (get_or ms q x).mark.joined → has_joined ms q ≡ r
  joined_read ms q x r h e = peek_at (λ b. b.mark.joined) false ms q x h ∙ sym e

  -- ---- how many have joined

  count_joined : (ms : List (Bucket L V)) (q : ℕ) → q < length ms → has_joined ms q ≡ false → joined_count (modify (with_joined true) ms q) ≡ joined_count ms + 1
  count_joined [] q h e = absurd (omega arith)
  count_joined (b ∷ ms) zero h e = let k : b.mark.joined ≡ false = e in rw k (omega arith)
  count_joined (b ∷ ms) (suc q) h e = let r = count_joined ms q (omega arith) e in omega arith

  count_placed : (ms : List (Bucket L V)) (n q p s : ℕ) → joined_count (modify (with_place q p s) ms n) ≡ joined_count ms
  count_placed [] n q p s = refl
  count_placed (b ∷ ms) zero q p s = refl
  count_placed (b ∷ ms) (suc n) q p s = ap (λ z. cond b.mark.joined 1 0 + z) (count_placed ms n q p s)

  pub count_le : (ms : List (Bucket L V)) → joined_count ms ≤ length ms
  count_le [] = omega arith
  count_le (b ∷ ms) = let r = count_le ms in let k = one b.mark.joined in omega arith
    where
      one : (z : Bool) → cond z 1 0 ≤ 1
      one true = omega arith
      one false = omega arith

  -- a bucket that has not joined leaves room in the list
  pub count_lt : (ms : List (Bucket L V)) (q : ℕ) → q < length ms → has_joined ms q ≡ false → joined_count ms < length ms
  count_lt ms q h e =
      let a = count_joined ms q h e in
      let b = count_le (modify (with_joined true) ms q) in
      let c = length_modify (with_joined true) ms q in
      omega arith

  pub join_old : (ms : List (Bucket L V)) (n q p s : ℕ) → has_joined ms q ≡ true → joined_to ms n q p s ≡ ms
  unfolding joined_to
  join_old ms n q p s e = cond-true (has_joined ms q) ms (modify (with_place q p s) (modify (with_joined true) ms q) n) e

  pub join_new : (ms : List (Bucket L V)) (n q p s : ℕ) → has_joined ms q ≡ false → joined_to ms n q p s ≡ modify (with_place q p s) (modify (with_joined true) ms q) n
  unfolding joined_to
  join_new ms n q p s e = cond-false (has_joined ms q) ms (modify (with_place q p s) (modify (with_joined true) ms q) n) e

  -- ---- a bucket that has not joined

  module _ (ms : List (Bucket L V)) (n q p s : ℕ) (l : Listed ms n) (lt : q < length ms) (new : has_joined ms q ≡ false) where
    abbrev ms' : List (Bucket L V)
    ms' = modify (with_place q p s) (modify (with_joined true) ms q) n

    pub new_length : length ms' ≡ length ms
    new_length = length_modify (with_place q p s) (modify (with_joined true) ms q) n ∙ length_modify (with_joined true) ms q

    pub new_room : n < length ms
    new_room = let a = count_lt ms q lt new in let b = l.room in omega arith

    in_list : n < length (modify (with_joined true) ms q)
    in_list = let a = new_room in let e = length_modify (with_joined true) ms q in omega arith

    has_q : has_joined ms' q ≡ true
    has_q = peek_modify_keep (λ b. b.mark.joined) false (with_place q p s) (modify (with_joined true) ms q) n q (λ x. refl) ∙ peek_modify_same (λ b. b.mark.joined) false (with_joined true) ms q true lt (λ x. refl)

    has_other : (i : ℕ) → (i ≡ q → ⊥) → has_joined ms' i ≡ has_joined ms i
    has_other i h = peek_modify_keep (λ b. b.mark.joined) false (with_place q p s) (modify (with_joined true) ms q) n i (λ x. refl) ∙ peek_modify_other (λ b. b.mark.joined) false (with_joined true) ms q i h

    has_more : (i : ℕ) → has_joined ms i ≡ true → has_joined ms' i ≡ true
    has_more i h = ⊎_elim (λ e. ap (λ z. has_joined ms' z) e ∙ has_q) (λ ne. has_other i ne ∙ h) (cases_eq i q)

    pub bucket_new : bucket_at ms' n ≡ q
    bucket_new = peek_modify_same (λ b. b.mark.bucket) 0 (with_place q p s) (modify (with_joined true) ms q) n q in_list (λ x. refl)

    pub parent_new : parent_at ms' n ≡ p
    parent_new = peek_modify_same (λ b. b.mark.parent) 0 (with_place q p s) (modify (with_joined true) ms q) n p in_list (λ x. refl)

    pub slot_new : slot_at ms' n ≡ s
    slot_new = peek_modify_same (λ b. b.mark.slot) 0 (with_place q p s) (modify (with_joined true) ms q) n s in_list (λ x. refl)

    old_place : {Y : Type 0} (g : Bucket L V → Y) (e : Y) → ((x : Bucket L V) → g (with_joined true x) ≡ g x) → (j : ℕ) → (j ≡ n → ⊥) → peek g e ms' j ≡ peek g e ms j
    old_place g e k j h = peek_modify_other g e (with_place q p s) (modify (with_joined true) ms q) n j h ∙ peek_modify_keep g e (with_joined true) ms q j k

    pub bucket_old : (j : ℕ) → (j ≡ n → ⊥) → bucket_at ms' j ≡ bucket_at ms j
    bucket_old = old_place (λ b. b.mark.bucket) 0 (λ x. refl)

    pub parent_old : (j : ℕ) → (j ≡ n → ⊥) → parent_at ms' j ≡ parent_at ms j
    parent_old = old_place (λ b. b.mark.parent) 0 (λ x. refl)

    pub slot_old : (j : ℕ) → (j ≡ n → ⊥) → slot_at ms' j ≡ slot_at ms j
    slot_old = old_place (λ b. b.mark.slot) 0 (λ x. refl)

    pub new_unmarked : unmarked ms' ≡ unmarked ms
    new_unmarked = unmarked_modify (with_place q p s) (λ b. refl) (modify (with_joined true) ms q) n ∙ unmarked_modify (with_joined true) (λ b. refl) ms q

    pub new_listed : ((0 < n) → p < n) → Listed ms' (n + 1)
    new_listed back =
        record {
          room = let a = l.room in let b = count_placed (modify (with_joined true) ms q) n q p s in let c = count_joined ms q lt new in omega arith;
          within = λ j h. ⊎_elim
              (λ e. subst (λ z. z < length ms') (sym (ap (bucket_at ms') e ∙ bucket_new)) (let w = new_length in omega arith))
              (λ ne. subst (λ z. z < length ms') (sym (bucket_old j ne)) (let w = new_length in let b = l.within j (omega arith) in omega arith))
              (cases_eq j n);
          earlier = λ j pos h. ⊎_elim
              (λ e. subst (λ z. z < j) (sym (ap (parent_at ms') e ∙ parent_new)) (let b : p < n = back (omega arith) in omega arith))
              (λ ne. subst (λ z. z < j) (sym (parent_old j ne)) (l.earlier j pos (omega arith)))
              (cases_eq j n);
        }

    pub new_marked : Marked ms n → Marked ms' (n + 1)
    new_marked m =
        record {
          joined = λ j h. ⊎_elim
              (λ e. ap (has_joined ms') (ap (bucket_at ms') e ∙ bucket_new) ∙ has_q)
              (λ ne. ap (has_joined ms') (bucket_old j ne) ∙ has_more _ (m.joined j (omega arith)))
              (cases_eq j n);
          listed = λ i h. ⊎_elim
              (λ e. (n, omega arith, bucket_new ∙ sym e))
              (λ ne. let o = m.listed i (sym (has_other i ne) ∙ h) in let w = o.1 in (o.0, omega arith, bucket_old o.0 (λ e. omega arith) ∙ o.2))
              (cases_eq i q);
          once = λ i j hi hj e. ⊎_elim
              (λ ei. ⊎_elim (λ ej. ei ∙ sym ej) (λ nj. absurd (fresh j (omega arith) (sym (bucket_old j nj) ∙ sym e ∙ ap (bucket_at ms') ei ∙ bucket_new))) (cases_eq j n))
              (λ ni. ⊎_elim
              (λ ej. absurd (fresh i (omega arith) (sym (bucket_old i ni) ∙ e ∙ ap (bucket_at ms') ej ∙ bucket_new)))
              (λ nj. m.once i j (omega arith) (omega arith) (sym (bucket_old i ni) ∙ e ∙ bucket_old j nj))
              (cases_eq j n))
              (cases_eq i n);
          blank = λ j h. let ne : j ≡ n → ⊥ = λ e. omega arith in let z = m.blank j (omega arith) in (bucket_old j ne ∙ z.0, parent_old j ne ∙ z.1, slot_old j ne ∙ z.2);
        }
      where
        fresh : (j : ℕ) → j < n → bucket_at ms j ≡ q → ⊥
        fresh j h e = true≢false (sym (m.joined j h) ∙ ap (has_joined ms) e ∙ new)

  -- a place of the list is a bucket's number
  pub listed_below : (ms : List (Bucket L V)) (n j : ℕ) → Listed ms n → j < n → j < length ms
  listed_below ms n j l h = let a = count_le ms in let b = l.room in omega arith

  -- ---- no bucket has joined

  peek_blank : {Y : Type 0} (h : Mark → Y) (bs : List (Bucket L V)) (j : ℕ) → peek (λ b. h b.mark) (h blank_mark) (unmarked bs) j ≡ h blank_mark
  peek_blank h [] j = refl
  peek_blank h (b ∷ bs) zero = refl
  peek_blank h (b ∷ bs) (suc j) = peek_blank h bs j

  pub listed_none : (ms : List (Bucket L V)) → Listed ms 0
  listed_none ms = record { room = omega arith; within = λ j h. absurd (omega arith); earlier = λ j p h. absurd (omega arith) }

  module _ (ms : List (Bucket L V)) (rest : unmarked ms ≡ ms) where
    pub none_joined : (i : ℕ) → has_joined ms i ≡ false
    none_joined i = subst (λ z. has_joined z i ≡ false) rest (peek_blank (λ m. m.joined) ms i)

    pub marked_none : Marked ms 0
    marked_none =
        record {
          joined = λ j h. absurd (omega arith);
          listed = λ i e. absurd (true≢false (sym e ∙ none_joined i));
          once = λ i j h. absurd (omega arith);
          blank = λ j h. (
            subst (λ z. bucket_at z j ≡ 0) rest (peek_blank (λ m. m.bucket) ms j),
            subst (λ z. parent_at z j ≡ 0) rest (peek_blank (λ m. m.parent) ms j),
            subst (λ z. slot_at z j ≡ 0) rest (peek_blank (λ m. m.slot) ms j),
          );
        }
