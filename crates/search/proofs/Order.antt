-- The order of joining, over the reached list alone: what one label followed makes of the list.
use Rattle.std.proofs.Common.{◌≡◌, ℕ, ◌+◌, ◌<◌, ◌≤◌, true, ◌⊎◌, List, length, ◌∙◌, inl, inr, ⊎_elim, arith}
use Rattle.std.proofs.lemmas.Bool.{cases_eq}
use Rattle.label.specs.declared.Label.{Ghosts}
use Rattle.bucket.specs.declared.slots.Bucket.{Bucket}
use Rattle.table.specs.Moving.{other_at, used_at}
use Rattle.search.specs.Reached.{Before, Joined, Reached, Through, Trail}

-- ---- what comes before what

before_last : (a j b k : ℕ) → Before a j b (k + 1) → Before a j b k ⊎ ((a ≡ b) × (j ≡ k))
before_last a j b k h = grind arith

-- ---- one place more

-- t' is t with the bucket q at one place more, reached from place a through slot k
pub record Extends (t t' : Trail) (q a k : ℕ) : Type 0 where
  pub count : t'.count ≡ t.count + 1
  pub starts : t'.starts ≡ t.starts
  pub bucket : (j : ℕ) → j < t.count → t'.bucket j ≡ t.bucket j
  pub parent : (j : ℕ) → j < t.count → t'.parent j ≡ t.parent j
  pub slot : (j : ℕ) → j < t.count → t'.slot j ≡ t.slot j
  pub new_bucket : t'.bucket t.count ≡ q
  pub new_parent : t'.parent t.count ≡ a
  pub new_slot : t'.slot t.count ≡ k

module _ {L V : Type 0} (kind : Ghosts L) (bs : List (Bucket L V)) (p s : ℕ) where
  module _ (t : Trail) (head k : ℕ) (few : k < 4) (here : head < t.count) (r : Reached kind bs p s t head k) where
    -- ---- the other bucket has joined already

    pub reached_old : (m : ℕ) → m < t.count → t.bucket m ≡ other_at kind bs (t.bucket head) k → Reached kind bs p s t head (k + 1)
    reached_old m lt e =
        record {
          first = r.first;
          second = r.second;
          few = r.few;
          within = r.within;
          once = r.once;
          through = r.through;
          order = r.order;
          behind = λ j a b. let w = r.behind j a b in grind arith;
          full = r.full;
          followed = λ a j l b. ⊎_elim
              (r.followed a j l)
              (λ at. (m, lt, (cc), λ st. let b = r.behind m st lt in grind arith))
              (before_last a j head k b);
        }

    -- ---- it joins now

    module _ (t' : Trail) (q : ℕ) (x : Extends t t' q head k) (lt : q < length bs) (fresh : (j : ℕ) → j < t.count → t.bucket j ≡ q → ⊥) (used : used_at bs (t.bucket head) k ≡ true) (other : other_at kind bs (t.bucket head) k ≡ q) where
      late : (j : ℕ) → t'.starts ≤ j → t.starts ≤ j
      late j h = let e = x.starts in omega arith

      through_old : (j : ℕ) → j < t.count → Through kind bs t j → Through kind bs t' j
      through_old j h (back, l, u, o) =
          let ep = x.parent j h in
          let es = x.slot j h in
          let eb = x.bucket (t.parent j) (omega arith) in
          let here = x.bucket j h in
          (omega arith, omega arith, (cc), (cc))

      through_new : Through kind bs t' t.count
      through_new =
          let ep = x.new_parent in
          let es = x.new_slot in
          let eb = x.bucket head here in
          let new = x.new_bucket in
          (omega arith, omega arith, (cc), (cc))

      joined_old : (a j : ℕ) → a ≤ head → Joined kind bs t a j → Joined kind bs t' a j
      joined_old a j le (m, h, e, w) =
          let c = x.count in
          let at_m = x.bucket m h in
          let at_a = x.bucket a (omega arith) in
          let ep = x.parent m h in
          let es = x.slot m h in
          (m, omega arith, (cc), λ st. let b = w (late m st) in grind arith)

      joined_new : Joined kind bs t' head k
      joined_new =
          let c = x.count in
          let at_head = x.bucket head here in
          (t.count, omega arith, cc (x.new_bucket), λ _. inr (x.new_parent, x.new_slot))

      pub reached_new : Reached kind bs p s t' head (k + 1)
      reached_new =
          let c = x.count in
          let f = r.few in
          record {
            first = let e = x.starts in let z = r.first.0 in (omega arith, x.bucket 0 (omega arith) ∙ r.first.1);
            second = let e = x.starts in let b = x.bucket 1 in grind arith;
            few = let e = x.starts in omega arith;
            within = λ j h. let new = x.new_bucket in let old = x.bucket j in let w = r.within j in grind arith;
            once = λ i j hi hj e. let new = x.new_bucket in grind (arith, r.once i j, fresh i, fresh j, x.bucket i, x.bucket j);
            through = λ j st h. ⊎_elim
                (λ e. rw e through_new)
                (λ ne. through_old j (omega arith) (r.through j (late j st) (omega arith)))
                (cases_eq j t.count);
            order = λ i j st ij hj.
                let lt : i < t.count = omega arith in
                let p_i = x.parent i lt in
                let s_i = x.slot i lt in
                let old = r.behind i (late i st) lt in
                ⊎_elim
                (λ e. let a = x.new_parent in let k = x.new_slot in grind arith)
                (λ ne. let h : j < t.count = omega arith in let p_j = x.parent j h in let s_j = x.slot j h in let w = r.order i j (late i st) ij h in grind arith)
                (cases_eq j t.count);
            behind = λ j st h.
                let a = x.new_parent in
                let k = x.new_slot in
                grind (arith, x.parent j, x.slot j, r.behind j (late j st));
            full = λ j i h l. let b = x.bucket j (omega arith) in let w = r.full j i h l in cc;
            followed = λ a j l b. ⊎_elim
                (λ w. joined_old a j (omega arith) (r.followed a j l w))
                (λ at. rw (at.0, at.1) joined_new)
                (before_last a j head k b);
          }

  -- ---- all four labels are followed: on to the next place

  pub reached_next : (t : Trail) (head : ℕ) → ((i : ℕ) → i < 4 → used_at bs (t.bucket head) i ≡ true) → Reached kind bs p s t head 4 → Reached kind bs p s t (head + 1) 0
  reached_next t head full r =
      record {
        first = r.first;
        second = r.second;
        few = r.few;
        within = r.within;
        once = r.once;
        through = r.through;
        order = r.order;
        behind = λ j a b. let w = r.behind j a b in grind arith;
        full = λ j i h l. ⊎_elim (λ e. let w = full i l in cc) (λ ne. r.full j i (omega arith) l) (cases_eq j head);
        followed = λ a j l b. r.followed a j l (grind arith);
      }

  -- ---- the starts alone

  pub reached_one : (t : Trail) → t.count ≡ 1 → t.starts ≡ 1 → t.bucket 0 ≡ p → p < length bs → s ≡ p → Reached kind bs p s t 0 0
  reached_one t c st e lp same =
      record {
        first = (omega arith, e);
        second = inl (st, same);
        few = omega arith;
        within = λ j h. let z : j ≡ 0 = omega arith in grind arith;
        once = λ i j hi hj _. omega arith;
        through = λ j a b. absurd (omega arith);
        order = λ i j a b d. absurd (omega arith);
        behind = λ j a b. absurd (omega arith);
        full = λ j i h. absurd (omega arith);
        followed = λ a j l b. absurd (omega arith);
      }

  pub reached_two : (t : Trail) → t.count ≡ 2 → t.starts ≡ 2 → t.bucket 0 ≡ p → t.bucket 1 ≡ s → p < length bs → s < length bs → (s ≡ p → ⊥) → Reached kind bs p s t 0 0
  reached_two t c st e f lp ls differ =
      record {
        first = (omega arith, e);
        second = inr (st, differ, f);
        few = omega arith;
        within = λ j h. let z : (j ≡ 0) ⊎ (j ≡ 1) = grind arith in grind arith;
        once = λ i j hi hj q. let y : (i ≡ 0) ⊎ (i ≡ 1) = grind arith in let z : (j ≡ 0) ⊎ (j ≡ 1) = grind arith in grind arith;
        through = λ j a b. absurd (omega arith);
        order = λ i j a b d. absurd (omega arith);
        behind = λ j a b. absurd (omega arith);
        full = λ j i h. absurd (omega arith);
        followed = λ a j l b. absurd (omega arith);
      }
