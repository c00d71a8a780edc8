-- What each step of the search reads off the buckets and writes into the marks.
use Rattle.std.proofs.Common.{◌≡◌, ℕ, ◌+◌, ◌<◌, ◌≤◌, true, false, cond, eqb, List, length, get_or, Some, None, Option, sym, refl, ap, ◌∙◌, ⊎_elim, arith, MatchOption}
use Rattle.std.proofs.lemmas.Bool.{cases_Bool, cond-false, cond-true}
use Rattle.label.specs.declared.Label.{Ghosts}
use Rattle.bucket.specs.Changes.{blank_mark, modify, peek, with_joined, with_place}
use Rattle.bucket.specs.Slots.{AllUsed, Lowest, slot_of}
use Rattle.bucket.specs.Spread.{first, second}
use Rattle.bucket.specs.declared.slots.Bucket.{Bucket}
use Rattle.bucket.proofs.Changed.{with_mark_slots}
use Rattle.bucket.proofs.Lists.{peek_read}
use Rattle.table.specs.Moving.{other_at, other_of, used_at}
use Rattle.table.specs.Tables.{unmarked}
use Rattle.table.proofs.Alike.{length_unmarked, peek_unmarked}
use Rattle.marks.specs.Marks.{Listed, Marked, bucket_at, has_joined, joined_to}
use Rattle.marks.proofs.Joining.{bucket_new, bucket_old, join_new, join_old, listed_none, marked_none, new_length, new_listed, new_marked, new_unmarked, none_joined, parent_new, parent_old, slot_new, slot_old}
use Rattle.search.specs.Reached.{FullAt, LowestAt, Searching, trail_of}
use Rattle.search.proofs.Order.{Extends, reached_new, reached_next, reached_old, reached_one, reached_two}

module _ {L V : Type 0} where
  -- ---- reading a bucket

  pub vacancy_read : (bs : List (Bucket L V)) (i : ℕ) (x : Bucket L V) → i < length bs → x ≡ get_or bs i x → (r : Option ℕ) → MatchOption r (AllUsed x) (Lowest x) → MatchOption r (FullAt bs i) (LowestAt bs i)
  vacancy_read bs i x lt is None full = λ k. peek_read (λ b. (slot_of b k).used) false bs i x lt is ∙ full k
  vacancy_read bs i x lt is (Some k) low = (
    low.0,
    peek_read (λ b. (slot_of b k).used) false bs i x lt is ∙ low.1,
    λ j h. peek_read (λ b. (slot_of b j).used) false bs i x lt is ∙ low.2 j h,
  )

  module _ (kind : Ghosts L) (bs : List (Bucket L V)) (i k : ℕ) (x : Bucket L V) (l : L) (d p q : ℕ) (lt : i < length bs) (is : x ≡ get_or bs i x) (el : l ≡ (slot_of x k).label) (ed : d ≡ kind.spread (kind.number l)) (ep : p ≡ first d (length bs)) (eq : q ≡ second d (length bs)) where
    pub other_read : other_at kind bs i k ≡ cond (eqb p i) q p
    other_read =
        let read = peek_read (λ b. other_of kind (length bs) i (slot_of b k)) 0 bs i x lt is in cc

  -- ---- marks are no part of slots

  module _ (ms bs : List (Bucket L V)) (same : unmarked ms ≡ bs) where
    pub same_length : length ms ≡ length bs
    same_length = sym (length_unmarked ms) ∙ ap length same

    pub same_used : (i k : ℕ) → used_at bs i k ≡ used_at ms i k
    same_used i k = ap (λ z. used_at z i k) (sym same) ∙ peek_unmarked (λ b. (slot_of b k).used) false ms i (λ b. ap (λ s. s.used) (with_mark_slots blank_mark b k))

    pub same_other : (kind : Ghosts L) (i k : ℕ) → other_at kind bs i k ≡ other_at kind ms i k
    same_other kind i k =
        ap (λ z. other_at kind z i k) (sym same)
        ∙ ap (λ z. peek (λ b. other_of kind z i (slot_of b k)) 0 (unmarked ms) i) (length_unmarked ms)
        ∙ peek_unmarked (λ b. other_of kind (length ms) i (slot_of b k)) 0 ms i (λ b. ap (other_of kind (length ms) i) (with_mark_slots blank_mark b k))

    pub same_full : (i : ℕ) → FullAt ms i → FullAt bs i
    same_full i full k = same_used i k ∙ full k

    pub same_lowest : (i k : ℕ) → LowestAt ms i k → LowestAt bs i k
    same_lowest i k (few, free, low) = (few, same_used i k ∙ free, λ j h. same_used i j ∙ low j h)

  -- ---- the list after a bucket has joined

  extends_new : (ms : List (Bucket L V)) (n q a k : ℕ) (l : Listed ms n) (lt : q < length ms) (new : has_joined ms q ≡ false) (st : ℕ)
      → Extends (trail_of ms st n) (trail_of (modify (with_place q a k) (modify (with_joined true) ms q) n) st (n + 1)) q a k
  extends_new ms n q a k l lt new st =
      record {
        count = refl;
        starts = refl;
        bucket = λ j h. bucket_old ms n q a k l lt new j (λ e. omega arith);
        parent = λ j h. parent_old ms n q a k l lt new j (λ e. omega arith);
        slot = λ j h. slot_old ms n q a k l lt new j (λ e. omega arith);
        new_bucket = bucket_new ms n q a k l lt new;
        new_parent = parent_new ms n q a k l lt new;
        new_slot = slot_new ms n q a k l lt new;
      }

  -- either the bucket had joined, or it joins now
  by_join : (ms : List (Bucket L V)) (n q a k : ℕ) (cs : List (Bucket L V)) (m : ℕ) → cs ≡ joined_to ms n q a k → m ≡ cond (has_joined ms q) n (n + 1) → (P : List (Bucket L V) → ℕ → Type 0)
      → (has_joined ms q ≡ true → P ms n) → (has_joined ms q ≡ false → P (modify (with_place q a k) (modify (with_joined true) ms q) n) (n + 1)) → P cs m
  by_join ms n q a k cs m ec em P old new =
      ⊎_elim
      (λ t. rw (em, cond-true {A = ℕ} (has_joined ms q) n (n + 1) t, ec, join_old ms n q a k t) (old t))
      (λ f. rw (em, cond-false {A = ℕ} (has_joined ms q) n (n + 1) f, ec, join_new ms n q a k f) (new f))
      (cases_Bool (has_joined ms q))

  -- ---- one label followed

  module _ (kind : Ghosts L) (ms : List (Bucket L V)) (n head k b q : ℕ) (l : Listed ms n) (here : head < n) (eb : b ≡ bucket_at ms head) (few : k < 4) (lt : q < length ms) (eq : q ≡ other_at kind ms b k) (cs : List (Bucket L V)) (m : ℕ) (ec : cs ≡ joined_to ms n q head k) (em : m ≡ cond (has_joined ms q) n (n + 1)) where
    -- the list stays a list and grows, its bucket at head stays, and its search has followed one label more
    abbrev pub Followed : List (Bucket L V) → ℕ → Type 0
    Followed z y =
        Listed z y × (n ≤ y) × (b ≡ bucket_at z head)
        × ((bs : List (Bucket L V)) (p s st : ℕ) → Searching kind bs p s ms st n head k → FullAt bs b → Searching kind bs p s z st y head (k + 1))

    module _ (bs : List (Bucket L V)) (p s st : ℕ) (w : Searching kind bs p s ms st n head k) (full : FullAt bs b) where
      at_head : other_at kind bs (bucket_at ms head) k ≡ q
      at_head = let same = same_other ms bs w.same kind b k in cc

      search_old : has_joined ms q ≡ true → Searching kind bs p s ms st n head (k + 1)
      search_old t =
          let o = w.marked.listed q t in
          record { same = w.same; marked = w.marked; reached = reached_old kind bs p s (trail_of ms st n) head k few here w.reached o.0 o.1 (o.2 ∙ sym at_head) }

      search_new : has_joined ms q ≡ false → Searching kind bs p s (modify (with_place q head k) (modify (with_joined true) ms q) n) st (n + 1) head (k + 1)
      search_new f =
          record {
            same = new_unmarked ms n q head k l lt f ∙ w.same;
            marked = new_marked ms n q head k l lt f w.marked;
            reached = reached_new kind bs p s (trail_of ms st n) head k few here w.reached (trail_of (modify (with_place q head k) (modify (with_joined true) ms q) n) st (n + 1)) q
                (extends_new ms n q head k l lt f st) (let long = same_length ms bs w.same in omega arith)
                (λ j h e. let old = w.marked.joined j h in cc)
                (ap (λ z. used_at bs z k) (sym eb) ∙ full k) at_head;
          }

    pub follow : Followed cs m
    follow =
        by_join ms n q head k cs m ec em Followed
        (λ t. (l, omega arith, eb, λ bs p s st w full. search_old bs p s st w full t))
        (λ f. (
          new_listed ms n q head k l lt f (λ _. here),
          omega arith,
          eb ∙ sym (bucket_old ms n q head k l lt f head (λ e. omega arith)),
          λ bs p s st w full. search_new bs p s st w full f,
        ))

  -- all labels of the bucket at place head followed: on to the next place, whose predecessor stays where it was
  pub searching_next : (kind : Ghosts L) (bs : List (Bucket L V)) (p s : ℕ) (ms : List (Bucket L V)) (st n head b : ℕ) → b ≡ bucket_at ms head → FullAt bs b → Searching kind bs p s ms st n head 4 → Searching kind bs p s ms st n (head + 1) 0
  searching_next kind bs p s ms st n head b e full w =
      record { same = w.same; marked = w.marked; reached = reached_next kind bs p s (trail_of ms st n) head (λ i _. ap (λ z. used_at bs z i) (sym e) ∙ full i) w.reached }

  -- ---- the starts

  module _ (ms : List (Bucket L V)) (p s : ℕ) (lp : p < length ms) (ls : s < length ms) (m1 : List (Bucket L V)) (n1 : ℕ) (e1 : m1 ≡ joined_to ms 0 p 0 0) (c1 : n1 ≡ cond (has_joined ms p) 0 (0 + 1)) where
    pub first_listed : Listed m1 n1
    first_listed = by_join ms 0 p 0 0 m1 n1 e1 c1 Listed (λ _. listed_none ms) (λ f. new_listed ms 0 p 0 0 (listed_none ms) lp f (λ h. absurd (omega arith)))

    pub first_length : length m1 ≡ length ms
    first_length = by_join ms 0 p 0 0 m1 n1 e1 c1 (λ z _. length z ≡ length ms) (λ _. refl) (λ f. new_length ms 0 p 0 0 (listed_none ms) lp f)

    module _ (m2 : List (Bucket L V)) (n2 : ℕ) (e2 : m2 ≡ joined_to m1 n1 s 0 0) (c2 : n2 ≡ cond (has_joined m1 s) n1 (n1 + 1)) where
      ls1 : s < length m1
      ls1 = let long = first_length in omega arith

      pub both_listed : Listed m2 n2
      both_listed = by_join m1 n1 s 0 0 m2 n2 e2 c2 Listed (λ _. first_listed) (λ f. new_listed m1 n1 s 0 0 first_listed ls1 f (λ h. h))

      module _ (kind : Ghosts L) (rest : unmarked ms ≡ ms) where
        none : has_joined ms p ≡ false
        none = none_joined ms rest p

        m1_is : m1 ≡ modify (with_place p 0 0) (modify (with_joined true) ms p) 0
        m1_is = e1 ∙ join_new ms 0 p 0 0 none

        n1_is : n1 ≡ 1
        n1_is = c1 ∙ cond-false {A = ℕ} (has_joined ms p) 0 (0 + 1) none

        marked_one : Marked m1 1
        marked_one = rw m1_is (new_marked ms 0 p 0 0 (listed_none ms) lp none (marked_none ms rest))

        same_one : unmarked m1 ≡ ms
        same_one = ap unmarked m1_is ∙ new_unmarked ms 0 p 0 0 (listed_none ms) lp none ∙ rest

        bucket_one : bucket_at m1 0 ≡ p
        bucket_one = rw m1_is (bucket_new ms 0 p 0 0 (listed_none ms) lp none)

        listed_one : Listed m1 1
        listed_one = rw n1_is at first_listed

        pub both_search : Searching kind ms p s m2 n2 n2 0 0
        both_search =
            by_join m1 1 s 0 0 m2 n2 (rw n1_is at e2) (rw n1_is at c2)
            (λ z n. Searching kind ms p s z n n 0 0) alone two
          where
            alone : has_joined m1 s ≡ true → Searching kind ms p s m1 1 1 0 0
            alone t =
                let o = marked_one.listed s t in
                let w = o.1 in
                let at : o.0 ≡ 0 = omega arith in
                let b = bucket_one in
                record { same = same_one; marked = marked_one; reached = reached_one kind ms p s (trail_of m1 1 1) refl refl b lp (cc) }

            two : has_joined m1 s ≡ false → Searching kind ms p s (modify (with_place s 0 0) (modify (with_joined true) m1 s) 1) 2 2 0 0
            two f =
                record {
                  same = new_unmarked m1 1 s 0 0 listed_one ls1 f ∙ same_one;
                  marked = new_marked m1 1 s 0 0 listed_one ls1 f marked_one;
                  reached = reached_two kind ms p s (trail_of (modify (with_place s 0 0) (modify (with_joined true) m1 s) 1) 2 2) refl refl
                      (bucket_old m1 1 s 0 0 listed_one ls1 f 0 (λ e. omega arith) ∙ bucket_one) (bucket_new m1 1 s 0 0 listed_one ls1 f) lp ls
                      (λ e. let b = bucket_one in let old = marked_one.joined 0 (omega arith) in cc);
                }
