-- What a step answers, read off the ledger before it: the one answer by the rules, and map full exactly where it must be.
use Rattle.std.proofs.Common.{◌≡◌, ℕ, true, false, cond, ◌||◌, ◌↔◌, [], ◌∷◌, is_some, Some, None, Option, sym, refl, ap, ◌∙◌, subst, inl, inr, arith, ◌==◌}
use mathlib.Core.Path.{fun_ext}
use Rattle.refusal.specs.declared.Refusal.TheVariants.{NumberTooLarge, NumberBusy, NoBlockWaiting, BlockMapFull, StreamNotOpen, StreamAtEnd}
use Rattle.map.specs.Meaning.{beside}
use Rattle.map.specs.Sets.{◌∈◌}
use Rattle.map.proofs.Lists.{none_of}
use Rattle.map.proofs.Sets.{number_one, number_map}
use Rattle.rules.specs.declared.Position.{Position}
use Rattle.rules.specs.declared.Tally.{Tally}
use Rattle.rules.specs.Calls.{Limits, Standing}
use Rattle.rules.specs.declared.GrantId.{GrantId}
use Rattle.rules.specs.declared.Call.{Call}
use Rattle.rules.specs.declared.Answer.{Answer}
use Rattle.rules.specs.declared.Call.TheVariants.{Begin as begin, Append as append, Commit as commit, Abandon as abandon, Condemn as condemn, Read as read, Trim as trim, Open as open_stream, Close as close_stream, Position as position, Tally as tally}
use Rattle.rules.specs.declared.Answer.TheVariants.{Granted as granted, Block as block, Closed as closed, Stands as stands, Counts as counts, Refused as refused}
use Rattle.rules.specs.Rules.{Checks, Judges, Step, checks, grant_checks, Accepts, Counted, entry, out_of, settled_of, Full, Room, next_of, end_of}
use Rattle.rules.specs.History.{Ledger, head}
use Rattle.rules.specs.Lives.{Streams}
use Rattle.rules.specs.Places.{At, Counts}
use Rattle.rules.specs.Places.Place.{waits, out_at, settled_at, retired}
use Rattle.rules.specs.Right.{held, held_with, NoRoom, reasons, grant_reasons, GrantsFront, Told, ByReasons, RightAnswer, Ready, FullExactly}
use Rattle.rules.proofs.Places.{some_one, some_none}
use Rattle.rules.proofs.Runs.{Good, out_is, settled_is}

-- ---- the same reasons

abbrev Each : Checks → Checks → Type 0
Each [] [] = Unit {0}
Each [] (d ∷ ds) = ⊥
Each (c ∷ cs) [] = ⊥
Each (c ∷ cs) (d ∷ ds) = (c.refusal ≡ d.refusal) × (c.applies ↔ d.applies) × Each cs ds

answers_of : (cs ds : Checks) (s : Standing) (a : Answer) (t : Standing) (X T : Type 0) → Each cs ds → (X → T) → Judges cs s a t X → ByReasons ds T a
answers_of [] [] s a t X T e f j = f j
answers_of [] (d ∷ ds) s a t X T e f j = absurd e
answers_of (c ∷ cs) [] s a t X T e f j = absurd e
answers_of (c ∷ cs) (d ∷ ds) s a t X T e f (inl j) = inl (e.1.0 j.0, j.1 ∙ ap refused e.0)
answers_of (c ∷ cs) (d ∷ ds) s a t X T e f (inr j) = inr (λ x. j.0 (e.1.1 x), answers_of cs ds s a t X T e.2 f j.1)

same : {X : Type 0} → X ↔ X
same = (λ x. x, λ x. x)

some_of_entry : (x y : Option ℕ) → is_some (entry x y) ≡ (is_some x || is_some y)
some_of_entry None None = refl
some_of_entry None (Some y) = refl
some_of_entry (Some x) None = refl
some_of_entry (Some x) (Some y) = refl

module _ (k : Limits) (d : Ledger) (s : Standing) (g e : ℕ) (good : Good k.blocks d s g e) where
  held_is : (m : ℕ) → is_some (s.entries m) ≡ held d m
  held_is m = ap is_some (good.entries m) ∙ some_of_entry (d.settled m) (d.out m)

  not_held : (n : ℕ) → (s.entries n ≡ None) ↔ (held d n ≡ false)
  not_held n = (λ z. sym (held_is n) ∙ ap is_some z, λ z. none_of (s.entries n) (held_is n ∙ z))

  beside_is : (n : ℕ) → beside s.entries n ≡ held_with d n
  beside_is n = fun_ext (λ m. ap (cond (m == n) true) (held_is m))

  no_room : (n : ℕ) → Full k.blocks_fit s.entries n ↔ NoRoom k.blocks_fit d n
  no_room n = (
    λ h. ((not_held n).0 h.0, λ f. h.1 (subst k.blocks_fit (sym (beside_is n)) f)),
    λ h. ((not_held n).1 h.0, λ f. h.1 (subst k.blocks_fit (beside_is n) f)),
  )

  is_out : (n : ℕ) → out_of (s.entries n) ≡ d.out n
  is_out n = out_is k.blocks d s g e good n

  is_settled : (n : ℕ) → settled_of (s.entries n) ≡ d.settled n
  is_settled n = settled_is k.blocks d s g e good n

  busy : (n : ℕ) (o : Option ℕ) → (out_of (s.entries n) ≡ o → ⊥) ↔ (d.out n ≡ o → ⊥)
  busy n o = (λ h z. h (is_out n ∙ z), λ h z. h (sym (is_out n) ∙ z))

  same_grant : (n : ℕ) → Each (grant_checks k s n) (grant_reasons k d n)
  same_grant n = (refl, busy n None, (refl, (λ h. sym good.pool ∙ h, λ h. good.pool ∙ h), (refl, no_room n, tt)))

  same_reasons : (c : Call) → Each (checks k s c) (reasons k d s.streams c)
  same_reasons (begin n) = (refl, same, same_grant n)
  same_reasons (append l) = (refl, same, (refl, same, same_grant (next_of (s.streams l))))
  same_reasons (commit x) = (refl, busy x.number (Some x.block), tt)
  same_reasons (abandon x) = (refl, busy x.number (Some x.block), tt)
  same_reasons (condemn x) = (refl, busy x.number (Some x.block), tt)
  same_reasons (read n) = (refl, same, tt)
  same_reasons (trim n) = (refl, same, (refl, busy n None, tt))
  same_reasons (open_stream l f n) = (refl, same, (refl, same, (refl, same, tt)))
  same_reasons (close_stream l) = (refl, same, tt)
  same_reasons (position l) = (refl, same, tt)
  same_reasons tally = tt

  room : (n : ℕ) → Room k.blocks_fit s.entries n → held d n ≡ false → k.blocks_fit (held_with d n)
  room n r z = subst k.blocks_fit (beside_is n) (r ((not_held n).1 z))

  pub counted : (n : Tally) → Counted s n → Counts d n
  counted n c = record {
    waiting = number_map (λ b. b ∈ s.waiting) (λ b. At d b waits) n.waiting (λ b. (λ x. subst (λ y. b ∈ y) good.pool x, λ x. subst (λ y. b ∈ y) (sym good.pool) x)) c.waiting;
    out = number_map (λ b. (m : ℕ) × (out_of (s.entries m) ≡ Some b)) (λ b. (m : ℕ) × At d b (out_at m)) n.out (λ b. (λ x. (x.0, sym (is_out x.0) ∙ x.1), λ x. (x.0, is_out x.0 ∙ x.1))) c.out;
    settled = number_map (λ b. (m : ℕ) × (settled_of (s.entries m) ≡ Some b)) (λ b. (m : ℕ) × At d b (settled_at m)) n.settled (λ b. (λ x. (x.0, sym (is_settled x.0) ∙ x.1), λ x. (x.0, is_settled x.0 ∙ x.1))) c.settled;
    condemned = number_map (λ b. s.condemned b ≡ true) (λ b. At d b retired) n.condemned (λ b. (λ x. sym (good.marks b) ∙ x, λ x. good.marks b ∙ x)) c.condemned;
  }

  told : (c : Call) (a : Answer) (t : Standing) → Accepts k s c a t → Told k d s.streams c a
  told (begin n) a t (b, rest, w, ea, et, fits) = (b, ap head (sym good.pool ∙ w), ea, room n fits)
  told (append l) a t (p, es, (b, rest, w, ea, et, fits)) = (p, es, (b, ap head (sym good.pool ∙ w), ea, room p.next fits))
  told (commit x) a t y = y.0
  told (abandon x) a t y = y.0
  told (condemn x) a t y = y.0
  told (read n) a t y = y.0 ∙ ap block (is_settled n)
  told (trim n) a t y = y.0 ∙ ap block (is_settled n)
  told (open_stream l f n) a t (ea, et, fits) = (ea, fits)
  told (close_stream l) a t (p, es, ea, et) = (p, es, ea)
  told (position l) a t (p, es, ea, et) = (p, es, ea)
  told tally a t (n, num, ea, et) = (n, ea, counted n num)

  pub right : (x : Streams) → s.streams ≡ x → (c : Call) (a : Answer) (t : Standing) → Step k s c a t → RightAnswer k d x c a
  right x is c a t j =
      subst (λ y. RightAnswer k d y c a) is
      (answers_of (checks k s c) (reasons k d s.streams c) s a t (Accepts k s c a t) (Told k d s.streams c a) (same_reasons c) (told c a t) j)

-- ---- one answer

answers_one : (cs : Checks) (X Y : Type 0) (a y : Answer) → (X → Y → a ≡ y) → ByReasons cs X a → ByReasons cs Y y → a ≡ y
answers_one [] X Y a y f i j = f i j
answers_one (c ∷ cs) X Y a y f (inl i) (inl j) = i.1 ∙ sym j.1
answers_one (c ∷ cs) X Y a y f (inl i) (inr j) = absurd (j.0 i.0)
answers_one (c ∷ cs) X Y a y f (inr i) (inl j) = absurd (i.0 j.0)
answers_one (c ∷ cs) X Y a y f (inr i) (inr j) = answers_one cs X Y a y f i.1 j.1

module _ (k : Limits) (d : Ledger) (x : Streams) where
  front_one : (m n : ℕ) → m ≡ n → (a y : Answer) → GrantsFront k d m a → GrantsFront k d n y → a ≡ y
  front_one m n e a y (b, hb, ea, fa) (c, hc, ey, fy) =
      let q : b ≡ c = some_one b c (head d.waiting) hb hc in
      ea ∙ (λ i. granted (record { number = e i; block = q i })) ∙ sym ey

  told_one : (c : Call) (a y : Answer) → Told k d x c a → Told k d x c y → a ≡ y
  told_one (begin n) a y i j = front_one n n refl a y i j
  told_one (append l) a y (p, ep, i) (q, eq, j) = front_one p.next q.next (ap (λ r. r.next) (some_one p q (x l) ep eq)) a y i j
  told_one (commit g) a y i j = i ∙ sym j
  told_one (abandon g) a y i j = i ∙ sym j
  told_one (condemn g) a y i j = i ∙ sym j
  told_one (read n) a y i j = i ∙ sym j
  told_one (trim n) a y i j = i ∙ sym j
  told_one (open_stream l f n) a y i j = i.0 ∙ sym j.0
  told_one (close_stream l) a y (p, ep, i) (q, eq, j) = i ∙ ap (λ r. closed r.next) (some_one p q (x l) ep eq) ∙ sym j
  told_one (position l) a y (p, ep, i) (q, eq, j) = i ∙ ap stands (some_one p q (x l) ep eq) ∙ sym j
  told_one tally a y (m, ea, i) (n, ey, j) =
      let e1 : m.waiting ≡ n.waiting = number_one _ m.waiting n.waiting i.waiting j.waiting in
      let e2 : m.out ≡ n.out = number_one _ m.out n.out i.out j.out in
      let e3 : m.settled ≡ n.settled = number_one _ m.settled n.settled i.settled j.settled in
      let e4 : m.condemned ≡ n.condemned = number_one _ m.condemned n.condemned i.condemned j.condemned in
      ea ∙ (λ i. counts (record { waiting = e1 i; out = e2 i; settled = e3 i; condemned = e4 i })) ∙ sym ey

  pub right_one : (c : Call) (a y : Answer) → RightAnswer k d x c a → RightAnswer k d x c y → a ≡ y
  right_one c a y i j = answers_one (reasons k d x c) (Told k d x c a) (Told k d x c y) a y (told_one c a y) i j

  -- ---- map full

  out_none : (o : Option ℕ) → ((o ≡ None → ⊥) → ⊥) → o ≡ None
  out_none None h = refl
  out_none (Some b) h = absurd (h (λ z. some_none b (Some b) refl z))

  -- the reasons of a grant, once those before have passed
  grant_full : (n : ℕ) (a : Answer) (T : Type 0) → (T → (g : GrantId) × (a ≡ granted g)) → ByReasons (grant_reasons k d n) T a → (a ≡ refused BlockMapFull) ↔ (Ready d n × NoRoom k.blocks_fit d n)
  grant_full n a T f (inl i) = (λ z. let q : refused NumberBusy ≡ refused BlockMapFull = sym i.1 ∙ z in cc, λ h. absurd (i.0 h.0.0))
  grant_full n a T f (inr (idle, inl i)) = (λ z. let q : refused NoBlockWaiting ≡ refused BlockMapFull = sym i.1 ∙ z in cc, λ h. absurd (h.0.1 i.0))
  grant_full n a T f (inr (idle, inr (some, inl i))) = (λ z. ((out_none (d.out n) idle, some), i.0), λ h. i.1)
  grant_full n a T f (inr (idle, inr (some, inr (fits, y)))) =
      (λ z. let q : granted (f y).0 ≡ refused BlockMapFull = sym (f y).1 ∙ z in cc, λ h. absurd (fits h.1))

  is_held : (o : Option Position) → (o ≡ None → ⊥) → (p : Position) × (o ≡ Some p)
  is_held None h = absurd (h refl)
  is_held (Some p) h = (p, refl)

  pub full : (c : Call) (a : Answer) → RightAnswer k d x c a → FullExactly k d x c a
  full (begin n) a (inl i) =
      (λ z. let q : refused NumberTooLarge ≡ refused BlockMapFull = sym i.1 ∙ z in cc, λ h. absurd (omega (arith, i.0, h.0)))
  full (begin n) a (inr (small, j)) =
      let both = grant_full n a (GrantsFront k d n a) (λ y. (record { number = n; block = y.0 }, y.2)) j in
      (λ z. (omega (arith, small), (both.0 z).0, (both.0 z).1), λ h. both.1 (h.1, h.2))
  full (append l) a (inl i) =
      (λ z. let q : refused StreamNotOpen ≡ refused BlockMapFull = sym i.1 ∙ z in cc, λ h. absurd (some_none h.0 (x l) h.1 i.0))
  full (append l) a (inr (on, inl i)) =
      (λ z. let q : refused StreamAtEnd ≡ refused BlockMapFull = sym i.1 ∙ z in cc, λ h. absurd (h.2 (subst (λ y. next_of y ≡ end_of y) h.1 i.0)))
  full (append l) a (inr (on, inr (more, j))) =
      let q = is_held (x l) on in
      let both = grant_full (next_of (x l)) a (Told k d x (append l) a) (λ y. (record { number = y.0.next; block = y.2.0 }, y.2.2)) j in (
        λ z. (
          q.0,
          q.1,
          λ w. more (subst (λ y. next_of y ≡ end_of y) (sym q.1) w),
          subst (λ y. Ready d (next_of y)) q.1 (both.0 z).0,
          subst (λ y. NoRoom k.blocks_fit d (next_of y)) q.1 (both.0 z).1,
        ),
        λ h. both.1 (subst (λ y. Ready d (next_of y)) (sym h.1) h.3, subst (λ y. NoRoom k.blocks_fit d (next_of y)) (sym h.1) h.4),
      )
  full (commit g) a j = tt
  full (abandon g) a j = tt
  full (condemn g) a j = tt
  full (read n) a j = tt
  full (trim n) a j = tt
  full (open_stream l f n) a j = tt
  full (close_stream l) a j = tt
  full (position l) a j = tt
  full tally a j = tt
