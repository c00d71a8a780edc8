-- Under limits that are the same of the labels that exist, the same answers are right.
use Rattle.std.proofs.Common.{◌≡◌, ℕ, ◌<◌, ◌≤◌, true, cond, is_some, ◌↔◌, List, [], ◌∷◌, Some, None, Option, sym, refl, ap, ◌∙◌, subst, inl, inr, ⊎_elim, arith, ◌==◌}
use mathlib.Core.Path.{fun_ext}
use Rattle.std.proofs.lemmas.Bool.{cases_eq, ne_eqb, false≢true}
use Rattle.map.specs.Meaning.{beside}
use Rattle.rules.specs.declared.Position.{Position}
use Rattle.rules.specs.Calls.{Labels, Limits}
use Rattle.rules.specs.declared.Call.{Call}
use Rattle.rules.specs.declared.Answer.{Answer}
use Rattle.rules.specs.declared.Call.TheVariants.{Begin as begin, Append as append, Commit as commit, Abandon as abandon, Condemn as condemn, Read as read, Trim as trim, Open as open_stream, Close as close_stream, Position as position, Tally as tally}
use Rattle.rules.specs.declared.Answer.TheVariants.{Refused as refused}
use Rattle.rules.specs.Rules.{Checks, next_of, end_of}
use Rattle.rules.specs.History.{History, Ledger, ledger, noted}
use Rattle.rules.specs.Lives.{Streams, streams, streams_noted, Labelled, AllLabelled, calls}
use Rattle.rules.specs.Right.{held, held_with, reasons, grant_reasons, Told, ByReasons, RightAnswer}
use Rattle.rules.specs.Promise.{Continues, Below, SameLimits, SameLedger, StandSame, SameAnswers}
use Rattle.rules.proofs.Runs.{NoneOf}
use Rattle.rules.proofs.RightAnswers.{right_one}
use Rattle.rules.proofs.Rights.{AllRight}
use Rattle.rules.proofs.Bounded.{Bounded, Exist, held_below, next_small, right_bounded, noted_exist, rights_bounded, labels_exist}

-- the same reasons; the later ones need only be the same where the earlier ones do not apply
abbrev Each : Checks → Checks → Type 0
Each [] [] = Unit {0}
Each [] (d ∷ ds) = ⊥
Each (c ∷ cs) [] = ⊥
Each (c ∷ cs) (d ∷ ds) = (c.refusal ≡ d.refusal) × (c.applies ↔ d.applies) × ((c.applies → ⊥) → Each cs ds)

by_each : (cs ds : Checks) (a : Answer) (X Y : Type 0) → Each cs ds → (NoneOf cs → X → Y) → ByReasons cs X a → ByReasons ds Y a
by_each [] [] a X Y e f j = f tt j
by_each [] (d ∷ ds) a X Y e f j = absurd e
by_each (c ∷ cs) [] a X Y e f j = absurd e
by_each (c ∷ cs) (d ∷ ds) a X Y e f (inl j) = inl (e.1.0 j.0, j.1 ∙ ap refused e.0)
by_each (c ∷ cs) (d ∷ ds) a X Y e f (inr j) = inr (λ x. j.0 (e.1.1 x), by_each cs ds a X Y (e.2 j.0) (λ z. f (j.0, z)) j.1)

same : {X : Type 0} → X ↔ X
same = (λ x. x, λ x. x)

is_open : (o : Option Position) → (o ≡ None → ⊥) → (p : Position) × (o ≡ Some p)
is_open None h = absurd (h refl)
is_open (Some p) h = (p, refl)

open_of : (o : Option Position) → is_some o ≡ true → (p : Position) × (o ≡ Some p)
open_of None e = absurd (false≢true e)
open_of (Some p) e = (p, refl)

-- a set and one more of which all are below N
with_below : (N : ℕ) (s : Labels) (n : ℕ) → n < N → ((m : ℕ) → s m ≡ true → m < N) → Below N (λ m. cond (m == n) true (s m))
with_below N s n small all m e =
    ⊎_elim
    (λ q. subst (λ z. z < N) (sym q) small)
    (λ ne. all m (sym (ap (λ b. cond b true (s m)) (ne_eqb m n ne)) ∙ e))
    (cases_eq m n)

module _ (k j : Limits) (alike : SameLimits k j) (d : Ledger) (x : Streams) (bounded : Bounded k d x) (exist : Exist x) where
  streams_alike : (l : ℕ) → l < 4294967296 → k.streams_fit (beside x l) ↔ j.streams_fit (beside x l)
  streams_alike l small =
      alike.streams (beside x l) (with_below 4294967296 (λ m. is_some (x m)) l small (λ m e. let p = open_of (x m) e in exist m p.0 p.1))

  in_range : (n : ℕ) → (k.numbers ≤ n) ↔ (j.numbers ≤ n)
  in_range n = let e = alike.numbers in (λ h. omega (arith, e), λ h. omega (arith, e))

  blocks_alike : (n : ℕ) → n < k.numbers → k.blocks_fit (held_with d n) ↔ j.blocks_fit (held_with d n)
  blocks_alike n small = alike.entries (held_with d n) (with_below k.numbers (held d) n small (held_below k d x bounded))

  grants_alike : (n : ℕ) → n < k.numbers → Each (grant_reasons k d n) (grant_reasons j d n)
  grants_alike n small =
      let fit = blocks_alike n small in
      (refl, same, λ _. (refl, same, λ _. (refl, (λ h. (h.0, λ z. h.1 (fit.1 z)), λ h. (h.0, λ z. h.1 (fit.0 z))), λ _. tt)))

  -- the number that an append goes on with is in range
  next_below : (l : ℕ) → (x l ≡ None → ⊥) → (next_of (x l) ≡ end_of (x l) → ⊥) → next_of (x l) < k.numbers
  next_below l on more =
      let q = is_open (x l) on in
      let small = next_small k d x bounded l q.0 q.1 more in
      subst (λ o. next_of o < k.numbers) (sym q.1) (omega (arith, small.0, small.1))

  reasons_alike : (c : Call) → Labelled c → Each (reasons k d x c) (reasons j d x c)
  reasons_alike (begin n) is = (refl, in_range n, λ small. grants_alike n (omega (arith, small)))
  reasons_alike (append l) is = (refl, same, λ on. (refl, same, λ more. grants_alike (next_of (x l)) (next_below l on more)))
  reasons_alike (commit g) is = (refl, same, λ _. tt)
  reasons_alike (abandon g) is = (refl, same, λ _. tt)
  reasons_alike (condemn g) is = (refl, same, λ _. tt)
  reasons_alike (read n) is = (refl, in_range n, λ _. tt)
  reasons_alike (trim n) is = (refl, in_range n, λ _. (refl, same, λ _. tt))
  reasons_alike (open_stream l f n) is =
      let e = alike.numbers in (
        refl,
        (⊎_elim inl (λ h. inr (omega (arith, e, h))), ⊎_elim inl (λ h. inr (omega (arith, e, h)))),
        λ _.
            (refl, same, λ _. (refl, (λ h. (h.0, λ z. h.1 ((streams_alike l is).1 z)), λ h. (h.0, λ z. h.1 ((streams_alike l is).0 z))), λ _. tt)),
      )
  reasons_alike (close_stream l) is = (refl, same, λ _. tt)
  reasons_alike (position l) is = (refl, same, λ _. tt)
  reasons_alike tally is = tt

  told_alike : (c : Call) → Labelled c → (a : Answer) → NoneOf (reasons k d x c) → Told k d x c a → Told j d x c a
  told_alike (begin n) is a no' (b, front, ea, fits) = (b, front, ea, λ z. (blocks_alike n (omega (arith, no'.0))).0 (fits z))
  told_alike (append l) is a no' (p, es, (b, front, ea, fits)) =
      (p, es, (b, front, ea, λ z. (blocks_alike p.next (subst (λ o. next_of o < k.numbers) es (next_below l no'.0 no'.1.0))).0 (fits z)))
  told_alike (commit g) is a no' y = y
  told_alike (abandon g) is a no' y = y
  told_alike (condemn g) is a no' y = y
  told_alike (read n) is a no' y = y
  told_alike (trim n) is a no' y = y
  told_alike (open_stream l f n) is a no' (ea, fits) = (ea, λ z. (streams_alike l is).0 (fits z))
  told_alike (close_stream l) is a no' y = y
  told_alike (position l) is a no' y = y
  told_alike tally is a no' y = y

  pub right_alike : (c : Call) → Labelled c → (a : Answer) → RightAnswer k d x c a → RightAnswer j d x c a
  right_alike c is a r =
      by_each (reasons k d x c) (reasons j d x c) a (Told k d x c a) (Told j d x c a) (reasons_alike c is) (told_alike c is a) r

-- ---- further lists

continues_alike : (k j : Limits) → SameLimits k j → (d : Ledger) (x : Streams) → Bounded k d x → Exist x → (cs : List Call) (xs : List Answer) → AllLabelled cs → Continues k d x cs xs → Continues j d x cs xs
continues_alike k j alike d x b w [] [] is g = tt
continues_alike k j alike d x b w [] (a ∷ xs) is g = g
continues_alike k j alike d x b w (c ∷ cs) [] is g = g
continues_alike k j alike d x b w (c ∷ cs) (a ∷ xs) is (r, g) = (
  right_alike k j alike d x b w c is.0 a r,
  continues_alike k j alike (noted c a d) (streams_noted c a x) (right_bounded k d x b c a r) (noted_exist c a x is.0 w) cs xs is.1 g,
)

continues_one : (k : Limits) (d : Ledger) (x : Streams) (cs : List Call) (xs ys : List Answer) → Continues k d x cs xs → Continues k d x cs ys → xs ≡ ys
continues_one k d x [] [] [] g h = refl
continues_one k d x [] [] (y ∷ ys) g h = absurd h
continues_one k d x [] (a ∷ xs) ys g h = absurd g
continues_one k d x (c ∷ cs) [] ys g h = absurd g
continues_one k d x (c ∷ cs) (a ∷ xs) [] g h = absurd h
continues_one k d x (c ∷ cs) (a ∷ xs) (y ∷ ys) (r, g) (s, h) =
    let one : a ≡ y = right_one k d x c a y r s in
    let rest : xs ≡ ys = continues_one k (noted c a d) (streams_noted c a x) cs xs ys g (subst (λ v. Continues k (noted c v d) (streams_noted c v x) cs ys) (sym one) h) in
    λ m. one m ∷ rest m

-- ---- after two histories that leave the same

pub limits_back : (k j : Limits) → SameLimits k j → SameLimits j k
limits_back k j a = record {
  blocks = sym a.blocks;
  numbers = sym a.numbers;
  entries = λ s below. let both = a.entries s (subst (λ n. Below n s) (sym a.numbers) below) in (both.1, both.0);
  streams = λ s below. ((a.streams s below).1, (a.streams s below).0);
}

pub ledger_same : (d e : Ledger) → SameLedger d e → d ≡ e
ledger_same d e a i = record {
  waiting = a.waiting i;
  out = fun_ext a.out i;
  settled = fun_ext a.settled i;
  condemned = fun_ext a.condemned i;
}

pub same_ledger : (d e : Ledger) → d ≡ e → SameLedger d e
same_ledger d e q = record { waiting = ap (λ (c : Ledger). c.waiting) q; out = λ n i. (q i).out n; settled = λ n i. (q i).settled n; condemned = λ n i. (q i).condemned n }

module _ (k j : Limits) (h i : History) (r : AllRight k h) (lh : AllLabelled (calls h)) (alike : StandSame k h j i) where
  ledgers : ledger k.blocks h ≡ ledger j.blocks i
  ledgers = ledger_same (ledger k.blocks h) (ledger j.blocks i) alike.ledger

  both_streams : streams h ≡ streams i
  both_streams = fun_ext alike.streams

  -- what is right here is right there
  pub right_there : (c : Call) → Labelled c → (a : Answer) → RightAnswer k (ledger k.blocks h) (streams h) c a → RightAnswer j (ledger j.blocks i) (streams i) c a
  right_there c is a here =
      subst (λ d. RightAnswer j d (streams i) c a) ledgers
      (subst (λ x. RightAnswer j (ledger k.blocks h) x c a) both_streams
      (right_alike k j alike.limits (ledger k.blocks h) (streams h) (rights_bounded k h r) (labels_exist h lh) c is a here))

  there : (cs : List Call) (xs : List Answer) → AllLabelled cs → Continues k (ledger k.blocks h) (streams h) cs xs → Continues j (ledger j.blocks i) (streams i) cs xs
  there cs xs is g =
      subst (λ d. Continues j d (streams i) cs xs) ledgers
      (subst (λ x. Continues j (ledger k.blocks h) x cs xs) both_streams
      (continues_alike k j alike.limits (ledger k.blocks h) (streams h) (rights_bounded k h r) (labels_exist h lh) cs xs is g))

  -- one call that both made
  pub same_next : (c : Call) → Labelled c → (a b : Answer) → RightAnswer k (ledger k.blocks h) (streams h) c a → RightAnswer j (ledger j.blocks i) (streams i) c b → (a ≡ b) × StandSame k ((c, a) ∷ h) j ((c, b) ∷ i)
  same_next c is a b here beyond =
      let q : a ≡ b = right_one j (ledger j.blocks i) (streams i) c a b (right_there c is a here) beyond in (
        q,
        record {
          limits = alike.limits;
          ledger = same_ledger (noted c a (ledger k.blocks h)) (noted c b (ledger j.blocks i)) (λ m. noted c (q m) (ledgers m));
          streams = λ l m. streams_noted c (q m) (both_streams m) l;
        },
      )

pub stand_back : (k j : Limits) (h i : History) → StandSame k h j i → StandSame j i k h
stand_back k j h i a = record {
  limits = limits_back k j a.limits;
  ledger = same_ledger (ledger j.blocks i) (ledger k.blocks h) (sym (ledger_same (ledger k.blocks h) (ledger j.blocks i) a.ledger));
  streams = λ l. sym (a.streams l);
}

pub same_answers : (k j : Limits) (h i : History) → AllRight k h → AllLabelled (calls h) → AllRight j i → AllLabelled (calls i) → StandSame k h j i → SameAnswers k h j i
same_answers k j h i r lh s li alike = record {
  same = λ cs xs is. (there k j h i r lh alike cs xs is, there j k i h s li (stand_back k j h i alike) cs xs is);
  one = λ cs xs ys is g f. continues_one j (ledger j.blocks i) (streams i) cs xs ys (there k j h i r lh alike cs xs is g) f;
}
