-- Where every answer is right, only numbers below the bound have blocks, no stream ends past it, and only labels that exist are open.
use Rattle.std.proofs.Common.{◌≡◌, ℕ, ◌+◌, ◌<◌, ◌≤◌, true, false, cond, ◌||◌, nat_eq, ◌≢◌, ◌⊎◌, ◌∷◌, [], is_some, Some, None, Option, sym, refl, ap, ◌∙◌, subst, inr, ⊎_elim, arith}
use Rattle.std.specs.Map.{update}
use Rattle.std.proofs.lemmas.Option.{none-some, same_Some}
use Rattle.std.proofs.lemmas.Bool.{cases_lt, false≢true}
use Rattle.rules.specs.declared.Position.{Position}
use Rattle.rules.specs.Calls.{Limits, Standing}
use Rattle.rules.specs.declared.Call.{Call}
use Rattle.rules.specs.declared.Answer.{Answer}
use Rattle.rules.specs.declared.Call.TheVariants.{Begin as begin, Append as append, Commit as commit, Abandon as abandon, Condemn as condemn, Read as read, Trim as trim, Open as open_stream, Close as close_stream, Position as position, Tally as tally}
use Rattle.rules.specs.Rules.{next_of, end_of, started}
use Rattle.rules.specs.History.{History, Run, Ledger, ledger, noted, moves, accepted, head}
use Rattle.rules.specs.Lives.{Streams, streams, streamed, streams_noted, raised, Labelled, AllLabelled, calls}
use Rattle.rules.specs.Right.{held, reasons, Told, RightAnswer}
use Rattle.rules.proofs.Places.{updated}
use Rattle.rules.proofs.Runs.{NoneOf}
use Rattle.rules.proofs.Rights.{AllRight, run_right, reasoned, told_accepted}

pub record Bounded (k : Limits) (d : Ledger) (x : Streams) : Type 0 where
  pub out : (n b : ℕ) → d.out n ≡ Some b → n < k.numbers
  pub settled : (n b : ℕ) → d.settled n ≡ Some b → n < k.numbers
  pub streams : (l : ℕ) (p : Position) → x l ≡ Some p → (p.next ≤ p.end) × (p.end ≤ k.numbers)

abbrev pub Exist : Streams → Type 0
Exist x = (l : ℕ) (p : Position) → x l ≡ Some p → l < 4294967296

-- ---- one change

module _ {X : Type 0} (P : ℕ → X → Type 0) (f : ℕ → Option X) (n : ℕ) (v : Option X) where
  -- what holds of every value of f and of v holds of f with v at n
  all_update : ((y : X) → v ≡ Some y → P n y) → ((m : ℕ) (y : X) → f m ≡ Some y → P m y) → (m : ℕ) (y : X) → update nat_eq f n v m ≡ Some y → P m y
  all_update new old m y h =
      ⊎_elim
      (λ u. subst (λ z. P z y) (sym u.0) (new y (sym u.1 ∙ h)))
      (λ u. old m y (sym u.1 ∙ h))
      (updated f n v m)

either : (o p : Option ℕ) (X : Type 0) → ((b : ℕ) → o ≡ Some b → X) → ((b : ℕ) → p ≡ Some b → X) → is_some o || is_some p ≡ true → X
either (Some b) p X f g e = f b refl
either None (Some b) X f g e = g b refl
either None None X f g e = absurd (false≢true e)

module _ (k : Limits) (d : Ledger) (x : Streams) where
  pub held_below : Bounded k d x → (n : ℕ) → held d n ≡ true → n < k.numbers
  held_below b n e = either (d.settled n) (d.out n) (n < k.numbers) (b.settled n) (b.out n) e

  -- ---- one call

  module _ (b : Bounded k d x) where
    out_gone : (n : ℕ) (m c : ℕ) → update nat_eq d.out n None m ≡ Some c → m < k.numbers
    out_gone n = all_update (λ m y. m < k.numbers) d.out n None (λ y e. absurd (none-some y e)) b.out

    inside : (f n : ℕ) → ((n ≡ 0) ⊎ (k.numbers < f + n) → ⊥) → f + n ≤ k.numbers
    inside f n h = ⊎_elim (λ past. absurd (h (inr past))) (λ in'. omega (arith, in')) (cases_lt k.numbers (f + n))

    -- where the stream's next number lies
    pub next_small : (l : ℕ) (p : Position) → x l ≡ Some p → (next_of (x l) ≡ end_of (x l) → ⊥) → (p.next < p.end) × (p.end ≤ k.numbers)
    next_small l p es more =
        let was = b.streams l p es in
        let ne : p.next ≢ p.end = subst (λ o. next_of o ≢ end_of o) es more in
        (omega (arith, was.0, was.1, ne), was.1)

    moved_bounded : (c : Call) (a : Answer) → NoneOf (reasons k d x c) → Told k d x c a → Bounded k (moves c a d) (streamed c x)
    moved_bounded (begin n) a no' (y, hy, ea, fits) =
        subst (λ v. Bounded k (moves (begin n) v d) x) (sym ea)
        (record {
          out = all_update (λ m y. m < k.numbers) d.out n (head d.waiting) (λ y e. omega (arith, no'.0)) b.out;
          settled = b.settled;
          streams = b.streams;
        })
    moved_bounded (append l) a no' (p, es, (y, hy, ea, fits)) =
        let small = next_small l p es no'.1.0 in
        subst (λ v. Bounded k (moves (append l) v d) (streamed (append l) x)) (sym ea)
        (record {
          out = all_update (λ m y. m < k.numbers) d.out p.next (head d.waiting) (λ y e. omega (arith, small.0, small.1)) b.out;
          settled = b.settled;
          streams = all_update (λ m (q : Position). (q.next ≤ q.end) × (q.end ≤ k.numbers)) x l (raised (x l))
              (λ q e. subst (λ (z : Position). (z.next ≤ z.end) × (z.end ≤ k.numbers)) (same_Some _ q (sym (ap raised es) ∙ e)) (omega (arith, small.0), small.1)) b.streams;
        })
    moved_bounded (commit g) a no' y = record {
      out = out_gone g.number;
      settled = all_update (λ m y. m < k.numbers) d.settled g.number (d.out g.number) (b.out g.number) b.settled;
      streams = b.streams;
    }
    moved_bounded (abandon g) a no' y = record { out = out_gone g.number; settled = b.settled; streams = b.streams }
    moved_bounded (condemn g) a no' y = record { out = out_gone g.number; settled = b.settled; streams = b.streams }
    moved_bounded (read n) a no' y = b
    moved_bounded (trim n) a no' y = record {
      out = b.out;
      settled = all_update (λ m y. m < k.numbers) d.settled n None (λ y e. absurd (none-some y e)) b.settled;
      streams = b.streams;
    }
    moved_bounded (open_stream l f n) a no' y = record {
      out = b.out;
      settled = b.settled;
      streams = all_update (λ m (q : Position). (q.next ≤ q.end) × (q.end ≤ k.numbers)) x l (Some (started f n))
          (λ q e. subst (λ (z : Position). (z.next ≤ z.end) × (z.end ≤ k.numbers)) (same_Some _ q e) (omega arith, inside f n no'.0)) b.streams;
    }
    moved_bounded (close_stream l) a no' y = record {
      out = b.out;
      settled = b.settled;
      streams = all_update (λ m (q : Position). (q.next ≤ q.end) × (q.end ≤ k.numbers)) x l None (λ q e. absurd (none-some q e)) b.streams;
    }
    moved_bounded (position l) a no' y = b
    moved_bounded tally a no' y = b

    pub right_bounded : (c : Call) (a : Answer) → RightAnswer k d x c a → Bounded k (noted c a d) (streams_noted c a x)
    right_bounded c a r =
        ⊎_elim
        (λ z. subst (λ v. Bounded k (cond v (moves c a d) d) (cond v (streamed c x) x)) (sym (ap accepted z.1)) b)
        (λ z. subst (λ v. Bounded k (cond v (moves c a d) d) (cond v (streamed c x) x)) (sym (told_accepted k d x c a z.1)) (moved_bounded c a z.0 z.1))
        (reasoned (reasons k d x c) (Told k d x c a) a r)

-- ---- the labels of open streams

raised_some : (o : Option Position) (p : Position) → raised o ≡ Some p → (q : Position) × (o ≡ Some q)
raised_some None p e = absurd (none-some p e)
raised_some (Some q) p e = (q, refl)

streamed_exist : (c : Call) (x : Streams) → Labelled c → Exist x → Exist (streamed c x)
streamed_exist (append l) x is old =
    all_update (λ m y. m < 4294967296) x l (raised (x l)) (λ p e. let q = raised_some (x l) p e in old l q.0 q.1) old
streamed_exist (open_stream l f n) x is old = all_update (λ m y. m < 4294967296) x l (Some (started f n)) (λ p e. is) old
streamed_exist (close_stream l) x is old = all_update (λ m y. m < 4294967296) x l None (λ p e. absurd (none-some p e)) old
streamed_exist (begin n) x is old = old
streamed_exist (commit g) x is old = old
streamed_exist (abandon g) x is old = old
streamed_exist (condemn g) x is old = old
streamed_exist (read n) x is old = old
streamed_exist (trim n) x is old = old
streamed_exist (position l) x is old = old
streamed_exist tally x is old = old

pub noted_exist : (c : Call) (a : Answer) (x : Streams) → Labelled c → Exist x → Exist (streams_noted c a x)
noted_exist c a x is old = go (accepted a)
  where
    go : (v : _) → Exist (cond v (streamed c x) x)
    go true = streamed_exist c x is old
    go false = old

-- ---- whole histories

pub rights_bounded : (k : Limits) (h : History) → AllRight k h → Bounded k (ledger k.blocks h) (streams h)
rights_bounded k [] r = record {
  out = λ n b e. absurd (none-some b e);
  settled = λ n b e. absurd (none-some b e);
  streams = λ l p e. absurd (none-some p e);
}
rights_bounded k (e ∷ h) (r, before) = right_bounded k (ledger k.blocks h) (streams h) (rights_bounded k h before) e.0 e.1 r

pub run_bounded : (k : Limits) (h : History) (s : Standing) → Run k h s → Bounded k (ledger k.blocks h) (streams h)
run_bounded k h s run = rights_bounded k h (run_right k h s run)

pub labels_exist : (h : History) → AllLabelled (calls h) → Exist (streams h)
labels_exist [] is = λ l p e. absurd (none-some p e)
labels_exist (e ∷ h) (is, before) = noted_exist e.0 e.1 (streams h) is (labels_exist h before)
