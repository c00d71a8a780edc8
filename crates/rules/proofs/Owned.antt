-- Where every answer is right, the grants in hand are the blocks out, so no ending of an own grant is refused.
use Rattle.std.proofs.Common.{◌≡◌, ℕ, eqb, cond, ◌≢◌, [], ◌∷◌, Some, None, Option, sym, refl, ap, ◌∙◌, subst, inl, inr, ⊎_elim}
use Rattle.std.specs.Map.{update}
use Rattle.std.proofs.lemmas.Map.{update_here}
use Rattle.std.proofs.lemmas.Option.{none-some}
use Rattle.rules.specs.Calls.{Limits}
use Rattle.rules.specs.declared.GrantId.{GrantId}
use Rattle.rules.specs.declared.Call.{Call}
use Rattle.rules.specs.declared.Answer.{Answer}
use Rattle.rules.specs.declared.Call.TheVariants.{Begin as begin, Append as append, Commit as commit, Abandon as abandon, Condemn as condemn, Read as read, Trim as trim, Open as open_stream, Close as close_stream, Position as position, Tally as tally}
use Rattle.rules.specs.declared.Answer.TheVariants.{Granted as granted, Block as block, Opened as opened, Closed as closed, Stands as stands, Counts as counts, Refused as refused}
use Rattle.rules.specs.Rules.{next_of}
use Rattle.rules.specs.History.{History, Ledger, ledger, noted, moves, head, accepted}
use Rattle.rules.specs.Lives.{ended_grant, InHand, Streams, streams}
use Rattle.rules.specs.Right.{reasons, ending_reasons, Told, ByReasons, RightAnswer}
use Rattle.rules.proofs.Places.{updated, some_none, some_one, set_stays}
use Rattle.rules.proofs.Runs.{NoneOf, is_none, is_some}
use Rattle.rules.proofs.Rights.{AllRight, reasoned, told_accepted}

abbrev pub Hand : History → Ledger → Type 0
Hand h d = (g : GrantId) → InHand h g → d.out g.number ≡ Some g.block

module _ (h : History) (d : Ledger) (hand : Hand h d) (c : Call) (a : Answer) where
  -- an answer that gives no grant, and a call that ends none
  same_hand : (e : Ledger) → ((g : GrantId) → a ≡ granted g → ⊥) → e.out ≡ d.out → Hand ((c, a) ∷ h) e
  same_hand e no' q g (inl f) = absurd (no' g f)
  same_hand e no' q g (inr (had, ne)) = ap (λ f. f g.number) q ∙ hand g had

  given_hand : (n b : ℕ) (o : Option ℕ) → d.out n ≡ None → o ≡ Some b → a ≡ granted (record { number = n; block = b }) → (g : GrantId) → InHand ((c, a) ∷ h) g → update eqb d.out n o g.number ≡ Some g.block
  given_hand n b o free is ea g (inl e) =
      let q : granted (record { number = n; block = b }) ≡ granted g = sym ea ∙ e in
      let en : n ≡ g.number = cc in
      let eb : b ≡ g.block = cc in
      ap (update eqb d.out n o) (sym en) ∙ update_here d.out n o ∙ is ∙ ap Some eb
  given_hand n b o free is ea g (inr (had, ne)) =
      set_stays d.out n o g.number g.block (λ z. some_none g.block (d.out n) z free) (hand g had)

  ended_hand : (x : GrantId) → ended_grant c ≡ Some x → d.out x.number ≡ Some x.block → a ≡ block (Some x.block) → (g : GrantId) → InHand ((c, a) ∷ h) g → update eqb d.out x.number None g.number ≡ Some g.block
  ended_hand x ends was ea g (inl e) = let q : block (Some x.block) ≡ granted g = sym ea ∙ e in cc
  ended_hand x ends was ea g (inr (had, ne)) =
      ⊎_elim
      (λ u. absurd (ne (ends ∙ ap Some (λ i. record { number = sym u.0 i; block = some_one x.block g.block (d.out x.number) was (ap d.out (sym u.0) ∙ hand g had) i }))))
      (λ u. u.1 ∙ hand g had)
      (updated d.out x.number None g.number)

module _ (k : Limits) (h : History) (d : Ledger) (x : Streams) (hand : Hand h d) where
  -- what an accepted call makes of the ledger
  moved_hand : (c : Call) (a : Answer) → NoneOf (reasons k d x c) → Told k d x c a → Hand ((c, a) ∷ h) (moves c a d)
  moved_hand (begin n) a no' (b, front, ea, fits) g i =
      subst (λ y. (moves (begin n) y d).out g.number ≡ Some g.block) (sym ea)
      (given_hand h d hand (begin n) a n b (head d.waiting) (is_none (d.out n) no'.1.0) front ea g i)
  moved_hand (append l) a no' (q, es, (b, front, ea, fits)) g i =
      subst (λ y. (moves (append l) y d).out g.number ≡ Some g.block) (sym ea)
      (given_hand h d hand (append l) a q.next b (head d.waiting) (is_none (d.out q.next) (subst (λ y. d.out (next_of y) ≢ None → ⊥) es no'.1.1.0)) front ea g i)
  moved_hand (commit y) a no' ea g i = ended_hand h d hand (commit y) a y refl (is_some (d.out y.number) y.block no'.0) ea g i
  moved_hand (abandon y) a no' ea g i = ended_hand h d hand (abandon y) a y refl (is_some (d.out y.number) y.block no'.0) ea g i
  moved_hand (condemn y) a no' ea g i = ended_hand h d hand (condemn y) a y refl (is_some (d.out y.number) y.block no'.0) ea g i
  moved_hand (read n) a no' ea g i = same_hand h d hand (read n) a d (λ y e. let q : block _ ≡ granted y = sym ea ∙ e in cc) refl g i
  moved_hand (trim n) a no' ea g i = same_hand h d hand (trim n) a (moves (trim n) a d) (λ y e. let q : block _ ≡ granted y = sym ea ∙ e in cc) refl g i
  moved_hand (open_stream l f n) a no' (ea, fits) g i = same_hand h d hand (open_stream l f n) a d (λ y e. let q : opened ≡ granted y = sym ea ∙ e in cc) refl g i
  moved_hand (close_stream l) a no' (q, es, ea) g i = same_hand h d hand (close_stream l) a d (λ y e. let z : closed q.next ≡ granted y = sym ea ∙ e in cc) refl g i
  moved_hand (position l) a no' (q, es, ea) g i = same_hand h d hand (position l) a d (λ y e. let z : stands q ≡ granted y = sym ea ∙ e in cc) refl g i
  moved_hand tally a no' (n, ea, num) g i = same_hand h d hand tally a d (λ y e. let z : counts n ≡ granted y = sym ea ∙ e in cc) refl g i

  pub right_hand : (c : Call) (a : Answer) → RightAnswer k d x c a → Hand ((c, a) ∷ h) (noted c a d)
  right_hand c a j =
      ⊎_elim
      (λ r. subst (λ b. Hand ((c, a) ∷ h) (cond b (moves c a d) d)) (sym (ap accepted r.1))
      (same_hand h d hand c a d (λ y e. let q : refused r.0 ≡ granted y = sym r.1 ∙ e in cc) refl))
      (λ r. subst (λ b. Hand ((c, a) ∷ h) (cond b (moves c a d) d)) (sym (told_accepted k d x c a r.1)) (moved_hand c a r.0 r.1))
      (reasoned (reasons k d x c) (Told k d x c a) a j)

  ending_answer : (y g : GrantId) (a : Answer) → InHand h g → Some y ≡ Some g → ByReasons (ending_reasons d y) (a ≡ block (Some y.block)) a → a ≡ block (Some g.block)
  ending_answer y g a had e (inl i) =
      let q : y ≡ g = some_one y g (Some y) refl e in
      absurd (i.0 (subst (λ (z : GrantId). d.out z.number ≡ Some z.block) (sym q) (hand g had)))
  ending_answer y g a had e (inr i) = i.1 ∙ ap (λ (z : GrantId). block (Some z.block)) (some_one y g (Some y) refl e)

  pub own_ended : (c : Call) (a : Answer) → RightAnswer k d x c a → (g : GrantId) → InHand h g → ended_grant c ≡ Some g → a ≡ block (Some g.block)
  own_ended (commit y) a j g had e = ending_answer y g a had e j
  own_ended (abandon y) a j g had e = ending_answer y g a had e j
  own_ended (condemn y) a j g had e = ending_answer y g a had e j
  own_ended (begin n) a j g had e = absurd (none-some g e)
  own_ended (append l) a j g had e = absurd (none-some g e)
  own_ended (read n) a j g had e = absurd (none-some g e)
  own_ended (trim n) a j g had e = absurd (none-some g e)
  own_ended (open_stream l f n) a j g had e = absurd (none-some g e)
  own_ended (close_stream l) a j g had e = absurd (none-some g e)
  own_ended (position l) a j g had e = absurd (none-some g e)
  own_ended tally a j g had e = absurd (none-some g e)

pub rights_hand : (k : Limits) (h : History) → AllRight k h → Hand h (ledger k.blocks h)
rights_hand k [] r = λ g i. absurd i
rights_hand k (e ∷ h) (r, before) = right_hand k h (ledger k.blocks h) (streams h) (rights_hand k h before) e.0 e.1 r

-- ---- and what is out is in hand

module _ (k : Limits) (h : History) (d : Ledger) (y : Streams) (hand : Hand h d)
    (back : (n b : ℕ) → d.out n ≡ Some b → InHand h (record { number = n; block = b })) where
  -- a block sent out at q, where none was
  sent_back : (c : Call) (a : Answer) (q x : ℕ) → ended_grant c ≡ None → head d.waiting ≡ Some x → a ≡ granted (record { number = q; block = x }) → (n b : ℕ) → update eqb d.out q (head d.waiting) n ≡ Some b
      → InHand ((c, a) ∷ h) (record { number = n; block = b })
  sent_back c a q x none front ea n b h' =
      ⊎_elim
      (λ u. inl (ea ∙ (λ i. granted (record { number = sym u.0 i; block = some_one x b (head d.waiting) front (sym u.1 ∙ h') i }))))
      (λ u. inr (back n b (sym u.1 ∙ h'), λ e. none-some _ (sym none ∙ e)))
      (updated d.out q (head d.waiting) n)

  ended_back : (c : Call) (a : Answer) (x : GrantId) → ended_grant c ≡ Some x → (n b : ℕ) → update eqb d.out x.number None n ≡ Some b → InHand ((c, a) ∷ h) (record { number = n; block = b })
  ended_back c a x ends n b h' =
      ⊎_elim
      (λ u. absurd (none-some b (sym u.1 ∙ h')))
      (λ u. inr (back n b (sym u.1 ∙ h'), λ e. u.0 (let q : Some x ≡ Some (record { number = n; block = b }) = sym ends ∙ e in ap (λ (z : GrantId). z.number) (sym (some_one x (record { number = n; block = b }) (Some x) refl q)))))
      (updated d.out x.number None n)

  other_back : (c : Call) (a : Answer) → ended_grant c ≡ None → (n b : ℕ) → d.out n ≡ Some b → InHand ((c, a) ∷ h) (record { number = n; block = b })
  other_back c a none n b h' = inr (back n b h', λ e. none-some _ (sym none ∙ e))

  moved_back : (c : Call) (a : Answer) → NoneOf (reasons k d y c) → Told k d y c a → (n b : ℕ) → (moves c a d).out n ≡ Some b → InHand ((c, a) ∷ h) (record { number = n; block = b })
  moved_back (begin q) a no' (x, front, ea, fits) n b =
      subst (λ y. (moves (begin q) y d).out n ≡ Some b → InHand ((begin q, a) ∷ h) (record { number = n; block = b })) (sym ea)
      (sent_back (begin q) a q x refl front ea n b)
  moved_back (append l) a no' (q, es, (x, front, ea, fits)) n b =
      subst (λ y. (moves (append l) y d).out n ≡ Some b → InHand ((append l, a) ∷ h) (record { number = n; block = b })) (sym ea)
      (sent_back (append l) a q.next x refl front ea n b)
  moved_back (commit x) a no' z n b = ended_back (commit x) a x refl n b
  moved_back (abandon x) a no' z n b = ended_back (abandon x) a x refl n b
  moved_back (condemn x) a no' z n b = ended_back (condemn x) a x refl n b
  moved_back (read q) a no' z n b = other_back (read q) a refl n b
  moved_back (trim q) a no' z n b = other_back (trim q) a refl n b
  moved_back (open_stream l f q) a no' z n b = other_back (open_stream l f q) a refl n b
  moved_back (close_stream l) a no' z n b = other_back (close_stream l) a refl n b
  moved_back (position l) a no' z n b = other_back (position l) a refl n b
  moved_back tally a no' z n b = other_back tally a refl n b

  right_back : (c : Call) (a : Answer) → RightAnswer k d y c a → (n b : ℕ) → (noted c a d).out n ≡ Some b → InHand ((c, a) ∷ h) (record { number = n; block = b })
  right_back c a j n b =
      ⊎_elim
      (λ r h'.
      let had = back n b (ap (λ v. (cond v (moves c a d) d).out n) (sym (ap accepted r.1)) ∙ h') in
      inr (had, λ e. let q : block (Some b) ≡ refused r.0 = sym (own_ended k h d y hand c a j (record { number = n; block = b }) had e) ∙ r.1 in cc))
      (λ r h'. moved_back c a r.0 r.1 n b (ap (λ v. (cond v (moves c a d) d).out n) (sym (told_accepted k d y c a r.1)) ∙ h'))
      (reasoned (reasons k d y c) (Told k d y c a) a j)

pub rights_back : (k : Limits) (h : History) → AllRight k h → (n b : ℕ) → (ledger k.blocks h).out n ≡ Some b → InHand h (record { number = n; block = b })
rights_back k [] r n b = λ e. absurd (none-some b e)
rights_back k (e ∷ h) (r, before) n b =
    right_back k h (ledger k.blocks h) (streams h) (rights_hand k h before) (rights_back k h before) e.0 e.1 r n b
