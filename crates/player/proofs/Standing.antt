-- A life goes on by a call, with the grants held.
use Rattle.std.proofs.Common.{◌≡◌, ℕ, eqb, true, false, Bool, cond, List, [], ◌∷◌, ◌++◌, Some, None, Ok, Err, IsOk, Result, ◌≢◌, sym, refl, ap, ◌∙◌, subst, inl, ⊎_elim}
use Rattle.std.specs.Map.{update}
use Rattle.std.proofs.lemmas.Map.{update_here}
use Rattle.std.proofs.lemmas.Option.{none-some}
use Rattle.std.proofs.lemmas.Bool.{true≢false, false≢true}
use Rattle.refusal.specs.declared.Refusal.{Refusal}
use Rattle.label.specs.declared.stream.StreamLabel.{StreamLabel}
use Rattle.map.specs.declared.Map.{Ghosts}
use Rattle.ring.specs.Queue.{places}
use Rattle.rules.specs.declared.Entry.{Entry}
use Rattle.rules.specs.declared.Position.{Position as Spot}
use Rattle.rules.specs.declared.GrantId.{GrantId}
use Rattle.rules.specs.declared.Call.{Call}
use Rattle.rules.specs.declared.Call.TheVariants.{Begin, Append, Commit, Abandon, Condemn, Read, Trim, Open, Close, Position, Tally}
use Rattle.rules.specs.declared.Answer.{Answer}
use Rattle.rules.specs.declared.Answer.TheVariants.{Granted, Block, Refused}
use Rattle.rules.specs.Calls.{Limits}
use Rattle.rules.specs.Rules.{next_of}
use Rattle.rules.specs.History.{History, Ledger, ledger, noted, moves, accepted, gives, head}
use Rattle.rules.specs.Lives.{InHand, ended_grant, Labelled, Streams, streams}
use Rattle.rules.specs.Right.{reasons, Told, RightAnswer}
use Rattle.rules.proofs.Places.{some_one}
use Rattle.rules.proofs.Runs.{NoneOf, is_none}
use Rattle.rules.proofs.Rights.{AllRight, run_right, reasoned}
use Rattle.rules.proofs.Owned.{rights_hand, rights_back, own_ended}
use Rattle.service.specs.declared.grant.Grant.{Grant}
use Rattle.service.specs.declared.state.Service.{Service}
use Rattle.service.specs.Service.{limits_of, standing, ReachedBy, Fixed, StepsBy, Finishes, plain, begun, ended}
use Rattle.player.specs.Hands.{block_at, without, Holds, Taken, Keeps, GivenBack}
use Rattle.service.specs.declared.entry.Ending.TheVariants as end
use Rattle.player.specs.Playing.{ending, ReachedWith, given_up}
use Rattle.player.proofs.Hands.{holds_kept, holds_without, newest}

-- ---- what a call makes of the blocks out

-- a grant given sends its block out at its number, where none was
module _ (k : Limits) (d : Ledger) (x : Streams) (g : GrantId) where
  pub given_free : (c : Call) → gives c ≡ true → RightAnswer k d x c (Granted g) → d.out g.number ≡ None
  given_free c yes' j = ⊎_elim (λ z. let q : Granted g ≡ Refused z.0 = z.1 in cc) (λ z. go c yes' z.0 z.1) (reasoned (reasons k d x c) (Told k d x c (Granted g)) (Granted g) j)
    where
      go : (c : Call) → gives c ≡ true → NoneOf (reasons k d x c) → Told k d x c (Granted g) → d.out g.number ≡ None
      go (Begin n) y no' (b, front, ea, fits) =
          let q : g.number ≡ n = cc in
          ap d.out q ∙ is_none (d.out n) no'.1.0
      go (Append l) y no' (p, es, (b, front, ea, fits)) =
          let q : g.number ≡ p.next = cc in
          ap d.out q ∙ is_none (d.out p.next) (subst (λ z. d.out (next_of z) ≢ None → ⊥) es no'.1.1.0)
      go (Commit z) y no' a = absurd (false≢true y)
      go (Abandon z) y no' a = absurd (false≢true y)
      go (Condemn z) y no' a = absurd (false≢true y)
      go (Read z) y no' a = absurd (false≢true y)
      go (Trim z) y no' a = absurd (false≢true y)
      go (Open l f n) y no' a = absurd (false≢true y)
      go (Close l) y no' a = absurd (false≢true y)
      go (Position l) y no' a = absurd (false≢true y)
      go Tally y no' a = absurd (false≢true y)

given_out : (c : Call) (g : GrantId) (d : Ledger) → gives c ≡ true → (noted c (Granted g) d).out ≡ update eqb d.out g.number (head d.waiting)
given_out (Begin n) g d y = refl
given_out (Append l) g d y = refl
given_out (Commit x) g d y = absurd (false≢true y)
given_out (Abandon x) g d y = absurd (false≢true y)
given_out (Condemn x) g d y = absurd (false≢true y)
given_out (Read x) g d y = absurd (false≢true y)
given_out (Trim x) g d y = absurd (false≢true y)
given_out (Open l f n) g d y = absurd (false≢true y)
given_out (Close l) g d y = absurd (false≢true y)
given_out (Position l) g d y = absurd (false≢true y)
given_out Tally g d y = absurd (false≢true y)

gives_ends : (c : Call) → gives c ≡ true → ended_grant c ≡ None
gives_ends (Begin n) y = refl
gives_ends (Append l) y = refl
gives_ends (Commit x) y = absurd (false≢true y)
gives_ends (Abandon x) y = absurd (false≢true y)
gives_ends (Condemn x) y = absurd (false≢true y)
gives_ends (Read x) y = refl
gives_ends (Trim x) y = refl
gives_ends (Open l f n) y = refl
gives_ends (Close l) y = refl
gives_ends (Position l) y = refl
gives_ends Tally y = refl

ended_out : (c : Call) (x : GrantId) (b : ℕ) (d : Ledger) → ended_grant c ≡ Some x → (noted c (Block (Some b)) d).out ≡ update eqb d.out x.number None
ended_out (Commit g) x b d e = ap (λ (z : GrantId). update eqb d.out z.number None) (some_one g x (Some g) refl e)
ended_out (Abandon g) x b d e = ap (λ (z : GrantId). update eqb d.out z.number None) (some_one g x (Some g) refl e)
ended_out (Condemn g) x b d e = ap (λ (z : GrantId). update eqb d.out z.number None) (some_one g x (Some g) refl e)
ended_out (Begin n) x b d e = absurd (none-some x e)
ended_out (Append l) x b d e = absurd (none-some x e)
ended_out (Read n) x b d e = absurd (none-some x e)
ended_out (Trim n) x b d e = absurd (none-some x e)
ended_out (Open l f n) x b d e = absurd (none-some x e)
ended_out (Close l) x b d e = absurd (none-some x e)
ended_out (Position l) x b d e = absurd (none-some x e)
ended_out Tally x b d e = absurd (none-some x e)

both_out : (v : Bool) (d e : Ledger) → d.out ≡ e.out → (cond v d e).out ≡ e.out
both_out true d e q = q
both_out false d e q = refl

-- calls that neither give nor end
pub other_out : (c : Call) (a : Answer) (d : Ledger) → gives c ≡ false → ended_grant c ≡ None → (noted c a d).out ≡ d.out
other_out (Begin n) a d y e = absurd (true≢false y)
other_out (Append l) a d y e = absurd (true≢false y)
other_out (Commit x) a d y e = absurd (none-some x (sym e))
other_out (Abandon x) a d y e = absurd (none-some x (sym e))
other_out (Condemn x) a d y e = absurd (none-some x (sym e))
other_out (Read n) a d y e = both_out (accepted a) d d refl
other_out (Trim n) a d y e = both_out (accepted a) (moves (Trim n) a d) d refl
other_out (Open l f n) a d y e = both_out (accepted a) d d refl
other_out (Close l) a d y e = both_out (accepted a) d d refl
other_out (Position l) a d y e = both_out (accepted a) d d refl
other_out Tally a d y e = both_out (accepted a) d d refl

refused_out : (c : Call) (e : Refusal) (d : Ledger) → (noted c (Refused e) d).out ≡ d.out
refused_out c e d = refl

gives_labelled : (c : Call) → gives c ≡ true → Labelled c
gives_labelled (Begin n) y = tt
gives_labelled (Append l) y = tt
gives_labelled (Commit x) y = tt
gives_labelled (Abandon x) y = tt
gives_labelled (Condemn x) y = tt
gives_labelled (Read n) y = tt
gives_labelled (Trim n) y = tt
gives_labelled (Open l f n) y = absurd (false≢true y)
gives_labelled (Close l) y = tt
gives_labelled (Position l) y = tt
gives_labelled Tally y = tt

ends_labelled : (c : Call) (g : GrantId) → ended_grant c ≡ Some g → Labelled c
ends_labelled (Begin n) g y = tt
ends_labelled (Append l) g y = tt
ends_labelled (Commit x) g y = tt
ends_labelled (Abandon x) g y = tt
ends_labelled (Condemn x) g y = tt
ends_labelled (Read n) g y = tt
ends_labelled (Trim n) g y = tt
ends_labelled (Open l f n) g y = absurd (none-some g y)
ends_labelled (Close l) g y = tt
ends_labelled (Position l) g y = tt
ends_labelled Tally g y = tt

-- ---- a life goes on

module _ {L B S : Type 0} (bm : Ghosts B L Entry) (sm : Ghosts S StreamLabel Spot) (h : History) (s t : Service L B S) (gs : List Grant) (stood : ReachedWith bm sm h s gs) (room : places t.pool ≡ places s.pool) (c : Call) where
  held : Holds (ledger (places t.pool) h).out gs
  held = subst (λ p. Holds (ledger p h).out gs) (sym room) stood.holds

  not_ending : ended_grant c ≡ None → (g : GrantId) → ended_grant c ≡ Some g → InHand h g
  not_ending none g e = absurd (none-some g (sym none ∙ e))

  -- a begin or an append
  pub stood_given : gives c ≡ true → (r : Result Grant Refusal) (a : Answer) (gs' : List Grant) → Keeps gs r a gs' → StepsBy bm sm s c (begun r) t → ReachedWith bm sm ((c, a) ∷ h) t gs'
  stood_given yes' (Ok g) a gs' (ea, same) goes =
      let lived : ReachedBy bm sm ((c, Granted (plain g)) ∷ h) t = goes h stood.lived in
      let right : AllRight (limits_of bm sm t) ((c, Granted (plain g)) ∷ h) = run_right (limits_of bm sm t) ((c, Granted (plain g)) ∷ h) (standing bm sm t) lived.run in
      let free = given_free (limits_of bm sm t) (ledger (places t.pool) h) (streams h) (plain g) c yes' right.0 in
      let at : (ledger (places t.pool) ((c, Granted (plain g)) ∷ h)).out g.number ≡ Some g.block = rights_hand (limits_of bm sm t) ((c, Granted (plain g)) ∷ h) right (plain g) (inl refl) in
      let out = given_out c (plain g) (ledger (places t.pool) h) yes' in
      let front : head (ledger (places t.pool) h).waiting ≡ Some g.block = sym (update_here (ledger (places t.pool) h).out g.number (head (ledger (places t.pool) h).waiting)) ∙ (λ i. sym out i g.number) ∙ at in
      subst (λ x. ReachedWith bm sm ((c, x) ∷ h) t gs') (sym ea) (record {
        lived = lived;
        own = (not_ending (gives_ends c yes'), stood.own);
        labels = (gives_labelled c yes', stood.labels);
        holds = subst (λ xs. Holds (ledger (places t.pool) ((c, Granted (plain g)) ∷ h)).out xs) (sym same)
            (subst (λ f. Holds f (gs ++ g ∷ [])) (ap (update eqb (ledger (places t.pool) h).out g.number) (sym front) ∙ sym out)
            (holds_kept (ledger (places t.pool) h).out gs g held free));
      })
  stood_given yes' (Err e) a gs' (ea, same) goes =
      subst (λ x. ReachedWith bm sm ((c, x) ∷ h) t gs') (sym ea) (record {
        lived = goes h stood.lived;
        own = (not_ending (gives_ends c yes'), stood.own);
        labels = (gives_labelled c yes', stood.labels);
        holds = subst (λ xs. Holds (ledger (places t.pool) h).out xs) (sym same) held;
      })

  -- a call that neither gives nor ends
  pub stood_other : gives c ≡ false → ended_grant c ≡ None → Labelled c → (a : Answer) → StepsBy bm sm s c a t → ReachedWith bm sm ((c, a) ∷ h) t gs
  stood_other no' none is a goes = record {
    lived = goes h stood.lived;
    own = (not_ending none, stood.own);
    labels = (is, stood.labels);
    holds = subst (λ f. Holds f gs) (sym (other_out c a (ledger (places t.pool) h) no' none)) held;
  }

  -- an ending of a grant that is held
  module _ (g : Grant) (is : ended_grant c ≡ Some (plain g)) (at : block_at gs g.number ≡ Some g.block) where
    in_hand : InHand h (plain g)
    in_hand = rights_back (limits_of bm sm s) h (run_right (limits_of bm sm s) h (standing bm sm s) stood.lived.run) g.number g.block (sym (stood.holds.all g.number) ∙ at)

    own_ending : (x : GrantId) → ended_grant c ≡ Some x → InHand h x
    own_ending x e = subst (InHand h) (some_one (plain g) x (ended_grant c) is e) in_hand

    pub refused_never : (e : Refusal) → StepsBy bm sm s c (Refused e) t → ⊥
    refused_never e goes =
        let lived : ReachedBy bm sm ((c, Refused e) ∷ h) t = goes h stood.lived in
        let k = limits_of bm sm t in
        let right : AllRight k ((c, Refused e) ∷ h) = run_right k ((c, Refused e) ∷ h) (standing bm sm t) lived.run in
        let said : Refused e ≡ Block (Some g.block) = own_ended k h (ledger k.blocks h) (streams h) (rights_hand k h right.1) c (Refused e) right.0 (plain g) in_hand is in
        let q : Refused e ≡ Block (Some g.block) = said in
        cc

    pub stood_ended : (r : Result ℕ (Refusal × Grant)) (a : Answer) (gs' : List Grant) → GivenBack (without gs g.number) r a gs' → StepsBy bm sm s c (ended r) t → ReachedWith bm sm ((c, a) ∷ h) t gs'
    stood_ended (Ok b) a gs' (ea, same) goes =
        subst (λ x. ReachedWith bm sm ((c, x) ∷ h) t gs') (sym ea) (record {
          lived = goes h stood.lived;
          own = (own_ending, stood.own);
          labels = (ends_labelled c (plain g) is, stood.labels);
          holds = subst (λ xs. Holds (ledger (places t.pool) ((c, Block (Some b)) ∷ h)).out xs) (sym same)
              (subst (λ f. Holds f (without gs g.number)) (sym (ended_out c (plain g) b (ledger (places t.pool) h) is)) (holds_without (ledger (places t.pool) h).out gs g.number held));
        })
    stood_ended (Err e) a gs' back goes = absurd (refused_never e.0 goes)

-- ---- the commands

module _ {L B S : Type 0} (bm : Ghosts B L Entry) (sm : Ghosts S StreamLabel Spot) (s t : Service L B S) where
  -- a begin or an append
  pub obeyed_giving : (c : Call) → gives c ≡ true → (r : Result Grant Refusal) (a : Answer) (mid gs gs' : List Grant) → mid ≡ gs → Keeps mid r a gs' → Fixed bm sm s t → StepsBy bm sm s c (begun r) t
      → Fixed bm sm s t × ((h : History) → ReachedWith bm sm h s gs → ReachedWith bm sm ((c, a) ∷ h) t gs')
  obeyed_giving c yes' r a mid gs gs' same keeps fixed goes =
      (fixed, λ h stood. stood_given bm sm h s t gs stood fixed.places c yes' r a gs' (subst (λ xs. Keeps xs r a gs') same keeps) goes)

  pub obeyed_appending : (l x : ℕ) → x ≡ l → (r : Result Grant Refusal) (a : Answer) (mid gs gs' : List Grant) → mid ≡ gs → Keeps mid r a gs' → Fixed bm sm s t → StepsBy bm sm s (Append l) (begun r) t
      → Fixed bm sm s t × ((h : History) → ReachedWith bm sm h s gs → ReachedWith bm sm ((Append x, a) ∷ h) t gs')
  obeyed_appending l x is r a mid gs gs' same keeps fixed goes =
      subst (λ y. Fixed bm sm s t × ((h : History) → ReachedWith bm sm h s gs → ReachedWith bm sm ((Append y, a) ∷ h) t gs')) (sym is) (obeyed_giving (Append l) refl r a mid gs gs' same keeps fixed goes)

  -- an ending
  pub obeyed_ending : (call : GrantId → Call) → ((x : GrantId) → ended_grant (call x) ≡ Some x) → (n : ℕ) (mid gs gs₁ gs' : List Grant) (g : Grant) (p : GrantId) (r : Result ℕ (Refusal × Grant)) (a : Answer)
      → mid ≡ gs → Taken mid n (Some g) gs₁ → p ≡ plain g → GivenBack gs₁ r a gs' → Fixed bm sm s t → StepsBy bm sm s (call (plain g)) (ended r) t
      → (ending call n (block_at gs n) ≡ Some (call p)) × Fixed bm sm s t × ((h : History) → ReachedWith bm sm h s gs → ReachedWith bm sm ((call p, a) ∷ h) t gs')
  obeyed_ending call is n mid gs gs₁ gs' g p r a same took shows back fixed goes = (
    ap (ending call n) ((λ i. block_at (sym same i) n) ∙ took.1) ∙ (λ i. Some (call (record { number = sym took.0 i; block = g.block }))) ∙ (λ i. Some (call (sym shows i))),
    fixed,
    λ h stood. subst (λ x. ReachedWith bm sm ((call x, a) ∷ h) t gs') (sym shows)
        (stood_ended bm sm h s t gs stood fixed.places (call (plain g)) g (is (plain g)) ((λ i. block_at (sym same i) (took.0 i)) ∙ took.1) r a gs'
        (subst (λ xs. GivenBack xs r a gs') (took.2 ∙ (λ i. without (same i) (sym took.0 i))) back) goes),
  )

-- ---- the newest grant abandoned

module _ {L B S : Type 0} (bm : Ghosts B L Entry) (sm : Ghosts S StreamLabel Spot) (s t : Service L B S) (gs rest : List Grant) (g : Grant) (is : gs ≡ rest ++ g ∷ []) (fixed : Fixed bm sm s t) where
  pub abandoned : (r : Result ℕ (Refusal × Grant)) → Finishes bm sm s end.Abandon g r t → StepsBy bm sm s (Abandon (plain g)) (ended r) t → (h : History) → ReachedWith bm sm h s gs → IsOk r × ReachedWith bm sm ((Abandon (plain g), Block (Some g.block)) ∷ h) t rest
  abandoned (Ok b) did goes h stood =
      let found = newest gs rest g (ledger (places s.pool) h).out is stood.holds in
      (refl, subst (λ x. ReachedWith bm sm ((Abandon (plain g), Block (Some x)) ∷ h) t rest) did.0 (stood_ended bm sm h s t gs stood fixed.places (Abandon (plain g)) g refl found.0 (Ok b) (Block (Some b)) rest (refl, sym found.1) goes))
  abandoned (Err x) did goes h stood =
      let found = newest gs rest g (ledger (places s.pool) h).out is stood.holds in
      absurd (refused_never bm sm h s t gs stood fixed.places (Abandon (plain g)) g refl found.0 x.0 goes)

pub given_up_last : (rest : List Grant) (g : Grant) (h : History) → given_up (rest ++ g ∷ []) h ≡ given_up rest ((Abandon (plain g), Block (Some g.block)) ∷ h)
given_up_last [] g h = refl
given_up_last (x ∷ xs) g h = ap (λ i. (Abandon (plain x), Block (Some x.block)) ∷ i) (given_up_last xs g h)
