-- What the calls of a stream leave goes by the rules.
use Rattle.std.proofs.Common.{◌≡◌, ℕ, ◌+◌, ◌<◌, ◌≤◌, ◌^◌, min, eqb, ◌≢◌, List, [], ◌∷◌, length, Some, None, Ok, Err, Option, Result, sym, refl, ap, ◌∙◌, subst, inr, arith}
use Rattle.std.specs.Map.{update}
use Rattle.refusal.specs.declared.Refusal.{Refusal}
use Rattle.label.specs.declared.stream.StreamLabel.{StreamLabel}
use Rattle.map.specs.declared.Denied.{Denied}
use Rattle.map.specs.declared.Denied.TheVariants.{Full}
use Rattle.map.specs.declared.Map.{Ghosts}
use Rattle.map.specs.Meaning.{Finds, Puts, beside}
use Rattle.ring.specs.Queue.{items, places, Popped}
use Rattle.rules.specs.declared.Entry.{Entry}
use Rattle.rules.specs.declared.Position.{Position}
use Rattle.rules.specs.Calls.{Labels, Limits, Standing}
use Rattle.rules.specs.declared.Call.{Call}
use Rattle.rules.specs.declared.Answer.{Answer}
use Rattle.rules.specs.declared.Call.TheVariants.{Append as append}
use Rattle.rules.specs.declared.Answer.TheVariants.{Granted as granted}
use Rattle.rules.specs.Rules.{Step, advanced, Judges, Accepts, grant_checks, out_of, settled_of, entry, next_of, end_of}
use Rattle.rules.specs.History.{History, given_by, ended_by}
use Rattle.rules.specs.Lives.{streams}
use Rattle.rules.proofs.Places.{some_none}
use Rattle.rules.proofs.Bounded.{run_bounded}
use Rattle.rules.proofs.Streams.{run_streams}
use Rattle.service.specs.declared.grant.Grant.{Grant}
use Rattle.service.specs.declared.state.Service.{Service}
use Rattle.service.specs.Pool.{lost_in, more}
use Rattle.service.specs.Service.{limits_of, standing, ReachedBy, StepsBy, LeavesStreams, Sends, Appended, Appends, begun, gone_on, grant_id}
use Rattle.service.proofs.Words.{at}
use Rattle.service.proofs.Lives.{lives, refused_lives, outs_below}

-- a service with another stream map
abbrev pub with_streams : {L B S : Type 0} → Service L B S → S → Service L B S
with_streams s m = record {
  limit = s.limit;
  pool = s.pool;
  marks = s.marks;
  entries = s.entries;
  streams = m;
  out = s.out;
  condemned = s.condemned;
  fault = s.fault;
  line = s.line;
}

module _ {L B S : Type 0} (bm : Ghosts B L Entry) (sm : Ghosts S StreamLabel Position) (s : Service L B S)
    (l : ℕ) (m₁ : S) (old : Option Position) (found : Finds sm.pairs sm.shape sm.fits s.streams l old m₁) (p : Position) (is : old ≡ Some p) where
  open_there : sm.pairs s.streams l ≡ Some p
  open_there = sym found.answer ∙ is

  pub appended : p.next ≢ p.end → (t : Service L B S) (b : ℕ) → Sends bm sm (with_streams s m₁) p.next (Ok b) t → (q : Position) → q ≡ gone_on p → (r : Result (Option Position) Denied) (m₂ : S)
      → Puts sm.pairs sm.shape sm.fits t.streams l q r m₂ → Appended bm sm s l p.next b (with_streams t m₂)
  appended more t b sent q eq r m₂ puts = record {
    stream = p;
    open_at = open_there;
    next = refl;
    more = more;
    sent = record {
      free = sent.free;
      fits = sent.fits;
      left = record {
        fit = sent.left.fit;
        pairs = sent.left.pairs;
        stream_fit = puts.fit ∙ sent.left.stream_fit ∙ found.fit;
        streams = gone r puts;
        pool = sent.left.pool;
        marks = sent.left.marks;
        area = sent.left.area;
        out = sent.left.out;
        condemned = sent.left.condemned;
        limit = sent.left.limit;
        fault = sent.left.fault;
      };
    };
  }
    where
      before : sm.pairs t.streams ≡ sm.pairs s.streams
      before = sent.left.streams ∙ found.after

      gone : (r : Result (Option Position) Denied) → Puts sm.pairs sm.shape sm.fits t.streams l q r m₂ → sm.pairs m₂ ≡ update eqb (sm.pairs s.streams) l (Some (gone_on p))
      gone (Ok o) did = did.answer.2 ∙ (λ i. update eqb (before i) l (Some (eq i)))
      gone (Err Full) did = absurd (some_none p (sm.pairs s.streams l) open_there ((λ i. sym before i l) ∙ did.answer.0))

-- an append is a step of the rules
module _ (k : Limits) (w : List ℕ) (f : ℕ → Option Entry) (x : ℕ → Option Position) (d : Labels) (l : ℕ) (p : Position) (open_at : x l ≡ Some p) (further : p.next ≢ p.end) where
  appends_next : (b : ℕ) (rest : List ℕ) → out_of (f p.next) ≡ None → w ≡ b ∷ rest → k.blocks_fit (beside f p.next)
      → Step k (at w f x d) (append l) (granted (grant_id p.next b)) (at rest (update eqb f p.next (entry (settled_of (f p.next)) (Some b))) (update eqb x l (Some (advanced p))) d)
  appends_next b rest free e fits =
      inr (
        λ none. some_none p (x l) open_at none,
        inr (
          λ ended. further (subst (λ o. next_of o ≡ end_of o) open_at ended),
          subst (λ o. Judges (grant_checks k s (next_of o)) s (granted (grant_id p.next b)) t (Accepts k s (append l) (granted (grant_id p.next b)) t)) (sym open_at)
              (inr (λ ne. ne free, inr (λ z. cons_nil (sym e ∙ z), inr (λ full. full.1 fits, (p, open_at, (b, rest, e, refl, refl, λ _. fits)))))),
        ),
      )
    where
      s : Standing
      s = at w f x d

      t : Standing
      t = at rest (update eqb f p.next (entry (settled_of (f p.next)) (Some b))) (update eqb x l (Some (advanced p))) d

      cons_nil : b ∷ rest ≡ [] → ⊥
      cons_nil z = let q : length (b ∷ rest) ≡ length {A = ℕ} [] = ap length z in omega arith

  appends_it : (n : ℕ) → n ≡ p.next → (b : ℕ) (rest : List ℕ) → out_of (f n) ≡ None → w ≡ b ∷ rest → k.blocks_fit (beside f n)
      → Step k (at w f x d) (append l) (granted (grant_id n b)) (at rest (update eqb f n (entry (settled_of (f n)) (Some b))) (update eqb x l (Some (advanced p))) d)
  appends_it n next =
      subst (λ n. (b : ℕ) (rest : List ℕ) → out_of (f n) ≡ None → w ≡ b ∷ rest → k.blocks_fit (beside f n)
      → Step k (at w f x d) (append l) (granted (grant_id n b)) (at rest (update eqb f n (entry (settled_of (f n)) (Some b))) (update eqb x l (Some (advanced p))) d))
      (sym next) appends_next

module _ {L B S : Type 0} (bm : Ghosts B L Entry) (sm : Ghosts S StreamLabel Position) (h : History) (s t : Service L B S) (lived : ReachedBy bm sm h s) (l : ℕ) where
  -- a call that changes the streams alone
  stream_lives : (c : Call) (a : Answer) (x : ℕ → Option Position) → LeavesStreams bm sm s x t → given_by c a ≡ 0 → ended_by c a ≡ 0
      → Step (limits_of bm sm s) (standing bm sm s) c a (at (items s.pool) (bm.pairs s.entries) x (lost_in s.marks.cells.now))
      → ReachedBy bm sm ((c, a) ∷ h) t
  stream_lives c a x left none zero step =
      lives bm sm h s t c lived a (bm.pairs s.entries) x (λ q. q ≡ s.pool) s.marks.cells.now s.out s.condemned left
      (items s.pool) (ap items left.pool) (ap places left.pool) step (omega (arith, lived.out, none, zero)) refl lived.condemned

  next_small : (p : Position) → sm.pairs s.streams l ≡ Some p → p.next ≢ p.end → gone_on p ≡ advanced p
  next_small p e ne =
      let k = limits_of bm sm s in
      let same : streams h l ≡ Some p = (λ i. sym (run_streams k h (standing bm sm s) lived.run) i l) ∙ e in
      let was = (run_bounded k h (standing bm sm s) lived.run).streams l p same in
      let below : s.limit < 2 ^ 32 = lived.bound in
      let under : p.end ≤ s.limit = was.1 in
      let small : min (p.next + 1) 4294967295 ≡ p.next + 1 = omega (arith, was.0, under, below, ne) in
      λ i. record p { next = small i }

  appended_lives : (n b : ℕ) → Appended bm sm s l n b t → ReachedBy bm sm ((append l, granted (grant_id n b)) ∷ h) t
  appended_lives n b did =
      lives bm sm h s t (append l) lived (granted (grant_id n b)) (update eqb (bm.pairs s.entries) n (entry (settled_of (bm.pairs s.entries n)) (Some b)))
      (update eqb (sm.pairs s.streams) l (Some (gone_on did.stream))) (Popped s.pool b) s.marks.cells.now (more s.out) s.condemned did.sent.left
      (items t.pool) refl did.sent.left.pool.places
      (stepped did.stream did.open_at did.next did.more)
      (omega (arith, lived.out, lived.small, outs_below (limits_of bm sm s) h (standing bm sm s) lived.run s.out lived.out))
      refl lived.condemned
    where
      stepped : (p : Position) → sm.pairs s.streams l ≡ Some p → n ≡ p.next → p.next ≢ p.end
          → Step (limits_of bm sm s) (standing bm sm s) (append l) (granted (grant_id n b))
          (at (items t.pool) (update eqb (bm.pairs s.entries) n (entry (settled_of (bm.pairs s.entries n)) (Some b))) (update eqb (sm.pairs s.streams) l (Some (gone_on p))) (lost_in s.marks.cells.now))
      stepped p open_at next further =
          subst (λ q. Step (limits_of bm sm s) (standing bm sm s) (append l) (granted (grant_id n b))
          (at (items t.pool) (update eqb (bm.pairs s.entries) n (entry (settled_of (bm.pairs s.entries n)) (Some b))) (update eqb (sm.pairs s.streams) l (Some q)) (lost_in s.marks.cells.now)))
          (sym (next_small p open_at further))
          (appends_it (limits_of bm sm s) (items s.pool) (bm.pairs s.entries) (sm.pairs s.streams) (lost_in s.marks.cells.now) l p open_at further n next b (items t.pool) did.sent.free did.sent.left.pool.items did.sent.fits)

-- what each call leaves goes by the rules
module _ {L B S : Type 0} (bm : Ghosts B L Entry) (sm : Ghosts S StreamLabel Position) (s t : Service L B S) (l : ℕ) where
  pub appends_goes : (r : Result Grant Refusal) → Appends bm sm s l r t → StepsBy bm sm s (append l) (begun r) t
  appends_goes (Ok g) did h lived = appended_lives bm sm h s t lived l g.number g.block did.1
  appends_goes (Err e) no' h lived = refused_lives bm sm h s t (append l) lived e no'
