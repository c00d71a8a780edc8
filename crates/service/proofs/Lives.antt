-- A call that leaves what the rules say lives on; and what every history gives.
use Rattle.std.proofs.Common.{◌≡◌, ℕ, ◌+◌, ◌<◌, ◌≤◌, true, ◌⊎◌, List, ◌∷◌, length, Some, Option, sym, refl, ap, ◌∙◌, subst, inl, inr, arith}
use Rattle.refusal.specs.declared.Refusal.{Refusal}
use Rattle.label.specs.declared.stream.StreamLabel.{StreamLabel}
use Rattle.map.specs.declared.Map.{Ghosts}
use Rattle.map.specs.Sets.{Number}
use Rattle.map.proofs.Lists.{distinct_below}
use Rattle.ring.specs.declared.queue.Ring.{Ring}
use Rattle.ring.specs.Queue.{items, places}
use Rattle.rules.specs.declared.Entry.{Entry}
use Rattle.rules.specs.declared.Position.{Position}
use Rattle.rules.specs.Calls.{Limits, limits, Standing}
use Rattle.rules.specs.declared.Call.{Call}
use Rattle.rules.specs.declared.Answer.{Answer}
use Rattle.rules.specs.declared.Answer.TheVariants.{Refused as refused}
use Rattle.rules.specs.Rules.{Step, checks, out_of}
use Rattle.rules.specs.History.{History, Run, ledger, grants, endings}
use Rattle.rules.specs.Laws.{First}
use Rattle.rules.proofs.Places.{apart, some_none}
use Rattle.rules.specs.Places.Place.{waits, out_at, retired}
use Rattle.rules.proofs.Runs.{Good, run_good, out_is}
use Rattle.service.specs.declared.pool.Mark.{Mark}
use Rattle.service.specs.declared.state.Service.{Service}
use Rattle.service.specs.Pool.{lost_in}
use Rattle.rules.proofs.Answers.{first_step}
use Rattle.service.specs.Service.{limits_of, standing, ReachedBy, Leaves, Refuses}
use Rattle.service.proofs.Words.{at}

-- ---- what a run gives

module _ (k : Limits) (h : History) (s : Standing) (run : Run k h s) where
  good : Good k.blocks (ledger k.blocks h) s (grants h) (endings h)
  good = run_good k h s run

  pub ends_once : endings h ≤ grants h
  ends_once = omega (arith, good.outs.2)

  pub outs_below : (o : ℕ) → o + endings h ≡ grants h → o ≤ k.blocks
  outs_below o sum =
      let num = good.outs.1 in
      omega (arith, distinct_below k.blocks num.0 num.1 (λ x i. let a = (num.2 x).0 i in good.placed.no_other x (out_at a.0) a.1), num.3, good.outs.2)

  pub waits_below : length s.waiting ≤ k.blocks
  waits_below =
      rw good.pool (distinct_below k.blocks (ledger k.blocks h).waiting good.placed.once (λ x i. good.placed.no_other x waits i))

  pub condemned_below : (g : ℕ) → Number (λ b. s.condemned b ≡ true) g → g ≤ k.blocks
  condemned_below g num = omega (arith, distinct_below k.blocks num.0 num.1 (λ x i. good.placed.no_other x retired (sym (good.marks x) ∙ (num.2 x).0 i)), num.3)

  module _ (n b : ℕ) (out : out_of (s.entries n) ≡ Some b) where
    here : (ledger k.blocks h).out n ≡ Some b
    here = sym (out_is k.blocks (ledger k.blocks h) s (grants h) (endings h) good n) ∙ out

    pub out_block : b < k.blocks
    out_block = good.placed.no_other b (out_at n) here

    pub not_condemned : s.condemned b ≡ true → ⊥
    not_condemned e = apart k.blocks (ledger k.blocks h) good.placed b (out_at n) retired here (sym (good.marks b) ∙ e) (omega arith)

-- ---- a service that lives on

module _ {L B S : Type 0} (bm : Ghosts B L Entry) (sm : Ghosts S StreamLabel Position) (h : History) (s t : Service L B S) (c : Call) (lived : ReachedBy bm sm h s) where
  pub lives : (a : Answer) (f : ℕ → Option Entry) (x : ℕ → Option Position) (Q : Ring ℕ → Type 0) (d : List Mark) (o g : ℕ) → Leaves bm sm s f x Q d o g t
      → (w : List ℕ) → items t.pool ≡ w → places t.pool ≡ places s.pool
      → Step (limits_of bm sm s) (standing bm sm s) c a (at w f x (lost_in d))
      → o + endings ((c, a) ∷ h) ≡ grants ((c, a) ∷ h) → length d ≡ length s.marks.cells.now → Number (λ b. lost_in d b ≡ true) g
      → ReachedBy bm sm ((c, a) ∷ h) t
  lives a f x Q d o g left w pool room step sum long dead = record {
    passed = left.fault ∙ lived.passed;
    small = rw room lived.small;
    bound = rw left.limit lived.bound;
    run = subst (λ k. Run k ((c, a) ∷ h) (standing bm sm t)) same_limits
        (standing bm sm s, lived.run, subst (Step (limits_of bm sm s) (standing bm sm s) c a) same_standing step);
    out = rw left.out sum;
    marks = ap length left.marks ∙ long ∙ lived.marks ∙ sym room;
    condemned = subst (λ n. Number (λ b. lost_in t.marks.cells.now b ≡ true) n) (sym left.condemned)
        (subst (λ xs. Number (λ b. lost_in xs b ≡ true) g) (sym left.marks) dead);
  }
    where
      same_limits : limits_of bm sm s ≡ limits_of bm sm t
      same_limits i = limits (sym room i) (sym left.limit i) (bm.fits (sym left.fit i)) (sm.fits (sym left.stream_fit i))

      same_standing : at w f x (lost_in d) ≡ standing bm sm t
      same_standing i = at (sym pool i) (sym left.pairs i) (sym left.streams i) (lost_in (sym left.marks i))

  -- a refused call
  pub refused_lives : (e : Refusal) → Refuses bm sm s c e t → ReachedBy bm sm ((c, refused e) ∷ h) t
  refused_lives e no' =
      lives (refused e) (bm.pairs s.entries) (sm.pairs s.streams) (λ q. q ≡ s.pool) s.marks.cells.now s.out s.condemned no'.same
      (items s.pool) (ap items no'.same.pool) (ap places no'.same.pool)
      (first_step (checks (limits_of bm sm s) (standing bm sm s) c) (standing bm sm s) e _ (by_check no'.reason))
      (omega (arith, lived.out)) refl lived.condemned
    where
      by_check : (s.fault ≡ Some e) ⊎ First (checks (limits_of bm sm s) (standing bm sm s) c) e → First (checks (limits_of bm sm s) (standing bm sm s) c) e
      by_check (inl f) = absurd (some_none e s.fault f lived.passed)
      by_check (inr f) = f
