-- A block that is out: its number is busy, and its ending is accepted. A refused service gives none.
use Rattle.std.proofs.Common.{◌≡◌, ℕ, Some, Ok, Err, Result, sym, ap, ◌∙◌, subst, ⊎_elim}
use Rattle.std.proofs.lemmas.Map.{update_here}
use Rattle.std.proofs.lemmas.Bool.{true≢false}
use Rattle.refusal.specs.declared.Refusal.{Refusal}
use Rattle.label.specs.declared.stream.StreamLabel.{StreamLabel}
use Rattle.map.specs.declared.Map.{Ghosts}
use Rattle.rules.specs.declared.Entry.{Entry}
use Rattle.rules.specs.declared.Position.{Position}
use Rattle.rules.specs.declared.Answer.{Answer}
use Rattle.rules.specs.Rules.{checks, out_of, settled_of}
use Rattle.rules.specs.History.{accepted}
use Rattle.rules.specs.Laws.{First}
use Rattle.rules.proofs.Places.{some_none}
use Rattle.rules.proofs.Runs.{out_entry}
use Rattle.service.specs.declared.entry.Ending.{Ending}
use Rattle.service.specs.declared.entry.Ending.TheVariants.{Commit, Abandon, Condemn}
use Rattle.service.specs.declared.grant.Grant.{Grant}
use Rattle.service.specs.declared.state.Service.{Service}
use Rattle.service.specs.Service.{RefusesAll, Begins, Finishes, LeavesByBoth, limits_of, standing, end_call, grant_id, begun}

module _ {L B S : Type 0} (bm : Ghosts B L Entry) (sm : Ghosts S StreamLabel Position) where
  -- ---- a refused service

  pub no_grant : (s t : Service L B S) (g : Grant) (e : Refusal) → s.fault ≡ Some e → RefusesAll bm sm s (begun (Ok g)) t → ⊥
  no_grant s t g e f faulty = true≢false (ap accepted (faulty e f).0)

  pub still_refused : (s t : Service L B S) (a : Answer) (e : Refusal) → s.fault ≡ Some e → RefusesAll bm sm s a t → t.fault ≡ Some e
  still_refused s t a e f faulty = ap (λ x. x.fault) (faulty e f).1 ∙ f

  -- ---- a block that is out

  -- the block b is out at the number n of a service that was not refused
  pub record Out (s : Service L B S) (n b : ℕ) : Type 0 where
    pub block : out_of (bm.pairs s.entries n) ≡ Some b
    pub sound : (e : Refusal) → s.fault ≡ Some e → ⊥

  pub begin_out : (s m : Service L B S) (n : ℕ) (g : Grant) → RefusesAll bm sm s (begun (Ok g)) m → Begins bm sm s n (Ok g) m → Out m n g.block
  begin_out s m n g faulty (is, fresh, (small, sent)) = record {
    block = ap (λ f. out_of (f n)) sent.left.pairs ∙ ap out_of (update_here (bm.pairs s.entries) n _) ∙ out_entry (settled_of (bm.pairs s.entries n)) (Some g.block);
    sound = λ e f. true≢false (ap accepted (faulty e (sym sent.left.fault ∙ f)).0);
  }

  -- no call that gives a block and ends at once changes it
  pub out_stays : (s t : Service L B S) (v : Ending) (n b : ℕ) (r : Result ℕ Refusal) → Out s n b → LeavesByBoth bm sm s v n r t → Out t n b
  out_stays s t v n b (Ok x) out (m, gives, ends) = absurd (some_none b (out_of (bm.pairs s.entries n)) out.block gives.1.free)
  out_stays s t v n b (Err e) out no' = record {
    block = ap (λ f. out_of (f n)) no'.same.pairs ∙ out.block;
    sound = λ e f. out.sound e (sym no'.same.fault ∙ f);
  }

  no_first : (s : Service L B S) (v : Ending) (n b : ℕ) (e : Refusal) → Out s n b → First (checks (limits_of bm sm s) (standing bm sm s) (end_call v (grant_id n b))) e → ⊥
  no_first s Commit n b e out first = ⊎_elim (λ f. f.0 out.block) (λ f. f.1) first
  no_first s Abandon n b e out first = ⊎_elim (λ f. f.0 out.block) (λ f. f.1) first
  no_first s Condemn n b e out first = ⊎_elim (λ f. f.0 out.block) (λ f. f.1) first

  -- its ending is accepted
  pub not_refused : (s t : Service L B S) (v : Ending) (n : ℕ) (g back : Grant) (e : Refusal) → g.number ≡ n → Out s n g.block → Finishes bm sm s v g (Err (e, back)) t → ⊥
  not_refused s t v n g back e is out no' =
      let here : Out s g.number g.block = subst (λ x. Out s x g.block) (sym is) out in
      ⊎_elim (here.sound e) (no_first s v g.number g.block e here) no'.reason
