-- A trim and a tally go by the rules.
use Rattle.std.proofs.Common.{◌≡◌, ℕ, ◌<◌, eqb, ◌∷◌, ◌++◌, Some, None, Ok, Err, Option, Result, sym, refl, ap, ◌∙◌, subst, inr, arith}
use Rattle.std.specs.Map.{update}
use Rattle.refusal.specs.declared.Refusal.{Refusal}
use Rattle.label.specs.declared.stream.StreamLabel.{StreamLabel}
use Rattle.map.specs.declared.Map.{Ghosts}
use Rattle.map.specs.Meaning.{Finds, Takes}
use Rattle.ring.specs.declared.queue.Ring.{Ring}
use Rattle.ring.specs.Queue.{items, places}
use Rattle.rules.specs.declared.Entry.{Entry}
use Rattle.rules.specs.declared.Position.{Position}
use Rattle.rules.specs.declared.Tally.{Tally}
use Rattle.rules.specs.Calls.{Standing}
use Rattle.rules.specs.declared.Call.TheVariants.{Trim as trim, Tally as tally}
use Rattle.rules.specs.declared.Answer.TheVariants.{Block as block, Counts as counts}
use Rattle.rules.specs.Rules.{Step, out_of, settled_of, back}
use Rattle.rules.specs.History.{History, Run}
use Rattle.rules.proofs.Counts.{tally_kept, tally_of}
use Rattle.service.specs.declared.entry.Event.TheVariants.{Trim}
use Rattle.service.specs.declared.entry.Turn.{Turn}
use Rattle.service.specs.declared.state.Service.{Service}
use Rattle.service.specs.Turns.{Turns}
use Rattle.service.specs.Pool.{Released, lost_in}
use Rattle.service.specs.Service.{limits_of, standing, ReachedBy, StepsBy, Trimmed, Trims, found}
use Rattle.service.proofs.Words.{at, released_items, released_places}
use Rattle.service.proofs.Lives.{lives, refused_lives, waits_below}
use Rattle.service.proofs.Giving.{over, old_is}

module _ {L B S : Type 0} (bm : Ghosts B L Entry) (sm : Ghosts S StreamLabel Position) (s : Service L B S)
    (n l : ℕ) (is : l ≡ n) (m₁ : B) (old : Option Entry) (seen : Finds bm.pairs bm.shape bm.fits s.entries l old m₁) where
  pub trimmed : (turn : Turn) (gone : Option Entry) (m₂ : B) (o : Option ℕ) (q : Ring ℕ) → n < s.limit → Turns old Trim (Some turn) → Takes bm.pairs bm.shape bm.fits m₁ l gone m₂
      → o ≡ settled_of gone → Released s.pool o q → Trimmed bm sm s n o (over s m₂ q s.out)
  trimmed turn gone m₂ o q small turns takes told rel = record {
    small = small;
    free = ap out_of (sym before) ∙ turns.0;
    answer = told ∙ ap settled_of (takes.answer ∙ (λ i. seen.after i (is i)));
    left = record {
      fit = takes.fit ∙ seen.fit;
      pairs = takes.after ∙ (λ i. update eqb (seen.after i) (is i) None);
      stream_fit = refl;
      streams = refl;
      pool = rel;
      marks = refl;
      area = refl;
      out = refl;
      condemned = refl;
      limit = refl;
      fault = refl;
    };
  }
    where
      before : old ≡ bm.pairs s.entries n
      before = old_is bm sm s n l is m₁ old seen

module _ {L B S : Type 0} (bm : Ghosts B L Entry) (sm : Ghosts S StreamLabel Position) (h : History) (s t : Service L B S) (lived : ReachedBy bm sm h s) where
  pub trimmed_lives : (n : ℕ) (o : Option ℕ) → Trimmed bm sm s n o t → ReachedBy bm sm ((trim n, block o) ∷ h) t
  trimmed_lives n o did =
      lives bm sm h s t (trim n) lived (block o) (update eqb (bm.pairs s.entries) n None) (sm.pairs s.streams) (Released s.pool o) s.marks.cells.now s.out s.condemned did.left
      (items s.pool ++ back o) (released_items s.pool t.pool o did.left.pool (waits_below (limits_of bm sm s) ((trim n, block o) ∷ h) ideal run))
      (released_places s.pool t.pool o did.left.pool) step (omega (arith, lived.out)) refl lived.condemned
    where
      ideal : Standing
      ideal = at (items s.pool ++ back o) (update eqb (bm.pairs s.entries) n None) (sm.pairs s.streams) (lost_in s.marks.cells.now)

      step : Step (limits_of bm sm s) (standing bm sm s) (trim n) (block o) ideal
      step =
          let small : n < s.limit = did.small in
          inr (
            λ l. omega arith,
            inr (
              λ ne. ne did.free,
              (
                ap block did.answer,
                λ i. at (items s.pool ++ back (did.answer i)) (update eqb (bm.pairs s.entries) n None) (sm.pairs s.streams) (lost_in s.marks.cells.now),
              ),
            ),
          )

      run : Run (limits_of bm sm s) ((trim n, block o) ∷ h) ideal
      run = (standing bm sm s, lived.run, step)

-- what a trim leaves goes by the rules
module _ {L B S : Type 0} (bm : Ghosts B L Entry) (sm : Ghosts S StreamLabel Position) (s t : Service L B S) (n : ℕ) where
  pub trims_goes : (r : Result (Option ℕ) Refusal) → Trims bm sm s n r t → StepsBy bm sm s (trim n) (found r) t
  trims_goes (Ok o) did h lived = trimmed_lives bm sm h s t lived n o did
  trims_goes (Err e) no' h lived = refused_lives bm sm h s t (trim n) lived e no'

module _ {L B S : Type 0} (bm : Ghosts B L Entry) (sm : Ghosts S StreamLabel Position) (h : History) (s : Service L B S) (lived : ReachedBy bm sm h s) where
  pub tallied_lives : (n : Tally) → n ≡ tally_of (places s.pool) (standing bm sm s) s.out s.condemned → ReachedBy bm sm ((tally, counts n) ∷ h) s
  tallied_lives n is =
      lives bm sm h s s tally lived (counts n) (bm.pairs s.entries) (sm.pairs s.streams) (λ q. q ≡ s.pool) s.marks.cells.now s.out s.condemned
      (record { fit = refl; pairs = refl; stream_fit = refl; streams = refl; pool = refl; marks = refl; area = refl; out = refl; condemned = refl; limit = refl; fault = refl })
      (items s.pool) refl refl
      (subst (λ x. Step (limits_of bm sm s) (standing bm sm s) tally (counts x) (standing bm sm s)) (sym is) (tally_kept (limits_of bm sm s) h (standing bm sm s) s.out s.condemned lived.run lived.out lived.condemned))
      (omega (arith, lived.out)) refl lived.condemned
