-- A grant that ends, and a settled block that is trimmed, go by the rules.
use Rattle.std.proofs.Common.{◌≡◌, ℕ, ◌+◌, ◌-◌, ◌<◌, true, eqb, List, ◌∷◌, ◌++◌, length, Some, Ok, Err, Option, Result, sym, refl, ap, ◌∙◌, subst, inr, append-nil, arith}
use mathlib.Core.Path.{fun_ext}
use Rattle.std.specs.Map.{update}
use Rattle.refusal.specs.declared.Refusal.{Refusal}
use Rattle.label.specs.declared.stream.StreamLabel.{StreamLabel}
use Rattle.map.specs.declared.Denied.{Denied}
use Rattle.map.specs.declared.Map.{Ghosts}
use Rattle.map.specs.Sets.{Number}
use Rattle.map.specs.Meaning.{Finds}
use Rattle.ring.specs.declared.queue.Ring.{Ring}
use Rattle.ring.specs.Queue.{items}
use Rattle.rules.specs.declared.Entry.{Entry}
use Rattle.rules.specs.declared.Position.{Position}
use Rattle.rules.specs.Calls.{Limits, Standing}
use Rattle.rules.specs.declared.Answer.TheVariants.{Block as block}
use Rattle.rules.specs.Rules.{Step, out_of, settled_of, back}
use Rattle.rules.specs.History.{History, Run, given_by, ended_by}
use Rattle.rules.proofs.Places.{some_none}
use Rattle.service.specs.declared.entry.Ending.{Ending}
use Rattle.service.specs.declared.entry.Ending.TheVariants.{Commit, Abandon, Condemn}
use Rattle.service.specs.declared.entry.Turn.{Turn}
use Rattle.service.specs.declared.pool.Mark.{Mark}
use Rattle.service.specs.declared.pool.Marks.{Marks}
use Rattle.service.specs.declared.state.Service.{Service}
use Rattle.service.specs.Turns.{Turns, event_of}
use Rattle.service.specs.Pool.{Released, marked, lost_in, more, condemned_with}
use Rattle.service.specs.Stores.{Stores}
use Rattle.service.specs.Service.{limits_of, standing, ReachedBy, StepsBy, GrantEnded, Ends, end_call, finished, entry_after, freed, lost, grant_id}
use Rattle.service.proofs.Words.{at, released_items, released_places, marked_length, lost_set, lost_more}
use Rattle.service.proofs.Lives.{lives, refused_lives, ends_once, waits_below, condemned_below, out_block, not_condemned}
use Rattle.service.proofs.Giving.{old_is, stored}

-- what a turn by an ending says, whichever it is
pub ended_turn : (k : Ending) (e : Option Entry) (b : ℕ) (t : Turn) → Turns e (event_of k b) (Some t)
    → (out_of e ≡ Some b) × (t.entry ≡ entry_after k (settled_of e) b) × (t.back ≡ freed k (settled_of e) b) × (t.lost ≡ lost k b)
ended_turn Commit e b t x = x
ended_turn Abandon e b t x = x
ended_turn Condemn e b t x = x

one_ended : (k : Ending) (n b : ℕ) → (given_by (end_call k (grant_id n b)) (block (Some b)) ≡ 0) × (ended_by (end_call k (grant_id n b)) (block (Some b)) ≡ 1)
one_ended Commit n b = (refl, refl)
one_ended Abandon n b = (refl, refl)
one_ended Condemn n b = (refl, refl)

-- a service with another block map, pool, marks and counters
abbrev pub after : {L B S : Type 0} → Service L B S → B → Ring ℕ → Marks → ℕ → ℕ → Service L B S
after s m pool marks out gone = record {
  limit = s.limit;
  pool = pool;
  marks = marks;
  entries = m;
  streams = s.streams;
  out = out;
  condemned = gone;
  fault = s.fault;
  line = s.line;
}

module _ {L B S : Type 0} (bm : Ghosts B L Entry) (sm : Ghosts S StreamLabel Position) (s : Service L B S)
    (n l : ℕ) (is : l ≡ n) (m₁ : B) (old : Option Entry) (found : Finds bm.pairs bm.shape bm.fits s.entries l old m₁) where
  -- an entry that has a block out is held, so storing there is never denied
  pub stores_held : (b : ℕ) (e : Option Entry) (r : Result (Unit {0}) Denied) (m₂ : B) → out_of old ≡ Some b → Stores bm m₁ l e r m₂ → Stores bm m₁ l e (Ok tt) m₂
  stores_held b e (Ok u) m₂ here st = st
  stores_held b e (Err d) m₂ here st =
      absurd (some_none b (out_of old) here (ap out_of (found.answer ∙ (λ i. sym found.after i l) ∙ st.answer.1)))

  pub grant_ended : (k : Ending) (b : ℕ) (turn : Turn) (r : Result (Unit {0}) Denied) (m₂ : B) (q : Ring ℕ) (marks : Marks) (o g : ℕ)
      → Turns old (event_of k b) (Some turn) → Stores bm m₁ l turn.entry r m₂ → Released s.pool turn.back q
      → marks.cells.now ≡ marked turn.lost s.marks.cells.now → marks.cells.ghost_name ≡ s.marks.cells.ghost_name
      → o ≡ s.out - 1 → g ≡ condemned_with turn.lost s.condemned → GrantEnded bm sm s k n b (after s m₂ q marks o g)
  grant_ended k b turn r m₂ q marks o g turns st rel em ea eo eg =
      let facts = ended_turn k old b turn turns in
      let held = stores_held b turn.entry r m₂ facts.0 st in
      record {
        out = ap out_of (sym before) ∙ facts.0;
        left = record {
          fit = held.fit ∙ found.fit;
          pairs = stored bm sm s n l is m₁ old found m₂ turn.entry held ∙ ap (update eqb (bm.pairs s.entries) n) (facts.1 ∙ ap (λ e. entry_after k (settled_of e) b) before);
          stream_fit = refl;
          streams = refl;
          pool = subst (λ x. Released s.pool x q) (facts.2 ∙ ap (λ e. freed k (settled_of e) b) before) rel;
          marks = em ∙ ap (λ x. marked x s.marks.cells.now) facts.3;
          area = ea;
          out = eo;
          condemned = eg ∙ ap (λ x. condemned_with x s.condemned) facts.3;
          limit = refl;
          fault = refl;
        };
      }
    where
      before : old ≡ bm.pairs s.entries n
      before = old_is bm sm s n l is m₁ old found

-- the step of an ending
ended_step : (k : Limits) (w : List ℕ) (f : ℕ → Option Entry) (x : ℕ → Option Position) (d : List Mark) (n b : ℕ) → out_of (f n) ≡ Some b → b < length d → (v : Ending)
    → Step k (at w f x (lost_in d)) (end_call v (grant_id n b)) (block (Some b)) (at (w ++ back (freed v (settled_of (f n)) b)) (update eqb f n (entry_after v (settled_of (f n)) b)) x (lost_in (marked (lost v b) d)))
ended_step k w f x d n b out below Commit = inr (λ ne. ne out, (refl, refl))
ended_step k w f x d n b out below Abandon = inr (λ ne. ne out, (refl, refl))
ended_step k w f x d n b out below Condemn =
    inr (λ ne. ne out, (refl, λ i. at (append-nil w i) (update eqb f n (entry_after Condemn (settled_of (f n)) b)) x (fun_ext (λ c. lost_set d b c below) i)))

module _ {L B S : Type 0} (bm : Ghosts B L Entry) (sm : Ghosts S StreamLabel Position) (h : History) (s t : Service L B S) (lived : ReachedBy bm sm h s) where
  -- the condemned are counted
  counted_lost : (v : Ending) (n b : ℕ) → out_of (bm.pairs s.entries n) ≡ Some b → Number (λ c. lost_in (marked (lost v b) s.marks.cells.now) c ≡ true) (condemned_with (lost v b) s.condemned)
  counted_lost Commit n b out = lived.condemned
  counted_lost Abandon n b out = lived.condemned
  counted_lost Condemn n b out =
      let one : 1 + s.condemned ≡ more s.condemned = omega (arith, lived.small, condemned_below (limits_of bm sm s) h (standing bm sm s) lived.run s.condemned lived.condemned) in
      subst (λ g. Number (λ c. lost_in (marked (Some b) s.marks.cells.now) c ≡ true) g) one
      (lost_more s.marks.cells.now b s.condemned
      (rw lived.marks (out_block (limits_of bm sm s) h (standing bm sm s) lived.run n b out))
      (not_condemned (limits_of bm sm s) h (standing bm sm s) lived.run n b out) lived.condemned)

  pub ended_lives : (v : Ending) (n b : ℕ) → GrantEnded bm sm s v n b t
      → ReachedBy bm sm ((end_call v (grant_id n b), block (Some b)) ∷ h) t
  ended_lives v n b ends =
      lives bm sm h s t (end_call v (grant_id n b)) lived (block (Some b)) (update eqb (bm.pairs s.entries) n (entry_after v (settled_of (bm.pairs s.entries n)) b))
      (sm.pairs s.streams) (Released s.pool (freed v (settled_of (bm.pairs s.entries n)) b)) (marked (lost v b) s.marks.cells.now) (s.out - 1) (condemned_with (lost v b) s.condemned) ends.left
      waiting (released_items s.pool t.pool (freed v (settled_of (bm.pairs s.entries n)) b) ends.left.pool (waits_below (limits_of bm sm s) ((end_call v (grant_id n b), block (Some b)) ∷ h) ideal run))
      (released_places s.pool t.pool (freed v (settled_of (bm.pairs s.entries n)) b) ends.left.pool)
      step (omega (arith, lived.out, (one_ended v n b).0, (one_ended v n b).1, ends_once (limits_of bm sm s) ((end_call v (grant_id n b), block (Some b)) ∷ h) ideal run))
      (marked_length (lost v b) s.marks.cells.now) (counted_lost v n b ends.out)
    where
      waiting : List ℕ
      waiting = items s.pool ++ back (freed v (settled_of (bm.pairs s.entries n)) b)

      ideal : Standing
      ideal = at waiting (update eqb (bm.pairs s.entries) n (entry_after v (settled_of (bm.pairs s.entries n)) b)) (sm.pairs s.streams) (lost_in (marked (lost v b) s.marks.cells.now))

      step : Step (limits_of bm sm s) (standing bm sm s) (end_call v (grant_id n b)) (block (Some b)) ideal
      step = ended_step (limits_of bm sm s) (items s.pool) (bm.pairs s.entries) (sm.pairs s.streams) s.marks.cells.now n b ends.out (rw lived.marks (out_block (limits_of bm sm s) h (standing bm sm s) lived.run n b ends.out)) v

      run : Run (limits_of bm sm s) ((end_call v (grant_id n b), block (Some b)) ∷ h) ideal
      run = (standing bm sm s, lived.run, step)

-- what an ending leaves goes by the rules
module _ {L B S : Type 0} (bm : Ghosts B L Entry) (sm : Ghosts S StreamLabel Position) (s t : Service L B S) (v : Ending) (n b : ℕ) where
  pub ends_goes : (r : Result ℕ Refusal) → Ends bm sm s v n b r t → StepsBy bm sm s (end_call v (grant_id n b)) (finished r) t
  ends_goes (Ok x) (e, ends) h lived =
      subst (λ y. ReachedBy bm sm ((end_call v (grant_id n b), block (Some y)) ∷ h) t) (sym e) (ended_lives bm sm h s t lived v n b ends)
  ends_goes (Err e) no' h lived = refused_lives bm sm h s t (end_call v (grant_id n b)) lived e no'
