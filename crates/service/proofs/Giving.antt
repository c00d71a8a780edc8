-- A block sent out at a number, or the refusal, goes by the rules.
use Rattle.std.proofs.Common.{◌≡◌, ℕ, ◌<◌, true, eqb, List, [], ◌∷◌, length, is_some, Some, None, Ok, Err, Option, Result, sym, refl, ap, ◌∙◌, subst, inl, inr, arith}
use Rattle.std.specs.List.{slice_get}
use Rattle.std.specs.Map.{update}
use Rattle.refusal.specs.declared.Refusal.{Refusal}
use Rattle.refusal.specs.declared.Refusal.TheVariants.{NoBlockWaiting}
use Rattle.label.specs.declared.stream.StreamLabel.{StreamLabel}
use Rattle.map.specs.declared.Map.{Ghosts}
use Rattle.map.specs.Meaning.{Finds, beside}
use Rattle.ring.specs.declared.queue.Ring.{Ring}
use Rattle.ring.specs.Queue.{items, Pops, Popped}
use Rattle.rules.specs.declared.Entry.{Entry}
use Rattle.rules.specs.declared.Position.{Position}
use Rattle.rules.specs.Calls.{Limits}
use Rattle.rules.specs.declared.Call.TheVariants.{Begin as begin}
use Rattle.rules.specs.declared.Answer.TheVariants.{Granted as granted}
use Rattle.rules.specs.Rules.{Step, out_of, settled_of, entry}
use Rattle.rules.specs.History.{History}
use Rattle.service.specs.declared.state.Service.{Service}
use Rattle.service.specs.Pool.{lost_in, more}
use Rattle.service.specs.Stores.{Stores}
use Rattle.service.specs.Service.{limits_of, standing, ReachedBy, StepsBy, Unchanged, SentOut, Sends, Gives, given, grant_id}
use Rattle.service.proofs.Words.{at, front_none, front_pops, some_entry}
use Rattle.service.proofs.Lives.{lives, outs_below, refused_lives}

-- a service with another block map, pool and number out
abbrev pub over : {L B S : Type 0} → Service L B S → B → Ring ℕ → ℕ → Service L B S
over s m pool out = record {
  limit = s.limit;
  pool = pool;
  marks = s.marks;
  entries = m;
  streams = s.streams;
  out = out;
  condemned = s.condemned;
  fault = s.fault;
  line = s.line;
}

module _ {L B S : Type 0} (bm : Ghosts B L Entry) (sm : Ghosts S StreamLabel Position) (s : Service L B S)
    (n l : ℕ) (is : l ≡ n) (m₁ : B) (old : Option Entry) (found : Finds bm.pairs bm.shape bm.fits s.entries l old m₁) where
  pub old_is : old ≡ bm.pairs s.entries n
  old_is = found.answer ∙ ap (bm.pairs s.entries) is

  module _ (m₂ : B) (e : Option Entry) where
    -- the map after the entry was stored
    pub stored : Stores bm m₁ l e (Ok tt) m₂ → bm.pairs m₂ ≡ update eqb (bm.pairs s.entries) n e
    stored st = st.answer.0 ∙ (λ i. update eqb (found.after i) (is i) e)

    pub fits : is_some e ≡ true → Stores bm m₁ l e (Ok tt) m₂ → bm.fits (bm.shape s.entries) (beside (bm.pairs s.entries) n)
    fits some st = subst (λ (X : Type 0). X) (λ i. bm.fits (found.fit i) (beside (found.after i) (is i))) (st.answer.1 some)

  -- what is left where a find changed no pair
  pub left_found : Unchanged bm sm s (over s m₁ s.pool s.out)
  left_found = record { fit = found.fit; pairs = found.after; stream_fit = refl; streams = refl; pool = refl; marks = refl; area = refl; out = refl; condemned = refl; limit = refl; fault = refl }

  module _ (free : out_of old ≡ None) where
    here_free : out_of (bm.pairs s.entries n) ≡ None
    here_free = ap out_of (sym old_is) ∙ free

    pub no_block_waiting : None ≡ slice_get (items s.pool) 0 → Sends bm sm s n (Err NoBlockWaiting) (over s m₁ s.pool s.out)
    no_block_waiting e = (inr (λ ne. ne here_free, inl (front_none (items s.pool) e, refl)), left_found)

  pub sent_out : (m₂ : B) (e : Option Entry) (b u o : ℕ) (q : Ring ℕ) (x : Option ℕ) → out_of old ≡ None → u ≡ b → e ≡ entry (settled_of old) (Some u) → Stores bm m₁ l e (Ok tt) m₂
      → Some b ≡ slice_get (items s.pool) 0 → Pops s.pool x q → o ≡ more s.out → Sends bm sm s n (Ok b) (over s m₂ q o)
  sent_out m₂ e b u o q x free eu ee st front pops eo = record {
    free = ap out_of (sym old_is) ∙ free;
    fits = fits m₂ e (ap is_some ee ∙ some_entry (settled_of old) u) st;
    left = record {
      fit = st.fit ∙ found.fit;
      pairs = stored m₂ e st ∙ ap (update eqb (bm.pairs s.entries) n) to_entry;
      stream_fit = refl;
      streams = refl;
      pool = front_pops s.pool q x b pops front;
      marks = refl;
      area = refl;
      out = eo;
      condemned = refl;
      limit = refl;
      fault = refl;
    };
  }
    where
      to_entry : e ≡ entry (settled_of (bm.pairs s.entries n)) (Some b)
      to_entry = ee ∙ (λ i. entry (settled_of (old_is i)) (Some (eu i)))

module _ (k : Limits) (w : List ℕ) (f : ℕ → Option Entry) (x : ℕ → Option Position) (d : ℕ → mathlib.Core.Bool.Bool) (n : ℕ) (small : n < k.numbers) (free : out_of (f n) ≡ None) where
  pub grants_it : (b : ℕ) (rest : List ℕ) → w ≡ b ∷ rest → k.blocks_fit (beside f n)
      → Step k (at w f x d) (begin n) (granted (grant_id n b)) (at rest (update eqb f n (entry (settled_of (f n)) (Some b))) x d)
  grants_it b rest e fits =
      inr (λ l. omega arith, inr (λ ne. ne free, inr (λ z. cons_nil (sym e ∙ z), inr (λ full. full.1 fits, (b, rest, e, refl, refl, λ _. fits)))))
    where
      cons_nil : b ∷ rest ≡ [] → ⊥
      cons_nil z = let q : length (b ∷ rest) ≡ length {A = ℕ} [] = ap length z in omega arith

-- the granted call, from what it leaves
module _ {L B S : Type 0} (bm : Ghosts B L Entry) (sm : Ghosts S StreamLabel Position) (h : History) (s t : Service L B S) (lived : ReachedBy bm sm h s) (n b : ℕ) where
  pub given_lives : n < s.limit → SentOut bm sm s n b (sm.pairs s.streams) t → ReachedBy bm sm ((begin n, granted (grant_id n b)) ∷ h) t
  given_lives small sent =
      lives bm sm h s t (begin n) lived (granted (grant_id n b)) (update eqb (bm.pairs s.entries) n (entry (settled_of (bm.pairs s.entries n)) (Some b)))
      (sm.pairs s.streams) (Popped s.pool b) s.marks.cells.now (more s.out) s.condemned sent.left
      (items t.pool) refl sent.left.pool.places
      (grants_it (limits_of bm sm s) (items s.pool) (bm.pairs s.entries) (sm.pairs s.streams) (lost_in s.marks.cells.now) n small sent.free b (items t.pool) sent.left.pool.items sent.fits)
      (omega (arith, lived.out, lived.small, outs_below (limits_of bm sm s) h (standing bm sm s) lived.run s.out lived.out))
      refl lived.condemned

-- a begin, from what the block sent out leaves
pub gives_sent : {L B S : Type 0} (bm : Ghosts B L Entry) (sm : Ghosts S StreamLabel Position) (s t : Service L B S) (n : ℕ) (r : Result ℕ Refusal) → n < s.limit → Sends bm sm s n r t → Gives bm sm s n r t
gives_sent bm sm s t n (Ok b) small sent = (small, sent)
gives_sent bm sm s t n (Err e) small (first, same) = record { reason = inr (inr (λ l. omega arith, first)); same = same }

-- what a begin leaves goes by the rules
module _ {L B S : Type 0} (bm : Ghosts B L Entry) (sm : Ghosts S StreamLabel Position) (s t : Service L B S) (n : ℕ) where
  pub gives_goes : (r : Result ℕ Refusal) → Gives bm sm s n r t → StepsBy bm sm s (begin n) (given n r) t
  gives_goes (Ok b) (small, sent) h lived = given_lives bm sm h s t lived n b small sent
  gives_goes (Err e) no' h lived = refused_lives bm sm h s t (begin n) lived e no'
