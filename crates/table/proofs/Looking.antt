-- What a table pairs with a label, and the slot where the label lies.
use Rattle.std.proofs.Common.{◌≡◌, ℕ, zero, suc, ◌<◌, Bool, true, false, cond, ◌&&◌, eqb, List, [], ◌∷◌, length, get_or, Some, None, Option, sym, refl, ap, ◌∙◌, subst, ⊎_elim, arith, MatchOption}
use Rattle.std.proofs.lemmas.List.{get_or_read}
use Rattle.std.proofs.lemmas.Bool.{cases_eq, cond-false, cond-true, eq-eqb, eqb-true, ne_eqb, true≢false}
use Rattle.label.specs.declared.Label.{Ghosts}
use Rattle.bucket.specs.Changes.{modify}
use Rattle.bucket.specs.Slots.{Has, slot_of, with_slot}
use Rattle.bucket.proofs.Changed.{by_slot, slot_with_other}
use Rattle.bucket.proofs.Lists.{get_or_modify_other, get_or_modify_same, pick}
use Rattle.bucket.specs.declared.slots.Bucket.{Bucket}
use Rattle.bucket.specs.declared.slots.Slot.{Slot}
use Rattle.table.specs.Tables.{Lies, Nowhere, Sound, hit, hit_in, look, or_else}

module _ {L V : Type 0} (kind : Ghosts L) where
  pub lies_read : (bs : List (Bucket L V)) (n i k : ℕ) (x : Bucket L V) → i < length bs → x ≡ get_or bs i x → k < 4 → Has kind (slot_of x k) n → Lies kind bs n i k
  lies_read bs n i k x h is few has = (h, few, λ d. subst (λ b. Has kind (slot_of b k) n) (get_or_read bs i x h is d) has)

  pub lies_at : (bs : List (Bucket L V)) (n i k : ℕ) (x : Bucket L V) → x ≡ get_or bs i x → Lies kind bs n i k → Has kind (slot_of x k) n
  lies_at bs n i k x is l = subst (λ b. Has kind (slot_of b k) n) (sym is) (l.2 x)

  -- what a slot gives
  hit_cases : (s : Slot L V) (n : ℕ) → MatchOption (hit kind s n) (Has kind s n → ⊥) (λ v. Has kind s n × (s.payload ≡ v))
  hit_cases s n = go s.used (eqb (kind.number s.label) n) refl refl
    where
      go : (a b : Bool) → s.used ≡ a → eqb (kind.number s.label) n ≡ b → MatchOption (cond (a && b) (Some s.payload) None) (Has kind s n → ⊥) (λ v. Has kind s n × (s.payload ≡ v))
      go true true p q = ((p, eqb-true _ _ q), refl)
      go true false p q = λ h. true≢false (sym (eq-eqb _ _ h.1) ∙ q)
      go false b p q = λ h. true≢false (sym h.0 ∙ p)

pub cases_or : {X : Type 0} {P R U : Type 0} {Q S W : X → Type 0} (a b : Option X) → MatchOption a P Q → MatchOption b R S → (P → R → U) → ((v : X) → Q v → W v) → ((v : X) → S v → W v) → MatchOption (or_else a b) U W
cases_or None None p r f g h = f p r
cases_or None (Some x) p r f g h = h x r
cases_or (Some x) None p r f g h = g x p
cases_or (Some x) (Some y) p r f g h = g x p

pub cases_none : {X : Type 0} (P : Type 0) {Q : X → Type 0} (a : Option X) → MatchOption a P Q → ((v : X) → Q v → ⊥) → a ≡ None
cases_none P None p h = refl
cases_none P (Some x) p h = absurd (h x p)

module _ {L V : Type 0} (kind : Ghosts L) where
  abbrev InBucket : Bucket L V → ℕ → V → Type 0
  InBucket b n v = (k : ℕ) × (k < 4) × Has kind (slot_of b k) n × ((slot_of b k).payload ≡ v)

  abbrev NotIn : Bucket L V → ℕ → Type 0
  NotIn b n = (k : ℕ) → Has kind (slot_of b k) n → ⊥

  not_in : (b : Bucket L V) (n : ℕ) → (Has kind b.s0 n → ⊥) → (Has kind b.s1 n → ⊥) → (Has kind b.s2 n → ⊥) → (Has kind b.s3 n → ⊥) → NotIn b n
  not_in b n e f g h = by_slot (λ k. Has kind (slot_of b k) n → ⊥) e f g (λ _. h)

  pub bucket_cases : (b : Bucket L V) (n : ℕ) → MatchOption (hit_in kind b n) (NotIn b n) (InBucket b n)
  bucket_cases b n =
      cases_or {U = NotIn b n} {W = InBucket b n} (hit kind b.s0 n) _ (hit_cases kind b.s0 n)
      (cases_or {U = (Has kind b.s1 n → ⊥) × (Has kind b.s2 n → ⊥) × (Has kind b.s3 n → ⊥)} {W = InBucket b n} (hit kind b.s1 n) _ (hit_cases kind b.s1 n)
      (cases_or {U = (Has kind b.s2 n → ⊥) × (Has kind b.s3 n → ⊥)} {W = InBucket b n} (hit kind b.s2 n) (hit kind b.s3 n) (hit_cases kind b.s2 n) (hit_cases kind b.s3 n) (λ g h. (g, h)) (λ v q. (2, omega arith, q.0, q.1)) (λ v q. (3, omega arith, q.0, q.1)))
      (λ f gh. (f, gh.0, gh.1)) (λ v q. (1, omega arith, q.0, q.1)) (λ v q. q))
      (λ e r. not_in b n e r.0 r.1 r.2) (λ v q. (0, omega arith, q.0, q.1)) (λ v q. q)

  abbrev pub Paired : List (Bucket L V) → ℕ → V → Type 0
  Paired bs n v = (i : ℕ) × (k : ℕ) × Lies kind bs n i k × ((d : Bucket L V) → (slot_of (get_or bs i d) k).payload ≡ v)

  nowhere_more : (b : Bucket L V) (bs : List (Bucket L V)) (n : ℕ) → NotIn b n → Nowhere kind bs n → Nowhere kind (b ∷ bs) n
  nowhere_more b bs n here later zero k l = here k (l.2 b)
  nowhere_more b bs n here later (suc i) k l = later i k (let h = l.0 in omega arith, l.1, l.2)

  pub look_cases : (bs : List (Bucket L V)) (n : ℕ) → MatchOption (look kind bs n) (Nowhere kind bs n) (Paired bs n)
  look_cases [] n = λ i k l. let h = l.0 in omega arith
  look_cases (b ∷ bs) n =
      cases_or {U = Nowhere kind (b ∷ bs) n} {W = Paired (b ∷ bs) n} (hit_in kind b n) (look kind bs n) (bucket_cases b n) (look_cases bs n) (nowhere_more b bs n)
      (λ v q. (0, q.0, (omega arith, q.1, λ d. q.2), λ d. q.3))
      (λ v q. (suc q.0, q.1, (let h = q.2.0 in omega arith, q.2.1, q.2.2), q.3))

  pub look_none : (bs : List (Bucket L V)) (n : ℕ) → Nowhere kind bs n → look kind bs n ≡ None
  look_none bs n h = cases_none (Nowhere kind bs n) (look kind bs n) (look_cases bs n) (λ v q. h q.0 q.1 q.2)

  module _ (bs : List (Bucket L V)) (sound : Sound kind bs) (n : ℕ) where
    pub look_at : (i k : ℕ) (x : Bucket L V) → x ≡ get_or bs i x → Lies kind bs n i k → look kind bs n ≡ Some (slot_of x k).payload
    look_at i k x is l = go (look kind bs n) (look_cases bs n)
      where
        go : (o : Option V) → MatchOption o (Nowhere kind bs n) (Paired bs n) → o ≡ Some (slot_of x k).payload
        go None h = absurd (h i k l)
        go (Some v) h =
            let e = sound.once n h.0 h.1 i k h.2 l in
            let a : (slot_of (get_or bs h.0 x) h.1).payload ≡ v = h.3 x in
            cc (e.0, e.1, a, is)

    pub look_some : (i k : ℕ) (v : V) → Lies kind bs n i k → ((d : Bucket L V) → (slot_of (get_or bs i d) k).payload ≡ v) → look kind bs n ≡ Some v
    look_some i k v l h = let p = pick bs i l.0 in look_at i k p.0 p.1 l ∙ ap Some (ap (λ b. (slot_of b k).payload) p.1 ∙ h p.0)

  -- a label that lies in the same slots with the same payload
  pub look_as : (bs es : List (Bucket L V)) → Sound kind es → (m : ℕ) → ((j t : ℕ) → Lies kind es m j t → Lies kind bs m j t)
      → ((j t : ℕ) → Lies kind bs m j t → Lies kind es m j t × ((d : Bucket L V) → (slot_of (get_or es j d) t).payload ≡ (slot_of (get_or bs j d) t).payload)) → look kind es m ≡ look kind bs m
  look_as bs es sound m back forth = go (look kind bs m) (look_cases bs m)
    where
      go : (o : Option V) → MatchOption o (Nowhere kind bs m) (Paired bs m) → look kind es m ≡ o
      go None h = look_none es m (λ j t w. h j t (back j t w))
      go (Some v) h = let w = forth h.0 h.1 h.2 in look_some es sound m h.0 h.1 v w.0 (λ d. w.1 d ∙ h.3 d)

-- what it pairs with one label
pub look_but : {V : Type 0} (f g : ℕ → Option V) (n m : ℕ) (o : Option V) → f n ≡ o → ((m ≡ n → ⊥) → f m ≡ g m) → f m ≡ cond (eqb m n) o (g m)
look_but f g n m o here there =
    ⊎_elim (λ e. ap f e ∙ here ∙ sym (cond-true (eqb m n) o (g m) (eq-eqb m n e))) (λ ne. there ne ∙ sym (cond-false (eqb m n) o (g m) (ne_eqb m n ne))) (cases_eq m n)

module _ {L V : Type 0} where
  -- a slot has one label
  pub lies_once : (kind : Ghosts L) (bs : List (Bucket L V)) (m n i j k t : ℕ) → Bucket L V → Lies kind bs m j t → Lies kind bs n i k → (j ≡ i) × (t ≡ k) → m ≡ n
  lies_once kind bs m n i j k t d h l e = let a = (h.2 d).1 in let b = (l.2 d).1 in cc (a, b, e.0, e.1)

  -- the change of slot k of bucket i leaves the other slots
  pub edit_other : (h : Bucket L V → Slot L V) (bs : List (Bucket L V)) (i k j t : ℕ) (d : Bucket L V) → i < length bs → k < 4 → t < 4 → ((j ≡ i) × (t ≡ k) → ⊥)
      → slot_of (get_or (modify (λ b. with_slot b k (h b)) bs i) j d) t ≡ slot_of (get_or bs j d) t
  edit_other h bs i k j t d lt few h' ne =
      ⊎_elim
      (λ e. subst (λ z. slot_of (get_or (modify (λ b. with_slot b k (h b)) bs i) z d) t ≡ slot_of (get_or bs z d) t) (sym e)
      (ap (λ b. slot_of b t) (get_or_modify_same (λ b. with_slot b k (h b)) bs i d lt) ∙ slot_with_other (get_or bs i d) k t _ few h' (λ w. ne (e, w))))
      (λ w. ap (λ b. slot_of b t) (get_or_modify_other (λ b. with_slot b k (h b)) bs i j d w)) (cases_eq j i)
