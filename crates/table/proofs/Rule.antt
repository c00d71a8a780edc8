-- The rule of find, from what the buckets show; and what it finds in a sound table.
use Rattle.std.proofs.Common.{◌≡◌, ℕ, ◌<◌, Bool, true, false, List, length, get_or, Some, None, Option, Decides, IsSomeAnd, MatchOption, sym, refl, ap, ◌∙◌, subst, inl, inr, ⊎_elim}
use Rattle.std.proofs.lemmas.List.{get_or_read}
use Rattle.std.proofs.lemmas.Bool.{cases_eq, true≢false}
use Rattle.label.specs.declared.Label.{Ghosts}
use Rattle.bucket.specs.Changes.{peek}
use Rattle.bucket.specs.Slots.{Tagged, slot_of}
use Rattle.bucket.specs.Spread.{contains, first, mask_of, second, tag_of}
use Rattle.bucket.specs.declared.slots.Bucket.{Bucket}
use Rattle.bucket.proofs.Lists.{peek_read}
use Rattle.bucket.proofs.Sizes.{first_below, second_below}
use Rattle.table.specs.Finding.{Asked, Looks, Misses, Shows}
use Rattle.table.specs.Tables.{Lies, Nowhere, Sound, first_of, second_of}
use Rattle.table.specs.declared.finding.Spot.{Spot}

module _ {L V : Type 0} (kind : Ghosts L) (bs : List (Bucket L V)) (n : ℕ) where
  -- the two buckets and the tag that the code goes by
  pub record Aim (p s t : ℕ) : Type 0 where
    pub first : p ≡ first_of kind (length bs) n
    pub second : s ≡ second_of kind (length bs) n
    pub tag : t ≡ tag_of (kind.spread n)

  pub aim : (d p s t : ℕ) → d ≡ kind.spread n → p ≡ first d (length bs) → s ≡ second d (length bs) → t ≡ tag_of d → Aim p s t
  aim d p s t ed ep es et =
      record { first = ep ∙ ap (λ z. first z (length bs)) ed; second = es ∙ ap (λ z. second z (length bs)) ed; tag = et ∙ ap tag_of ed }

  module _ (p s t : ℕ) (at : Aim p s t) (i : ℕ) (x : Bucket L V) (lt : i < length bs) (is : x ≡ get_or bs i x) where
    pub shows : (k : ℕ) → (k < 4) × Tagged kind (slot_of x k) t n → Shows kind bs n i k
    shows k h =
        (h.0, λ d. subst (λ b. Tagged kind (slot_of b k) (tag_of (kind.spread n)) n) (get_or_read bs i x lt is d) (subst (λ z. Tagged kind (slot_of x k) z n) at.tag h.1))

    pub misses : ((k : ℕ) → Tagged kind (slot_of x k) t n → ⊥) → Misses kind bs n i
    misses none k h =
        none k (subst (λ z. Tagged kind (slot_of x k) z n) (sym at.tag) (subst (λ b. Tagged kind (slot_of b k) (tag_of (kind.spread n)) n) (sym is) (h.1 x)))

  module _ (p s t : ℕ) (at : Aim p s t) where
    pub in_first : (k : ℕ) → Shows kind bs n p k → Looks kind bs n (Some (record { bucket = p; slot = k })) 1
    in_first k h = inl (refl, at.first, subst (λ z. Shows kind bs n z k) at.first h)

    away : (s ≡ p → ⊥) → second_of kind (length bs) n ≡ first_of kind (length bs) n → ⊥
    away ne e = ne (at.second ∙ e ∙ sym at.first)

    module _ (m d : ℕ) (em : m ≡ mask_of d) (ed : d ≡ kind.spread n) (x : Bucket L V) (lt : p < length bs) (is : x ≡ get_or bs p x) where
      filter_is : peek (λ b. b.filter) 0 bs (first_of kind (length bs) n) ≡ x.filter
      filter_is = ap (peek (λ b. b.filter) 0 bs) (sym at.first) ∙ peek_read (λ b. b.filter) 0 bs p x lt is

      asked_is : contains (peek (λ b. b.filter) 0 bs (first_of kind (length bs) n)) (mask_of (kind.spread n)) ≡ contains x.filter m
      asked_is = ap (λ z. contains z (mask_of (kind.spread n))) filter_is ∙ ap (contains x.filter) (sym (em ∙ ap mask_of ed))

      pub lets_on : contains x.filter m ≡ true → Asked kind bs n
      lets_on e = asked_is ∙ e

      -- the find does not go on
      pub stops : (known r : Bool) → known ≡ contains x.filter m → Decides r ((s ≡ p → ⊥) × (known ≡ true)) → r ≡ false → Misses kind bs n p → Looks kind bs n None 1
      stops known r ek decides no' miss =
          ⊎_elim
          (λ e. inl (refl, subst (Misses kind bs n) at.first miss, inl (sym at.second ∙ e ∙ at.first)))
          (λ ne. inl (refl, subst (Misses kind bs n) at.first miss, inr (λ a. true≢false (sym (decides.1 (ne, ek ∙ sym asked_is ∙ a)) ∙ no'))))
          (cases_eq s p)

    module _ (miss : Misses kind bs n p) (ne : s ≡ p → ⊥) (on : Asked kind bs n) where
      -- the place that the second bucket gives, or none
      pub in_either : (x : Bucket L V) → s < length bs → x ≡ get_or bs s x → (o : Option ℕ) → MatchOption o ((k : ℕ) → Tagged kind (slot_of x k) t n → ⊥) (λ k. (k < 4) × Tagged kind (slot_of x k) t n)
          → (r : Option Spot) (Made : ℕ → Spot → Type 0) → MatchOption o (r ≡ None) (λ k. IsSomeAnd r (Made k)) → ((k : ℕ) (z : Spot) → Made k z → z ≡ record { bucket = s; slot = k }) → Looks kind bs n r 2
      in_either x lt is None none r Made e made = subst (λ z. Looks kind bs n z 2) (sym e) (inr (refl, subst (Misses kind bs n) at.first miss, away ne, on, subst (Misses kind bs n) at.second (misses p s t at s x lt is none)))
      in_either x lt is (Some k) h (Some z) Made e made = subst (λ y. Looks kind bs n (Some y) 2) (sym (made k z e)) (inr (refl, at.second, subst (Misses kind bs n) at.first miss, away ne, on, subst (λ z. Shows kind bs n z k) at.second (shows p s t at s x lt is k h)))
      in_either x lt is (Some k) h None Made e made = absurd e

  -- ---- in a sound table

  shows_lies : (i k : ℕ) → i < length bs → Shows kind bs n i k → Lies kind bs n i k
  shows_lies i k lt h = (lt, h.0, λ d. ((h.1 d).0, (h.1 d).2))

  pub looks_lies : 0 < length bs → (x : Spot) (c : ℕ) → Looks kind bs n (Some x) c → Lies kind bs n x.bucket x.slot
  looks_lies some x c =
      ⊎_elim
      (λ h. subst (λ z. Lies kind bs n z x.slot) (sym h.1) (shows_lies _ _ (first_below (kind.spread n) (length bs) some) h.2))
      (λ h. subst (λ z. Lies kind bs n z x.slot) (sym h.1) (shows_lies _ _ (second_below (kind.spread n) (length bs) some) h.5))

  module _ (sound : Sound kind bs) where
    missing : (i : ℕ) → Misses kind bs n i → (k : ℕ) → Lies kind bs n i k → ⊥
    missing i miss k l = miss k (l.1, λ d. ((l.2 d).0, sound.tagged n i k l d, (l.2 d).1))

    -- the filter knows every label that lies in its second bucket
    pub looks_nowhere : (c : ℕ) → Looks kind bs n None c → Nowhere kind bs n
    looks_nowhere c h i k l =
        ⊎_elim
        (λ e. missing i (subst (Misses kind bs n) (sym e) (first_miss h)) k l)
        (λ e. ⊎_elim
        (λ one. ⊎_elim
        (λ same. missing i (subst (Misses kind bs n) (sym (e ∙ same)) one.1) k l)
        (λ stop. ⊎_elim
        (λ same. missing i (subst (Misses kind bs n) (sym same) one.1) k l)
        (λ ne. stop (sound.masked n i k l ne))
        (cases_eq i (first_of kind (length bs) n)))
        one.2)
        (λ two. missing i (subst (Misses kind bs n) (sym e) two.4) k l)
        h)
        (sound.lies n i k l)
      where
        first_miss : Looks kind bs n None c → Misses kind bs n (first_of kind (length bs) n)
        first_miss = ⊎_elim (λ one. one.1) (λ two. two.1)
