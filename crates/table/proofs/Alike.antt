-- Tables with the same labels in the same slots: other marks, or another payload.
use Rattle.std.proofs.Common.{◌≡◌, ℕ, zero, suc, ◌<◌, true, cond, eqb, ◌⊎◌, List, [], ◌∷◌, length, get_or, Some, sym, refl, ap, ◌∙◌, subst, ⊎_elim, arith}
use Rattle.label.specs.declared.Label.{Ghosts}
use Rattle.bucket.specs.Changes.{blank_mark, modify, peek, with_payload, with_mark}
use Rattle.bucket.specs.Slots.{slot_of}
use Rattle.bucket.specs.Spread.{contains, mask_of}
use Rattle.bucket.specs.declared.slots.Bucket.{Bucket}
use Rattle.bucket.specs.declared.slots.Slot.{Slot}
use Rattle.bucket.proofs.Changed.{by_slot, slot_with_cases, slot_with_same, with_filter, with_moved}
use Rattle.bucket.proofs.Lists.{get_or_modify_same, length_modify, peek_modify_keep}
use Rattle.table.specs.Tables.{Lies, Sound, first_of, look, movers, movers_in, second_of, unmarked}
use Rattle.table.proofs.Leaving.{movers_keep, slots_modify}
use Rattle.table.proofs.Looking.{edit_other, lies_once, look_as, look_but, look_some}

module _ {L V : Type 0} where
  abbrev Alike : Slot L V → Slot L V → Type 0
  Alike s t = (s.used ≡ t.used) × (s.tag ≡ t.tag) × (s.label ≡ t.label)

  -- the same labels in the same slots, counts and filters
  module _ (kind : Ghosts L) (bs es : List (Bucket L V)) (sound : Sound kind bs) (len : length es ≡ length bs) (alike : (j t : ℕ) (d : Bucket L V) → Alike (slot_of (get_or es j d) t) (slot_of (get_or bs j d) t)) (moved : (q : ℕ) → peek (λ b. b.moved) 0 es q ≡ peek (λ b. b.moved) 0 bs q) (filters : (q : ℕ) → peek (λ b. b.filter) 0 es q ≡ peek (λ b. b.filter) 0 bs q) (movers_eq : (size q : ℕ) → movers kind size q 0 es ≡ movers kind size q 0 bs) where
    pub lies_back : (m j t : ℕ) → Lies kind es m j t → Lies kind bs m j t
    lies_back m j t h = (let a = h.0 in omega arith, h.1, λ d. (sym (alike j t d).0 ∙ (h.2 d).0, ap kind.number (sym (alike j t d).2) ∙ (h.2 d).1))

    pub lies_forth : (m j t : ℕ) → Lies kind bs m j t → Lies kind es m j t
    lies_forth m j t h = (let a = h.0 in let b = len in omega arith, h.1, λ d. ((alike j t d).0 ∙ (h.2 d).0, ap kind.number (alike j t d).2 ∙ (h.2 d).1))

    pub sound_alike : Sound kind es
    sound_alike =
        record {
          lies = λ m j t h. subst (λ z. (j ≡ first_of kind z m) ⊎ (j ≡ second_of kind z m)) (sym len) (sound.lies m j t (lies_back m j t h));
          tagged = λ m j t h d. (alike j t d).1 ∙ sound.tagged m j t (lies_back m j t h) d;
          once = λ m j t j' t' h h'. sound.once m j t j' t' (lies_back m j t h) (lies_back m j' t' h');
          masked = λ m j t h ne. subst (λ z. contains (peek (λ b. b.filter) 0 es (first_of kind z m)) (mask_of (kind.spread m)) ≡ true) (sym len) (subst (λ z. contains z (mask_of (kind.spread m)) ≡ true) (sym (filters _)) (sound.masked m j t (lies_back m j t h) (λ e. ne (subst (λ z. j ≡ first_of kind z m) (sym len) e))));
          counts = λ q h. moved q ∙ sound.counts q (let a = len in omega arith) ∙ sym (movers_eq (length bs) q) ∙ ap (λ z. movers kind z q 0 es) (sym len);
          clear = λ q h z. filters q ∙ sound.clear q (let a = len in omega arith) (sym (moved q) ∙ z);
        }

  -- marks say nothing of the pairs
  pub length_unmarked : (bs : List (Bucket L V)) → length (unmarked bs) ≡ length bs
  length_unmarked [] = refl
  length_unmarked (b ∷ bs) = ap suc (length_unmarked bs)

  pub peek_unmarked : {Y : Type 0} (g : Bucket L V → Y) (e : Y) (bs : List (Bucket L V)) (i : ℕ) → ((b : Bucket L V) → g (with_mark blank_mark b) ≡ g b) → peek g e (unmarked bs) i ≡ peek g e bs i
  peek_unmarked g e [] i h = refl
  peek_unmarked g e (b ∷ bs) zero h = h b
  peek_unmarked g e (b ∷ bs) (suc i) h = peek_unmarked g e bs i h

  -- another payload
  movers_in_with_payload : (kind : Ghosts L) (size q : ℕ) (k : ℕ) (v : V) (b : Bucket L V) (i : ℕ) → movers_in kind size q i (with_payload k v b) ≡ movers_in kind size q i b
  movers_in_with_payload kind size q k v b i = by_slot (λ k. movers_in kind size q i (with_payload k v b) ≡ movers_in kind size q i b) refl refl refl (λ k. refl) k

  with_payload_alike : (k : ℕ) (v : V) (b : Bucket L V) (t : ℕ) → Alike (slot_of (with_payload k v b) t) (slot_of b t)
  with_payload_alike k v b t =
      ⊎_elim (λ w. (ap (λ s. s.used) w.1 ∙ ap (λ s. s.used) (sym w.2), ap (λ s. s.tag) w.1 ∙ ap (λ s. s.tag) (sym w.2), ap (λ s. s.label) w.1 ∙ ap (λ s. s.label) (sym w.2)))
      (λ e. (ap (λ s. s.used) e, ap (λ s. s.tag) e, ap (λ s. s.label) e))
      (slot_with_cases b k t (record { used = (slot_of b k).used; tag = (slot_of b k).tag; label = (slot_of b k).label; payload = v }))

  module _ (kind : Ghosts L) (bs : List (Bucket L V)) (sound : Sound kind bs) (n i k : ℕ) (v : V) (l : Lies kind bs n i k) where
    abbrev es : List (Bucket L V)
    es = modify (with_payload k v) bs i

    al : (j t : ℕ) (d : Bucket L V) → Alike (slot_of (get_or es j d) t) (slot_of (get_or bs j d) t)
    al j t d = slots_modify Alike (λ s. (refl, refl, refl)) (with_payload k v) (with_payload_alike k v) bs i j t d

    mv : (q : ℕ) → peek (λ b. b.moved) 0 es q ≡ peek (λ b. b.moved) 0 bs q
    mv q = peek_modify_keep (λ b. b.moved) 0 (with_payload k v) bs i q (λ b. with_moved b k _)

    fl : (q : ℕ) → peek (λ b. b.filter) 0 es q ≡ peek (λ b. b.filter) 0 bs q
    fl q = peek_modify_keep (λ b. b.filter) 0 (with_payload k v) bs i q (λ b. with_filter b k _)

    ou : (size q : ℕ) → movers kind size q 0 es ≡ movers kind size q 0 bs
    ou size q = movers_keep kind size q (with_payload k v) (λ b j. movers_in_with_payload kind size q k v b j) bs 0 i

    pub with_payload_sound : Sound kind es
    with_payload_sound = sound_alike kind bs es sound (length_modify (with_payload k v) bs i) al mv fl ou

    here : (d : Bucket L V) → (slot_of (get_or es i d) k).payload ≡ v
    here d = ap (λ b. (slot_of b k).payload) (get_or_modify_same (with_payload k v) bs i d l.0) ∙ ap (λ s. s.payload) (slot_with_same (get_or bs i d) k _)

    there : (j t : ℕ) (d : Bucket L V) → t < 4 → ((j ≡ i) × (t ≡ k) → ⊥) → slot_of (get_or es j d) t ≡ slot_of (get_or bs j d) t
    there j t d few ne = edit_other (λ b. record { used = (slot_of b k).used; tag = (slot_of b k).tag; label = (slot_of b k).label; payload = v }) bs i k j t d l.0 l.1 few ne

    pub with_payload_look : (m : ℕ) → look kind es m ≡ cond (eqb m n) (Some v) (look kind bs m)
    with_payload_look m =
        look_but (look kind es) (look kind bs) n m (Some v) (look_some kind es with_payload_sound n i k v (lies_new n i k l) here)
        (λ ne. look_as kind bs es with_payload_sound m (lies_back kind bs es sound (length_modify (with_payload k v) bs i) al mv fl ou m)
        (λ j t h. (lies_new m j t h, λ d. ap (λ s. s.payload) (there j t d h.1 (λ e. ne (lies_once kind bs m n i j k t d h l e))))))
      where
        lies_new : (m j t : ℕ) → Lies kind bs m j t → Lies kind es m j t
        lies_new = lies_forth kind bs es sound (length_modify (with_payload k v) bs i) al mv fl ou
