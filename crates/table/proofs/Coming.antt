-- A label comes into an unused slot.
use Rattle.std.proofs.Common.{◌≡◌, ℕ, suc, ◌+◌, ◌*◌, ◌<◌, ◌≤◌, min, Bool, true, false, cond, eqb, ◌⊎◌, List, [], ◌∷◌, length, get_or, Some, sym, refl, ap, ◌∙◌, subst, inl, inr, ⊎_elim, arith}
use lib.Bits.{bit_and, bit_or}
use Rattle.std.proofs.lemmas.Nat.{and_or_self}
use Rattle.std.proofs.lemmas.Bool.{and_left, cases_eq, cond-false, eq-eqb, eqb-true, true≢false}
use Rattle.label.specs.declared.Label.{Ghosts}
use Rattle.bucket.specs.Changes.{filled, modify, counted_out, peek}
use Rattle.bucket.specs.Slots.{Has, slot_of}
use Rattle.bucket.specs.Spread.{contains, mask_of, tag_of}
use Rattle.bucket.specs.declared.slots.Bucket.{Bucket}
use Rattle.bucket.specs.declared.slots.Slot.{Slot}
use Rattle.bucket.proofs.Changed.{counted_out_slots, slot_with_same, with_filter, with_moved}
use Rattle.bucket.proofs.Lists.{get_or_modify_same, length_modify, peek_modify_map, peek_modify_keep, peek_modify_other}
use Rattle.bucket.proofs.Sizes.{first_below}
use Rattle.table.specs.Moving.{occupied}
use Rattle.table.specs.Tables.{Lies, Nowhere, Sound, first_of, look, mover, movers, movers_in, second_of}
use Rattle.table.proofs.Both.{at_both_by}
use Rattle.table.proofs.Leaving.{mover_apart, mover_home, mover_one, movers_in_with, movers_keep, movers_modify, slots_modify}
use Rattle.table.proofs.Looking.{edit_other, look_as, look_but, look_some}
use Rattle.table.proofs.Masks.{or_keep}

module _ {L V : Type 0} where
  movers_in_le : (kind : Ghosts L) (size q i : ℕ) (b : Bucket L V) → movers_in kind size q i b ≤ 4
  movers_in_le kind size q i b = omega (arith, one b.s0, one b.s1, one b.s2, one b.s3)
    where
      bit : (z : Bool) → cond z 1 0 ≤ 1
      bit true = omega arith
      bit false = omega arith

      one : (s : Slot L V) → mover kind size q i s ≤ 1
      one s = bit _

  pub movers_le : (kind : Ghosts L) (size q i : ℕ) (bs : List (Bucket L V)) → movers kind size q i bs ≤ 4 * length bs
  movers_le kind size q i [] = omega arith
  movers_le kind size q i (b ∷ bs) = let a = movers_in_le kind size q i b in let r = movers_le kind size q (suc i) bs in omega arith

  -- a count has room for one more
  pub room : (kind : Ghosts L) (bs : List (Bucket L V)) → Sound kind bs → length bs ≤ 4096 → (p : ℕ) → p < length bs → peek (λ b. b.moved) 0 bs p < 65535
  room kind bs sound small p h = let a = sound.counts p h in let b = movers_le kind (length bs) p 0 bs in omega arith

  -- a label of number n, held nowhere, comes into the unused slot k of bucket i
  module _ (kind : Ghosts L) (bs : List (Bucket L V)) (sound : Sound kind bs) (small : length bs ≤ 4096) (n i k : ℕ) (x : Bucket L V) (lt : i < length bs) (few : k < 4) (is : x ≡ get_or bs i x) (free : (slot_of x k).used ≡ false) (lab : L) (v : V) (en : kind.number lab ≡ n) (none : Nowhere kind bs n) (home : (i ≡ first_of kind (length bs) n) ⊎ (i ≡ second_of kind (length bs) n)) where
    abbrev ns : Slot L V
    ns = record { used = true; tag = tag_of (kind.spread n); label = lab; payload = v }

    abbrev cs : List (Bucket L V)
    cs = modify (filled k ns) bs i

    abbrev p' : ℕ
    p' = first_of kind (length bs) n

    cs_other : (j m : ℕ) (d : Bucket L V) → m < 4 → ((j ≡ i) × (m ≡ k) → ⊥) → slot_of (get_or cs j d) m ≡ slot_of (get_or bs j d) m
    cs_other j m d h ne = edit_other (λ b. ns) bs i k j m d lt few h ne

    cs_here : (d : Bucket L V) → slot_of (get_or cs i d) k ≡ ns
    cs_here d = ap (λ b. slot_of b k) (get_or_modify_same (filled k ns) bs i d lt) ∙ slot_with_same (get_or bs i d) k ns

    spot_cases : (j t : ℕ) → ((j ≡ i) × (t ≡ k)) ⊎ ((j ≡ i) × (t ≡ k) → ⊥)
    spot_cases j t = ⊎_elim (λ e. ⊎_elim (λ w. inl (e, w)) (λ ne. inr (λ z. ne z.1)) (cases_eq t k)) (λ ne. inr (λ z. ne z.0)) (cases_eq j i)

    not_here : (m j t : ℕ) → Lies kind bs m j t → (j ≡ i) × (t ≡ k) → ⊥
    not_here m j t h e =
        let u = (h.2 x).0 in
        true≢false (cc (u, is, free, e.0, e.1))

    -- lists with the slots of cs
    module _ (es : List (Bucket L V)) (len : length es ≡ length bs) (slots : (j m : ℕ) (d : Bucket L V) → slot_of (get_or es j d) m ≡ slot_of (get_or cs j d) m) where
      at_spot : (j t : ℕ) (d : Bucket L V) → (j ≡ i) × (t ≡ k) → slot_of (get_or es j d) t ≡ ns
      at_spot j t d e = ap (λ z. slot_of (get_or es z d) t) e.0 ∙ ap (λ z. slot_of (get_or es i d) z) e.1 ∙ slots i k d ∙ cs_here d

      off_spot : (j t : ℕ) (d : Bucket L V) → t < 4 → ((j ≡ i) × (t ≡ k) → ⊥) → slot_of (get_or es j d) t ≡ slot_of (get_or bs j d) t
      off_spot j t d h ne = slots j t d ∙ cs_other j t d h ne

      lies_here : Lies kind es n i k
      lies_here = (omega arith, few, λ d. subst (λ z. Has kind z n) (sym (at_spot i k d (refl, refl))) (refl, en))

      number_here : (m j t : ℕ) → Lies kind es m j t → (j ≡ i) × (t ≡ k) → m ≡ n
      number_here m j t h e = sym (h.2 x).1 ∙ ap (λ z. kind.number z.label) (at_spot j t x e) ∙ en

      lies_old : (m j t : ℕ) → Lies kind es m j t → ((j ≡ i) × (t ≡ k) → ⊥) → Lies kind bs m j t
      lies_old m j t h ne = (let a = h.0 in omega arith, h.1, λ d. subst (λ z. Has kind z m) (off_spot j t d h.1 ne) (h.2 d))

      lies_new : (m j t : ℕ) → Lies kind bs m j t → Lies kind es m j t
      lies_new m j t h = (let a = h.0 in let b = len in omega arith, h.1, λ d. subst (λ z. Has kind z m) (sym (off_spot j t d h.1 (not_here m j t h))) (h.2 d))

      look_here : Sound kind es → look kind es n ≡ Some v
      look_here kept' = look_some kind es kept' n i k v lies_here (λ d. ap (λ z. z.payload) (at_spot i k d (refl, refl)))

      look_same : Sound kind es → (m : ℕ) → (m ≡ n → ⊥) → look kind es m ≡ look kind bs m
      look_same kept' m ne =
          look_as kind bs es kept' m (λ j t h. lies_old m j t h (λ e. ne (number_here m j t h e)))
          (λ j t h. (lies_new m j t h, λ d. ap (λ z. z.payload) (off_spot j t d h.1 (not_here m j t h))))

      look_by : Sound kind es → (m : ℕ) → look kind es m ≡ cond (eqb m n) (Some v) (look kind bs m)
      look_by kept' m = look_but (look kind es) (look kind bs) n m (Some v) (look_here kept') (look_same kept' m)

      sound_by : ((q : ℕ) → q < length bs → peek (λ b. b.moved) 0 es q ≡ movers kind (length bs) q 0 es) → ((q : ℕ) → q < length bs → peek (λ b. b.moved) 0 es q ≡ 0 → peek (λ b. b.filter) 0 es q ≡ 0) → ((q m : ℕ) → contains (peek (λ b. b.filter) 0 bs q) m ≡ true → contains (peek (λ b. b.filter) 0 es q) m ≡ true) → ((i ≡ p' → ⊥) → contains (peek (λ b. b.filter) 0 es p') (mask_of (kind.spread n)) ≡ true) → Sound kind es
      sound_by counts clear keep own =
          record {
            lies = λ m j t h. subst (λ z. (j ≡ first_of kind z m) ⊎ (j ≡ second_of kind z m)) (sym len)
                (⊎_elim (λ e. subst (λ z. (j ≡ first_of kind (length bs) z) ⊎ (j ≡ second_of kind (length bs) z)) (sym (number_here m j t h e)) (⊎_elim (λ a. inl (e.0 ∙ a)) (λ a. inr (e.0 ∙ a)) home))
                (λ ne. sound.lies m j t (lies_old m j t h ne)) (spot_cases j t));
            tagged = λ m j t h d.
                ⊎_elim (λ e. ap (λ z. z.tag) (at_spot j t d e) ∙ ap (λ z. tag_of (kind.spread z)) (sym (number_here m j t h e)))
                (λ ne. ap (λ z. z.tag) (off_spot j t d h.1 ne) ∙ sound.tagged m j t (lies_old m j t h ne) d) (spot_cases j t);
            once = λ m j t j' t' h h'.
                ⊎_elim (λ e. ⊎_elim (λ e'. (e.0 ∙ sym e'.0, e.1 ∙ sym e'.1)) (λ ne. absurd (none j' t' (subst (λ z. Lies kind bs z j' t') (number_here m j t h e) (lies_old m j' t' h' ne)))) (spot_cases j' t'))
                (λ ne. ⊎_elim (λ e'. absurd (none j t (subst (λ z. Lies kind bs z j t) (number_here m j' t' h' e') (lies_old m j t h ne)))) (λ ne'. sound.once m j t j' t' (lies_old m j t h ne) (lies_old m j' t' h' ne')) (spot_cases j' t')) (spot_cases j t);
            masked = λ m j t h ne. subst (λ z. contains (peek (λ b. b.filter) 0 es (first_of kind z m)) (mask_of (kind.spread m)) ≡ true) (sym len)
                (let ne2 : j ≡ first_of kind (length bs) m → ⊥ = λ e. ne (subst (λ z. j ≡ first_of kind z m) (sym len) e) in
                ⊎_elim (λ e. subst (λ z. contains (peek (λ b. b.filter) 0 es (first_of kind (length bs) z)) (mask_of (kind.spread z)) ≡ true) (sym (number_here m j t h e)) (own (λ w. ne2 (e.0 ∙ w ∙ ap (λ z. first_of kind (length bs) z) (sym (number_here m j t h e))))))
                (λ o. keep (first_of kind (length bs) m) (mask_of (kind.spread m)) (sound.masked m j t (lies_old m j t h o) ne2)) (spot_cases j t));
            counts = λ q h. subst (λ z. peek (λ b. b.moved) 0 es q ≡ movers kind z q 0 es) (sym len) (counts q (let a = len in omega arith));
            clear = λ q h. clear q (let a = len in omega arith);
          }

    cs_moved : (q : ℕ) → peek (λ b. b.moved) 0 cs q ≡ peek (λ b. b.moved) 0 bs q
    cs_moved q = peek_modify_keep (λ b. b.moved) 0 (filled k ns) bs i q (λ b. with_moved b k ns)

    cs_filter : (q : ℕ) → peek (λ b. b.filter) 0 cs q ≡ peek (λ b. b.filter) 0 bs q
    cs_filter q = peek_modify_keep (λ b. b.filter) 0 (filled k ns) bs i q (λ b. with_filter b k ns)

    cs_outs : (q : ℕ) → movers kind (length bs) q 0 cs ≡ movers kind (length bs) q 0 bs + mover kind (length bs) q i ns
    cs_outs q =
        let a = movers_modify kind (length bs) q (filled k ns) bs 0 i i x lt is (omega arith) in
        let b = movers_in_with kind (length bs) q x i k ns in
        let e : mover kind (length bs) q i (slot_of x k) ≡ 0 = cond-false {A = ℕ} _ 1 0 (and_left _ _ free) in
        omega arith

    -- it comes to lie in its first bucket
    occupy_same : p' ≡ i → Sound kind cs
    occupy_same e =
        sound_by cs (length_modify (filled k ns) bs i) (λ j m d. refl)
        (λ q h. let a = cs_moved q in let b = sound.counts q h in let c = mover_home kind (length bs) q ns n i en e in let d = cs_outs q in omega arith)
        (λ q h z. cs_filter q ∙ sound.clear q h (sym (cs_moved q) ∙ z))
        (λ q m h. subst (λ z. contains z m ≡ true) (sym (cs_filter q)) h)
        (λ ne. absurd (ne (sym e)))

    -- it comes to lie elsewhere
    module _ (away : p' ≡ i → ⊥) where
      abbrev es' : List (Bucket L V)
      es' = modify (counted_out (mask_of (kind.spread n))) cs p'

      len_es : length es' ≡ length bs
      len_es = length_modify (counted_out (mask_of (kind.spread n))) cs p' ∙ length_modify (filled k ns) bs i

      within : p' < length bs
      within = first_below (kind.spread n) (length bs) (omega arith)

      within_cs : p' < length cs
      within_cs = subst (λ z. p' < z) (sym (length_modify (filled k ns) bs i)) within

      slots_es : (j m : ℕ) (d : Bucket L V) → slot_of (get_or es' j d) m ≡ slot_of (get_or cs j d) m
      slots_es j m d = slots_modify ◌≡◌ (λ s. refl) (counted_out (mask_of (kind.spread n))) (counted_out_slots (mask_of (kind.spread n))) cs p' j m d

      movers_es : (q : ℕ) → movers kind (length bs) q 0 es' ≡ movers kind (length bs) q 0 bs + mover kind (length bs) q i ns
      movers_es q = movers_keep kind (length bs) q (counted_out (mask_of (kind.spread n))) (λ b j. refl) cs 0 p' ∙ cs_outs q

      moved_p : peek (λ b. b.moved) 0 es' p' ≡ movers kind (length bs) p' 0 bs + 1
      moved_p =
          let a = peek_modify_map (λ b. b.moved) 0 (counted_out (mask_of (kind.spread n))) (λ z. min (z + 1) 65535) cs p' within_cs (λ b. refl) in
          let b = cs_moved p' in
          let c = sound.counts p' within in
          let d = movers_le kind (length bs) p' 0 bs in
          omega arith

      filter_p : peek (λ b. b.filter) 0 es' p' ≡ bit_or (peek (λ b. b.filter) 0 bs p') (mask_of (kind.spread n))
      filter_p =
          peek_modify_map (λ b. b.filter) 0 (counted_out (mask_of (kind.spread n))) (λ z. bit_or z (mask_of (kind.spread n))) cs p' within_cs (λ b. refl)
          ∙ ap (λ z. bit_or z (mask_of (kind.spread n))) (cs_filter p')

      moved_q : (q : ℕ) → (q ≡ p' → ⊥) → peek (λ b. b.moved) 0 es' q ≡ peek (λ b. b.moved) 0 bs q
      moved_q q ne = peek_modify_other (λ b. b.moved) 0 (counted_out (mask_of (kind.spread n))) cs p' q ne ∙ cs_moved q

      filter_q : (q : ℕ) → (q ≡ p' → ⊥) → peek (λ b. b.filter) 0 es' q ≡ peek (λ b. b.filter) 0 bs q
      filter_q q ne = peek_modify_other (λ b. b.filter) 0 (counted_out (mask_of (kind.spread n))) cs p' q ne ∙ cs_filter q

      one_p : mover kind (length bs) p' i ns ≡ 1
      one_p = mover_one kind (length bs) p' ns n i (refl, en) refl (λ e. away (sym e))

      none_q : (q : ℕ) → (q ≡ p' → ⊥) → mover kind (length bs) q i ns ≡ 0
      none_q q ne = mover_apart kind (length bs) q ns n i en ne

      counts_p : peek (λ b. b.moved) 0 es' p' ≡ movers kind (length bs) p' 0 es'
      counts_p = let a = moved_p in let c = one_p in let d = movers_es p' in omega arith

      counts_q : (q : ℕ) → q < length bs → (q ≡ p' → ⊥) → peek (λ b. b.moved) 0 es' q ≡ movers kind (length bs) q 0 es'
      counts_q q h ne = let a = moved_q q ne in let b = sound.counts q h in let c = none_q q ne in let d = movers_es q in omega arith

      keep_p : (m : ℕ) → contains (peek (λ b. b.filter) 0 bs p') m ≡ true → contains (peek (λ b. b.filter) 0 es' p') m ≡ true
      keep_p m h = eq-eqb _ m (ap (λ z. bit_and z m) filter_p ∙ or_keep (peek (λ b. b.filter) 0 bs p') (mask_of (kind.spread n)) m (eqb-true _ m h))

      occupy_two : Sound kind es'
      occupy_two =
          sound_by es' len_es slots_es
          (λ q h. ⊎_elim (λ e. subst (λ z. peek (λ b. b.moved) 0 es' z ≡ movers kind (length bs) z 0 es') (sym e) counts_p) (counts_q q h) (cases_eq q p'))
          (λ q h z. ⊎_elim (λ e. absurd (let a = moved_p in let b : peek (λ b. b.moved) 0 es' p' ≡ 0 = ap (λ w. peek (λ b. b.moved) 0 es' w) (sym e) ∙ z in omega arith)) (λ ne. filter_q q ne ∙ sound.clear q h (sym (moved_q q ne) ∙ z)) (cases_eq q p'))
          (λ q m h. ⊎_elim (λ e. subst (λ z. contains (peek (λ b. b.filter) 0 es' z) m ≡ true) (sym e) (keep_p m (subst (λ z. contains (peek (λ b. b.filter) 0 bs z) m ≡ true) e h))) (λ ne. subst (λ z. contains z m ≡ true) (sym (filter_q q ne)) h) (cases_eq q p'))
          (λ ne. eq-eqb _ (mask_of (kind.spread n)) (ap (λ z. bit_and z (mask_of (kind.spread n))) filter_p ∙ and_or_self (mask_of (kind.spread n)) (peek (λ b. b.filter) 0 bs p')))

    pub occupy_sound : Sound kind (occupied kind bs n i k lab v)
    occupy_sound = at_both_by (Sound kind) (filled k ns) (counted_out (mask_of (kind.spread n))) bs i p' occupy_same occupy_two

    pub occupy_look : (m : ℕ) → look kind (occupied kind bs n i k lab v) m ≡ cond (eqb m n) (Some v) (look kind bs m)
    occupy_look m =
        at_both_by (λ z. look kind z m ≡ cond (eqb m n) (Some v) (look kind bs m)) (filled k ns) (counted_out (mask_of (kind.spread n))) bs i p'
        (λ e. look_by cs (length_modify (filled k ns) bs i) (λ j m d. refl) (occupy_same e) m) (λ ne. look_by (es' ne) (len_es ne) (slots_es ne) (occupy_two ne) m)
