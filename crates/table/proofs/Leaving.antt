-- A label leaves its slot.
use Rattle.std.proofs.Common.{◌≡◌, ℕ, zero, suc, ◌+◌, ◌-◌, ◌<◌, Bool, true, false, cond, not, ◌&&◌, eqb, ◌⊎◌, List, [], ◌∷◌, length, get_or, None, sym, refl, ap, ◌∙◌, subst, ⊎_elim, arith}
use Rattle.std.proofs.lemmas.List.{get_or_default}
use Rattle.std.proofs.lemmas.Bool.{and_from, cases_eq, cond-false, cond-true, eq-eqb, eqb-false, eqb-true, ne_eqb, true≢false}
use Rattle.label.specs.declared.Label.{Ghosts}
use Rattle.bucket.specs.Changes.{freed, modify, counted_back, peek, unused}
use Rattle.bucket.specs.Slots.{Has, slot_of, with_slot}
use Rattle.bucket.specs.Spread.{contains, mask_of}
use Rattle.bucket.specs.declared.slots.Bucket.{Bucket}
use Rattle.bucket.specs.declared.slots.Slot.{Slot}
use Rattle.bucket.proofs.Changed.{counted_back_slots, slot_with_same, with_filter, with_moved}
use Rattle.bucket.proofs.Lists.{get_or_modify_same, length_modify, peek_modify_here, peek_modify_keep, peek_modify_other, peek_read}
use Rattle.bucket.proofs.Sizes.{first_below}
use Rattle.table.specs.Moving.{vacated}
use Rattle.table.specs.Tables.{Lies, Nowhere, Sound, first_of, look, mover, movers, movers_in, second_of}
use Rattle.table.proofs.Both.{at_both_by}
use Rattle.table.proofs.Looking.{edit_other, lies_at, lies_once, look_as, look_but, look_none}

module _ {L V : Type 0} where
  -- a change that leaves what R compares of the slots
  pub slots_modify : (R : Slot L V → Slot L V → Type 0) → ((s : Slot L V) → R s s) → (g : Bucket L V → Bucket L V) → ((b : Bucket L V) (l : ℕ) → R (slot_of (g b) l) (slot_of b l))
      → (bs : List (Bucket L V)) (p j l : ℕ) (d : Bucket L V) → R (slot_of (get_or (modify g bs p) j d) l) (slot_of (get_or bs j d) l)
  slots_modify R same g keeps [] p j l d = same _
  slots_modify R same g keeps (b ∷ bs) zero zero l d = keeps b l
  slots_modify R same g keeps (b ∷ bs) zero (suc j) l d = same _
  slots_modify R same g keeps (b ∷ bs) (suc p) zero l d = same _
  slots_modify R same g keeps (b ∷ bs) (suc p) (suc j) l d = slots_modify R same g keeps bs p j l d

  module _ (kind : Ghosts L) (size q : ℕ) where
    pub movers_in_with : (b : Bucket L V) (i k : ℕ) (s : Slot L V) → movers_in kind size q i (with_slot b k s) + mover kind size q i (slot_of b k) ≡ movers_in kind size q i b + mover kind size q i s
    movers_in_with b i zero s = omega arith
    movers_in_with b i (suc zero) s = omega arith
    movers_in_with b i (suc (suc zero)) s = omega arith
    movers_in_with b i (suc (suc (suc k))) s = omega arith

    pub movers_modify : (f : Bucket L V → Bucket L V) (bs : List (Bucket L V)) (i j k : ℕ) (x : Bucket L V) → k < length bs → x ≡ get_or bs k x → j ≡ i + k → movers kind size q i (modify f bs k) + movers_in kind size q j x ≡ movers kind size q i bs + movers_in kind size q j (f x)
    movers_modify f [] i j k x h is e = absurd (omega arith)
    movers_modify f (b ∷ bs) i j zero x h is e =
        let w : j ≡ i = omega arith in
        let now : movers_in kind size q j x ≡ movers_in kind size q i b = ap (λ z. movers_in kind size q z x) w ∙ ap (movers_in kind size q i) is in
        let next : movers_in kind size q j (f x) ≡ movers_in kind size q i (f b) = ap (λ z. movers_in kind size q z (f x)) w ∙ ap (λ z. movers_in kind size q i (f z)) is in
        omega arith
    movers_modify f (b ∷ bs) i j (suc k) x h is e = let r = movers_modify f bs (suc i) j k x (omega arith) is (omega arith) in omega arith

    pub movers_keep : (g : Bucket L V → Bucket L V) → ((b : Bucket L V) (i : ℕ) → movers_in kind size q i (g b) ≡ movers_in kind size q i b) → (bs : List (Bucket L V)) (i k : ℕ) → movers kind size q i (modify g bs k) ≡ movers kind size q i bs
    movers_keep g keeps [] i k = refl
    movers_keep g keeps (b ∷ bs) i zero = ap (λ z. z + movers kind size q (suc i) bs) (keeps b i)
    movers_keep g keeps (b ∷ bs) i (suc k) = ap (λ z. movers_in kind size q i b + z) (movers_keep g keeps bs (suc i) k)

    -- a label that lies outside its first bucket is counted there
    pub mover_one : (s : Slot L V) (m j : ℕ) → Has kind s m → first_of kind size m ≡ q → (j ≡ q → ⊥) → mover kind size q j s ≡ 1
    mover_one s m j has e ne = cond-true {A = ℕ} _ 1 0 (and_from s.used _ has.0 (and_from _ (not (eqb j q)) (eq-eqb _ q (ap (λ z. first_of kind size z) has.1 ∙ e)) (ap not (ne_eqb j q ne))))

    -- a label in its first bucket is counted nowhere, and one outside it in no other bucket
    pub mover_home : (s : Slot L V) (m j : ℕ) → kind.number s.label ≡ m → first_of kind size m ≡ j → mover kind size q j s ≡ 0
    mover_home s m j en e = go s.used (eqb (first_of kind size (kind.number s.label)) q) (eqb j q) refl refl
      where
        go : (a b c : Bool) → eqb (first_of kind size (kind.number s.label)) q ≡ b → eqb j q ≡ c → ◌≡◌ {A = ℕ} (cond (a && (b && not c)) 1 0) 0
        go false b c u v = refl
        go true false c u v = refl
        go true true true u v = refl
        go true true false u v = absurd (eqb-false j q v (sym e ∙ ap (λ z. first_of kind size z) (sym en) ∙ eqb-true _ q u))

    pub mover_apart : (s : Slot L V) (m j : ℕ) → kind.number s.label ≡ m → (q ≡ first_of kind size m → ⊥) → mover kind size q j s ≡ 0
    mover_apart s m j en ne = go s.used (eqb (first_of kind size (kind.number s.label)) q) refl
      where
        go : (a b : Bool) → eqb (first_of kind size (kind.number s.label)) q ≡ b → ◌≡◌ {A = ℕ} (cond (a && (b && not (eqb j q))) 1 0) 0
        go false b u = refl
        go true false u = refl
        go true true u = absurd (ne (sym (eqb-true _ q u) ∙ ap (λ z. first_of kind size z) en))

    in_pos : (b : Bucket L V) (j l : ℕ) → mover kind size q j (slot_of b l) ≡ 1 → 0 < movers_in kind size q j b
    in_pos b j zero e = omega arith
    in_pos b j (suc zero) e = omega arith
    in_pos b j (suc (suc zero)) e = omega arith
    in_pos b j (suc (suc (suc l))) e = omega arith

    pub movers_pos : (bs : List (Bucket L V)) (i j k l m : ℕ) → j < length bs → ((d : Bucket L V) → Has kind (slot_of (get_or bs j d) l) m) → first_of kind size m ≡ q → k ≡ i + j → (k ≡ q → ⊥) → 0 < movers kind size q i bs
    movers_pos [] i j k l m h has e w ne = absurd (omega arith)
    movers_pos (b ∷ bs) i zero k l m h has e w ne =
        let u : i ≡ k = omega arith in
        let r = in_pos b i l (mover_one (slot_of b l) m i (has b) e (λ z. ne (sym u ∙ z))) in
        omega arith
    movers_pos (b ∷ bs) i (suc j) k l m h has e w ne = let r = movers_pos bs (suc i) j k l m (omega arith) has e (omega arith) ne in omega arith

  -- the label of number n leaves slot k of bucket i
  module _ (kind : Ghosts L) (bs : List (Bucket L V)) (sound : Sound kind bs) (n i k : ℕ) (x : Bucket L V) (l : Lies kind bs n i k) (is : x ≡ get_or bs i x) where
    abbrev cs : List (Bucket L V)
    cs = modify (freed k) bs i

    abbrev p' : ℕ
    p' = first_of kind (length bs) n

    cs_other : (j m : ℕ) (d : Bucket L V) → m < 4 → ((j ≡ i) × (m ≡ k) → ⊥) → slot_of (get_or cs j d) m ≡ slot_of (get_or bs j d) m
    cs_other j m d few ne = edit_other (λ b. unused (slot_of b k)) bs i k j m d l.0 l.1 few ne

    cs_here : (d : Bucket L V) → (slot_of (get_or cs i d) k).used ≡ false
    cs_here d = ap (λ b. (slot_of b k).used) (get_or_modify_same (freed k) bs i d l.0) ∙ ap (λ t. t.used) (slot_with_same (get_or bs i d) k (unused (slot_of (get_or bs i d) k)))

    -- lists with the slots of cs
    module _ (es : List (Bucket L V)) (len : length es ≡ length bs) (slots : (j m : ℕ) (d : Bucket L V) → slot_of (get_or es j d) m ≡ slot_of (get_or cs j d) m) where
      apart : (m j t : ℕ) → Lies kind es m j t → (j ≡ i) × (t ≡ k) → ⊥
      apart m j t h e =
          let u = (h.2 x).0 in
          let w = slots j t x in
          let v = cs_here x in
          true≢false (cc (u, w, v, e.0, e.1))

      same_slot : (m j t : ℕ) → Lies kind es m j t → (d : Bucket L V) → slot_of (get_or es j d) t ≡ slot_of (get_or bs j d) t
      same_slot m j t h d = slots j t d ∙ cs_other j t d h.1 (apart m j t h)

      lies_old : (m j t : ℕ) → Lies kind es m j t → Lies kind bs m j t
      lies_old m j t h = (let a = h.0 in omega arith, h.1, λ d. subst (λ z. Has kind z m) (same_slot m j t h d) (h.2 d))

      lies_new : (m j t : ℕ) → Lies kind bs m j t → ((j ≡ i) × (t ≡ k) → ⊥) → Lies kind es m j t
      lies_new m j t h ne = (let a = h.0 in let b = len in omega arith, h.1, λ d. subst (λ z. Has kind z m) (sym (slots j t d ∙ cs_other j t d h.1 ne)) (h.2 d))

      gone : Nowhere kind es n
      gone j t h = apart n j t h (sound.once n j t i k (lies_old n j t h) l)

      look_same : Sound kind es → (m : ℕ) → (m ≡ n → ⊥) → look kind es m ≡ look kind bs m
      look_same kept' m ne =
          look_as kind bs es kept' m (lies_old m) (λ j t h.
          let other : (j ≡ i) × (t ≡ k) → ⊥ = λ e. ne (lies_once kind bs m n i j k t x h l e) in
          (lies_new m j t h other, λ d. ap (λ z. z.payload) (slots j t d ∙ cs_other j t d h.1 other)))

      look_by : Sound kind es → (m : ℕ) → look kind es m ≡ cond (eqb m n) None (look kind bs m)
      look_by kept' m = look_but (look kind es) (look kind bs) n m None (look_none kind es n gone) (look_same kept' m)

      sound_by : ((q : ℕ) → q < length bs → peek (λ b. b.moved) 0 es q ≡ movers kind (length bs) q 0 es) → ((q : ℕ) → q < length bs → peek (λ b. b.moved) 0 es q ≡ 0 → peek (λ b. b.filter) 0 es q ≡ 0) → ((m j t : ℕ) → Lies kind es m j t → (j ≡ first_of kind (length bs) m → ⊥) → contains (peek (λ b. b.filter) 0 es (first_of kind (length bs) m)) (mask_of (kind.spread m)) ≡ true) → Sound kind es
      sound_by counts clear masked =
          record {
            lies = λ m j t h. subst (λ z. (j ≡ first_of kind z m) ⊎ (j ≡ second_of kind z m)) (sym len) (sound.lies m j t (lies_old m j t h));
            tagged = λ m j t h d. ap (λ z. z.tag) (same_slot m j t h d) ∙ sound.tagged m j t (lies_old m j t h) d;
            once = λ m j t j' t' h h'. sound.once m j t j' t' (lies_old m j t h) (lies_old m j' t' h');
            masked = λ m j t h ne. subst (λ z. contains (peek (λ b. b.filter) 0 es (first_of kind z m)) (mask_of (kind.spread m)) ≡ true) (sym len) (masked m j t h (λ e. ne (subst (λ z. j ≡ first_of kind z m) (sym len) e)));
            counts = λ q h. subst (λ z. peek (λ b. b.moved) 0 es q ≡ movers kind z q 0 es) (sym len) (counts q (let a = len in omega arith));
            clear = λ q h. clear q (let a = len in omega arith);
          }

    has_x : Has kind (slot_of x k) n
    has_x = lies_at kind bs n i k x is l

    cs_moved : (q : ℕ) → peek (λ b. b.moved) 0 cs q ≡ peek (λ b. b.moved) 0 bs q
    cs_moved q = peek_modify_keep (λ b. b.moved) 0 (freed k) bs i q (λ b. with_moved b k _)

    cs_filter : (q : ℕ) → peek (λ b. b.filter) 0 cs q ≡ peek (λ b. b.filter) 0 bs q
    cs_filter q = peek_modify_keep (λ b. b.filter) 0 (freed k) bs i q (λ b. with_filter b k _)

    cs_outs : (q : ℕ) → movers kind (length bs) q 0 cs + mover kind (length bs) q i (slot_of x k) ≡ movers kind (length bs) q 0 bs
    cs_outs q =
        let a = movers_modify kind (length bs) q (freed k) bs 0 i i x l.0 is (omega arith) in
        let b : movers_in kind (length bs) q i (freed k x) + mover kind (length bs) q i (slot_of x k) ≡ movers_in kind (length bs) q i x + 0 = movers_in_with kind (length bs) q x i k (unused (slot_of x k)) in
        omega arith

    -- it lay in its first bucket
    pub vacate_same : p' ≡ i → Sound kind cs
    vacate_same e =
        sound_by cs (length_modify (freed k) bs i) (λ j m d. refl)
        (λ q h. let a = cs_moved q in let b = sound.counts q h in let c = cs_outs q in let d = mover_home kind (length bs) q (slot_of x k) n i has_x.1 e in omega arith)
        (λ q h z. cs_filter q ∙ sound.clear q h (sym (cs_moved q) ∙ z))
        (λ m j t h ne. subst (λ z. contains z (mask_of (kind.spread m)) ≡ true) (sym (cs_filter _)) (sound.masked m j t (lies_old cs (length_modify (freed k) bs i) (λ j m d. refl) m j t h) ne))

    -- it lay elsewhere
    module _ (away : p' ≡ i → ⊥) where
      abbrev es' : List (Bucket L V)
      es' = modify counted_back cs p'

      abbrev y : Bucket L V
      y = get_or cs p' x

      len_es : length es' ≡ length bs
      len_es = length_modify counted_back cs p' ∙ length_modify (freed k) bs i

      within : p' < length bs
      within = first_below (kind.spread n) (length bs) (let a = l.0 in omega arith)

      within_cs : p' < length cs
      within_cs = subst (λ z. p' < z) (sym (length_modify (freed k) bs i)) within

      y_is : y ≡ get_or cs p' y
      y_is = get_or_default cs p' x y within_cs

      slots_es : (j m : ℕ) (d : Bucket L V) → slot_of (get_or es' j d) m ≡ slot_of (get_or cs j d) m
      slots_es j m d = slots_modify ◌≡◌ (λ s. refl) counted_back counted_back_slots cs p' j m d

      movers_es : (q : ℕ) → movers kind (length bs) q 0 es' ≡ movers kind (length bs) q 0 cs
      movers_es q = movers_keep kind (length bs) q counted_back (λ b j. refl) cs 0 p'

      y_moved : y.moved ≡ movers kind (length bs) p' 0 cs + 1
      y_moved = sym (peek_read (λ b. b.moved) 0 cs p' y within_cs y_is) ∙ cs_moved p' ∙ sound.counts p' within ∙ sym (cs_outs p') ∙ ap (λ z. movers kind (length bs) p' 0 cs + z) (mover_one kind (length bs) p' (slot_of x k) n i has_x refl (λ e. away (sym e)))

      moved_p : peek (λ b. b.moved) 0 es' p' ≡ y.moved - 1
      moved_p = peek_modify_here (λ b. b.moved) 0 counted_back cs p' y within_cs y_is

      filter_p : peek (λ b. b.filter) 0 es' p' ≡ cond (eqb (y.moved - 1) 0) 0 y.filter
      filter_p = peek_modify_here (λ b. b.filter) 0 counted_back cs p' y within_cs y_is

      counts_p : peek (λ b. b.moved) 0 es' p' ≡ movers kind (length bs) p' 0 es'
      counts_p = let a = moved_p in let b = y_moved in let c = movers_es p' in omega arith

      moved_q : (q : ℕ) → (q ≡ p' → ⊥) → peek (λ b. b.moved) 0 es' q ≡ peek (λ b. b.moved) 0 bs q
      moved_q q ne = peek_modify_other (λ b. b.moved) 0 counted_back cs p' q ne ∙ cs_moved q

      filter_q : (q : ℕ) → (q ≡ p' → ⊥) → peek (λ b. b.filter) 0 es' q ≡ peek (λ b. b.filter) 0 bs q
      filter_q q ne = peek_modify_other (λ b. b.filter) 0 counted_back cs p' q ne ∙ cs_filter q

      none_q : (q : ℕ) → (q ≡ p' → ⊥) → mover kind (length bs) q i (slot_of x k) ≡ 0
      none_q q ne = mover_apart kind (length bs) q (slot_of x k) n i has_x.1 ne

      counts_q : (q : ℕ) → q < length bs → (q ≡ p' → ⊥) → peek (λ b. b.moved) 0 es' q ≡ movers kind (length bs) q 0 es'
      counts_q q h ne = let a = moved_q q ne in let b = sound.counts q h in let c = cs_outs q in let d = none_q q ne in let e = movers_es q in omega arith

      masked_p : (m j t : ℕ) → Lies kind es' m j t → first_of kind (length bs) m ≡ p' → (j ≡ p' → ⊥) → contains (peek (λ b. b.filter) 0 es' p') (mask_of (kind.spread m)) ≡ true
      masked_p m j t h e ne =
          let pos = movers_pos kind (length bs) p' es' 0 j j t m h.0 h.2 e (omega arith) ne in
          let c = counts_p in
          let mv = moved_p in
          let no' : y.moved - 1 ≡ 0 → ⊥ = λ z. omega arith in
          let f : peek (λ b. b.filter) 0 es' p' ≡ peek (λ b. b.filter) 0 bs p'
          = filter_p ∙ cond-false (eqb (y.moved - 1) 0) 0 y.filter (ne_eqb _ 0 no') ∙ sym (peek_read (λ b. b.filter) 0 cs p' y within_cs y_is) ∙ cs_filter p' in
          let k' = sound.masked m j t (lies_old es' len_es slots_es m j t h) (λ w. ne (w ∙ e)) in
          subst (λ z. contains z (mask_of (kind.spread m)) ≡ true) (ap (λ z. peek (λ b. b.filter) 0 bs z) e ∙ sym f) k'

      pub vacate_two : Sound kind es'
      vacate_two =
          sound_by es' len_es slots_es
          (λ q h. ⊎_elim (λ e. subst (λ z. peek (λ b. b.moved) 0 es' z ≡ movers kind (length bs) z 0 es') (sym e) counts_p) (counts_q q h) (cases_eq q p'))
          (λ q h z. ⊎_elim (λ e. ap (λ w. peek (λ b. b.filter) 0 es' w) e ∙ filter_p ∙ cond-true (eqb (y.moved - 1) 0) 0 y.filter (eq-eqb _ 0 (sym moved_p ∙ ap (λ w. peek (λ b. b.moved) 0 es' w) (sym e) ∙ z))) (λ ne. filter_q q ne ∙ sound.clear q h (sym (moved_q q ne) ∙ z)) (cases_eq q p'))
          (λ m j t h ne. ⊎_elim (λ e. subst (λ z. contains (peek (λ b. b.filter) 0 es' z) (mask_of (kind.spread m)) ≡ true) (sym e) (masked_p m j t h e (λ w. ne (w ∙ sym e)))) (λ w. subst (λ z. contains z (mask_of (kind.spread m)) ≡ true) (sym (filter_q _ w)) (sound.masked m j t (lies_old es' len_es slots_es m j t h) ne)) (cases_eq (first_of kind (length bs) m) p'))

    pub vacate_sound : Sound kind (vacated kind bs n i k)
    vacate_sound = at_both_by (Sound kind) (freed k) counted_back bs i p' vacate_same vacate_two

    pub vacate_look : (m : ℕ) → look kind (vacated kind bs n i k) m ≡ cond (eqb m n) None (look kind bs m)
    vacate_look m =
        at_both_by (λ z. look kind z m ≡ cond (eqb m n) None (look kind bs m)) (freed k) counted_back bs i p'
        (λ e. look_by cs (length_modify (freed k) bs i) (λ j m d. refl) (vacate_same e) m) (λ ne. look_by (es' ne) (len_es ne) (slots_es ne) (vacate_two ne) m)
