-- A label moves to its other bucket.
use Rattle.std.proofs.Common.{◌≡◌, ℕ, ◌<◌, ◌≤◌, false, cond, eqb, ◌⊎◌, List, length, get_or, Some, None, sym, refl, ap, ◌∙◌, subst, inl, inr, ⊎_elim, arith, MatchOption}
use Rattle.std.proofs.lemmas.Bool.{cases_Bool, cases_eq, cond-false, cond-true, eq-eqb, ne_eqb}
use Rattle.label.specs.declared.Label.{Ghosts}
use Rattle.bucket.specs.Changes.{peek, unused}
use Rattle.bucket.specs.Slots.{slot_of}
use Rattle.bucket.specs.Spread.{mask_of}
use Rattle.bucket.specs.declared.slots.Bucket.{Bucket}
use Rattle.bucket.specs.declared.slots.Mark.{Mark}
use Rattle.bucket.specs.declared.slots.Slot.{Slot}
use Rattle.bucket.proofs.Changed.{counted_back_slots, counted_out_slots, slot_with_same, with_slot_mark}
use Rattle.bucket.proofs.Lists.{peek_read, pick}
use Rattle.table.specs.Moving.{Movable, Moves, if_some, occupied, other_of, relocated, slot_in, used_at, vacated}
use Rattle.table.specs.Tables.{Lies, Nowhere, Sound, first_of, look, second_of}
use Rattle.table.proofs.Both.{length_at_both, peek_edit_here, peek_edit_keep, peek_edit_other}
use Rattle.table.proofs.Coming.{occupy_look, occupy_sound}
use Rattle.table.proofs.Leaving.{vacate_look, vacate_sound}
use Rattle.table.proofs.Looking.{Paired, lies_read, look_at, look_cases}

module _ {L V : Type 0} where
  pub nowhere_of : (kind : Ghosts L) (bs : List (Bucket L V)) (n : ℕ) → look kind bs n ≡ None → Nowhere kind bs n
  nowhere_of kind bs n e = subst (λ o. MatchOption o (Nowhere kind bs n) (Paired kind bs n)) e (look_cases kind bs n)

  -- one move
  module _ (kind : Ghosts L) (bs : List (Bucket L V)) (a j b k : ℕ) (lt : a < length bs) where
    abbrev x : Bucket L V
    x = (pick bs a lt).0

    abbrev s : Slot L V
    s = slot_of x j

    abbrev n : ℕ
    n = kind.number s.label

    x_is : x ≡ get_or bs a x
    x_is = (pick bs a lt).1

    abbrev cs : List (Bucket L V)
    cs = vacated kind bs n a j

    len_cs : length cs ≡ length bs
    len_cs = length_at_both _ _ bs a _

    abbrev es : List (Bucket L V)
    es = occupied kind cs n b k s.label s.payload

    relocated_es : relocated kind bs a j b k ≡ es
    unfolding relocated
    relocated_es = ap (λ o. if_some o (λ s. occupied kind (vacated kind bs (kind.number s.label) a j) (kind.number s.label) b k s.label s.payload) bs) (peek_read (λ z. Some (slot_of z j)) None bs a x lt x_is)

    pub relocate_length : length (relocated kind bs a j b k) ≡ length bs
    relocate_length = ap length relocated_es ∙ length_at_both _ _ cs b _ ∙ len_cs

    -- the marks stay, and the slots of the other buckets
    pub relocate_mark : {Y : Type 0} (h : Mark → Y) (e : Y) (q : ℕ) → peek (λ z. h z.mark) e (relocated kind bs a j b k) q ≡ peek (λ z. h z.mark) e bs q
    relocate_mark h e q =
        ap (λ z. peek (λ w. h w.mark) e z q) relocated_es
        ∙ peek_edit_keep (λ z. h z.mark) e _ _ cs b _ q (λ z. ap h (with_slot_mark z k _)) (λ z. refl)
        ∙ peek_edit_keep (λ z. h z.mark) e _ _ bs a _ q (λ z. ap h (with_slot_mark z j _)) (λ z. refl)

    pub relocate_slot : {Y : Type 0} (h : Slot L V → Y) (e : Y) (q t : ℕ) → (q ≡ a → ⊥) → (q ≡ b → ⊥) → peek (λ z. h (slot_of z t)) e (relocated kind bs a j b k) q ≡ peek (λ z. h (slot_of z t)) e bs q
    relocate_slot h e q t na nb =
        ap (λ z. peek (λ w. h (slot_of w t)) e z q) relocated_es
        ∙ peek_edit_other (λ z. h (slot_of z t)) e _ _ cs b _ q nb (λ z. ap h (counted_out_slots (mask_of (kind.spread n)) z t))
        ∙ peek_edit_other (λ z. h (slot_of z t)) e _ _ bs a _ q na (λ z. ap h (counted_back_slots z t))

    module _ (r : Movable kind bs a j b k) where
      lt_b : b < length cs
      lt_b = subst (λ z. b < z) (sym len_cs) r.to_bucket

      pub relocate_free : used_at (relocated kind bs a j b k) a j ≡ false
      relocate_free =
          ap (λ z. used_at z a j) relocated_es
          ∙ peek_edit_other (λ z. (slot_of z j).used) false _ _ cs b _ a r.apart (λ z. ap (λ w. w.used) (counted_out_slots (mask_of (kind.spread n)) z j))
          ∙ peek_edit_here (λ z. (slot_of z j).used) false _ _ bs a _ false lt (λ z. ap (λ w. w.used) (slot_with_same z j (unused (slot_of z j)))) (λ z. ap (λ w. w.used) (counted_back_slots z j))

      module _ (sound : Sound kind bs) (small : length bs ≤ 4096) where
        small_cs : length cs ≤ 4096
        small_cs = let e = len_cs in omega arith

        lies_a : Lies kind bs n a j
        lies_a = lies_read kind bs n a j x lt x_is r.from_slot (sym (peek_read (λ z. (slot_of z j).used) false bs a x lt x_is) ∙ r.used, refl)

        sound_cs : Sound kind cs
        sound_cs = vacate_sound kind bs sound n a j x lies_a x_is

        look_cs : (m : ℕ) → look kind cs m ≡ cond (eqb m n) None (look kind bs m)
        look_cs = vacate_look kind bs sound n a j x lies_a x_is

        none_cs : Nowhere kind cs n
        none_cs = nowhere_of kind cs n (look_cs n ∙ cond-true (eqb n n) None (look kind bs n) (eq-eqb n n refl))

        abbrev y : Bucket L V
        y = (pick cs b lt_b).0

        y_is : y ≡ get_or cs b y
        y_is = (pick cs b lt_b).1

        free_cs : used_at cs b k ≡ false
        free_cs = peek_edit_other (λ z. (slot_of z k).used) false _ _ bs a _ b (λ e. r.apart (sym e)) (λ z. ap (λ w. w.used) (counted_back_slots z k)) ∙ r.free

        home : (b ≡ first_of kind (length cs) n) ⊎ (b ≡ second_of kind (length cs) n)
        home =
            let e : b ≡ cond (eqb (first_of kind (length bs) n) a) (second_of kind (length bs) n) (first_of kind (length bs) n)
            = sym r.other ∙ peek_read (λ z. other_of kind (length bs) a (slot_of z j)) 0 bs a x lt x_is in
            subst (λ z. (b ≡ first_of kind z n) ⊎ (b ≡ second_of kind z n)) (sym len_cs)
            (⊎_elim (λ t. inr (e ∙ cond-true {A = ℕ} _ _ _ t)) (λ f. inl (e ∙ cond-false {A = ℕ} _ _ _ f)) (cases_Bool (eqb (first_of kind (length bs) n) a)))

        free_y : (slot_of y k).used ≡ false
        free_y = sym (peek_read (λ z. (slot_of z k).used) false cs b y lt_b y_is) ∙ free_cs

        sound_es : Sound kind es
        sound_es = occupy_sound kind cs sound_cs small_cs n b k y lt_b r.to_slot y_is free_y s.label s.payload refl none_cs home

        look_es : (m : ℕ) → look kind es m ≡ look kind bs m
        look_es m =
            occupy_look kind cs sound_cs small_cs n b k y lt_b r.to_slot y_is free_y s.label s.payload refl none_cs home m
            ∙ ⊎_elim (λ e. cond-true (eqb m n) (Some s.payload) (look kind cs m) (eq-eqb m n e) ∙ sym (look_at kind bs sound n a j x x_is lies_a) ∙ ap (look kind bs) (sym e))
            (λ ne. cond-false (eqb m n) (Some s.payload) (look kind cs m) (ne_eqb m n ne) ∙ look_cs m ∙ cond-false (eqb m n) None (look kind bs m) (ne_eqb m n ne)) (cases_eq m n)

        pub relocate_sound : Sound kind (relocated kind bs a j b k)
        relocate_sound = subst (Sound kind) (sym relocated_es) sound_es

        pub relocate_look : (m : ℕ) → look kind (relocated kind bs a j b k) m ≡ look kind bs m
        relocate_look m = ap (λ z. look kind z m) relocated_es ∙ look_es m

      pub relocate_moves : Sound kind bs → length bs ≤ 4096 → (ds : List (Bucket L V)) → ds ≡ relocated kind bs a j b k → Moves kind bs ds
      relocate_moves sound small ds e =
          record { sound = subst (Sound kind) (sym e) (relocate_sound sound small); finds = λ m. ap (λ z. look kind z m) e ∙ relocate_look sound small m }

  -- what the code does
  pub relocate_area : (kind : Ghosts L) (bs : List (Bucket L V)) (a j b k : ℕ) → a < length bs → (s : Slot L V) (es : List (Bucket L V)) → ((d : Bucket L V) → s ≡ slot_of (get_or bs a d) j) → es ≡ occupied kind (vacated kind bs (kind.number s.label) a j) (kind.number s.label) b k s.label s.payload → es ≡ relocated kind bs a j b k
  unfolding relocated
  relocate_area kind bs a j b k lt s es slot area =
      let x = pick bs a lt in
      let here : slot_in bs a j ≡ Some s = peek_read (λ z. Some (slot_of z j)) None bs a x.0 lt x.1 ∙ ap (λ z. Some (slot_of z j)) x.1 ∙ ap Some (sym (slot x.0)) in
      area ∙ sym (ap (λ o. if_some o (λ s. occupied kind (vacated kind bs (kind.number s.label) a j) (kind.number s.label) b k s.label s.payload) bs) here)
