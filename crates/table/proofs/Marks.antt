-- What changes no mark commutes with blanking the marks.
use Rattle.std.proofs.Common.{◌≡◌, ℕ, zero, suc, true, List, [], ◌∷◌, length, Some, None, Option, sym, refl, ap, ◌∙◌, ⊎_elim}
use Rattle.std.proofs.lemmas.Bool.{cases_eq}
use Rattle.label.specs.declared.Label.{Ghosts}
use Rattle.bucket.specs.Changes.{blank_mark, filled, freed, modify, counted_back, counted_out, with_payload, with_mark}
use Rattle.bucket.specs.Slots.{slot_of, with_slot}
use Rattle.bucket.specs.Spread.{mask_of, tag_of}
use Rattle.bucket.specs.declared.slots.Bucket.{Bucket}
use Rattle.bucket.specs.declared.slots.Slot.{Slot}
use Rattle.bucket.proofs.Changed.{by_slot, with_mark_slots}
use Rattle.table.specs.Moving.{at_both, if_some, occupied, relocated, slot_in, vacated}
use Rattle.table.specs.Tables.{first_of, unmarked}
use Rattle.table.proofs.Alike.{length_unmarked, peek_unmarked}
use Rattle.table.proofs.Both.{at_both_same, at_both_two}

module _ {L V : Type 0} where
  rest_modify : (f : Bucket L V → Bucket L V) → ((b : Bucket L V) → with_mark blank_mark (f b) ≡ f (with_mark blank_mark b)) → (bs : List (Bucket L V)) (i : ℕ) → unmarked (modify f bs i) ≡ modify f (unmarked bs) i
  rest_modify f h [] i = refl
  rest_modify f h (b ∷ bs) zero = ap (λ z. z ∷ unmarked bs) (h b)
  rest_modify f h (b ∷ bs) (suc i) = ap (λ z. with_mark blank_mark b ∷ z) (rest_modify f h bs i)

  rest_at_both : (f g : Bucket L V → Bucket L V) → ((b : Bucket L V) → with_mark blank_mark (f b) ≡ f (with_mark blank_mark b)) → ((b : Bucket L V) → with_mark blank_mark (g b) ≡ g (with_mark blank_mark b)) → (bs : List (Bucket L V)) (i p : ℕ) → unmarked (at_both f g bs i p) ≡ at_both f g (unmarked bs) i p
  rest_at_both f g hf hg bs i p =
      ⊎_elim (λ e. ap unmarked (at_both_same f g bs i p e) ∙ rest_modify f hf bs i ∙ sym (at_both_same f g (unmarked bs) i p e))
      (λ ne. ap unmarked (at_both_two f g bs i p ne) ∙ rest_modify g hg (modify f bs i) p ∙ ap (λ z. modify g z p) (rest_modify f hf bs i) ∙ sym (at_both_two f g (unmarked bs) i p ne)) (cases_eq p i)

  with_remark : (b : Bucket L V) (k : ℕ) (s : Slot L V) → with_mark blank_mark (with_slot b k s) ≡ with_slot (with_mark blank_mark b) k s
  with_remark b k s = by_slot (λ k. with_mark blank_mark (with_slot b k s) ≡ with_slot (with_mark blank_mark b) k s) refl refl refl (λ k. refl) k

  with_payload_remark : (k : ℕ) (v : V) (b : Bucket L V) → with_mark blank_mark (with_payload k v b) ≡ with_payload k v (with_mark blank_mark b)
  with_payload_remark k v b = by_slot (λ k. with_mark blank_mark (with_payload k v b) ≡ with_payload k v (with_mark blank_mark b)) refl refl refl (λ k. refl) k

  freed_remark : (k : ℕ) (b : Bucket L V) → with_mark blank_mark (freed k b) ≡ freed k (with_mark blank_mark b)
  freed_remark k b = by_slot (λ k. with_mark blank_mark (freed k b) ≡ freed k (with_mark blank_mark b)) refl refl refl (λ k. refl) k

  unmarked_vacated : (kind : Ghosts L) (bs : List (Bucket L V)) (n i k : ℕ) → unmarked (vacated kind bs n i k) ≡ vacated kind (unmarked bs) n i k
  unmarked_vacated kind bs n i k =
      rest_at_both (freed k) counted_back (freed_remark k) (λ b. refl) bs i (first_of kind (length bs) n)
      ∙ ap (λ z. at_both (freed k) counted_back (unmarked bs) i (first_of kind z n)) (sym (length_unmarked bs))

  unmarked_occupied : (kind : Ghosts L) (bs : List (Bucket L V)) (n i k : ℕ) (l : L) (v : V) → unmarked (occupied kind bs n i k l v) ≡ occupied kind (unmarked bs) n i k l v
  unmarked_occupied kind bs n i k l v =
      rest_at_both (filled k (record { used = true; tag = tag_of (kind.spread n); label = l; payload = v })) (counted_out (mask_of (kind.spread n))) (λ b. with_remark b k _) (λ b. refl) bs i (first_of kind (length bs) n)
      ∙ ap (λ z. at_both (filled k (record { used = true; tag = tag_of (kind.spread n); label = l; payload = v })) (counted_out (mask_of (kind.spread n))) (unmarked bs) i (first_of kind z n)) (sym (length_unmarked bs))

  -- ---- a table with no marks has none after the change

  pub rest_with_payload : (bs : List (Bucket L V)) (i k : ℕ) (v : V) → unmarked bs ≡ bs → unmarked (modify (with_payload k v) bs i) ≡ modify (with_payload k v) bs i
  rest_with_payload bs i k v h = rest_modify (with_payload k v) (with_payload_remark k v) bs i ∙ ap (λ z. modify (with_payload k v) z i) h

  pub rest_occupied : (kind : Ghosts L) (bs : List (Bucket L V)) (n i k : ℕ) (l : L) (v : V) → unmarked bs ≡ bs → unmarked (occupied kind bs n i k l v) ≡ occupied kind bs n i k l v
  rest_occupied kind bs n i k l v h = unmarked_occupied kind bs n i k l v ∙ ap (λ z. occupied kind z n i k l v) h

  pub rest_vacated : (kind : Ghosts L) (bs : List (Bucket L V)) (n i k : ℕ) → unmarked bs ≡ bs → unmarked (vacated kind bs n i k) ≡ vacated kind bs n i k
  rest_vacated kind bs n i k h = unmarked_vacated kind bs n i k ∙ ap (λ z. vacated kind z n i k) h

  pub unmarked_relocated : (kind : Ghosts L) (bs : List (Bucket L V)) (a j b k : ℕ) → unmarked (relocated kind bs a j b k) ≡ relocated kind (unmarked bs) a j b k
  unfolding relocated
  unmarked_relocated kind bs a j b k =
      by_slot (slot_in bs a j)
      ∙ ap (λ o. if_some o (λ s. occupied kind (vacated kind (unmarked bs) (kind.number s.label) a j) (kind.number s.label) b k s.label s.payload) (unmarked bs))
      (sym (peek_unmarked (λ z. Some (slot_of z j)) None bs a (λ z. ap Some (with_mark_slots blank_mark z j))))
    where
      by_slot : (o : Option (Slot L V))
          → unmarked (if_some o (λ s. occupied kind (vacated kind bs (kind.number s.label) a j) (kind.number s.label) b k s.label s.payload) bs)
          ≡ if_some o (λ s. occupied kind (vacated kind (unmarked bs) (kind.number s.label) a j) (kind.number s.label) b k s.label s.payload) (unmarked bs)
      by_slot None = refl
      by_slot (Some s) =
          unmarked_occupied kind (vacated kind bs (kind.number s.label) a j) (kind.number s.label) b k s.label s.payload
          ∙ ap (λ z. occupied kind z (kind.number s.label) b k s.label s.payload) (unmarked_vacated kind bs (kind.number s.label) a j)
