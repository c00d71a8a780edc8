-- The reads and writes of the code, as what they make of the table.
-- the writes that change two buckets, or one
use Rattle.std.proofs.Common.{◌≡◌, ℕ, ◌<◌, true, List, length, get_or, set, sym, ap, ◌∙◌}
use Rattle.std.proofs.lemmas.List.{get_or_default}
use Rattle.label.specs.declared.Label.{Ghosts}
use Rattle.bucket.specs.Changes.{filled, freed, modify, counted_back, counted_out}
use Rattle.bucket.specs.Slots.{slot_of, with_slot}
use Rattle.bucket.specs.Spread.{first, mask_of, tag_of}
use Rattle.bucket.specs.declared.slots.Bucket.{Bucket}
use Rattle.bucket.specs.declared.slots.Slot.{Slot}
use Rattle.bucket.proofs.Lists.{set_modify}
use Rattle.table.specs.Moving.{at_both, occupied, vacated}
use Rattle.table.specs.Tables.{first_of}
use Rattle.table.proofs.Both.{at_both_same, at_both_two}

both_writes : {X : Type 0} (f g : X → X) (bs : List X) (i p q : ℕ) (d e y z : X) → y ≡ f (get_or bs i d) → z ≡ g (get_or (set bs i y) p e) → (p ≡ i → ⊥) → p ≡ q → set (set bs i y) p z ≡ at_both f g bs i q
both_writes f g bs i p q d e y z ey ez ne pq =
    set_modify g (set bs i y) p e z ez ∙ ap (λ xs. modify g xs p) (set_modify f bs i d y ey) ∙ sym (at_both_two f g bs i p ne) ∙ ap (at_both f g bs i) pq

one_write : {X : Type 0} (f g : X → X) (bs : List X) (i p q : ℕ) (d y : X) → y ≡ f (get_or bs i d) → p ≡ i → p ≡ q → set bs i y ≡ at_both f g bs i q
one_write f g bs i p q d y ey is pq = set_modify f bs i d y ey ∙ sym (at_both_same f g bs i p is) ∙ ap (at_both f g bs i) pq

module _ {L V : Type 0} (bs : List (Bucket L V)) (i k : ℕ) where
  pub slot_read : (x : Bucket L V) (s : Slot L V) → i < length bs → s ≡ slot_of (get_or bs i x) k → (d : Bucket L V) → s ≡ slot_of (get_or bs i d) k
  slot_read x s lt e d = e ∙ ap (λ b. slot_of b k) (get_or_default bs i x d lt)

  pub payload_read : (x : Bucket L V) (v : V) → i < length bs → v ≡ (slot_of (get_or bs i x) k).payload → (d : Bucket L V) → v ≡ (slot_of (get_or bs i d) k).payload
  payload_read x v lt e d = e ∙ ap (λ b. (slot_of b k).payload) (get_or_default bs i x d lt)

  module _ (kind : Ghosts L) (l : L) (d p : ℕ) (ed : d ≡ kind.spread (kind.number l)) (ep : p ≡ first d (length bs)) where
    first_is : p ≡ first_of kind (length bs) (kind.number l)
    first_is = ep ∙ ap (λ z. first z (length bs)) ed

    module _ (x y : Bucket L V) (ey : y ≡ freed k (get_or bs i x)) where
      pub vacated_one : p ≡ i → set bs i y ≡ vacated kind bs (kind.number l) i k
      vacated_one is = one_write (freed k) counted_back bs i p _ x y ey is first_is

      pub vacated_two : (w z : Bucket L V) → z ≡ counted_back (get_or (set bs i y) p w) → (p ≡ i → ⊥) → set (set bs i y) p z ≡ vacated kind bs (kind.number l) i k
      vacated_two w z ez ne = both_writes (freed k) counted_back bs i p _ x w y z ey ez ne first_is

    module _ (v : V) (t : ℕ) (et : t ≡ tag_of d) (x y : Bucket L V) (ey : y ≡ with_slot (get_or bs i x) k (record { used = true; tag = t; label = l; payload = v })) where
      abbrev new : Slot L V
      new = record { used = true; tag = tag_of (kind.spread (kind.number l)); label = l; payload = v }

      y_is : y ≡ filled k new (get_or bs i x)
      y_is = ey ∙ ap (λ z. with_slot (get_or bs i x) k (record { used = true; tag = z; label = l; payload = v })) (et ∙ ap tag_of ed)

      pub occupied_one : p ≡ i → set bs i y ≡ occupied kind bs (kind.number l) i k l v
      occupied_one is = one_write (filled k new) _ bs i p _ x y y_is is first_is

      pub occupied_two : (m : ℕ) (w z : Bucket L V) → m ≡ mask_of d → z ≡ counted_out m (get_or (set bs i y) p w) → (p ≡ i → ⊥) → set (set bs i y) p z ≡ occupied kind bs (kind.number l) i k l v
      occupied_two m w z em ez ne =
          both_writes (filled k new) (counted_out (mask_of (kind.spread (kind.number l)))) bs i p _ x w y z y_is
          (ez ∙ ap (λ m. counted_out m (get_or (set bs i y) p w)) (em ∙ ap mask_of ed)) ne first_is
