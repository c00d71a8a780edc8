-- Two buckets changed at once.
use Rattle.std.proofs.Common.{◌≡◌, ℕ, ◌<◌, eqb, List, length, sym, ◌∙◌, subst, ⊎_elim}
use Rattle.std.proofs.lemmas.Bool.{cases_eq, cond-false, cond-true, eq-eqb, ne_eqb}
use Rattle.bucket.specs.Changes.{modify, peek}
use Rattle.bucket.proofs.Lists.{length_modify, peek_modify_keep, peek_modify_other, peek_modify_same}
use Rattle.table.specs.Moving.{at_both}

pub at_both_same : {X : Type 0} (f g : X → X) (bs : List X) (i p : ℕ) → p ≡ i → at_both f g bs i p ≡ modify f bs i
unfolding at_both
at_both_same f g bs i p e = cond-true (eqb p i) (modify f bs i) (modify g (modify f bs i) p) (eq-eqb p i e)

pub at_both_two : {X : Type 0} (f g : X → X) (bs : List X) (i p : ℕ) → (p ≡ i → ⊥) → at_both f g bs i p ≡ modify g (modify f bs i) p
unfolding at_both
at_both_two f g bs i p e = cond-false (eqb p i) (modify f bs i) (modify g (modify f bs i) p) (ne_eqb p i e)

-- by whether the buckets are one
pub at_both_by : {X : Type 0} (P : List X → Type 0) (f g : X → X) (bs : List X) (i p : ℕ) → (p ≡ i → P (modify f bs i)) → ((p ≡ i → ⊥) → P (modify g (modify f bs i) p)) → P (at_both f g bs i p)
at_both_by P f g bs i p same two =
    ⊎_elim (λ e. subst P (sym (at_both_same f g bs i p e)) (same e)) (λ ne. subst P (sym (at_both_two f g bs i p ne)) (two ne)) (cases_eq p i)

pub length_at_both : {X : Type 0} (f g : X → X) (bs : List X) (i p : ℕ) → length (at_both f g bs i p) ≡ length bs
length_at_both f g bs i p =
    at_both_by (λ z. length z ≡ length bs) f g bs i p (λ _. length_modify f bs i) (λ _. length_modify g (modify f bs i) p ∙ length_modify f bs i)

-- what neither change touches
pub peek_edit_keep : {X Y : Type 0} (h : X → Y) (e : Y) (f g : X → X) (bs : List X) (i p q : ℕ) → ((x : X) → h (f x) ≡ h x) → ((x : X) → h (g x) ≡ h x) → peek h e (at_both f g bs i p) q ≡ peek h e bs q
peek_edit_keep h e f g bs i p q hf hg =
    let one = peek_modify_keep h e f bs i q hf in
    at_both_by (λ z. peek h e z q ≡ peek h e bs q) f g bs i p (λ _. one) (λ _. peek_modify_keep h e g (modify f bs i) p q hg ∙ one)

pub peek_edit_other : {X Y : Type 0} (h : X → Y) (e : Y) (f g : X → X) (bs : List X) (i p q : ℕ) → (q ≡ i → ⊥) → ((x : X) → h (g x) ≡ h x) → peek h e (at_both f g bs i p) q ≡ peek h e bs q
peek_edit_other h e f g bs i p q no' hg =
    let one = peek_modify_other h e f bs i q no' in
    at_both_by (λ z. peek h e z q ≡ peek h e bs q) f g bs i p (λ _. one) (λ _. peek_modify_keep h e g (modify f bs i) p q hg ∙ one)

pub peek_edit_here : {X Y : Type 0} (h : X → Y) (e : Y) (f g : X → X) (bs : List X) (i p : ℕ) (y : Y) → i < length bs → ((x : X) → h (f x) ≡ y) → ((x : X) → h (g x) ≡ h x) → peek h e (at_both f g bs i p) i ≡ y
peek_edit_here h e f g bs i p y lt hf hg =
    let one = peek_modify_same h e f bs i y lt hf in
    at_both_by (λ z. peek h e z i ≡ y) f g bs i p (λ _. one) (λ _. peek_modify_keep h e g (modify f bs i) p i hg ∙ one)
