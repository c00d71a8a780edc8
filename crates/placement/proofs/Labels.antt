-- The labels of a sound table: each stands once in their list, and they are those that the table pairs with a payload.
use Rattle.std.proofs.Common.{◌≡◌, ℕ, zero, suc, ◌+◌, ◌*◌, Bool, false, cond, ◌&&◌, eqb, List, [], ◌∷◌, length, is_some, Some, None, Option, sym, refl, ap, ◌∙◌, ⊎_elim, arith}
use Rattle.std.proofs.lemmas.Bool.{cond_both}
use Rattle.std.proofs.lemmas.Bool.Decides.{nat_tests}
use Rattle.label.specs.declared.Label.{Ghosts}
use Rattle.map.specs.Meaning.{held}
use Rattle.map.specs.Sets.{Counts, Distinct, ◌∈◌, member}
use Rattle.map.proofs.Lists.{clash, in_cons, not_in}
use Rattle.bucket.specs.Slots.{Has}
use Rattle.bucket.specs.declared.slots.Bucket.{Bucket}
use Rattle.bucket.specs.declared.slots.Slot.{Slot}
use Rattle.table.specs.Tables.{Lies, Sound, hit, look, or_else}
use Rattle.placement.specs.Fit.{labels, labels_in, slots_of}

module _ {X : Type 0} where
  or_assoc : (a b c : Option X) → or_else (or_else a b) c ≡ or_else a (or_else b c)
  or_assoc a b c = grind arith

  -- one slot more in front
  more : (u : Bool) (m n : ℕ) (x : X) (ls : List ℕ) (o : Option X) → member n ls ≡ is_some o
      → member n (cond u (m ∷ ls) ls) ≡ is_some (or_else (cond (u && eqb m n) (Some x) None) o)
  more u m n x ls o e = grind (arith, nat_tests)

module _ {L V : Type 0} (kind : Ghosts L) where
  -- ---- slots in a row: what the first that has n pairs with it

  abbrev hits : List (Slot L V) → ℕ → Option V
  hits [] n = None
  hits (s ∷ ss) n = or_else (hit kind s n) (hits ss n)

  look_hits : (bs : List (Bucket L V)) (n : ℕ) → look kind bs n ≡ hits (slots_of bs) n
  look_hits [] n = refl
  look_hits (b ∷ bs) n = simp (or_assoc, look_hits bs n)

  member_hits : (ss : List (Slot L V)) (n : ℕ) → member n (labels_in kind ss) ≡ is_some (hits ss n)
  member_hits [] n = refl
  member_hits (s ∷ ss) n = more s.used (kind.number s.label) n s.payload (labels_in kind ss) (hits ss n) (member_hits ss n)

  pub member_labels : (bs : List (Bucket L V)) (n : ℕ) → member n (labels kind bs) ≡ is_some (look kind bs n)
  member_labels bs n = member_hits (slots_of bs) n ∙ ap is_some (sym (look_hits bs n))

  -- ---- slots in a row: the place of a label

  abbrev HasAt : List (Slot L V) → ℕ → ℕ → Type 0
  HasAt [] t n = ⊥
  HasAt (s ∷ ss) zero n = Has kind s n
  HasAt (s ∷ ss) (suc t) n = HasAt ss t n

  place_of : (ss : List (Slot L V)) (n : ℕ) → n ∈ labels_in kind ss → (t : ℕ) × HasAt ss t n
  place_of [] n h = clash false refl h
  place_of (s ∷ ss) n h =
      let later : n ∈ labels_in kind ss → (t : ℕ) × HasAt (s ∷ ss) t n = λ i. let r = place_of ss n i in (suc r.0, r.1) in
      cond_both s.used (kind.number s.label ∷ labels_in kind ss) (labels_in kind ss) (λ r. n ∈ r → (t : ℕ) × HasAt (s ∷ ss) t n)
      (λ u i. ⊎_elim (λ e. (0, (u, sym e))) later ((in_cons n (kind.number s.label) (labels_in kind ss)).0 i))
      (λ _. later)
      h

  distinct_row : (ss : List (Slot L V)) → ((n t u : ℕ) → HasAt ss t n → HasAt ss u n → t ≡ u) → Distinct (labels_in kind ss)
  distinct_row [] once = tt
  distinct_row (s ∷ ss) once =
      let rest : Distinct (labels_in kind ss) = distinct_row ss (λ n t u a b. let e = once n (suc t) (suc u) a b in omega arith) in
      cond_both s.used (kind.number s.label ∷ labels_in kind ss) (labels_in kind ss) Distinct
      (λ w. (
        (not_in (kind.number s.label) (labels_in kind ss)).0 (λ i.
            let r = place_of ss (kind.number s.label) i in
            let e = once (kind.number s.label) 0 (suc r.0) (w, refl) r.1 in
            omega arith),
        rest,
      ))
      (λ _. rest)

  -- ---- the slots of a table

  place_lies : (bs : List (Bucket L V)) (t n : ℕ) → HasAt (slots_of bs) t n → (i : ℕ) × (k : ℕ) × (t ≡ 4 * i + k) × Lies kind bs n i k
  place_lies [] t n h = absurd h
  place_lies (b ∷ bs) zero n h = (0, 0, omega arith, (omega arith, omega arith, λ d. h))
  place_lies (b ∷ bs) (suc zero) n h = (0, 1, omega arith, (omega arith, omega arith, λ d. h))
  place_lies (b ∷ bs) (suc (suc zero)) n h = (0, 2, omega arith, (omega arith, omega arith, λ d. h))
  place_lies (b ∷ bs) (suc (suc (suc zero))) n h = (0, 3, omega arith, (omega arith, omega arith, λ d. h))
  place_lies (b ∷ bs) (suc (suc (suc (suc t)))) n h =
      let r = place_lies bs t n h in
      let e = r.2 in
      let l = r.3.0 in
      (suc r.0, r.1, omega arith, (omega arith, r.3.1, r.3.2))

  pub distinct_labels : (bs : List (Bucket L V)) → Sound kind bs → Distinct (labels kind bs)
  distinct_labels bs sound =
      distinct_row (slots_of bs) (λ n t u a b.
      let x = place_lies bs t n a in
      let y = place_lies bs u n b in
      let p = x.2 in
      let q = y.2 in
      let e = sound.once n x.0 x.1 y.0 y.1 x.3 y.3 in
      omega arith)

  pub counted : (bs : List (Bucket L V)) → Sound kind bs → Counts (held (look kind bs)) (length (labels kind bs))
  counted bs sound = record { list = labels kind bs; apart = distinct_labels bs sound; long = refl; exact = member_labels bs }
