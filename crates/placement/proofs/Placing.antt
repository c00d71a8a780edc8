-- What a sound table holds fits, and a search that has used its list up shows that its label does not.
use Rattle.std.proofs.Common.{◌≡◌, ℕ, ◌*◌, ◌/◌, ◌%◌, ◌<◌, ◌≤◌, Bool, true, false, cond, ◌&&◌, eqb, ◌⊎◌, List, ◌∷◌, length, is_some, Some, None, Option, sym, refl, ◌∙◌, subst, inl, inr, ⊎_elim, arith, MatchOption}
use Rattle.std.proofs.lemmas.Bool.{and_parts, eqb-true, false≢true, some_since}
use Rattle.std.proofs.lemmas.Bool.Decides.{nat_tests}
use Rattle.label.specs.declared.Label.{Ghosts}
use Rattle.map.specs.Meaning.{Lawful, beside, held}
use Rattle.map.specs.Sets.{AtMost, Distinct, Part, ◌∈◌}
use Rattle.map.proofs.Lists.{in_cons, not_in}
use Rattle.map.proofs.Sets.{most_none, most_part}
use Rattle.bucket.specs.Changes.{peek}
use Rattle.bucket.specs.Slots.{slot_of}
use Rattle.bucket.specs.declared.slots.Bucket.{Bucket}
use Rattle.bucket.proofs.Lists.{peek_read, pick}
use Rattle.table.specs.Moving.{other_at, other_of, used_at}
use Rattle.table.specs.Tables.{Lies, Nowhere, Sound, first_of, look, second_of}
use Rattle.table.proofs.Looking.{Paired, lies_at, lies_read, look_cases}
use Rattle.search.specs.Reached.{Reached, Trail}
use Rattle.placement.specs.Fit.{Fits}
use Rattle.placement.proofs.Pigeonhole.{distinct_values, four_each, in_values, length_values, of_values, values}

-- ---- the laws of a fit

module _ {L : Type 0} (kind : Ghosts L) where
  pub fits_none : (b : ℕ) → Fits kind b (λ _. false)
  fits_none b = record { given = λ _. 0; choice = λ n e. absurd (false≢true e); four = λ i. most_none 4 }

  pub fits_part : (b : ℕ) (s t : ℕ → Bool) → Part s t → Fits kind b t → Fits kind b s
  fits_part b s t part fits = record {
    given = fits.given;
    choice = λ n e. fits.choice n (part n e);
    four = λ i. most_part 4 (λ n. s n && eqb (fits.given n) i) (λ n. t n && eqb (fits.given n) i)
        (λ n e. let p = part n in grind arith) (fits.four i);
  }

  -- four labels at most have room together, each in its first bucket
  pub fits_few : (b : ℕ) (s : ℕ → Bool) → 0 < b → AtMost 4 s → Fits kind b s
  fits_few b s some few = record {
    given = first_of kind b;
    choice = λ n e. (some, inl refl);
    four = λ i. most_part 4 (λ n. s n && eqb (first_of kind b n) i) s (λ n e. grind arith) few;
  }

module _ {L V : Type 0} (kind : Ghosts L) (bs : List (Bucket L V)) where
  -- ---- the number of the label in slot k of bucket i

  abbrev number_at : ℕ → ℕ → ℕ
  number_at i k = peek (λ b. kind.number (slot_of b k).label) 0 bs i

  number_lies : (n i k : ℕ) → Lies kind bs n i k → number_at i k ≡ n
  number_lies n i k l =
      let x = pick bs i l.0 in
      peek_read (λ b. kind.number (slot_of b k).label) 0 bs i x.0 l.0 x.1 ∙ (lies_at kind bs n i k x.0 x.1 l).1

  other_lies : (n i k : ℕ) → Lies kind bs n i k
      → other_at kind bs i k ≡ cond (eqb (first_of kind (length bs) n) i) (second_of kind (length bs) n) (first_of kind (length bs) n)
  other_lies n i k l =
      let x = pick bs i l.0 in
      let read = peek_read (λ b. other_of kind (length bs) i (slot_of b k)) 0 bs i x.0 l.0 x.1 in
      let label = (lies_at kind bs n i k x.0 x.1 l).1 in
      cc

  lies_number : (i k : ℕ) → i < length bs → k < 4 → used_at bs i k ≡ true → Lies kind bs (number_at i k) i k
  lies_number i k lt few used =
      let x = pick bs i lt in
      lies_read kind bs (number_at i k) i k x.0 lt x.1 few (
        sym (peek_read (λ b. (slot_of b k).used) false bs i x.0 lt x.1) ∙ used,
        sym (peek_read (λ b. kind.number (slot_of b k).label) 0 bs i x.0 lt x.1),
      )

  lies_held : (n i k : ℕ) → Lies kind bs n i k → held (look kind bs) n ≡ true
  lies_held n i k l = some_since (look kind bs n) (Nowhere kind bs n) (Paired kind bs n) (look_cases kind bs n) (λ none. none i k l)

  -- ---- each held label is given the bucket in which it lies

  abbrev home : (n : ℕ) (o : Option V) → MatchOption o (Nowhere kind bs n) (Paired kind bs n) → ℕ
  home n None h = 0
  home n (Some v) h = h.0

  home_lies : (n : ℕ) (o : Option V) (h : MatchOption o (Nowhere kind bs n) (Paired kind bs n)) → is_some o ≡ true → (k : ℕ) × Lies kind bs n (home n o h) k
  home_lies n None h e = absurd (false≢true e)
  home_lies n (Some v) h e = (h.1, h.2)

  abbrev given_home : ℕ → ℕ
  given_home n = home n (look kind bs n) (look_cases kind bs n)

  held_lies : (n : ℕ) → held (look kind bs) n ≡ true → (k : ℕ) × Lies kind bs n (given_home n) k
  held_lies n = home_lies n (look kind bs n) (look_cases kind bs n)

  four_home : (i : ℕ) → AtMost 4 (λ n. held (look kind bs) n && eqb (given_home n) i)
  four_home i = record {
    list = values (number_at i) 4;
    short = omega (arith, length_values (number_at i) 4);
    covers = λ n e.
        let r = and_parts (held (look kind bs) n) (eqb (given_home n) i) e in
        let l = held_lies n r.0 in
        let here = subst (λ j. Lies kind bs n j l.0) (eqb-true (given_home n) i r.1) l.1 in
        rw (number_lies n i l.0 here) at (in_values (number_at i) 4 l.0 here.1);
  }

  pub held_fits : Sound kind bs → Fits kind (length bs) (held (look kind bs))
  held_fits sound = record {
    given = given_home;
    choice = λ n e. let l = held_lies n e in (let a = l.1.0 in omega arith, sound.lies n (given_home n) l.0 l.1);
    four = four_home;
  }

  pub laws : Sound kind bs → Lawful (look kind bs) (Fits kind (length bs))
  laws sound = record { none = fits_none kind (length bs); part = fits_part kind (length bs); inside = held_fits sound }

-- ---- a search that has used its list up

-- one of two buckets is i or the other of the two
either_bucket : (p s i g : ℕ) → (i ≡ p) ⊎ (i ≡ s) → (g ≡ p) ⊎ (g ≡ s) → (g ≡ i) ⊎ (g ≡ cond (eqb p i) s p)
either_bucket p s i g lies choice = grind (arith, nat_tests)

in_beside : {V : Type 0} (f : ℕ → Option V) (n y : ℕ) → (y ≡ n) ⊎ (held f y ≡ true) → beside f n y ≡ true
in_beside f n y h = grind (arith, nat_tests)

module _ {L V : Type 0} (kind : Ghosts L) (bs : List (Bucket L V)) (n : ℕ) (t : Trail) (sound : Sound kind bs) (none : Nowhere kind bs n)
    (reached : Reached kind bs (first_of kind (length bs) n) (second_of kind (length bs) n) t t.count 0) where
  -- the buckets listed
  abbrev listed : List ℕ
  listed = values t.bucket t.count

  in_listed : (g m : ℕ) → m < t.count → t.bucket m ≡ g → g ∈ listed
  in_listed g m l e = rw (← e) (in_values t.bucket t.count m l)

  -- the labels in them, four for each place: the q-th lies in slot q % 4 at place q / 4
  abbrev label_of : ℕ → ℕ
  label_of q = number_at kind bs (t.bucket (q / 4)) (q % 4)

  abbrev lying : List ℕ
  lying = values label_of (4 * t.count)

  label_lies : (y q : ℕ) → q < 4 * t.count → y ≡ label_of q → Lies kind bs y (t.bucket (q / 4)) (q % 4)
  label_lies y q l e =
      rw e (lies_number kind bs (t.bucket (q / 4)) (q % 4) (reached.within (q / 4) (omega arith)) (omega arith)
      (reached.full (q / 4) (q % 4) (omega arith) (omega arith)))

  apart : (q r : ℕ) → q < 4 * t.count → r < 4 * t.count → label_of q ≡ label_of r → q ≡ r
  apart q r l m e =
      let same = sound.once (label_of q) (t.bucket (q / 4)) (q % 4) (t.bucket (r / 4)) (r % 4) (label_lies (label_of q) q l refl) (label_lies (label_of q) r m e) in
      let place = reached.once (q / 4) (r / 4) (omega arith) (omega arith) same.0 in
      let slot = same.1 in
      omega arith

  new : n ∈ lying → ⊥
  new i =
      let r = of_values label_of (4 * t.count) n i in
      none (t.bucket (r.0 / 4)) (r.0 % 4) (label_lies n r.0 r.1 r.2)

  -- n and they are apart, all to be placed
  distinct_all : Distinct (n ∷ lying)
  distinct_all = ((not_in n lying).0 new, distinct_values label_of (4 * t.count) apart)

  cases_all : (P : ℕ → Type 0) → P n → ((q : ℕ) → q < 4 * t.count → P (label_of q)) → (y : ℕ) → y ∈ n ∷ lying → P y
  cases_all P one more y i =
      ⊎_elim
      (λ e. rw e one)
      (λ j. let r = of_values label_of (4 * t.count) y j in rw r.2 (more r.0 r.1))
      ((in_cons y n lying).0 i)

  all_beside : (y : ℕ) → y ∈ n ∷ lying → beside (look kind bs) n y ≡ true
  all_beside =
      cases_all (λ y. beside (look kind bs) n y ≡ true)
      (in_beside (look kind bs) n n (inl refl))
      (λ q l. in_beside (look kind bs) n (label_of q) (inr (lies_held kind bs (label_of q) (t.bucket (q / 4)) (q % 4) (label_lies (label_of q) q l refl))))

  -- the first and the second bucket of each are listed
  abbrev Listed : ℕ → Type 0
  Listed y = (g : ℕ) → (g ≡ first_of kind (length bs) y) ⊎ (g ≡ second_of kind (length bs) y) → g ∈ listed

  own_listed : Listed n
  own_listed g choice =
      let m : (m : ℕ) × (m < t.count) × (t.bucket m ≡ g) =
      ⊎_elim
      (λ one. (0, omega arith, grind arith))
      (λ two. ⊎_elim (λ e. (0, omega arith, (cc))) (λ e. (1, omega arith, (cc))) choice)
      reached.second in
      in_listed g m.0 m.1 m.2

  label_listed : (q : ℕ) → q < 4 * t.count → Listed (label_of q)
  label_listed q l g choice =
      let i = t.bucket (q / 4) in
      let lies = label_lies (label_of q) q l refl in
      let joined = reached.followed (q / 4) (q % 4) (omega arith) (inl (omega arith)) in
      ⊎_elim
      (λ e. in_listed g (q / 4) (omega arith) (sym e))
      (λ e. in_listed g joined.0 joined.1 (joined.2 ∙ other_lies kind bs (label_of q) i (q % 4) lies ∙ sym e))
      (either_bucket (first_of kind (length bs) (label_of q)) (second_of kind (length bs) (label_of q)) i g (sound.lies (label_of q) i (q % 4) lies) choice)

  pub used_up : Fits kind (length bs) (beside (look kind bs) n) → ⊥
  used_up fits =
      let many : length (n ∷ lying) ≤ 4 * length listed =
      four_each fits.given (beside (look kind bs) n) listed (n ∷ lying) fits.four distinct_all all_beside
      (λ y i. cases_all Listed own_listed label_listed y i (fits.given y) (fits.choice y (all_beside y i)).1) in
      omega (arith, length_values label_of (4 * t.count), length_values t.bucket t.count)
