-- Blocks kept at one number alone: how many they are, and that the number has room in a table.
use Rattle.std.proofs.Common.{◌≡◌, ℕ, eqb, ◌≢◌, ◌↔◌, [], ◌∷◌, Some, None, Option, sym, refl, ap, ◌∙◌, inl, ⊎_elim, arith}
use Rattle.std.specs.Map.{update}
use Rattle.std.proofs.lemmas.Bool.{cases_eq, false≢true}
use Rattle.std.proofs.lemmas.Bool.Decides.{nat_tests}
use Rattle.std.proofs.lemmas.Option.{none-some}
use Rattle.label.specs.Lines.{old_line}
use Rattle.map.specs.Sets.{Number}
use Rattle.map.proofs.Lists.{in_cons}
use Rattle.map.proofs.Sets.{number_none}
use Rattle.placement.specs.Fit.{Fits}
use Rattle.placement.proofs.Placing.{fits_few}
use Rattle.rules.specs.History.{Ledger}
use Rattle.rules.specs.Right.{held_with}
use Rattle.rules.proofs.Places.{some_none, some_one, updated}

-- f has nothing at other numbers than n
pub record AloneAt (n : ℕ) (f : ℕ → Option ℕ) : Type 0 where
  pub elsewhere : (m : ℕ) → m ≢ n → f m ≡ None

pub alone_none : (n : ℕ) (f : ℕ → Option ℕ) → ((m : ℕ) → f m ≡ None) → AloneAt n f
alone_none n f none = record { elsewhere = λ m ne. none m }

module _ (n : ℕ) (f : ℕ → Option ℕ) (alone : AloneAt n f) where
  -- what comes to n or goes from there leaves the others without
  pub alone_set : (v : Option ℕ) → AloneAt n (update eqb f n v)
  alone_set v = record {
    elsewhere = λ m ne. ⊎_elim (λ u. absurd (ne u.0)) (λ u. u.1 ∙ alone.elsewhere m ne) (updated f n v m);
  }

  pub none_left : (m : ℕ) → update eqb f n None m ≡ None
  none_left m = ⊎_elim (λ u. u.1) (λ u. u.1 ∙ alone.elsewhere m u.0) (updated f n None m)

-- ---- how many

-- b alone has the property
pub number_single : (Q : ℕ → Type 0) (b : ℕ) → ((c : ℕ) → (c ≡ b) ↔ Q c) → Number Q 1
number_single Q b is = (
  b ∷ [],
  (refl, tt),
  λ c. (
    λ i. (is c).0 (⊎_elim (λ e. e) (λ j. absurd (false≢true j)) ((in_cons c b []).0 i)),
    λ q. (in_cons c b []).1 (inl ((is c).1 q)),
  ),
  refl,
)

-- once n has none, no number has a block
pub number_freed : (n : ℕ) (f : ℕ → Option ℕ) → AloneAt n f → Number (λ c. (m : ℕ) × (update eqb f n None m ≡ Some c)) 0
number_freed n f alone =
    number_none (λ c. (m : ℕ) × (update eqb f n None m ≡ Some c)) (λ c at. none-some c (sym (none_left n f alone at.0) ∙ at.1))

-- b at n is the one block
pub number_at_one : (n : ℕ) (f : ℕ → Option ℕ) → AloneAt n f → (b : ℕ) → f n ≡ Some b → Number (λ c. (m : ℕ) × (f m ≡ Some c)) 1
number_at_one n f alone b is =
    number_single (λ c. (m : ℕ) × (f m ≡ Some c)) b (λ c. (
      λ e. (n, is ∙ ap Some (sym e)),
      λ at. ⊎_elim
          (λ e. some_one c b (f n) (ap f (sym e) ∙ at.1) is)
          (λ ne. absurd (some_none c (f at.0) at.1 (alone.elsewhere at.0 ne)))
          (cases_eq at.0 n),
    ))

-- ---- room

-- two buckets have room for a number, where none but it is held
pub alone_fits : (d : Ledger) (n : ℕ) → AloneAt n d.settled → AloneAt n d.out → Fits old_line 2 (held_with d n)
alone_fits d n settled out =
    fits_few old_line 2 (held_with d n) (omega arith) (record {
      list = n ∷ [];
      short = omega arith;
      covers = λ m h. grind (arith, nat_tests, settled.elsewhere m, out.elsewhere m);
    })
