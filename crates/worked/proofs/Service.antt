-- The lives of one or two blocks: each answer is right, and each ending is of a grant in hand.
use Rattle.std.proofs.Common.{◌≡◌, ℕ, true, false, ◌||◌, eqb, [], ◌∷◌, Some, None, Option, drop, refl, inl, inr, arith}
use Rattle.std.specs.Map.{update}
use Rattle.std.proofs.lemmas.Bool.{false≢true}
use Rattle.std.proofs.lemmas.Bool.Decides.{nat_tests}
use Rattle.std.proofs.lemmas.Option.{none-some}
use Rattle.map.specs.Sets.{◌∈◌}
use Rattle.map.proofs.Sets.{number_none}
use Rattle.rules.specs.History.{ledger}
use Rattle.rules.specs.Lives.{Own}
use Rattle.rules.specs.Places.{Counts}
use Rattle.rules.proofs.Rights.{AllRight}
use Rattle.worked.specs.Service.{ServiceCases, card, change, grant, handing_on, retirement}
use Rattle.worked.proofs.Lives.{ends_none, given, grants_front, one_life, refuses_busy}
use Rattle.worked.proofs.Numbers.{AloneAt, alone_none, alone_set, none_left, number_freed, number_at_one, number_single}

-- ---- the blocks at each number: none, one at n, and none again

abbrev nothing : ℕ → Option ℕ
nothing = λ m. None

abbrev block_at : ℕ → ℕ → ℕ → Option ℕ
block_at n b = update eqb nothing n (Some b)

abbrev freed_at : ℕ → ℕ → ℕ → Option ℕ
freed_at n b = update eqb (block_at n b) n None

module _ (n : ℕ) where
  nothing_alone : AloneAt n nothing
  nothing_alone = alone_none n nothing (λ m. refl)

  block_alone : (b : ℕ) → AloneAt n (block_at n b)
  block_alone b = alone_set n nothing nothing_alone (Some b)

  freed_alone : (b : ℕ) → AloneAt n (freed_at n b)
  freed_alone b = alone_set n (block_at n b) (block_alone b) None

-- ---- a block in place of another

change_counts : Counts (ledger 2 (drop 1 change)) (record { waiting = 1; out = 0; settled = 1; condemned = 0 })
change_counts = record {
  waiting = (0 ∷ [], (refl, tt), λ b. (λ i. i, λ i. i), refl);
  out = number_freed 7 (update eqb (freed_at 7 0) 7 (Some 1)) (alone_set 7 (freed_at 7 0) (freed_alone 7 0) (Some 1));
  settled = number_at_one 7 (update eqb (block_at 7 0) 7 (Some 1)) (alone_set 7 (block_at 7 0) (block_alone 7 0) (Some 1)) 1 refl;
  condemned = number_none (λ b. false ≡ true) (λ b. false≢true);
}

change_right : AllRight (card 2) change
change_right = (
  (record { waiting = 1; out = 0; settled = 1; condemned = 0 }, refl, change_counts),
  (
    inr (λ ne. ne refl, refl),
    (
      refuses_busy 2 (drop 3 change) 7 (omega arith) 1 refl,
      (
        inr (λ large. omega arith, refl),
        (
          grants_front 2 (drop 5 change) 7 (omega arith) 1 [] refl refl (block_alone 7 0) (freed_alone 7 0),
          (
            inr (λ ne. ne refl, refl),
            (grants_front 2 [] 7 (omega arith) 0 (1 ∷ []) refl refl (nothing_alone 7) (nothing_alone 7), tt),
          ),
        ),
      ),
    ),
  ),
)

-- the second grant has not ended since: the calls between end none
change_own : Own change
change_own = (
  ends_none _,
  (
    λ g e. inr (inr (inl (given (grant 7 1) g e), none-some g), none-some g),
    (ends_none _, (ends_none _, (ends_none _, (λ g e. inl (given (grant 7 0) g e), (ends_none _, tt))))),
  ),
)

-- ---- a block that goes for good

retirement_counts : Counts (ledger 1 (drop 2 retirement)) (record { waiting = 0; out = 0; settled = 0; condemned = 1 })
retirement_counts = record {
  waiting = number_none (λ b. b ∈ []) (λ b. false≢true);
  out = number_freed 7 (block_at 7 0) (block_alone 7 0);
  settled = number_none (λ b. (m : ℕ) × (nothing m ≡ Some b)) (λ b at. none-some b at.1);
  condemned = number_single (λ b. (eqb b 0 || false) ≡ true) 0 (λ b. (λ e. grind (arith, nat_tests), λ i. grind (arith, nat_tests)));
}

retirement_right : AllRight (card 1) retirement
retirement_right = (
  (record { waiting = 0; out = 0; settled = 0; condemned = 1 }, refl, retirement_counts),
  (
    inr (λ large. omega arith, inr (λ busy. busy refl, inl (refl, refl))),
    (
      inr (λ ne. ne refl, refl),
      (grants_front 1 [] 7 (omega arith) 0 [] refl refl (nothing_alone 7) (nothing_alone 7), tt),
    ),
  ),
)

retirement_own : Own retirement
retirement_own = (ends_none _, (ends_none _, (λ g e. inl (given (grant 7 0) g e), (ends_none _, tt))))

-- ---- a block that another number takes over

handing_on_right : AllRight (card 1) handing_on
handing_on_right = (
  grants_front 1 (drop 1 handing_on) 9 (omega arith) 0 [] refl refl (nothing_alone 9) (alone_none 9 (freed_at 3 0) (none_left 3 (block_at 3 0) (block_alone 3 0))),
  (
    inr (λ ne. ne refl, refl),
    (grants_front 1 [] 3 (omega arith) 0 [] refl refl (nothing_alone 3) (nothing_alone 3), tt),
  ),
)

handing_on_own : Own handing_on
handing_on_own = (ends_none _, (λ g e. inl (given (grant 3 0) g e), (ends_none _, tt)))

-- ---- the three

pub service_holds : ServiceCases
service_holds = record {
  changed = one_life (card 2) change change_right change_own (tt, (tt, (tt, (tt, (tt, (tt, (tt, tt)))))));
  retired = one_life (card 1) retirement retirement_right retirement_own (tt, (tt, (tt, (tt, tt))));
  handed_on = one_life (card 1) handing_on handing_on_right handing_on_own (tt, (tt, (tt, tt)));
}
