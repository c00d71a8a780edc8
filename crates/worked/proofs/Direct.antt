-- Four numbers fill bucket 0, and 256 goes to bucket 1; then 8 has no room. Each table is computed from the one before.
use Rattle.std.proofs.Common.{◌≡◌, ℕ, ◌<◌, true, List, [], ◌∷◌, None, Ok, refl, inr, arith}
use Rattle.label.specs.declared.old_block.OldBlock.{OldBlock}
use Rattle.label.specs.Digests.{old_digest, rotated}
use Rattle.label.specs.Lines.{old_line}
use Rattle.bucket.specs.Spread.{pair_of}
use Rattle.bucket.specs.declared.slots.Bucket.{Bucket}
use Rattle.table.specs.Moving.{at_both, occupied, other_at, used_at}
use Rattle.table.specs.Tables.{WellKept, live, look}
use Rattle.search.specs.Reached.{LowestAt, Reached}
use Rattle.insertion.specs.Chain.{start}
use Rattle.insertion.specs.Putting.{Puts}
use Rattle.insertion.specs.declared.storing.Stored.TheVariants.{Added}
use Rattle.bucket_map.proofs.Fresh.{live_kept}
use Rattle.worked.specs.Cases.{Filled, PutAside, done, empty, aside_last, old, put}
use Rattle.worked.proofs.Outcomes.{at_once, by_list, past_first, places}
use Rattle.worked.proofs.Slots.{below, each, two_allowed}

module _ {V : Type 0} (b c : Bucket OldBlock V) where
  abbrev a1 : V → List (Bucket OldBlock V)
  a1 u = occupied old_line (empty b c) 0 0 0 (old 0) u

  abbrev a2 : V → V → List (Bucket OldBlock V)
  a2 u v = occupied old_line (a1 u) 2 0 1 (old 2) v

  abbrev a3 : V → V → V → List (Bucket OldBlock V)
  a3 u v w = occupied old_line (a2 u v) 4 0 2 (old 4) w

  abbrev a4 : V → V → V → V → List (Bucket OldBlock V)
  a4 u v w x = occupied old_line (a3 u v w) 6 0 3 (old 6) x

  abbrev pub a5 : V → V → V → V → V → List (Bucket OldBlock V)
  a5 u v w x y = occupied old_line (a4 u v w x) 256 1 0 (old 256) y

  module _ (u v w x y : V) where
    none_a : (look old_line (a1 u) 2 ≡ None) × (look old_line (a2 u v) 4 ≡ None) × (look old_line (a3 u v w) 6 ≡ None) × (look old_line (a4 u v w x) 256 ≡ None)
    unfolding pair_of old_digest rotated at_both
    none_a = (refl, refl, refl, refl)

    low_a : LowestAt (a1 u) 0 1 × LowestAt (a2 u v) 0 2 × LowestAt (a3 u v w) 0 3 × LowestAt (a4 u v w x) 1 0
    unfolding pair_of old_digest rotated at_both
    low_a = (
      (omega arith, refl, below (λ j. used_at (a1 u) 0 j ≡ true) 1 (omega arith) (λ _. refl) (λ h. absurd (omega arith)) (λ h. absurd (omega arith))),
      (omega arith, refl, below (λ j. used_at (a2 u v) 0 j ≡ true) 2 (omega arith) (λ _. refl) (λ _. refl) (λ h. absurd (omega arith))),
      (omega arith, refl, below (λ j. used_at (a3 u v w) 0 j ≡ true) 3 (omega arith) (λ _. refl) (λ _. refl) (λ _. refl)),
      (omega arith, refl, λ j h. absurd (omega arith)),
    )

    -- bucket 0 is full, and its labels have no other bucket
    full_a : (i : ℕ) → i < 4 → used_at (a4 u v w x) 0 i ≡ true
    unfolding pair_of old_digest rotated at_both
    full_a = each (λ i. used_at (a4 u v w x) 0 i ≡ true) refl refl refl refl

    other_a : (i : ℕ) → i < 4 → 0 ≡ other_at old_line (a4 u v w x) 0 i
    unfolding pair_of old_digest rotated at_both
    other_a = each (λ i. 0 ≡ other_at old_line (a4 u v w x) 0 i) refl refl refl refl

    pub full_a5 : (i : ℕ) → i < 4 → used_at (a5 u v w x y) 0 i ≡ true
    unfolding pair_of old_digest rotated at_both
    full_a5 = each (λ i. used_at (a5 u v w x y) 0 i ≡ true) refl refl refl refl

    pub other_a5 : (i : ℕ) → i < 4 → 0 ≡ other_at old_line (a5 u v w x y) 0 i
    unfolding pair_of old_digest rotated at_both
    other_a5 = each (λ i. 0 ≡ other_at old_line (a5 u v w x y) 0 i) refl refl refl refl

    list_a : Reached old_line (a4 u v w x) 0 1 (places 2 2) 1 0
    unfolding pair_of old_digest rotated at_both
    list_a =
        past_first old_line (a4 u v w x) 2 2 1 (omega arith) (omega arith) (omega arith) (inr (refl, refl)) full_a
        (λ i few. (0, omega arith, other_a i few, λ h. absurd (omega arith)))
        (λ h. absurd (omega arith))

    -- ---- the five puts

    put_0 : Puts old_line (empty b c) (old 0) u (Ok (Added 0)) (a1 u)
    unfolding pair_of old_digest rotated
    put_0 = at_once old_line (empty b c) (old 0) two_allowed (live_kept old_line (b ∷ (c ∷ [])) (empty b c) refl) refl u 0 (omega arith, refl, λ j h. absurd (omega arith))

    put_2 : Puts old_line (a1 u) (old 2) v (Ok (Added 0)) (a2 u v)
    unfolding pair_of old_digest rotated at_both
    put_2 = at_once old_line (a1 u) (old 2) two_allowed put_0.kept none_a.0 v 1 low_a.0

    put_4 : Puts old_line (a2 u v) (old 4) w (Ok (Added 0)) (a3 u v w)
    unfolding pair_of old_digest rotated at_both
    put_4 = at_once old_line (a2 u v) (old 4) two_allowed put_2.kept none_a.1 w 2 low_a.1

    put_6 : Puts old_line (a3 u v w) (old 6) x (Ok (Added 0)) (a4 u v w x)
    unfolding pair_of old_digest rotated at_both
    put_6 = at_once old_line (a3 u v w) (old 6) two_allowed put_4.kept none_a.2 x 3 low_a.2

    put_256 : Puts old_line (a4 u v w x) (old 256) y (Ok (Added 0)) (a5 u v w x y)
    unfolding pair_of old_digest rotated at_both
    put_256 =
        by_list old_line (a4 u v w x) (old 256) two_allowed put_6.kept none_a.3 y (places 2 2) 1 0 list_a (omega arith) low_a.3 0 (a4 u v w x) 1 0 start (omega arith)

    pub kept_a5 : WellKept old_line (live (a5 u v w x y))
    kept_a5 = put_256.kept

    pub filled_a5 : Filled (empty b c) (aside_last b c u v w x y) (Ok (Added 0) ∷ (Ok (Added 0) ∷ (Ok (Added 0) ∷ (Ok (Added 0) ∷ (Ok (Added 0) ∷ []))))) (a5 u v w x y)
    filled_a5 =
        put _ _ _ _ _ _ _ _ put_0 (put _ _ _ _ _ _ _ _ put_2 (put _ _ _ _ _ _ _ _ put_4 (put _ _ _ _ _ _ _ _ put_6 (put _ _ _ _ _ _ _ _ put_256 (done _)))))

    pub put_aside_holds : PutAside b c u v w x y
    unfolding pair_of old_digest rotated at_both
    put_aside_holds = (a5 u v w x y, filled_a5, (omega arith, omega arith, λ d. (refl, refl)), (refl, refl))
