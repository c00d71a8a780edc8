-- 256 lies in bucket 0 with three other numbers, and moves to bucket 1 for 6. Each table is computed from the one before.
use Rattle.std.proofs.Common.{◌≡◌, ℕ, ◌<◌, ◌≤◌, true, List, [], ◌∷◌, None, Ok, refl, inl, arith}
use Rattle.label.specs.declared.old_block.OldBlock.{OldBlock}
use Rattle.label.specs.Digests.{old_digest, rotated}
use Rattle.label.specs.Lines.{old_line}
use Rattle.bucket.specs.Spread.{pair_of}
use Rattle.bucket.specs.declared.slots.Bucket.{Bucket}
use Rattle.table.specs.Moving.{at_both, occupied, other_at, relocated, used_at}
use Rattle.table.specs.Tables.{WellKept, live, look}
use Rattle.search.specs.Reached.{LowestAt, Reached}
use Rattle.insertion.specs.Chain.{move, start}
use Rattle.insertion.specs.Putting.{Puts}
use Rattle.insertion.specs.declared.storing.Stored.TheVariants.{Added}
use Rattle.bucket_map.proofs.Fresh.{live_kept}
use Rattle.worked.specs.Cases.{Filled, PutWithMove, done, empty, aside_first, old, put}
use Rattle.worked.proofs.Outcomes.{at_once, by_list, past_first, places}
use Rattle.worked.proofs.Slots.{below, each, two_allowed}

module _ {V : Type 0} (b c : Bucket OldBlock V) where
  abbrev b1 : V → List (Bucket OldBlock V)
  b1 u = occupied old_line (empty b c) 256 0 0 (old 256) u

  abbrev b2 : V → V → List (Bucket OldBlock V)
  b2 u v = occupied old_line (b1 u) 0 0 1 (old 0) v

  abbrev b3 : V → V → V → List (Bucket OldBlock V)
  b3 u v w = occupied old_line (b2 u v) 2 0 2 (old 2) w

  abbrev b4 : V → V → V → V → List (Bucket OldBlock V)
  b4 u v w x = occupied old_line (b3 u v w) 4 0 3 (old 4) x

  -- 256 has moved, and 6 comes into its slot
  abbrev pub b5 : V → V → V → V → V → List (Bucket OldBlock V)
  b5 u v w x y = occupied old_line (relocated old_line (b4 u v w x) 0 0 1 0) 6 0 0 (old 6) y

  module _ (u v w x y : V) where
    none_b : (look old_line (b1 u) 0 ≡ None) × (look old_line (b2 u v) 2 ≡ None) × (look old_line (b3 u v w) 4 ≡ None) × (look old_line (b4 u v w x) 6 ≡ None)
    unfolding pair_of old_digest rotated at_both
    none_b = (refl, refl, refl, refl)

    low_b : LowestAt (b1 u) 0 1 × LowestAt (b2 u v) 0 2 × LowestAt (b3 u v w) 0 3 × LowestAt (b4 u v w x) 1 0
    unfolding pair_of old_digest rotated at_both
    low_b = (
      (omega arith, refl, below (λ j. used_at (b1 u) 0 j ≡ true) 1 (omega arith) (λ _. refl) (λ h. absurd (omega arith)) (λ h. absurd (omega arith))),
      (omega arith, refl, below (λ j. used_at (b2 u v) 0 j ≡ true) 2 (omega arith) (λ _. refl) (λ _. refl) (λ h. absurd (omega arith))),
      (omega arith, refl, below (λ j. used_at (b3 u v w) 0 j ≡ true) 3 (omega arith) (λ _. refl) (λ _. refl) (λ _. refl)),
      (omega arith, refl, λ j h. absurd (omega arith)),
    )

    full_b : (i : ℕ) → i < 4 → used_at (b4 u v w x) 0 i ≡ true
    unfolding pair_of old_digest rotated at_both
    full_b = each (λ i. used_at (b4 u v w x) 0 i ≡ true) refl refl refl refl

    -- of the labels in bucket 0, that of slot 0 leads on
    leads_b : (i : ℕ) → i < 4 → (m : ℕ) × (m < 2) × (m ≡ other_at old_line (b4 u v w x) 0 i) × (1 ≤ m → i ≡ 0)
    unfolding pair_of old_digest rotated at_both
    leads_b =
        each (λ i. (m : ℕ) × (m < 2) × (m ≡ other_at old_line (b4 u v w x) 0 i) × (1 ≤ m → i ≡ 0))
        (1, omega arith, refl, λ h. refl) (0, omega arith, refl, λ h. absurd (omega arith)) (0, omega arith, refl, λ h. absurd (omega arith)) (0, omega arith, refl, λ h. absurd (omega arith))

    list_b : Reached old_line (b4 u v w x) 0 0 (places 2 1) 1 0
    unfolding pair_of old_digest rotated at_both
    list_b = past_first old_line (b4 u v w x) 2 1 0 (omega arith) (omega arith) (omega arith) (inl (refl, refl)) full_b leads_b (λ h. refl)

    pub full_b5 : (i : ℕ) → i < 4 → used_at (b5 u v w x y) 0 i ≡ true
    unfolding pair_of old_digest rotated at_both relocated
    full_b5 = each (λ i. used_at (b5 u v w x y) 0 i ≡ true) refl refl refl refl

    pub other_b5 : (i : ℕ) → i < 4 → 0 ≡ other_at old_line (b5 u v w x y) 0 i
    unfolding pair_of old_digest rotated at_both relocated
    other_b5 = each (λ i. 0 ≡ other_at old_line (b5 u v w x y) 0 i) refl refl refl refl

    -- ---- the five puts

    put_256 : Puts old_line (empty b c) (old 256) u (Ok (Added 0)) (b1 u)
    unfolding pair_of old_digest rotated
    put_256 = at_once old_line (empty b c) (old 256) two_allowed (live_kept old_line (b ∷ (c ∷ [])) (empty b c) refl) refl u 0 (omega arith, refl, λ j h. absurd (omega arith))

    put_0 : Puts old_line (b1 u) (old 0) v (Ok (Added 0)) (b2 u v)
    unfolding pair_of old_digest rotated at_both
    put_0 = at_once old_line (b1 u) (old 0) two_allowed put_256.kept none_b.0 v 1 low_b.0

    put_2 : Puts old_line (b2 u v) (old 2) w (Ok (Added 0)) (b3 u v w)
    unfolding pair_of old_digest rotated at_both
    put_2 = at_once old_line (b2 u v) (old 2) two_allowed put_0.kept none_b.1 w 2 low_b.1

    put_4 : Puts old_line (b3 u v w) (old 4) x (Ok (Added 0)) (b4 u v w x)
    unfolding pair_of old_digest rotated at_both
    put_4 = at_once old_line (b3 u v w) (old 4) two_allowed put_2.kept none_b.2 x 3 low_b.2

    put_6 : Puts old_line (b4 u v w x) (old 6) y (Ok (Added 1)) (b5 u v w x y)
    unfolding pair_of old_digest rotated at_both
    put_6 =
        by_list old_line (b4 u v w x) (old 6) two_allowed put_4.kept none_b.3 y (places 2 1) 1 0 list_b (omega arith) low_b.3
        1 (relocated old_line (b4 u v w x) 0 0 1 0) 0 0 (move 0 (b4 u v w x) 1 0 start (omega arith)) (omega arith)

    pub kept_b5 : WellKept old_line (live (b5 u v w x y))
    kept_b5 = put_6.kept

    pub filled_b5 : Filled (empty b c) (aside_first b c u v w x y) (Ok (Added 0) ∷ (Ok (Added 0) ∷ (Ok (Added 0) ∷ (Ok (Added 0) ∷ (Ok (Added 1) ∷ []))))) (b5 u v w x y)
    filled_b5 =
        put _ _ _ _ _ _ _ _ put_256 (put _ _ _ _ _ _ _ _ put_0 (put _ _ _ _ _ _ _ _ put_2 (put _ _ _ _ _ _ _ _ put_4 (put _ _ _ _ _ _ _ _ put_6 (done _)))))

    pub put_with_move_holds : PutWithMove b c u v w x y
    unfolding pair_of old_digest rotated at_both relocated
    put_with_move_holds = (
      b5 u v w x y,
      filled_b5,
      (omega arith, omega arith, λ d. (refl, refl)),
      (omega arith, omega arith, λ d. (refl, refl)),
      (omega arith, omega arith, λ d. (refl, refl)),
      (omega arith, omega arith, λ d. (refl, refl)),
      (omega arith, omega arith, λ d. (refl, refl)),
      (refl, refl),
    )
