-- 8 has bucket 0 alone, which is full of labels that have it alone: the list is used up at once.
use Rattle.std.proofs.Common.{◌≡◌, ℕ, ◌<◌, true, List, length, None, Err, Result, refl, inl, ⊎_elim, arith}
use Rattle.label.specs.declared.old_block.OldBlock.{OldBlock}
use Rattle.label.specs.Digests.{old_digest, rotated}
use Rattle.label.specs.Lines.{old_line}
use Rattle.map.specs.declared.Denied.{Denied}
use Rattle.map.specs.declared.Denied.TheVariants.{Full}
use Rattle.bucket.specs.Spread.{allowed_size, pair_of}
use Rattle.bucket.specs.declared.slots.Bucket.{Bucket}
use Rattle.table.specs.Moving.{at_both, other_at, relocated, used_at}
use Rattle.table.specs.Tables.{WellKept, live, look}
use Rattle.insertion.specs.Plans.{UsedUp}
use Rattle.insertion.specs.Putting.{Puts}
use Rattle.insertion.specs.declared.storing.Stored.{Stored}
use Rattle.worked.specs.Cases.{PutDenied, old}
use Rattle.worked.proofs.Direct.{a5, filled_a5, full_a5, kept_a5, other_a5}
use Rattle.worked.proofs.Moving.{b5, filled_b5, full_b5, kept_b5, other_b5}
use Rattle.worked.proofs.Outcomes.{denied, full, one_outcome_holds, past_first, places}
use Rattle.worked.proofs.Slots.{two_allowed}

module _ {V : Type 0} where
  -- the two tables of the cases are such
  eight : (bs : List (Bucket OldBlock V)) → length bs ≡ 2 → WellKept old_line (live bs) → look old_line bs 8 ≡ None
      → ((i : ℕ) → i < 4 → used_at bs 0 i ≡ true) → ((i : ℕ) → i < 4 → 0 ≡ other_at old_line bs 0 i)
      → (z : V) → Puts old_line bs (old 8) z (Err Full) bs × ((gs : List (Bucket OldBlock V)) (r : Result (Stored V) Denied) → Puts old_line bs (old 8) z r gs → r ≡ Err Full)
  unfolding pair_of old_digest rotated
  eight bs two kept none all_used other z =
      let allowed : allowed_size (length bs) ≡ true = rw two two_allowed in
      let up : UsedUp old_line bs 8 =
      (places 1 1, rw two (past_first old_line bs 1 1 0 (omega arith) (omega arith) (omega arith) (inl (refl, refl)) all_used (λ i few. (0, omega arith, other i few, λ h. absurd (omega arith))) (λ h. absurd (omega arith)))) in
      (full old_line bs (old 8) allowed kept none z up, λ gs r puts. denied old_line bs (old 8) allowed kept none z up r gs puts)

  pub put_denied_holds : (b c : Bucket OldBlock V) (u v w x y : V) → PutDenied b c u v w x y
  unfolding pair_of old_digest rotated at_both relocated
  put_denied_holds b c u v w x y rs es z filled =
      ⊎_elim
      (λ f.
      let table = (one_outcome_holds _ _ _ _ _ _ f (filled_a5 b c u v w x y)).1 in
      rw table (eight (a5 b c u v w x y) refl (kept_a5 b c u v w x y) refl (full_a5 b c u v w x y) (other_a5 b c u v w x y) z))
      (λ f.
      let table = (one_outcome_holds _ _ _ _ _ _ f (filled_b5 b c u v w x y)).1 in
      rw table (eight (b5 b c u v w x y) refl (kept_b5 b c u v w x y) refl (full_b5 b c u v w x y) (other_b5 b c u v w x y) z))
      filled
