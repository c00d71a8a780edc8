-- How many buckets a find reads, by what the first of them shows.
use Rattle.std.proofs.Common.{◌≡◌, ℕ, true, List, length, get_or, Some, None, Option, refl, ⊎_elim, arith}
use Rattle.label.specs.declared.Label.{Ghosts}
use Rattle.label.specs.declared.old_block.OldBlock.{OldBlock}
use Rattle.label.specs.Digests.{old_digest, rotated}
use Rattle.label.specs.Lines.{old_line}
use Rattle.bucket.specs.Slots.{Tagged, slot_of}
use Rattle.bucket.specs.Spread.{allowed_size, pair_of, tag_of}
use Rattle.bucket.specs.declared.slots.Bucket.{Bucket}
use Rattle.table.specs.Moving.{Takes, at_both, vacated}
use Rattle.table.specs.Tables.{Lies, first_of, second_of}
use Rattle.table.specs.Finding.{Asked, Finds, Looks, Misses, Payload}
use Rattle.table.specs.declared.finding.Found.{Found}
use Rattle.table.specs.declared.finding.Spot.{Spot}
use Rattle.table.proofs.Answering.{live_right}
use Rattle.worked.specs.Cases.{BucketsRead}
use Rattle.worked.proofs.Direct.{a5, filled_a5}
use Rattle.worked.proofs.Outcomes.{one_outcome_holds}
use Rattle.worked.proofs.Slots.{each, two_allowed}

module _ {L V : Type 0} (kind : Ghosts L) (bs : List (Bucket L V)) (n : ℕ) where
  -- the first shows nothing, and the filter lets a find go on
  looks_two : Misses kind bs n (first_of kind (length bs) n) → (second_of kind (length bs) n ≡ first_of kind (length bs) n → ⊥) → Asked kind bs n
      → (o : Option Spot) (c : ℕ) → Looks kind bs n o c → c ≡ 2
  looks_two none apart asked None c l = ⊎_elim (λ f. absurd (⊎_elim apart (λ no. no asked) f.2)) (λ f. f.0) l
  looks_two none apart asked (Some x) c l = ⊎_elim (λ f. absurd (none x.slot f.2)) (λ f. f.0) l

  -- the filter stops a find
  looks_one : (Asked kind bs n → ⊥) → (o : Option Spot) (c : ℕ) → Looks kind bs n o c → c ≡ 1
  looks_one stopped None c l = ⊎_elim (λ f. f.0) (λ f. absurd (stopped f.3)) l
  looks_one stopped (Some x) c l = ⊎_elim (λ f. f.0) (λ f. absurd (stopped f.4)) l

  module _ (allowed : allowed_size (length bs) ≡ true) (r : Found V) (finds : Finds kind bs n r) where
    by_looks : (k : ℕ) → ((o : Option Spot) (c : ℕ) → Looks kind bs n o c → c ≡ k) → (o : Option V) (c : ℕ) → Payload kind bs n o c → c ≡ k
    by_looks k f None c p = f None c p
    by_looks k f (Some v) c p = f (Some p.0) c p.1

    pub reads_two : Misses kind bs n (first_of kind (length bs) n) → (second_of kind (length bs) n ≡ first_of kind (length bs) n → ⊥) → Asked kind bs n → r.read ≡ 2
    reads_two none apart asked = by_looks 2 (looks_two none apart asked) r.payload r.read (finds.right allowed)

    pub reads_one : (Asked kind bs n → ⊥) → r.read ≡ 1
    reads_one stopped = by_looks 1 (looks_one stopped) r.payload r.read (finds.right allowed)

module _ {V : Type 0} (b c : Bucket OldBlock V) (u v w x y : V) where
  -- 768 is in no slot of bucket 0
  misses_768 : Misses old_line (a5 b c u v w x y) 768 0
  unfolding pair_of old_digest rotated at_both
  misses_768 k h =
      each (λ k. ((d : Bucket OldBlock V) → Tagged old_line (slot_of (get_or (a5 b c u v w x y) 0 d) k) (tag_of (old_line.spread 768)) 768) → ⊥)
      (λ f. absurd (omega (arith, (f b).2))) (λ f. absurd (omega (arith, (f b).2))) (λ f. absurd (omega (arith, (f b).2))) (λ f. absurd (omega (arith, (f b).2))) k h.0 h.1

  lies_256 : Lies old_line (a5 b c u v w x y) 256 1 0
  unfolding pair_of old_digest rotated at_both
  lies_256 = (omega arith, omega arith, λ d. (refl, refl))

  read_two : (q : Found V) → Finds old_line (a5 b c u v w x y) 768 q → q.read ≡ 2
  unfolding pair_of old_digest rotated at_both
  read_two q finds = reads_two old_line (a5 b c u v w x y) 768 two_allowed q finds misses_768 (λ e. absurd (omega arith)) refl

  -- the mask of 131,328 is 5, and the filter 1
  read_one : (q : Found V) → Finds old_line (a5 b c u v w x y) 131328 q → q.read ≡ 1
  unfolding pair_of old_digest rotated at_both
  read_one q finds = reads_one old_line (a5 b c u v w x y) 131328 two_allowed q finds (λ e. absurd (cc))

  -- once 256 is taken out the filter is 0
  read_one_after : (o : Option V) (gs : List (Bucket OldBlock V)) (q : Found V) → Takes old_line (a5 b c u v w x y) 256 o gs → Finds old_line gs 768 q → q.read ≡ 1
  unfolding pair_of old_digest rotated at_both
  read_one_after o gs q takes finds =
      let area : gs ≡ vacated old_line (a5 b c u v w x y) 256 1 0 = takes.held 1 0 (rw (live_right (a5 b c u v w x y) two_allowed) lies_256) in
      reads_one old_line (vacated old_line (a5 b c u v w x y) 256 1 0) 768 two_allowed q (rw area at finds) (λ e. absurd (cc))

pub buckets_read_holds : {V : Type 0} (b c : Bucket OldBlock V) (u v w x y : V) → BucketsRead b c u v w x y
buckets_read_holds b c u v w x y rs es gs o f g h filled find_f find_g take find_h =
    let table = (one_outcome_holds _ _ _ _ _ _ filled (filled_a5 b c u v w x y)).1 in (
      read_two b c u v w x y f (rw table at find_f),
      read_one b c u v w x y g (rw table at find_g),
      read_one_after b c u v w x y o gs h (rw table at take) find_h,
    )
