-- Small examples of the rules, worked out by hand: those for labels and their table, all of the old line's block numbers, and with them those of a service.
--   old n                  the number n as a label
--   Filled bs ps rs es     puts of the pairs ps into the table bs, one after the other, answer rs and leave es
--   CountAndFilter es m f  bucket 0 has the moved count m and the filter f
--   Answers V              what the puts of a list answered
--   OneOutcome             the rules give such puts one outcome
--   empty                  two empty buckets
--   aside_last, aside_first   0, 2, 4 and 6, which have bucket 0 alone, with 256, which has bucket 1 too, put last or first
--   Digested               digests, and what follows from them
--   PutAside, PutWithMove, PutDenied, BucketsRead   puts into two empty buckets, and what comes of them
--   OneBucket              what fits into one bucket
--   WorkedCases            all of them, and those of a service
-- Assumes nothing.
use Rattle.std.specs.Prelude.{◌≡◌, ℕ, ◌+◌, ◌^◌, Bool, ◌⊎◌, List, [], ◌∷◌, Ok, Err, Option, Result}
use Rattle.label.specs.declared.old_block.OldBlock.{OldBlock}
use Rattle.label.specs.Digests.{old_digest, mixed}
use Rattle.label.specs.Lines.{old_line}
use Rattle.map.specs.Sets.{AtMost}
use Rattle.map.specs.declared.Denied.{Denied}
use Rattle.map.specs.declared.Denied.TheVariants.{Full}
use Rattle.bucket.specs.Changes.{peek}
use Rattle.bucket.specs.Spread.{first, second, tag_of, mask_of}
use Rattle.bucket.specs.declared.slots.Bucket.{Bucket}
use Rattle.table.specs.Tables.{Lies}
use Rattle.table.specs.Finding.{Finds}
use Rattle.table.specs.Moving.{Takes}
use Rattle.table.specs.declared.finding.Found.{Found}
use Rattle.placement.specs.Fit.{Fits}
use Rattle.insertion.specs.Putting.{Puts}
use Rattle.insertion.specs.declared.storing.Stored.{Stored}
use Rattle.insertion.specs.declared.storing.Stored.TheVariants.{Added}
use Rattle.bucket_map.specs.Areas.{fresh}
use Rattle.worked.specs.Service.{ServiceCases}

abbrev pub old : ℕ → OldBlock
old n = record { 0 = n }

pub record Digested : Type 0 where
  pub of_256 : old_digest 256 ≡ 4294967552
  pub of_1 : old_digest 1 ≡ 2 ^ 56 + 1
  pub pair_of_1 : (first (old_digest 1) 2 ≡ 1) × (second (old_digest 1) 2 ≡ 0)
  pub tag_of_1 : tag_of (old_digest 1) ≡ 256
  pub mask_of_131328 : mask_of (old_digest 131328) ≡ 5
  pub mixed_0 : mixed 0 ≡ 0

abbrev pub Answers : Type 0 → Type 0
Answers V = List (Result (Stored V) Denied)

module _ {V : Type 0} where
  pub data Filled : List (Bucket OldBlock V) → List (ℕ × V) → Answers V → List (Bucket OldBlock V) → Type 0 where
    done : (bs : List (Bucket OldBlock V)) → Filled bs [] [] bs
    put : (bs cs es : List (Bucket OldBlock V)) (n : ℕ) (v : V) (r : Result (Stored V) Denied) (ps : List (ℕ × V)) (rs : Answers V)
        → Puts old_line bs (old n) v r cs → Filled cs ps rs es → Filled bs ((n, v) ∷ ps) (r ∷ rs) es

  abbrev pub CountAndFilter : List (Bucket OldBlock V) → ℕ → ℕ → Type 0
  CountAndFilter es moved filter = (peek (λ b. b.moved) 0 es 0 ≡ moved) × (peek (λ b. b.filter) 0 es 0 ≡ filter)

  -- two buckets, whatever they held before
  abbrev pub empty : Bucket OldBlock V → Bucket OldBlock V → List (Bucket OldBlock V)
  empty b c = fresh (b ∷ (c ∷ []))

  -- with the payloads of five puts
  module _ (b c : Bucket OldBlock V) (u v w x y : V) where
    abbrev pub aside_last : List (ℕ × V)
    aside_last = (0, u) ∷ ((2, v) ∷ ((4, w) ∷ ((6, x) ∷ ((256, y) ∷ []))))

    abbrev pub aside_first : List (ℕ × V)
    aside_first = (256, u) ∷ ((0, v) ∷ ((2, w) ∷ ((4, x) ∷ ((6, y) ∷ []))))

    -- 256 finds bucket 0 full, and goes to bucket 1
    abbrev pub PutAside : Type 0
    PutAside = (es : List (Bucket OldBlock V))
        × Filled (empty b c) aside_last (Ok (Added 0) ∷ (Ok (Added 0) ∷ (Ok (Added 0) ∷ (Ok (Added 0) ∷ (Ok (Added 0) ∷ []))))) es
        × Lies old_line es 256 1 0 × CountAndFilter es 1 1

    -- 6 makes 256 move
    abbrev pub PutWithMove : Type 0
    PutWithMove = (es : List (Bucket OldBlock V))
        × Filled (empty b c) aside_first (Ok (Added 0) ∷ (Ok (Added 0) ∷ (Ok (Added 0) ∷ (Ok (Added 0) ∷ (Ok (Added 1) ∷ []))))) es
        × Lies old_line es 6 0 0 × Lies old_line es 0 0 1 × Lies old_line es 2 0 2 × Lies old_line es 4 0 3
        × Lies old_line es 256 1 0 × CountAndFilter es 1 1

    -- after either, 8 does not fit: full is an answer, and there is no other
    abbrev pub PutDenied : Type 0
    PutDenied = (rs : Answers V) (es : List (Bucket OldBlock V)) (z : V)
        → Filled (empty b c) aside_last rs es ⊎ Filled (empty b c) aside_first rs es
        → Puts old_line es (old 8) z (Err Full) es
        × ((gs : List (Bucket OldBlock V)) (r : Result (Stored V) Denied) → Puts old_line es (old 8) z r gs → r ≡ Err Full)

    -- with 256 in bucket 1, a find of 768 looks there too, and one of 131,328, whose mask is not in the filter, does not; once 256 is taken out the one of 768 does not either
    abbrev pub BucketsRead : Type 0
    BucketsRead = (rs : Answers V) (es gs : List (Bucket OldBlock V)) (o : Option V) (f g h : Found V)
        → Filled (empty b c) aside_last rs es
        → Finds old_line es 768 f → Finds old_line es 131328 g
        → Takes old_line es 256 o gs → Finds old_line gs 768 h
        → (f.read ≡ 2) × (g.read ≡ 1) × (h.read ≡ 1)

abbrev pub OneOutcome : Type 0 → Type 0
OneOutcome V =
    (bs es ds : List (Bucket OldBlock V)) (ps : List (ℕ × V)) (rs qs : Answers V)
    → Filled bs ps rs es → Filled bs ps qs ds → (rs ≡ qs) × (es ≡ ds)

abbrev pub OneBucket : Type 0
OneBucket = (s : ℕ → Bool) → (AtMost 4 s → Fits old_line 1 s) × (Fits old_line 1 s → AtMost 4 s)

pub record WorkedCases (V : Type 0) : Type 0 where
  pub spread : Digested
  pub one_outcome : OneOutcome V
  pub places : (b c : Bucket OldBlock V) (u v w x y : V) → PutAside b c u v w x y
  pub moves : (b c : Bucket OldBlock V) (u v w x y : V) → PutWithMove b c u v w x y
  pub denies : (b c : Bucket OldBlock V) (u v w x y : V) → PutDenied b c u v w x y
  pub reads : (b c : Bucket OldBlock V) (u v w x y : V) → BucketsRead b c u v w x y
  pub one_bucket : OneBucket
  pub service : ServiceCases
