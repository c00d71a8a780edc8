-- What put and ask answer, and what every bucket then holds. bs are the buckets before, es after; n is the number of the label l.
--   Room kind bs n        n is held or fits beside the labels held
--   Adds kind bs l v m es the rule of a put that adds: the search's list and its end, the m moves back along it, and the label in the slot that they freed
--   Stores kind bs l v es r   what an answer r of put says
--   Puts kind bs l v r es     put, over a well-kept table
--   Asks kind bs n r es       ask, over a well-kept table
--   told r                what an answer of put tells but for the number of moves: full, the old payload, or that there was none
-- Assumes nothing.
use Rattle.std.specs.Prelude.{◌≡◌, ℕ, ◌<◌, Bool, List, length, Some, None, Ok, Err, MatchBool, Option, Result}
use Rattle.label.specs.declared.Label.{Ghosts}
use Rattle.map.specs.Meaning.{beside, changed}
use Rattle.map.specs.declared.Denied.{Denied}
use Rattle.map.specs.declared.Denied.TheVariants.{Full}
use Rattle.bucket.specs.declared.slots.Bucket.{Bucket}
use Rattle.bucket.specs.Changes.{modify, with_payload}
use Rattle.table.specs.Tables.{live, first_of, second_of, look, Lies, WellKept}
use Rattle.table.specs.Moving.{occupied, Moves}
use Rattle.search.specs.Reached.{Trail, Reached, LowestAt}
use Rattle.placement.specs.Fit.{Fits}
use Rattle.insertion.specs.declared.storing.Stored.{Stored}
use Rattle.insertion.specs.declared.storing.Stored.TheVariants.{Replaced, Added}
use Rattle.insertion.specs.Chain.{Moved}

module _ {L V : Type 0} (kind : Ghosts L) (bs : List (Bucket L V)) where
  abbrev pub Room : ℕ → Type 0
  Room n = Fits kind (length (live bs)) (beside (look kind (live bs)) n)

  pub record Adds (l : L) (v : V) (m : ℕ) (es : List (Bucket L V)) : Type 0 where
    -- the search from the label's two buckets comes to a bucket with an unused slot, the lowest of which is taken
    pub trail : Trail
    pub place : ℕ
    pub slot : ℕ
    pub reached : Reached kind bs (first_of kind (length bs) (kind.number l)) (second_of kind (length bs) (kind.number l)) trail place 0
    pub ended : (place < trail.count) × LowestAt bs (trail.bucket place) slot
    -- m moves lead back to one of the two buckets
    pub table : List (Bucket L V)
    pub home : ℕ
    pub freed : ℕ
    pub moved : Moved kind trail bs place slot m table home freed
    pub start : home < trail.starts
    -- after each of them the table is sound, and every find gives the payload that it gave before the put
    pub between : (i : ℕ) (cs : List (Bucket L V)) (a k : ℕ) → Moved kind trail bs place slot i cs a k → Moves kind bs cs
    -- where the new label goes
    pub area : es ≡ occupied kind table (kind.number l) (trail.bucket home) freed l v

  abbrev pub Stores : L → V → List (Bucket L V) → Result (Stored V) Denied → Type 0
  Stores l v es (Ok (Replaced old)) =
      (look kind (live bs) (kind.number l) ≡ Some old)
      × ((m : ℕ) → look kind (live es) m ≡ changed (look kind (live bs)) (kind.number l) (Some v) m)
      × ((i k : ℕ) → Lies kind (live bs) (kind.number l) i k → es ≡ modify (with_payload k v) bs i)
  Stores l v es (Ok (Added m)) =
      (look kind (live bs) (kind.number l) ≡ None) × Room (kind.number l)
      × ((q : ℕ) → look kind (live es) q ≡ changed (look kind (live bs)) (kind.number l) (Some v) q)
      × (m < length bs) × Adds l v m es
  Stores l v es (Err Full) = (look kind (live bs) (kind.number l) ≡ None) × (Room (kind.number l) → ⊥) × (es ≡ bs)

  pub record Puts (l : L) (v : V) (r : Result (Stored V) Denied) (es : List (Bucket L V)) : Type 0 where
    pub kept : WellKept kind (live es)
    pub size : length es ≡ length bs
    pub stores : Stores l v es r

  pub record Asks (n : ℕ) (r : Bool) (es : List (Bucket L V)) : Type 0 where
    pub same : es ≡ bs
    pub answer : MatchBool r (Room n) (Room n → ⊥)

abbrev pub told : {V : Type 0} → Result (Stored V) Denied → Option (Option V)
told (Ok (Replaced old)) = Some (Some old)
told (Ok (Added m)) = Some None
told (Err Full) = None
