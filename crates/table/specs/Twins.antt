-- Two tables of one size with equal pairs, however differently their slots lie.
--   Twin kind bs cs       cs is a well-kept table of the size of bs with the same pairs
--   SameFind kind bs n r  whatever a find of n answers in a twin of bs, its payload is that of r
-- Assumes nothing.
use Rattle.std.specs.Prelude.{◌≡◌, ℕ, List, length}
use Rattle.label.specs.declared.Label.{Ghosts}
use Rattle.bucket.specs.declared.slots.Bucket.{Bucket}
use Rattle.table.specs.declared.finding.Found.{Found}
use Rattle.table.specs.Tables.{live, look, WellKept}
use Rattle.table.specs.Finding.{Finds}

module _ {L V : Type 0} (kind : Ghosts L) (bs : List (Bucket L V)) where
  pub record Twin (cs : List (Bucket L V)) : Type 0 where
    pub kept : WellKept kind (live cs)
    pub size : length (live cs) ≡ length (live bs)
    pub pairs : (n : ℕ) → look kind (live cs) n ≡ look kind (live bs) n

  abbrev pub SameFind : ℕ → Found V → Type 0
  SameFind n r = WellKept kind (live bs) → (cs : List (Bucket L V)) → Twin cs → (q : Found V) → Finds kind cs n q → q.payload ≡ r.payload
