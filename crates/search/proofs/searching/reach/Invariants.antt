-- The places before head are full, and their labels have been followed.
use Rattle.std.proofs.Common.{◌≡◌, ℕ, ◌-◌, ◌≤◌, List, length}
use Rattle.bucket.specs.declared.slots.Bucket.{Bucket}
use Rattle.marks.specs.Marks.{Listed}
use Rattle.search.specs.Reached.{Searching}
use Rattle.search.proofs.searching.reach.Given as goal

abbrev pub invariant-loop-head : goal.invariant-loop-head
invariant-loop-head g l =
    Listed l.buckets l.count × (l.head ≤ l.count) × (l.starts ≡ 0 → l.count ≡ 0)
    × ((bs : List (Bucket g.row.L.Denot g.row.V.Denot)) (p s : ℕ) → Searching g.L.Label bs p s l.initial.buckets l.starts l.starts 0 0 → Searching g.L.Label bs p s l.buckets l.starts l.count l.head 0)

abbrev pub decreases-loop-head : goal.decreases-loop-head
decreases-loop-head g l = length l.initial.buckets - l.head
