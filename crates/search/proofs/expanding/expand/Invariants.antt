-- After k slots: the list has grown, and its search has followed k labels.
use Rattle.std.proofs.Common.{◌≡◌, ℕ, ◌≤◌, List}
use Rattle.bucket.specs.declared.slots.Bucket.{Bucket}
use Rattle.marks.specs.Marks.{bucket_at, Listed}
use Rattle.search.specs.Reached.{Searching, FullAt}
use Rattle.search.proofs.expanding.expand.Given as goal

abbrev pub invariant-loop-k : goal.invariant-loop-k
invariant-loop-k g l =
    Listed l.buckets l.n × (l.count ≤ l.n) × (l.bucket ≡ bucket_at l.buckets l.head)
    × ((bs : List (Bucket g.row.L.Denot g.row.V.Denot)) (p s st : ℕ) → Searching g.L.Label bs p s l.initial.buckets st l.initial.n l.head 0 → FullAt bs l.bucket → Searching g.L.Label bs p s l.buckets st l.n l.head l.k)
