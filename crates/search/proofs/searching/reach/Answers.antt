-- Each turn passes one full bucket; the loop ends at an unused slot, or with the list used up.
use Rattle.std.proofs.Common.{◌≡◌, ◌<◌, arith}
use Rattle.marks.specs.Marks.{bucket_at}
use Rattle.marks.proofs.Joining.{listed_below}
use Rattle.search.proofs.Steps.{searching_next, same_full, same_lowest}
use Rattle.search.proofs.searching.reach.Goals as goal

pub place_at-place-requires : goal.place_at-place-requires
place_at-place-requires g c = listed_below c.loop-head.buckets c.loop-head.count c.loop-head.head c.loop-head.invariant.0 c.loop-head-test.true

pub returns-in-Some-clause-search : goal.returns-in-Some-clause-search
returns-in-Some-clause-search g c = λ bs p s w.
    let on = c.loop-head.invariant.3 bs p s w in (
      on,
      c.loop-head-test.true,
      same_lowest c.loop-head.buckets bs on.same (bucket_at c.loop-head.buckets c.loop-head.head) c.in-Some.slot
          (rw c.place_at-place.ensures.bucket at c.in-Some.ensures),
    )

pub loop-head-preserved : goal.loop-head-preserved
loop-head-preserved g c =
    let more = c.expand-count.ensures.more in
    let here : c.loop-head.head < c.loop-head.count = c.loop-head-test.true in (
      c.expand-count.ensures.listed,
      omega arith,
      λ e. let z = c.loop-head.invariant.2 e in absurd (omega arith),
      λ bs p s w.
          let on = c.loop-head.invariant.3 bs p s w in
          let full = same_full c.loop-head.buckets bs on.same (bucket_at c.loop-head.buckets c.loop-head.head) (rw c.place_at-place.ensures.bucket at c.in_default.ensures) in
          let out = c.expand-count.ensures.search bs p s c.args.starts on full in
          searching_next g.L.Label bs p s c.expand-count.new.buckets c.args.starts c.expand-count.result c.loop-head.head (bucket_at c.loop-head.buckets c.loop-head.head) c.expand-count.ensures.head full out,
    )

pub loop-head-smaller : goal.loop-head-smaller
loop-head-smaller g c =
    let here = listed_below c.loop-head.buckets c.loop-head.count c.loop-head.head c.loop-head.invariant.0 c.loop-head-test.true in
    omega (arith, c.loop-head.auto.buckets)

pub returns-clause-search : goal.returns-clause-search
returns-clause-search g c = λ bs p s w.
    let done : c.loop-head.head ≡ c.loop-head.count = omega (arith, c.loop-head.invariant.1, c.loop-head-test.false) in
    rw done at (c.loop-head.invariant.3 bs p s w)
