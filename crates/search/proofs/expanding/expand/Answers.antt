-- Each turn follows one label of the bucket.
use Rattle.std.proofs.Common.{◌≡◌, length, arith}
use Rattle.bucket.proofs.Sizes.{allowed_most}
use Rattle.marks.proofs.Joining.{listed_below}
use Rattle.search.proofs.Steps.{follow}
use Rattle.search.proofs.expanding.expand.Goals as goal

pub place_at-bucket-requires : goal.place_at-bucket-requires
place_at-bucket-requires g c = listed_below c.args.buckets.now c.args.count c.args.head c.requires.listed c.requires.within

pub join-n-requires-clause-small : goal.join-n-requires-clause-small
join-n-requires-clause-small g c =
    let most = allowed_most (length c.args.buckets.now) c.requires.right in
    let here = listed_below c.loop-k.buckets c.loop-k.n c.args.head c.loop-k.invariant.0 (omega (arith, c.loop-k.invariant.1, c.requires.within)) in
    let long = c.loop-k.auto.buckets in
    (omega arith, omega arith, omega arith)

pub loop-k-preserved : goal.loop-k-preserved
loop-k-preserved g c =
    let inv = c.loop-k.invariant in
    let on = follow g.L.Label c.loop-k.buckets c.loop-k.n c.args.head c.loop-k.k c.place_at-bucket.result.bucket c.other-next.result inv.0 (omega (arith, inv.1, c.requires.within)) inv.2 c.loop-k-test.true c.other-next.ensures.within c.other-next.ensures.value
    c.join-n.new.buckets c.join-n.result c.join-n.ensures.area c.join-n.ensures.count in
    (on.0, omega (arith, inv.1, on.1), on.2, λ bs p s st w full. on.3 bs p s st (inv.3 bs p s st w full) full)

pub returns-clause-search : goal.returns-clause-search
returns-clause-search g c = λ bs p s st w full.
    let four : c.loop-k.k ≡ 4 = omega arith in
    rw four at (c.loop-k.invariant.3 bs p s st w (rw c.place_at-bucket.ensures.bucket full))
