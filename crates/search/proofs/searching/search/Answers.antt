-- The starts join a list of none, and the search goes on from them.
use Rattle.std.proofs.Common.{length, arith}
use Rattle.bucket.proofs.Sizes.{allowed_most}
use Rattle.search.proofs.OneList.{one_trail}
use Rattle.search.proofs.Steps.{first_listed, both_listed, both_search}
use Rattle.search.proofs.searching.search.Goals as goal

pub join-one-requires-clause-small : goal.join-one-requires-clause-small
join-one-requires-clause-small g c = (allowed_most (length c.args.buckets.now) c.requires.right, omega arith, omega arith)

pub join-starts-requires-clause-room : goal.join-starts-requires-clause-room
join-starts-requires-clause-room g c =
    (first_listed c.args.buckets.now c.args.homes.0 c.args.homes.1 c.requires.within.0 c.requires.within.1 c.join-one.new.buckets c.join-one.result c.join-one.ensures.area c.join-one.ensures.count).room

pub join-starts-requires-clause-small : goal.join-starts-requires-clause-small
join-starts-requires-clause-small g c =
    let most = allowed_most (length c.args.buckets.now) c.requires.right in
    (omega (arith, c.join-one.auto.buckets), omega arith, omega arith)

pub reach-requires-clause-listed : goal.reach-requires-clause-listed
reach-requires-clause-listed g c =
    both_listed c.args.buckets.now c.args.homes.0 c.args.homes.1 c.requires.within.0 c.requires.within.1 c.join-one.new.buckets c.join-one.result c.join-one.ensures.area c.join-one.ensures.count c.join-starts.new.buckets c.join-starts.result c.join-starts.ensures.area c.join-starts.ensures.count

pub returns-clause-search : goal.returns-clause-search
returns-clause-search g c =
    let ms = c.args.buckets.now in
    λ rest. rw c.reach.ensures.starts
    (c.reach.ensures.search ms c.args.homes.0 c.args.homes.1
    (both_search ms c.args.homes.0 c.args.homes.1 c.requires.within.0 c.requires.within.1 c.join-one.new.buckets c.join-one.result c.join-one.ensures.area c.join-one.ensures.count c.join-starts.new.buckets c.join-starts.result c.join-starts.ensures.area c.join-starts.ensures.count g.L.Label rest))

pub returns-clause-one : goal.returns-clause-one
returns-clause-one g c = one_trail g.L.Label c.args.buckets.now
