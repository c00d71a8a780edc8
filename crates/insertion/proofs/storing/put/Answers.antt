-- The rules allow one list and one outcome, and a twin answers alike.
use Rattle.search.proofs.OneList.{one_trail}
use Rattle.insertion.proofs.OnePut.{one_put}
use Rattle.insertion.proofs.Same.{alike_put}
use Rattle.insertion.proofs.storing.put.Goals as goal

pub returns-clause-one : goal.returns-clause-one
returns-clause-one g c = one_trail g.L.Label c.args.buckets.now

pub returns-clause-only : goal.returns-clause-only
returns-clause-only g c = one_put g.L.Label c.args.buckets.now

pub returns-clause-alike : goal.returns-clause-alike
returns-clause-alike g c = alike_put g.L.Label c.args.buckets.now c.args.label c.args.payload c.store.new.buckets c.store.result c.store.ensures
