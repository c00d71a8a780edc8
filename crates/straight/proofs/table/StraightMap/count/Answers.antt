-- A used row counts as one, and an unused one as none.
use Rattle.std.proofs.Common.{rules, ◌≡◌, ◌≤◌, ◌^◌, cond, length, sum_by, sym, ◌∙◌, arith, tests}
use Rattle.std.proofs.lemmas.Iterator.{YieldsList-from_map, YieldsList-from_slice}
use Rattle.std.proofs.lemmas.Iterator.Adapters.{fits_from_length, at_most_from_yields_List}
use Rattle.std.proofs.lemmas.Iterator.Consumers.{sum_by_from_yields_List}
use Rattle.std.proofs.lemmas.List.Sums.{length-filter}
use Rattle.straight.specs.Rows.{live}
use Rattle.straight.proofs.Area.{live_few}
use Rattle.straight.proofs.table.StraightMap.count.Goals as goal

pub sum-requires-clause-fits : goal.sum-requires-clause-fits
sum-requires-clause-fits g c =
    let rows = c.live.result.now in
    let few : length rows ≤ 256 = rw c.live.ensures (live_few c.args.self.now.rows.now) in
    fits_from_length _ _ 256 (2 ^ 64) (at_most_from_yields_List (YieldsList-from_slice rows cc) few) c.map.ensures.closure (omega arith) (λ x r q k. search (rules, tests))

pub returns : goal.returns
returns g c =
    let rows = live c.args.self.now.rows.now in
    let total : c.sum.result ≡ sum_by (λ r. cond r.used 1 0) rows =
    sum_by_from_yields_List (λ r. cond r.used 1 0) rows c.map.result c.sum.result c.sum.ensures.ran (YieldsList-from_map _ (λ r. cond r.used 1 0) (YieldsList-from_slice rows cc) c.map.ensures.closure (λ x r q k. search (rules, tests))) in
    total ∙ sym (length-filter (λ r. r.used) rows)
