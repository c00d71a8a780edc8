-- What each bucket shows makes the rule's case.
use Rattle.std.proofs.Common.{sym, ◌∙◌}
use Rattle.table.proofs.Rule.{aim, misses, lets_on, stops, in_either}
use Rattle.table.proofs.finding.locate.Goals as goal

pub returns-then-not-goes_on-clause-rule : goal.returns-then-not-goes_on-clause-rule
returns-then-not-goes_on-clause-rule g c =
    let kind = g.L.Label in
    let bs = c.args.buckets.now in
    let n = kind.number c.args.label in
    let at = aim kind bs n _ _ _ _ c.digest-digest.ensures c.pair-first.ensures.pair.0 c.pair-first.ensures.pair.1 c.tag-tag.ensures in
    let miss = misses kind bs n _ _ _ at _ _ c.pair-first.ensures.within.0 c.index-buckets-first.is c.in_default.ensures in
    stops kind bs n _ _ _ at _ _ c.mask.ensures c.digest-digest.ensures _ c.pair-first.ensures.within.0 c.index-buckets-first-2.is c.filter_contains.result c.goes_on.result c.filter_contains.ensures c.goes_on.ensures c.if-not-goes_on.true miss

pub returns-clause-rule : goal.returns-clause-rule
returns-clause-rule g c =
    let kind = g.L.Label in
    let bs = c.args.buckets.now in
    let n = kind.number c.args.label in
    let at = aim kind bs n _ _ _ _ c.digest-digest.ensures c.pair-first.ensures.pair.0 c.pair-first.ensures.pair.1 c.tag-tag.ensures in
    let miss = misses kind bs n _ _ _ at _ _ c.pair-first.ensures.within.0 c.index-buckets-first.is c.in_default.ensures in
    let goes = c.goes_on.ensures.0 c.if-not-goes_on.false in
    let on = lets_on kind bs n _ _ _ at _ _ c.mask.ensures c.digest-digest.ensures _ c.pair-first.ensures.within.0 c.index-buckets-first-2.is (sym c.filter_contains.ensures ∙ goes.1) in
    in_either kind bs n _ _ _ at miss goes.0 on c.index-buckets-second.result c.pair-first.ensures.within.1 c.index-buckets-second.is c.place-2.result c.place-2.ensures c.map-spot.result _ c.map-spot.ensures.cases (λ k z e. search)
