-- Whichever of the two it does not lie in.
use Rattle.std.proofs.Common.{sym, ◌∙◌}
use Rattle.search.proofs.Steps.{other_read}
use Rattle.search.proofs.expanding.other.Goals as goal

pub returns-clause-value : goal.returns-clause-value
returns-clause-value g c =
    c.the_other.ensures
    ∙ sym (other_read g.L.Label c.args.buckets.now c.args.i c.args.k c.index-buckets-i.result c.label.result c.digest.result c.pair-first.result.0 c.pair-first.result.1 c.requires.within c.index-buckets-i.is c.label.ensures c.digest.ensures c.pair-first.ensures.pair.0 c.pair-first.ensures.pair.1)
