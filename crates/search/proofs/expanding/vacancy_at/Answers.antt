-- The bucket's own answer.
use Rattle.search.proofs.Steps.{vacancy_read}
use Rattle.search.proofs.expanding.vacancy_at.Goals as goal

pub returns : goal.returns
returns g c = vacancy_read c.args.buckets.now c.args.i c.index-buckets-i.result c.requires c.index-buckets-i.is c.vacancy.result c.vacancy.ensures
