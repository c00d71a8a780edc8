-- What the two counts tell of the maps.
use Rattle.std.proofs.Common.{◌≡◌, ⊎_elim}
use Rattle.service.proofs.Making.{counts_none}
use Rattle.service.proofs.state.making.check.Goals as goal

pub returns-then-held-ne0-clause-maps : goal.returns-then-held-ne0-clause-maps
returns-then-held-ne0-clause-maps g c =
    let ub = c.count-held.ensures in
    let us = c.count-open.ensures in
    record {
      entries = record { fit = ub.fit; pairs = ub.after };
      streams = record { fit = us.fit; pairs = us.after };
      verdict = λ e both.
          let a : c.count-held.result ≡ 0 = counts_none (g.B.Map.pairs c.args.entries.now) _ ub.answer both.0 in
          let b : c.count-open.result ≡ 0 = counts_none (g.S.Map.pairs c.args.streams.now) _ us.answer both.1 in
          ⊎_elim (λ n. n a) (λ n. n.1 b) c.then-held-ne0.either;
    }
