-- No grant of a life is refused its ending, so each that is out is abandoned.
use Rattle.std.proofs.Common.{is_ok, sym, ap, ◌∙◌}
use Rattle.std.proofs.lemmas.Bool.{false≢true}
use Rattle.std.proofs.Props.{props}
use Rattle.std.proofs.Math.Logic.{∥∥₁_elim, ∥∥₁_map}
use Rattle.service.proofs.Promising.{promised}
use Rattle.player.proofs.life.Player.finish.Goals as goal

pub unreachable-requires : goal.unreachable-requires
unreachable-requires g c = ∥∥₁_elim c.args.self.life (hlevel props) (λ st. false≢true (sym (ap is_ok c.in-Err.is) ∙ (c.settle.ensures.settled _ st).0))

pub returns-clause-given_up : goal.returns-clause-given_up
returns-clause-given_up g c = ∥∥₁_map c.args.self.life (λ st.
    let left = (c.settle.ensures.settled _ st).1 in
    (st.holds, left, promised g.B.Map g.S.Map _ _ left.lived left.own left.labels))
