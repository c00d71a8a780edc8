-- A life goes on by one command.
use Rattle.player.proofs.Going.{holding, line_of, asked_life}
use Rattle.player.proofs.life.Player.ask.Goals as goal

pub returns-in_err-reserve-clause-promised : goal.returns-in_err-reserve-clause-promised
returns-in_err-reserve-clause-promised g c = holding g.B.Map g.S.Map _ _ c.reserve.new.self.log.items c.reserve.new.self.life

pub invariant_of-self : goal.invariant_of-self
invariant_of-self g c = record { life = asked_life g.B.Map g.S.Map _ _ _ _ _ _ _ _ c.reserve.new.self.life c.ask.ensures.asks }

pub returns-clause-line : goal.returns-clause-line
returns-clause-line g c = line_of g.B.Map g.S.Map _ _ _ _ _ _ c.reserve.new.self.log.items _ c.reserve.ensures.unasked.service c.reserve.ensures.unasked.log c.reserve.new.self.life _ _ c.ask.ensures.asks

pub returns-clause-promised : goal.returns-clause-promised
returns-clause-promised g c = holding g.B.Map g.S.Map _ _ c.ask.new.log.items (asked_life g.B.Map g.S.Map _ _ _ _ _ _ _ _ c.reserve.new.self.life c.ask.ensures.asks)
