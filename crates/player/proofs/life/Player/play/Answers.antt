-- A life goes on by a list of commands.
use Rattle.player.proofs.Going.{holding, lines_of, played_life}
use Rattle.player.proofs.life.Player.play.Goals as goal

pub returns-in_err-reserve-clause-promised : goal.returns-in_err-reserve-clause-promised
returns-in_err-reserve-clause-promised g c = holding g.B.Map g.S.Map _ _ c.reserve.new.self.log.items c.reserve.new.self.life

pub invariant_of-self : goal.invariant_of-self
invariant_of-self g c = record { life = played_life g.B.Map g.S.Map _ _ _ _ _ _ _ c.reserve.new.self.life c.play.ensures.plays }

pub returns-clause-lines : goal.returns-clause-lines
returns-clause-lines g c = lines_of g.B.Map g.S.Map _ _ _ _ _ _ _ _ c.reserve.ensures.unasked.service c.reserve.ensures.unasked.log c.reserve.new.self.life _ c.play.ensures.plays

pub returns-clause-promised : goal.returns-clause-promised
returns-clause-promised g c = holding g.B.Map g.S.Map _ _ c.play.new.log.items (played_life g.B.Map g.S.Map _ _ _ _ _ _ _ c.reserve.new.self.life c.play.ensures.plays)
