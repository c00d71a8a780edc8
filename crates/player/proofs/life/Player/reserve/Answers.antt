-- Room alone was made.
use Rattle.player.proofs.Going.{holding, still_holding}
use Rattle.player.proofs.life.Player.reserve.Goals as goal

pub returns-in_err-reserve-clause-promised : goal.returns-in_err-reserve-clause-promised
returns-in_err-reserve-clause-promised g c = holding g.B.Map g.S.Map _ _ c.args.self.now.log.items c.args.self.now.life

pub returns-clause-promised : goal.returns-clause-promised
returns-clause-promised g c = still_holding g.B.Map g.S.Map _ _ c.args.self.now.log.items c.reserve-2.new.self.items c.reserve-2.ensures.items c.args.self.now.life
