-- Two lives go on.
use Rattle.player.proofs.Going.{holding, lines_of, played_life, onwards, one_list, still_equal}
use Rattle.player.proofs.life.both.play_both.Goals as goal

pub returns-in_err-reserve-clause-promised : goal.returns-in_err-reserve-clause-promised
returns-in_err-reserve-clause-promised g c = holding g.B.Map g.S.Map _ _ c.reserve.new.self.log.items c.reserve.new.self.life

pub returns-in_err-reserve-clause-other_promised : goal.returns-in_err-reserve-clause-other_promised
returns-in_err-reserve-clause-other_promised g c = holding g.C.Map g.T.Map _ _ c.args.other.now.log.items c.args.other.now.life

pub returns-in_err-reserve-clause-onwards : goal.returns-in_err-reserve-clause-onwards
returns-in_err-reserve-clause-onwards g c = onwards g.B.Map g.S.Map g.C.Map g.T.Map _ _ c.reserve.new.self.log.items _ _ c.args.other.now.log.items c.reserve.new.self.life c.args.other.now.life

pub returns-in_err-reserve-2-clause-promised : goal.returns-in_err-reserve-2-clause-promised
returns-in_err-reserve-2-clause-promised g c = holding g.B.Map g.S.Map _ _ c.reserve.new.self.log.items c.reserve.new.self.life

pub returns-in_err-reserve-2-clause-other_promised : goal.returns-in_err-reserve-2-clause-other_promised
returns-in_err-reserve-2-clause-other_promised g c = holding g.C.Map g.T.Map _ _ c.reserve-2.new.self.log.items c.reserve-2.new.self.life

pub returns-in_err-reserve-2-clause-onwards : goal.returns-in_err-reserve-2-clause-onwards
returns-in_err-reserve-2-clause-onwards g c = onwards g.B.Map g.S.Map g.C.Map g.T.Map _ _ c.reserve.new.self.log.items _ _ c.reserve-2.new.self.log.items c.reserve.new.self.life c.reserve-2.new.self.life

pub invariant_of-one : goal.invariant_of-one
invariant_of-one g c = record { life = played_life g.B.Map g.S.Map _ _ _ _ _ _ _ c.reserve.new.self.life c.play_both.ensures.one }

pub invariant_of-other : goal.invariant_of-other
invariant_of-other g c = record { life = played_life g.C.Map g.T.Map _ _ _ _ _ _ _ c.reserve-2.new.self.life c.play_both.ensures.other }

pub returns-clause-lines : goal.returns-clause-lines
returns-clause-lines g c = lines_of g.B.Map g.S.Map _ _ _ _ _ _ _ _ c.reserve.ensures.unasked.service c.reserve.ensures.unasked.log c.reserve.new.self.life _ c.play_both.ensures.one

pub returns-clause-other_lines : goal.returns-clause-other_lines
returns-clause-other_lines g c = lines_of g.C.Map g.T.Map _ _ _ _ _ _ _ _ c.reserve-2.ensures.unasked.service c.reserve-2.ensures.unasked.log c.reserve-2.new.self.life _ c.play_both.ensures.other

pub returns-clause-promised : goal.returns-clause-promised
returns-clause-promised g c = holding g.B.Map g.S.Map _ _ c.play_both.new.log.items (played_life g.B.Map g.S.Map _ _ _ _ _ _ _ c.reserve.new.self.life c.play_both.ensures.one)

pub returns-clause-other_promised : goal.returns-clause-other_promised
returns-clause-other_promised g c = holding g.C.Map g.T.Map _ _ c.play_both.new.other_log.items (played_life g.C.Map g.T.Map _ _ _ _ _ _ _ c.reserve-2.new.self.life c.play_both.ensures.other)

pub returns-clause-same : goal.returns-clause-same
returns-clause-same g c =
    one_list g.B.Map g.S.Map g.C.Map g.T.Map _ _ c.play_both.new.one _ _ _ c.play_both.new.log.items _ _ c.play_both.new.other _ _ _ c.play_both.new.other_log.items c.reserve.ensures.unasked.service c.reserve.ensures.unasked.log c.reserve-2.ensures.unasked.service c.reserve-2.ensures.unasked.log c.reserve.new.self.life c.reserve-2.new.self.life c.play_both.ensures.alike

pub returns-clause-onwards : goal.returns-clause-onwards
returns-clause-onwards g c =
    onwards g.B.Map g.S.Map g.C.Map g.T.Map _ _ c.play_both.new.log.items _ _ c.play_both.new.other_log.items (played_life g.B.Map g.S.Map _ _ _ _ _ _ _ c.reserve.new.self.life c.play_both.ensures.one) (played_life g.C.Map g.T.Map _ _ _ _ _ _ _ c.reserve-2.new.self.life c.play_both.ensures.other)

pub returns-clause-still : goal.returns-clause-still
returns-clause-still g c =
    still_equal g.B.Map g.S.Map g.C.Map g.T.Map _ _ c.play_both.new.one _ _ _ c.play_both.new.log.items _ _ c.play_both.new.other _ _ _ c.play_both.new.other_log.items c.reserve.ensures.unasked.service c.reserve.ensures.unasked.log c.reserve-2.ensures.unasked.service c.reserve-2.ensures.unasked.log c.reserve.new.self.life c.reserve-2.new.self.life c.play_both.ensures.alike
