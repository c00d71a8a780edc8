-- A tape that is opened is played reading by reading, and one that is not is one fault.
use Rattle.std.proofs.Common.{sym, ◌∙◌, arith}
use Rattle.service.proofs.Fixed.{fixed_none, fixed_more}
use Rattle.player.specs.Player.{log_of}
use Rattle.listing.proofs.Tapes.{opened_most, fewer, room_left, lines_left, plays_none, plays_more, opened_played, unopened_played}
use Rattle.listing.proofs.playing.play.Goals as goal

pub loop-reading-init : goal.loop-reading-init
loop-reading-init g c =
    let opened = rw (← c.into_iter-reading-iterator.ensures.into_iter_gives) at c.in-Ok.ensures in
    let most = opened_most c.args.tape.now c.into_iter-reading-iterator.result opened ∙ sym c.most_readings-most.ensures.count in
    record {
      plays = plays_none (log_of c.reserve.new.self) c.reserve-2.new.self.items;
      fixed = fixed_none g.B.Map g.S.Map _;
      promised = c.reserve.ensures.promised;
      lines = omega (arith, most, c.in_ok-reserve-2.ensures.ok);
      room = omega (arith, most, c.in_ok-reserve.ensures.room);
      lent = omega arith;
      left = omega (arith, opened_most c.args.tape.now c.into_iter-reading-iterator.result opened);
    }

pub loop-reading-preserved : goal.loop-reading-preserved
loop-reading-preserved g c =
    let was = c.loop-reading.invariant in
    let less = fewer c.loop-reading.reading-iterator c.next.new.self c.in-Some.reading c.in-Some.ensures.steps in
    record {
      plays = plays_more (log_of c.reserve.new.self) c.reserve-2.new.self.items c.loop-reading.yielded c.loop-reading.lines.items c.push_reserved.new.self.items (log_of c.loop-reading.player) (log_of c.list-line.new.player) was.plays c.in-Some.reading c.list-line.result c.list-line.ensures.adds c.push_reserved.ensures.items;
      fixed = fixed_more g.B.Map g.S.Map _ _ _ was.fixed c.list-line.ensures.fixed;
      promised = c.list-line.ensures.promised;
      lines = lines_left _ _ _ _ _ _ less was.lines c.push_reserved.ensures.len c.push_reserved.ensures.capacity;
      room = room_left _ _ _ _ less was.room c.list-line.ensures.room;
      lent = omega (arith, was.lent, c.push_reserved.ensures.capacity);
      left = omega (arith, less, was.left, c.list-line.ensures.room);
    }

pub returns-in-None-clause-played : goal.returns-in-None-clause-played
returns-in-None-clause-played g c =
    let opened = rw (← c.into_iter-reading-iterator.ensures.into_iter_gives) at c.in-Ok.ensures in
    opened_played c.args.tape.now (log_of c.args.player.now) (log_of c.reserve.new.self) (log_of c.loop-reading.player) c.args.lines.now.items c.reserve-2.new.self.items c.loop-reading.lines.items c.reserve.ensures.unasked.log c.reserve-2.ensures.items
    c.into_iter-reading-iterator.result c.loop-reading.yielded opened (_, c.loop-reading.yielded_by, λ _. (c.next.new.self, c.in-None.ensures.steps)) c.loop-reading.invariant.plays

pub returns-in-Err-clause-played : goal.returns-in-Err-clause-played
returns-in-Err-clause-played g c =
    unopened_played c.args.tape.now (log_of c.args.player.now) (log_of c.reserve.new.self) (log_of c.list-line-in-Err.new.player) c.args.lines.now.items c.reserve-2.new.self.items c.push_reserved-in-Err.new.self.items c.reserve.ensures.unasked.log c.reserve-2.ensures.items
    c.in-Err.fault c.into.result c.list-line-in-Err.result c.in-Err.ensures c.into.ensures c.list-line-in-Err.ensures.adds c.push_reserved-in-Err.ensures.items
