-- The lines so far are those of the readings so far, and there is room for as many as may come.
use Rattle.std.proofs.Common.{◌+◌, ◌*◌, ◌≤◌, vec_len, vec_capacity}
use Rattle.call_tape.specs.Fields.{most_readings, most_from}
use Rattle.player.specs.Player.{log_of, room_of, HoldsPromise, SizesStay}
use Rattle.listing.specs.Playing.{PlaysOn}
use Rattle.listing.proofs.playing.play.Given as goal

abbrev pub invariant-loop-reading : goal.invariant-loop-reading
invariant-loop-reading g l = record {
  plays : PlaysOn (log_of l.initial.player) l.initial.lines.items l.yielded l.lines.items (log_of l.player);
  fixed : SizesStay l.initial.player l.player;
  promised : HoldsPromise l.player;
  lines : vec_len l.lines + most_from l.reading-iterator.tape.now l.reading-iterator.place ≤ vec_capacity l.lines;
  room : 2 * most_from l.reading-iterator.tape.now l.reading-iterator.place ≤ room_of l.player;
  lent : vec_capacity l.initial.lines ≤ vec_capacity l.lines;
  left : room_of l.initial.player + 2 * most_from l.reading-iterator.tape.now l.reading-iterator.place ≤ room_of l.player + 2 * most_readings l.tape;
}
