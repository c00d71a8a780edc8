-- The commands so far were played, in the room that there was.
use Rattle.std.proofs.Common.{take, vec_len, vec_capacity}
use Rattle.player.specs.Hands.{Grown}
use Rattle.player.specs.Playing.{Plays}
use Rattle.player.proofs.obeying.play.Given as goal

abbrev pub invariant-loop-command : goal.invariant-loop-command
invariant-loop-command g l = record {
  played : Plays g.B.Map g.S.Map l.initial.service l.initial.held.items l.initial.log.items (take l.command-index l.commands) l.service l.held.items l.log.items;
  held : Grown l.command-index (vec_len l.initial.held) (vec_capacity l.initial.held) (vec_len l.held) (vec_capacity l.held);
  log : Grown l.command-index (vec_len l.initial.log) (vec_capacity l.initial.log) (vec_len l.log) (vec_capacity l.log);
}
