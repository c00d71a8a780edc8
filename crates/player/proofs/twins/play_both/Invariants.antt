-- So far both played the commands, by the same calls with the same answers, in the room that there was.
use Rattle.std.proofs.Common.{take, vec_len, vec_capacity}
use Rattle.player.specs.Hands.{Grown}
use Rattle.player.specs.Playing.{Plays}
use Rattle.player.proofs.Same.{SoFar}
use Rattle.player.proofs.twins.play_both.Given as goal

abbrev pub invariant-loop-command : goal.invariant-loop-command
invariant-loop-command g l = record {
  one : Plays g.B.Map g.S.Map l.initial.one l.initial.held.items l.initial.log.items (take l.command-index l.commands) l.one l.held.items l.log.items;
  two : Plays g.C.Map g.T.Map l.initial.other l.initial.other_held.items l.initial.other_log.items (take l.command-index l.commands) l.other l.other_held.items l.other_log.items;
  both : SoFar g.B.Map g.S.Map g.C.Map g.T.Map l.initial.one l.initial.held.items l.initial.log.items l.initial.other l.initial.other_held.items l.initial.other_log.items l.one l.held.items l.log.items l.other l.other_held.items l.other_log.items;
  held : Grown l.command-index (vec_len l.initial.held) (vec_capacity l.initial.held) (vec_len l.held) (vec_capacity l.held);
  log : Grown l.command-index (vec_len l.initial.log) (vec_capacity l.initial.log) (vec_len l.log) (vec_capacity l.log);
  other_held : Grown l.command-index (vec_len l.initial.other_held) (vec_capacity l.initial.other_held) (vec_len l.other_held) (vec_capacity l.other_held);
  other_log : Grown l.command-index (vec_len l.initial.other_log) (vec_capacity l.initial.other_log) (vec_len l.other_log) (vec_capacity l.other_log);
}
