-- From one command to the next.
use Rattle.std.proofs.Common.{arith}
use Rattle.std.proofs.lemmas.List.{take_more}
use Rattle.player.proofs.Lists.{plays_none, plays_more}
use Rattle.player.proofs.obeying.play.Goals as goal

pub loop-command-init : goal.loop-command-init
loop-command-init g c = record { played = plays_none g.B.Map g.S.Map _ _ _; held = (omega arith, omega arith); log = (omega arith, omega arith) }

pub loop-command-preserved : goal.loop-command-preserved
loop-command-preserved g c =
    let was = c.loop-command.invariant in
    let now = c.ask.ensures in
    record {
      played = plays_more g.B.Map g.S.Map _ _ _ _ _ _ _ _ _ _ _ _ c.ask.result (take_more c.args.commands.now c.loop-command.command-index _ (omega arith)) was.played now.asks;
      held = (omega (arith, was.held.0, now.grown.0), omega (arith, was.held.1, now.grown.1));
      log = (omega (arith, was.log.0, now.log_grown.0), omega (arith, was.log.1, now.log_grown.1));
    }
