-- From one command to the next.
use Rattle.std.proofs.Common.{arith}
use Rattle.std.proofs.lemmas.List.{take_more}
use Rattle.player.proofs.Lists.{plays_none, plays_more}
use Rattle.player.proofs.Same.{so_far_none, so_far_more}
use Rattle.player.proofs.twins.play_both.Goals as goal

pub loop-command-init : goal.loop-command-init
loop-command-init g c = record {
  one = plays_none g.B.Map g.S.Map _ _ _;
  two = plays_none g.C.Map g.T.Map _ _ _;
  both = so_far_none g.B.Map g.S.Map g.C.Map g.T.Map _ _ _ _ _ _;
  held = (omega arith, omega arith);
  log = (omega arith, omega arith);
  other_held = (omega arith, omega arith);
  other_log = (omega arith, omega arith);
}

pub loop-command-preserved : goal.loop-command-preserved
loop-command-preserved g c =
    let was = c.loop-command.invariant in
    let next = take_more c.args.commands.now c.loop-command.command-index _ (omega arith) in
    let one = c.ask.ensures in
    let two = c.ask-in-loop-command.ensures in
    record {
      one = plays_more g.B.Map g.S.Map _ _ _ _ _ _ _ _ _ _ _ _ c.ask.result next was.one one.asks;
      two = plays_more g.C.Map g.T.Map _ _ _ _ _ _ _ _ _ _ _ _ c.ask-in-loop-command.result next was.two two.asks;
      both = so_far_more g.B.Map g.S.Map g.C.Map g.T.Map _ _ _ _ _ _ _ _ _ _ _ _ _ _ _ _ _ _ _ c.ask.result c.ask-in-loop-command.result was.both one.asks two.asks;
      held = (omega (arith, was.held.0, one.grown.0), omega (arith, was.held.1, one.grown.1));
      log = (omega (arith, was.log.0, one.log_grown.0), omega (arith, was.log.1, one.log_grown.1));
      other_held = (omega (arith, was.other_held.0, two.grown.0), omega (arith, was.other_held.1, two.grown.1));
      other_log = (omega (arith, was.other_log.0, two.log_grown.0), omega (arith, was.other_log.1, two.log_grown.1));
    }

pub returns-clause-alike : goal.returns-clause-alike
returns-clause-alike g c = λ stood stood_too alike. let after = c.loop-command.invariant.both (record { stood = stood; stood_too = stood_too; alike = alike }) in (after.0.alike, after.1)
