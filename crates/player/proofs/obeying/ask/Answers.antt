-- The call is written down.
use Rattle.player.proofs.Lists.{asks_of}
use Rattle.player.proofs.obeying.ask.Goals as goal

pub returns-clause-asks : goal.returns-clause-asks
returns-clause-asks g c = asks_of g.B.Map g.S.Map _ _ _ _ _ _ c.args.command c.obey-asked.result c.obey-asked.ensures.obeys c.write_down.ensures.line
