-- The answer of the call is told.
use Rattle.listing.proofs.Steps.{request_told}
use Rattle.listing.proofs.obeying.request.Goals as goal

pub returns-clause-told : goal.returns-clause-told
returns-clause-told g c = request_told c.args.player.now c.ask.new.player c.args.command c.ask.result c.ask.ensures.line (c.in-Some.field-0-0, c.in-Some.answer) _ c.in-Some.is c.requires.asks c.outcome.ensures
