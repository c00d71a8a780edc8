-- A grant is given and ended, or refused.
use Rattle.std.proofs.Common.{sym, refl, ◌∙◌}
use Rattle.listing.proofs.Steps.{program_refused, program_goes_on, program_ended}
use Rattle.listing.proofs.obeying.program.Goals as goal

pub returns-in_default-grant_in-clause-told : goal.returns-in_default-grant_in-clause-told
returns-in_default-grant_in-clause-told g c =
    program_refused c.args.player.now c.ask.new.player c.args.give c.ask.result c.ask.ensures.line c.ask.ensures.promised c.requires.gives (c.in-Some.field-0-0, c.in-Some.answer) c.in-Some.is c.in-Some.answer refl
    c.args.ending _ (sym c.in_default-grant_in.is ∙ c.grant_in.ensures) c.outcome.ensures

pub unreachable-requires-in-None : goal.unreachable-requires-in-None
unreachable-requires-in-None g c =
    program_goes_on c.args.player.now c.ask.new.player c.args.give c.ask.result c.ask.ensures.line c.ask.ensures.promised c.requires.gives (c.in-Some.field-0-0, c.in-Some.answer) c.in-Some.is c.in-Some.answer refl
    c.in-Some-grant_in.grant (sym c.in-Some-grant_in.is ∙ c.grant_in.ensures) c.ask-2.new.player c.args.ending c.end_command.result c.end_command.ensures c.ask-2.result c.ask-2.ensures.line c.in-None.is

pub returns-clause-told : goal.returns-clause-told
returns-clause-told g c =
    program_ended c.args.player.now c.ask.new.player c.args.give c.ask.result c.ask.ensures.line c.ask.ensures.promised c.requires.gives (c.in-Some.field-0-0, c.in-Some.answer) c.in-Some.is c.in-Some.answer refl
    c.in-Some-grant_in.grant (sym c.in-Some-grant_in.is ∙ c.grant_in.ensures) c.ask-2.new.player c.args.ending c.end_command.result c.end_command.ensures c.ask-2.result c.ask-2.ensures.line
    (c.in-Some-ask.field-0-0, c.in-Some-ask.ended) _ c.in-Some-ask.is c.ask-2.ensures.promised c.outcome-in-Some-ask.ensures
