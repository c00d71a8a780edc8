-- Each call of a tape stands for the calls of its command.
use Rattle.std.proofs.Common.{refl, subst, sym}
use Rattle.service.specs.declared.entry.Ending.TheVariants.{Commit, Abandon, Condemn}
use Rattle.player.specs.declared.command.Command.TheVariants as command
use Rattle.player.specs.Player.{log_of}
use Rattle.listing.specs.Playing.{Obeyed}
use Rattle.listing.proofs.Steps.{obeyed_request, obeyed_program}
use Rattle.listing.proofs.obeying.obey.Goals as goal

pub returns-in-Write-clause-told : goal.returns-in-Write-clause-told
returns-in-Write-clause-told g c = subst (λ x. Obeyed (log_of c.args.player.now) x c.program.result (log_of c.program.new.player)) (sym c.in-Write.is) (obeyed_program (log_of c.args.player.now) (log_of c.program.new.player) (command.Begin c.in-Write.n) _ Commit c.program.result refl c.program.ensures.told)

pub returns-in-Drop-clause-told : goal.returns-in-Drop-clause-told
returns-in-Drop-clause-told g c = subst (λ x. Obeyed (log_of c.args.player.now) x c.program-in-Drop.result (log_of c.program-in-Drop.new.player)) (sym c.in-Drop.is) (obeyed_program (log_of c.args.player.now) (log_of c.program-in-Drop.new.player) (command.Begin c.in-Drop.n) _ Abandon c.program-in-Drop.result refl c.program-in-Drop.ensures.told)

pub returns-in-Spoil-clause-told : goal.returns-in-Spoil-clause-told
returns-in-Spoil-clause-told g c = subst (λ x. Obeyed (log_of c.args.player.now) x c.program-in-Spoil.result (log_of c.program-in-Spoil.new.player)) (sym c.in-Spoil.is) (obeyed_program (log_of c.args.player.now) (log_of c.program-in-Spoil.new.player) (command.Begin c.in-Spoil.n) _ Condemn c.program-in-Spoil.result refl c.program-in-Spoil.ensures.told)

pub returns-in-Append-clause-told : goal.returns-in-Append-clause-told
returns-in-Append-clause-told g c = subst (λ x. Obeyed (log_of c.args.player.now) x c.program-in-Append.result (log_of c.program-in-Append.new.player)) (sym c.in-Append.is) (obeyed_program (log_of c.args.player.now) (log_of c.program-in-Append.new.player) (command.Append c.in-Append.label) _ Commit c.program-in-Append.result refl c.program-in-Append.ensures.told)

pub returns-in-Read-clause-told : goal.returns-in-Read-clause-told
returns-in-Read-clause-told g c = subst (λ x. Obeyed (log_of c.args.player.now) x c.request.result (log_of c.request.new.player)) (sym c.in-Read.is) (obeyed_request (log_of c.args.player.now) (log_of c.request.new.player) (command.Read c.in-Read.n) _ c.request.result refl c.request.ensures.told)

pub returns-in-Trim-clause-told : goal.returns-in-Trim-clause-told
returns-in-Trim-clause-told g c = subst (λ x. Obeyed (log_of c.args.player.now) x c.request-in-Trim.result (log_of c.request-in-Trim.new.player)) (sym c.in-Trim.is) (obeyed_request (log_of c.args.player.now) (log_of c.request-in-Trim.new.player) (command.Trim c.in-Trim.n) _ c.request-in-Trim.result refl c.request-in-Trim.ensures.told)

pub returns-in-Open-clause-told : goal.returns-in-Open-clause-told
returns-in-Open-clause-told g c = subst (λ x. Obeyed (log_of c.args.player.now) x c.request-in-Open.result (log_of c.request-in-Open.new.player)) (sym c.in-Open.is) (obeyed_request (log_of c.args.player.now) (log_of c.request-in-Open.new.player) (command.Open c.in-Open.opening.stream c.in-Open.opening.first c.in-Open.opening.length) _ c.request-in-Open.result refl c.request-in-Open.ensures.told)

pub returns-in-Close-clause-told : goal.returns-in-Close-clause-told
returns-in-Close-clause-told g c = subst (λ x. Obeyed (log_of c.args.player.now) x c.request-in-Close.result (log_of c.request-in-Close.new.player)) (sym c.in-Close.is) (obeyed_request (log_of c.args.player.now) (log_of c.request-in-Close.new.player) (command.Close c.in-Close.label) _ c.request-in-Close.result refl c.request-in-Close.ensures.told)

pub returns-in-Tally-clause-told : goal.returns-in-Tally-clause-told
returns-in-Tally-clause-told g c = subst (λ x. Obeyed (log_of c.args.player.now) x c.request-in-Tally.result (log_of c.request-in-Tally.new.player)) (sym c.in-Tally.is) (obeyed_request (log_of c.args.player.now) (log_of c.request-in-Tally.new.player) (command.Tally) _ c.request-in-Tally.result refl c.request-in-Tally.ensures.told)
