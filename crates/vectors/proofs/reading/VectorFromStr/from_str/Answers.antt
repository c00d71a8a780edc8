-- A line with no blank says no vector, and one with a half that is no number neither.
use Rattle.std.proofs.lemmas.Result.{MatchResult-from_err}
use Rattle.vectors.proofs.Halves.{uncut, halves}
use Rattle.vectors.proofs.reading.VectorFromStr.from_str.Goals as goal

pub returns-in_err-input : goal.returns-in_err-input
returns-in_err-input c =
    let nothing = uncut c.args.line.now _ c.split_once.ensures.cases c.in_err-input.ensures.ok_part in
    MatchResult-from_err c.from_residual.result _ _ c.from_residual.ensures.0 (λ _. nothing)

pub returns-in_err-number_of : goal.returns-in_err-number_of
returns-in_err-number_of c =
    let parts = halves c.args.line.now _ c.split_once.ensures.cases _ c.in_ok-input.ensures.ok_part in
    MatchResult-from_err c.from_residual-in_err-number_of.result _ _ c.from_residual-in_err-number_of.ensures.0 (λ _ v says. c.in_err-number_of.ensures v.input (parts v says).input)

pub returns-in_err-number_of-2 : goal.returns-in_err-number_of-2
returns-in_err-number_of-2 c =
    let parts = halves c.args.line.now _ c.split_once.ensures.cases _ c.in_ok-input.ensures.ok_part in
    MatchResult-from_err c.from_residual-in_err-number_of-2.result _ _ c.from_residual-in_err-number_of-2.ensures.0 (λ _ v says. c.in_err-number_of-2.ensures v.output (parts v says).output)
