-- All cells hold their own numbers.
use Rattle.std.proofs.Common.{length, ◌∙◌, arith}
use Rattle.std.proofs.lemmas.List.{map-id}
use Rattle.std.proofs.lemmas.List.FromFn.{fill_by_all}
use Rattle.service.proofs.pool.number.Goals as goal

pub returns : goal.returns
returns c =
    fill_by_all (λ k. k) c.loop-i.cells (length c.args.cells.now) 0 c.loop-i.auto.cells (λ k h. c.loop-i.invariant k (omega arith)) ∙ map-id _
