-- The card's sizes are allowed and its maps are empty, so what is played on it is a life on a fresh card.
use Rattle.std.proofs.Common.{refl, ◌∙◌, arith}
use Rattle.std.proofs.lemmas.Result.{on_ok_weaker}
use Rattle.label.specs.Lines.{old_line}
use Rattle.map.specs.Sets.{AtMost}
use Rattle.placement.specs.Fit.{Fits}
use Rattle.rules.specs.Calls.{limits}
use Rattle.bench_card.proofs.Listing.{listed}
use Rattle.bench_card.proofs.card.list_tape.Goals as goal

pub returns-clause-listed : goal.returns-clause-listed
returns-clause-listed c =
    let made = c.in-Ok.ensures.made in
    let entries = made.entries.fit ∙ c.new-entries.ensures.shape.0 (1, omega arith, refl) in
    let streams = made.streams.fit ∙ c.new-streams.ensures.shape.0 (omega arith, omega arith) in
    on_ok_weaker c.play-played.result
    (listed c.in-Ok.player c.play-played.new.player c.args.tape.now c.args.lines.now.items c.play-played.new.lines.items made.blank
    (λ i. limits (made.blocks i) (made.limit i) (Fits old_line (entries i)) (AtMost (streams i))) c.play-played.ensures.fixed c.play-played.ensures.promised)
    c.play-played.ensures.played
