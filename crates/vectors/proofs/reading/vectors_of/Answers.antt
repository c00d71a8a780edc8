-- Each turn reads one line; the loop ends behind the last line, or at one that says no vector.
use Rattle.std.proofs.Common.{◌≡◌, ◌<◌, length, rules, arith}
use Rattle.std.proofs.lemmas.List.{map-append}
use Rattle.std.proofs.lemmas.Iterator.Splits.{YieldsList-from_lines}
use Rattle.std.proofs.lemmas.Iterator.Consumers.{YieldsList-at, YieldsList-so_far, YieldsList-turn, YieldsList-end}
use Rattle.std.specs.Str.Lines.{lines}
use Rattle.vectors.proofs.Places.{said_more, said_length, fails_at}
use Rattle.vectors.proofs.reading.vectors_of.Goals as goal

pub loop-line-preserved : goal.loop-line-preserved
loop-line-preserved c =
    let more = said_more _ _ _ _ c.loop-line.invariant c.in-Ok.ensures.value in
    rw (map-append, c.in_ok-push-in-Ok.ensures.items) more

pub returns-in-Err : goal.returns-in-Err
returns-in-Err c =
    let road = YieldsList-at c.into_iter-line-iterator.ensures.into_iter_gives (YieldsList-from_lines c.args.text.now c.lines-line-items.ensures.rest) in
    let start = YieldsList-so_far road c.loop-line.yielded _ c.loop-line.yielded_by in
    let turn = YieldsList-turn road c.loop-line.yielded _ c.loop-line.yielded_by _ _ _ c.in-Some.is c.next.ensures.steps in
    let fails = fails_at (lines c.args.text.now) _ _ _ _ start turn c.loop-line.invariant c.in-Err.ensures.value in
    let count : c.len.result ≡ length c.loop-line.vectors.items = search rules in
    rw count fails

pub returns : goal.returns
returns c =
    let road = YieldsList-at c.into_iter-line-iterator.ensures.into_iter_gives (YieldsList-from_lines c.args.text.now c.lines-line-items.ensures.rest) in
    let all = YieldsList-end road c.loop-line.yielded _ c.loop-line.yielded_by _ _ c.in-None.is c.next.ensures.steps in
    let said = rw all.0 at c.loop-line.invariant in
    let some : 0 < length c.loop-line.vectors.items = search rules in
    (omega (arith, said_length _ _ said), said)
