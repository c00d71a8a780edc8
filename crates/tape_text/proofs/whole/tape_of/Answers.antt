use Rattle.std.proofs.Common.{rules, ◌≡◌, [], Ok, ◌+◌, ◌∙◌, ap, sym, length, refl}
use Rattle.std.specs.Str.Lines.{lines}
use Rattle.std.proofs.lemmas.Iterator.Consumers.{YieldsList-at, YieldsList-from_enumerate, YieldsList-so_far, YieldsList-turn, YieldsList-end}
use Rattle.std.proofs.lemmas.Iterator.Splits.{YieldsList-from_lines}
use Rattle.tape_text.specs.Lines.{end}
use Rattle.tape_text.proofs.Laws.{one_taping, gives_back}
use Rattle.tape_text.proofs.Taking.{line_behind_those, one_more, taped_exit, barred_line, whole_text, fresh, left_as}
use Rattle.tape_text.proofs.whole.tape_of.Goals as goal

pub loop-above-init : goal.loop-above-init
loop-above-init c = ([], end, search rules, refl)

pub loop-above-preserved : goal.loop-above-preserved
loop-above-preserved c =
    let i = c.loop-above.invariant in
    let more = one_more c.loop-above.yielded (c.in-Some.above, c.in-Some.line) (c.in-Some.above + 1) c.new-writer.result.area.now c.loop-above.writer.area.now c.add_line.new.writer.area.now c.loop-above.writer.used c.add_line.new.writer.used (i.0, i.1, i.2) (c.in_ok-add_line.ensures.added _ i.0 i.2) in
    (more.0, more.1, more.2, c.in_ok-add_line.ensures.lender ∙ i.3)

pub returns-in_err-add_line-clause-taped : goal.returns-in_err-add_line-clause-taped
returns-in_err-add_line-clause-taped c =
    let i = c.loop-above.invariant in
    let road = YieldsList-at c.into_iter-above-iterator.ensures.into_iter_gives (YieldsList-from_enumerate (YieldsList-at c.enumerate-above-items.ensures.source (YieldsList-from_lines c.args.bytes.now (c.lines.ensures.rest ∙ c.in_ok-text.ensures.0))) c.enumerate-above-items.ensures.count) in
    let so_far = YieldsList-so_far road c.loop-above.yielded _ c.loop-above.yielded_by in
    let turn = YieldsList-turn road c.loop-above.yielded _ c.loop-above.yielded_by _ _ (c.in-Some.above, c.in-Some.line) c.in-Some.is c.next.ensures.steps in
    let place = line_behind_those 0 (lines c.args.bytes.now) c.loop-above.yielded (c.in-Some.above, c.in-Some.line) so_far turn.0 turn.1 in
    let w = c.loop-above.writer in
    let t = c.add_line.new.writer in
    let named = c.in_err-add_line.ensures.lender ∙ (i.3 ∙ c.new-writer.ensures.lender) in
    let lent = fresh c.args.area.now _ _ c.new-writer.ensures.holds in
    let taped = barred_line c.args.bytes.now c.loop-above.yielded (c.in-Some.above, c.in-Some.line) c.new-writer.result.area.now w.area.now t.area.now w.used t.used _ c.in_ok-text.ensures.1 (i.0, i.1, i.2) place (c.in_err-add_line.ensures.added c.new-writer.result.area.now i.0 i.2) in
    left_as c.args.bytes.now c.args.area.now c.new-writer.result.area.now t.area.now _ _ lent (search (rules, named)) (taped_exit c.args.bytes.now c.new-writer.result.area.now t.area.now _ _ c.from_residual-in_err-add_line.ensures.1 taped)

pub returns-clause-taped : goal.returns-clause-taped
returns-clause-taped c =
    let i = c.loop-above.invariant in
    let road = YieldsList-at c.into_iter-above-iterator.ensures.into_iter_gives (YieldsList-from_enumerate (YieldsList-at c.enumerate-above-items.ensures.source (YieldsList-from_lines c.args.bytes.now (c.lines.ensures.rest ∙ c.in_ok-text.ensures.0))) c.enumerate-above-items.ensures.count) in
    let seen = YieldsList-end road c.loop-above.yielded _ c.loop-above.yielded_by _ _ c.in-None.is c.next.ensures.steps in
    let w = c.loop-above.writer in
    let named = i.3 ∙ c.new-writer.ensures.lender in
    let lent = fresh c.args.area.now _ _ c.new-writer.ensures.holds in
    let long : length c.tape.result.now ≡ w.used = ap length (c.tape.ensures.says c.new-writer.result.area.now i.0 i.2).0 ∙ sym i.2.1 in
    left_as c.args.bytes.now c.args.area.now c.new-writer.result.area.now w.area.now _ (Ok (length c.tape.result.now)) lent (search (rules, named)) (whole_text c.args.bytes.now c.loop-above.yielded c.new-writer.result.area.now w.area.now w.used (length c.tape.result.now) c.in_ok-text.ensures.1 (i.0, i.1, i.2) seen.0 long)

pub returns-in_err-text-clause-once : goal.returns-in_err-text-clause-once
returns-in_err-text-clause-once c = one_taping

pub returns-in_err-text-clause-back : goal.returns-in_err-text-clause-back
returns-in_err-text-clause-back c = gives_back

pub returns-in_err-add_line-clause-once : goal.returns-in_err-add_line-clause-once
returns-in_err-add_line-clause-once c = one_taping

pub returns-in_err-add_line-clause-back : goal.returns-in_err-add_line-clause-back
returns-in_err-add_line-clause-back c = gives_back

pub returns-clause-once : goal.returns-clause-once
returns-clause-once c = one_taping

pub returns-clause-back : goal.returns-clause-back
returns-clause-back c = gives_back
