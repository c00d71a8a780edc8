-- The words that are kept are the first of the line.
use Rattle.std.proofs.Common.{◌==◌, not, length, take, filter, inl, inr, refl, lit<, ◌∙◌, ap, sym, arith}
use Rattle.std.proofs.lemmas.Iterator.Consumers.{YieldsList-at, YieldsList-end}
use Rattle.std.proofs.lemmas.Iterator.Splits.{YieldsList-from_str_split}
use Rattle.tape_text.proofs.Firsts.{kept_none, kept_seven, kept_more}
use Rattle.tape_text.proofs.lines.first_words.Goals as goal

pub loop-word-init : goal.loop-word-init
loop-word-init c = (omega arith, refl, refl)

pub loop-word-preserved-then-count-lt-MOST_WORDS : goal.loop-word-preserved-then-count-lt-MOST_WORDS
loop-word-preserved-then-count-lt-MOST_WORDS c = kept_more c.loop-word.words c.loop-word.yielded c.loop-word.count c.in-Some.word c.loop-word.invariant (ap not (sym c.is_empty.ensures ∙ c.if-not-is_empty.true)) c.if-count-lt-MOST_WORDS.true

pub loop-word-preserved : goal.loop-word-preserved
loop-word-preserved c = elim c.else-not-is_empty.either [
  | inl (some, many) ↦ kept_seven c.loop-word.words c.loop-word.yielded c.loop-word.count c.in-Some.word c.loop-word.invariant (λ l. omega (arith, l, many))
  | inr none ↦ kept_none c.loop-word.words c.loop-word.yielded c.loop-word.count c.in-Some.word c.loop-word.invariant (ap not (sym c.is_empty.ensures ∙ none))
]

pub returns : goal.returns
returns c =
    let i = c.loop-word.invariant in
    let road = YieldsList-at c.into_iter-word-iterator.ensures.into_iter_gives (YieldsList-from_str_split 32 c.args.line.now (lit< tt) c.split-word-items.ensures.text c.split-word-items.ensures.has_more c.split-word-items.ensures.pattern) in
    let all = (YieldsList-end road c.loop-word.yielded _ c.loop-word.yielded_by _ _ c.in-None.is c.next.ensures.steps).0 in
    (i.0, i.2 ∙ ap (λ ps. take 7 (filter (λ w. not (length w == 0)) ps)) all)
