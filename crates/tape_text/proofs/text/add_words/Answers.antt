-- There is room for each number, since there is for all.
use Rattle.std.proofs.Common.{arith, ◌+◌, length, length-append, ap, take}
use Rattle.tape_text.specs.Calls.{spaced}
use Rattle.tape_text.proofs.Lengths.{room_for_more, number_more}
use Rattle.tape_text.proofs.text.add_words.Goals as goal

pub unwrap-requires-in-loop-number : goal.unwrap-requires-in-loop-number
unwrap-requires-in-loop-number c =
    c.push.ensures.succeeds (omega (arith, c.requires, rw c.unwrap.ensures at c.push_str.ensures.len, length-append c.args.word.now (spaced c.args.numbers.now), room_for_more c.args.numbers.now c.loop-number.number-index c.loop-number-test.true))

pub unwrap-requires-in-loop-number-2 : goal.unwrap-requires-in-loop-number-2
unwrap-requires-in-loop-number-2 c =
    c.push_str-in-loop-number.ensures.succeeds (omega (
      arith,
      c.requires,
      rw c.unwrap.ensures at c.push_str.ensures.len,
      rw c.unwrap-in-loop-number.ensures at c.push.ensures.len,
      length-append c.args.word.now (spaced c.args.numbers.now),
      room_for_more c.args.numbers.now c.loop-number.number-index c.loop-number-test.true,
      ap length c.format.ensures.text,
    ))

pub loop-number-preserved : goal.loop-number-preserved
loop-number-preserved c =
    let i = c.loop-number.number-index in
    let blank = rw (c.unwrap-in-loop-number.ensures, c.push.ensures.ascii (omega arith)) at c.push.ensures.bytes in
    let digits = rw c.unwrap-in-loop-number-2.ensures at c.push_str-in-loop-number.ensures.bytes in
    let more = number_more c.args.numbers.now i _ _ _ _ _ c.loop-number-test.true c.loop-number.invariant.0 blank digits c.format.ensures.text in
    let word = c.push_str.new.self.bytes in
    let now = c.push_str-in-loop-number.new.self.bytes in
    (more, omega (arith, ap length more, length-append word.items (spaced (take (i + 1) c.args.numbers.now)), word.ok.0, now.ok.0), omega arith)
