use Rattle.std.proofs.Common.{[], arith}
use Rattle.label.specs.declared.stream.StreamLabel.{StreamLabel}
use Rattle.call_tape.specs.declared.calls.Opening.{Opening}
use Rattle.call_tape.specs.declared.calls.Call.TheVariants.{Write, Drop, Spoil, Read, Trim, Open, Append, Close, Tally}
use Rattle.tape_text.specs.Calls.{numbers, unknown}
use Rattle.tape_text.proofs.Reading.{miscounted, unlike, wrong_exit}
use Rattle.tape_text.proofs.lines.said_by.Goals as goal

-- the word alone says how many numbers there are, so any call of that word will do
abbrev some_label : StreamLabel
some_label = record { port = 0; channel = 0; session = 0 }

abbrev some_opening : Opening
some_opening = record { stream = some_label; first = 0; length = 0 }

pub returns-in_err-number_in-in-write : goal.returns-in_err-number_in-in-write
returns-in_err-number_in-in-write c = wrong_exit (Write 0) _ _ _ _ c.in-write.is c.from_residual.ensures.1 c.in_err-number_in-in-write.ensures

pub returns-in_err-number_in-in-drop : goal.returns-in_err-number_in-in-drop
returns-in_err-number_in-in-drop c = wrong_exit (Drop 0) _ _ _ _ c.in-drop.is c.from_residual-in_err-number_in-in-drop.ensures.1 c.in_err-number_in-in-drop.ensures

pub returns-in_err-number_in-in-spoil : goal.returns-in_err-number_in-in-spoil
returns-in_err-number_in-in-spoil c = wrong_exit (Spoil 0) _ _ _ _ c.in-spoil.is c.from_residual-in_err-number_in-in-spoil.ensures.1 c.in_err-number_in-in-spoil.ensures

pub returns-in_err-number_in-in-read : goal.returns-in_err-number_in-in-read
returns-in_err-number_in-in-read c = wrong_exit (Read 0) _ _ _ _ c.in-read.is c.from_residual-in_err-number_in-in-read.ensures.1 c.in_err-number_in-in-read.ensures

pub returns-in_err-number_in-in-trim : goal.returns-in_err-number_in-in-trim
returns-in_err-number_in-in-trim c = wrong_exit (Trim 0) _ _ _ _ c.in-trim.is c.from_residual-in_err-number_in-in-trim.ensures.1 c.in_err-number_in-in-trim.ensures

pub returns-in_err-opening_in-in-open : goal.returns-in_err-opening_in-in-open
returns-in_err-opening_in-in-open c = wrong_exit (Open some_opening) _ _ _ _ c.in-open.is c.from_residual-in_err-opening_in-in-open.ensures.1 c.in_err-opening_in-in-open.ensures

pub returns-in_err-stream_in-in-append : goal.returns-in_err-stream_in-in-append
returns-in_err-stream_in-in-append c = wrong_exit (Append some_label) _ _ _ _ c.in-append.is c.from_residual-in_err-stream_in-in-append.ensures.1 c.in_err-stream_in-in-append.ensures

pub returns-in_err-stream_in-in-close : goal.returns-in_err-stream_in-in-close
returns-in_err-stream_in-in-close c = wrong_exit (Close some_label) _ _ _ _ c.in-close.is c.from_residual-in_err-stream_in-in-close.ensures.1 c.in_err-stream_in-in-close.ensures

pub returns-in_default-words : goal.returns-in_default-words
returns-in_default-words c = numbers Tally _ _ _ c.in-tally.is (miscounted [] c.args.words.now (omega arith))

pub returns-in_default : goal.returns-in_default
returns-in_default c = let d = c.in_default in unknown _ _ (unlike _ d.not-write d.not-drop d.not-spoil d.not-read d.not-trim d.not-open d.not-append d.not-close d.not-tally)
