-- What is wrong with a text, in words.
--   complaint_text e   what is wrong with a line
--   line_fault_text f  the number of the line, and what is wrong with it
-- Assumes nothing.
use Rattle.std.specs.Prelude.{ℕ, List, ◌++◌, cond, ◌==◌, codes, decimal}
use Rattle.tape_text.specs.declared.complaints.Complaint.{Complaint}
use Rattle.tape_text.specs.declared.complaints.Complaint.TheVariants.{NotText, UnknownWord, WrongCount, BadNumber, NoRoom}
use Rattle.tape_text.specs.declared.complaints.LineFault.{LineFault}

abbrev pub complaint_text : Complaint → List ℕ
complaint_text NotText = codes "the line is not UTF-8"
complaint_text UnknownWord = codes "the first word names no call (write, drop, spoil, read, trim, open, append, close, tally)"
complaint_text (WrongCount n) = codes "this call takes " ++ (decimal n ++ cond (n == 1) (codes " number") (codes " numbers"))
complaint_text (BadNumber w largest) = codes "word " ++ (decimal w ++ (codes " is not a decimal number from 0 to " ++ decimal largest))
complaint_text NoRoom = codes "the tape has no room for this call (refusal 17)"

abbrev pub line_fault_text : LineFault → List ℕ
line_fault_text f = codes "line " ++ (decimal f.line ++ (codes ": " ++ complaint_text f.complaint))
