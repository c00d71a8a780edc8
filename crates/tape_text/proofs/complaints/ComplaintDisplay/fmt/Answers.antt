-- The two numbers stand where the text has them.
use Rattle.tape_text.proofs.complaints.ComplaintDisplay.fmt.Goals as goal

pub returns-in-BadNumber-clause-writes : goal.returns-in-BadNumber-clause-writes
returns-in-BadNumber-clause-writes g c = rw c.in-BadNumber.is c.write-in-BadNumber.ensures.writes
