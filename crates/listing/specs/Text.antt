-- The text of a line.
use Rattle.std.specs.Prelude.{ℕ, List, ◌++◌, Ok, Err, Result, codes, decimal}
use Rattle.refusal.specs.declared.Refusal.{Refusal}
use Rattle.refusal.specs.Numbers.{code, layer_of}
use Rattle.listing.specs.declared.lines.Line.{Line}
use Rattle.listing.specs.declared.lines.Reply.{Reply}
use Rattle.listing.specs.declared.lines.Reply.TheVariants.{Block, Nothing, Opened, Next, Counts}

-- what stands behind the place
abbrev pub outcome_text : Result Reply Refusal → List ℕ
outcome_text (Ok (Block b)) = codes " ok " ++ decimal b
outcome_text (Ok Nothing) = codes " none"
outcome_text (Ok Opened) = codes " ok"
outcome_text (Ok (Next n)) = codes " ok " ++ decimal n
outcome_text (Ok (Counts n)) = codes " tally " ++ (decimal n.waiting ++ (codes " " ++ (decimal n.out ++ (codes " " ++ (decimal n.settled ++ (codes " " ++ decimal n.condemned))))))
outcome_text (Err e) = codes " fault " ++ (decimal (layer_of (code e)) ++ (codes " " ++ decimal (code e)))

-- the whole line
abbrev pub line_text : Line → List ℕ
line_text l = decimal l.place ++ outcome_text l.outcome
