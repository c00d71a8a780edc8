-- What the listing tells of an answer.
use Rattle.std.specs.Prelude.{ℕ, Some, None, Ok, Err, Option, Result}
use Rattle.refusal.specs.declared.Refusal.{Refusal}
use Rattle.rules.specs.declared.Answer.{Answer}
use Rattle.rules.specs.declared.Answer.TheVariants.{Granted as granted, Block as block, Opened as opened, Closed as closed, Stands as stands, Counts as counts, Refused as refused}
use Rattle.listing.specs.declared.lines.Reply.{Reply}
use Rattle.listing.specs.declared.lines.Reply.TheVariants.{Block, Nothing, Opened, Next, Counts}

-- the reply to a read or a trim
abbrev pub reply_of : Option ℕ → Reply
reply_of (Some b) = Block b
reply_of None = Nothing

-- a refusal stands as it is
abbrev pub outcome : Answer → Result Reply Refusal
outcome (granted g) = Ok (Block g.block)
outcome (block o) = Ok (reply_of o)
outcome opened = Ok Opened
outcome (closed n) = Ok (Next n)
outcome (stands p) = Ok (Next p.next)
outcome (counts n) = Ok (Counts n)
outcome (refused e) = Err e
