-- What a whole tape is to a service: the lines tell a history.
use Rattle.std.specs.Prelude.{◌≡◌, ℕ, ◌⊎◌, List, [], ◌∷◌, ◌++◌, Some, Ok, Err, Result}
use Rattle.refusal.specs.declared.Refusal.{Refusal}
use Rattle.rules.specs.declared.GrantId.{GrantId}
use Rattle.rules.specs.declared.Call.{Call as RulesCall}
use Rattle.rules.specs.declared.Call.TheVariants.{Begin as begin, Append as append, Commit as commit, Abandon as abandon, Condemn as condemn, Read as read, Trim as trim, Open as open_stream, Close as close_stream, Tally as tally}
use Rattle.rules.specs.declared.Answer.{Answer}
use Rattle.rules.specs.declared.Answer.TheVariants.{Granted as granted, Block as block, Refused as refused}
use Rattle.rules.specs.History.{History}
use Rattle.service.specs.Service.{label_number}
use Rattle.call_tape.specs.declared.calls.Call.{Call}
use Rattle.call_tape.specs.declared.calls.Call.TheVariants.{Write, Drop, Spoil, Read, Trim, Open, Append, Close, Tally}
use Rattle.call_tape.specs.declared.fields.Reading.{Reading}
use Rattle.listing.specs.declared.lines.Line.{Line}
use Rattle.listing.specs.declared.lines.Reply.{Reply}
use Rattle.listing.specs.declared.lines.Reply.TheVariants.{Block}
use Rattle.listing.specs.Lines.{outcome}

-- ---- one call; a history stands newest first

-- the call c gives a grant, which is ended by k at once, and the outcome is its block; or it is refused
abbrev pub Programs : RulesCall → (GrantId → RulesCall) → Result Reply Refusal → History → Type 0
Programs c k o new =
    ((g : GrantId) × (new ≡ (k g, block (Some g.block)) ∷ ((c, granted g) ∷ [])) × (o ≡ Ok (Block g.block)))
    ⊎ ((e : Refusal) × (new ≡ (c, refused e) ∷ []) × (o ≡ Err e))

-- the call c is answered, and the outcome tells the answer
abbrev pub Requests : RulesCall → Result Reply Refusal → History → Type 0
Requests c o new = (a : Answer) × (new ≡ (c, a) ∷ []) × (o ≡ outcome a)

-- the call of a tape, with the outcome o, stands for the calls and answers new
abbrev pub Tells : Call → Result Reply Refusal → History → Type 0
Tells (Write n) o new = Programs (begin n) commit o new
Tells (Drop n) o new = Programs (begin n) abandon o new
Tells (Spoil n) o new = Programs (begin n) condemn o new
Tells (Append l) o new = Programs (append (label_number l)) commit o new
Tells (Read n) o new = Requests (read n) o new
Tells (Trim n) o new = Requests (trim n) o new
Tells (Open x) o new = Requests (open_stream (label_number x.stream) x.first x.length) o new
Tells (Close l) o new = Requests (close_stream (label_number l)) o new
Tells Tally o new = Requests tally o new

-- ---- all readings, the last one last

-- a fault of the tape itself stands in its line, and is no call
pub data Plays : List Reading → List Line → History → Type 0 where
  nothing : Plays [] [] []
  call : (rs : List Reading) (ls : List Line) (h : History) (p : ℕ) (c : Call) (o : Result Reply Refusal) (new : History) → Plays rs ls h → Tells c o new
      → Plays (rs ++ record { place = p; outcome = Ok c } ∷ []) (ls ++ record { place = p; outcome = o } ∷ []) (new ++ h)
  fault : (rs : List Reading) (ls : List Line) (h : History) (p : ℕ) (e : Refusal) → Plays rs ls h
      → Plays (rs ++ record { place = p; outcome = Err e } ∷ []) (ls ++ record { place = p; outcome = Err e } ∷ []) h
