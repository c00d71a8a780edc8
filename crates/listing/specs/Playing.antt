-- What a tape does to a player. ∥ X ∥₁ says that there is an X.
use Rattle.std.specs.Prelude.{◌≡◌, ℕ, List, ◌++◌, Ok, Err, Some, None, Option, Result}
use Rattle.refusal.specs.declared.Refusal.{Refusal}
use Rattle.rules.specs.declared.GrantId.{GrantId}
use Rattle.rules.specs.declared.Call.{Call as RulesCall}
use Rattle.rules.specs.declared.Answer.{Answer}
use Rattle.rules.specs.declared.Answer.TheVariants.{Granted as granted}
use Rattle.rules.specs.History.{History}
use Rattle.service.specs.declared.entry.Ending.{Ending}
use Rattle.service.specs.declared.entry.Ending.TheVariants.{Commit, Abandon, Condemn}
use Rattle.service.specs.Service.{end_call}
use Rattle.player.specs.declared.command.Command.{Command}
use Rattle.player.specs.declared.command.Command.TheVariants as command
use Rattle.player.specs.Playing.{Event, history, asked}
use Rattle.call_tape.specs.declared.calls.Call.{Call}
use Rattle.call_tape.specs.declared.fields.Reading.{Reading}
use Rattle.call_tape.specs.Tapes.{Tape}
use Rattle.listing.specs.declared.lines.Line.{Line}
use Rattle.listing.specs.declared.lines.Reply.{Reply}
use Rattle.listing.specs.Plays.{Programs, Requests, Tells, Plays}

-- the log goes on by the history new
abbrev pub GrowsBy : List Event → History → List Event → Type 0
GrowsBy log new log' = history log' ≡ new ++ history log

-- ---- one call

-- the call of a command that ends no grant; none of another
abbrev pub request_of : Command → Option RulesCall
request_of c = asked (λ n. None) c

-- the commands that ask for a grant
abbrev pub Giving : Command → Type 0
Giving (command.Begin n) = Unit {0}
Giving (command.Append l) = Unit {0}
Giving c = ⊥

-- the grant that an answer gives
abbrev pub grant_in : Answer → Option GrantId
grant_in (granted g) = Some g
grant_in a = None

-- the command that ends the grant for n
abbrev pub ending_of : Ending → ℕ → Command
ending_of Commit n = command.Commit n
ending_of Abandon n = command.Abandon n
ending_of Condemn n = command.Condemn n

abbrev pub Programmed : List Event → Command → Ending → Result Reply Refusal → List Event → Type 0
Programmed log c k o log' = ∥ ((x : RulesCall) × (request_of c ≡ Some x) × (new : History) × Programs x (end_call k) o new × GrowsBy log new log') ∥₁

abbrev pub Requested : List Event → Command → Result Reply Refusal → List Event → Type 0
Requested log c o log' = ∥ ((x : RulesCall) × (request_of c ≡ Some x) × (new : History) × Requests x o new × GrowsBy log new log') ∥₁

abbrev pub Obeyed : List Event → Call → Result Reply Refusal → List Event → Type 0
Obeyed log c o log' = ∥ ((new : History) × Tells c o new × GrowsBy log new log') ∥₁

-- ---- one reading, and a whole tape

abbrev pub Came : List Event → Result Call Refusal → Result Reply Refusal → List Event → Type 0
Came log (Ok c) o log' = Obeyed log c o log'
Came log (Err e) o log' = (o ≡ Err e) × (log' ≡ log)

pub record Adds (log : List Event) (r : Reading) (l : Line) (log' : List Event) : Type 0 where
  pub place : l.place ≡ r.place
  pub came : Came log r.outcome l.outcome log'

-- the readings so far added lines behind those that were there, and calls to the log
abbrev pub PlaysOn : List Event → List Line → List Reading → List Line → List Event → Type 0
PlaysOn log old rs lines log' =
    ∥ ((ls : List Line) × (new : History) × Plays rs ls new × (lines ≡ old ++ ls) × GrowsBy log new log') ∥₁

-- the tape T did
abbrev pub Played : List ℕ → List Event → List Line → List Line → List Event → Type 0
Played T log old lines log' = ∥ ((rs : List Reading) × Tape T rs × PlaysOn log old rs lines log') ∥₁
