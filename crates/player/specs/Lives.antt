-- What a player's type keeps, and what its calls promise. ∥ X ∥₁ says that there is an X.
use Rattle.std.specs.Prelude.{◌≡◌, ℕ, ◌⊎◌, List, [], ◌++◌, ◌∷◌, length, Some, None, Ok, Err, Option, Result, OnOk}
use Rattle.std.specs.Borrow.{MutBor}
use Rattle.std.specs.declared.alloc.AllocError.{AllocError}
use Rattle.refusal.specs.declared.Refusal.{Refusal}
use Rattle.refusal.specs.declared.Refusal.TheVariants.{BadSize, MapNotEmpty}
use Rattle.label.specs.declared.stream.StreamLabel.{StreamLabel}
use Rattle.map.specs.declared.Map.{Ghosts}
use Rattle.ring.specs.Queue.{places}
use Rattle.rules.specs.declared.Entry.{Entry}
use Rattle.rules.specs.declared.Position.{Position}
use Rattle.rules.specs.History.{ledger}
use Rattle.rules.specs.Promise.{StandSame, SameAnswers}
use Rattle.service.specs.declared.grant.Grant.{Grant}
use Rattle.service.specs.declared.pool.Mark.{Mark}
use Rattle.service.specs.declared.state.Service.{Service}
use Rattle.service.specs.Service.{limits_of}
use Rattle.service.specs.Making.{Sizes, BothEmpty, Looked}
use Rattle.service.specs.Promised.{Promised}
use Rattle.player.specs.declared.command.Command.{Command}
use Rattle.player.specs.Hands.{Holds}
use Rattle.player.specs.Playing.{Event, history, WritesDown, Follows, ReachedWith, given_up}

-- ---- one player

module _ {L B S : Type 0} (bm : Ghosts B L Entry) (sm : Ghosts S StreamLabel Position) where
  -- the log is a life on the service, and the grants held are those out
  abbrev pub Lives : Service L B S → List Grant → List Event → Type 0
  Lives s gs log = ∥ ReachedWith bm sm (history log) s gs ∥₁

  -- what holds after the log
  abbrev pub Holding : Service L B S → List Event → Type 0
  Holding s log = ∥ Promised bm sm (history log) s ∥₁

  -- why no player is made: the sizes, and then a map that holds a pair
  abbrev pub Refused : ℕ → ℕ → ℕ → B → S → Refusal → Type 0
  Refused p m n b t e =
      ((e ≡ BadSize) × (Sizes p m n → ⊥)) ⊎ ((e ≡ MapNotEmpty) × Sizes p m n × (BothEmpty bm sm b t → ⊥))

  -- a player just made, of allowed sizes and empty maps: over these areas, the bound n and these maps, with nothing written down and no grant
  pub record Made (cells : MutBor (List ℕ)) (marks : MutBor (List Mark)) (n : ℕ) (b : B) (t : S) (s : Service L B S) (gs : List Grant) (log : List Event) : Type 0 where
    pub sizes : Sizes (length cells.now) (length marks.now) n
    pub empty : BothEmpty bm sm b t
    pub limit : s.limit ≡ n
    pub blocks : places s.pool ≡ length cells.now
    pub pool_area : s.pool.cells.ghost_name ≡ cells.ghost_name
    pub marks_area : s.marks.cells.ghost_name ≡ marks.ghost_name
    pub entries : Looked bm b s.entries
    pub streams : Looked sm t s.streams
    pub hand : gs ≡ []
    pub blank : log ≡ []

  -- the service of a player that is not made: it answers every call with the refusal e, its areas are as they were, and its maps keep pairs and fits
  pub record Handed (cells : MutBor (List ℕ)) (marks : MutBor (List Mark)) (b : B) (t : S) (e : Refusal) (s : Service L B S) : Type 0 where
    pub refuses : s.fault ≡ Some e
    pub pool_area : s.pool.cells.ghost_name ≡ cells.ghost_name
    pub marks_area : s.marks.cells.ghost_name ≡ marks.ghost_name
    pub cells_left : s.pool.cells.now ≡ cells.now
    pub marks_left : s.marks.cells.now ≡ marks.now
    pub entries : Looked bm b s.entries
    pub streams : Looked sm t s.streams

  -- the grants gs are those out by the log, and they are abandoned, the last first: these calls and answers led to the service t, which holds what is promised, and has none out
  abbrev pub GivesUp : Service L B S → List Grant → List Event → Service L B S → Type 0
  GivesUp s gs log t = ∥ (Holds (ledger (places s.pool) (history log)).out gs × ReachedWith bm sm (given_up gs (history log)) t [] × Promised bm sm (given_up gs (history log)) t) ∥₁

-- one command: the line that it wrote down, if it asked for a call; nothing where memory ran out
abbrev pub Line : ℕ → List Event → Command → Result (Option Event) AllocError → List Event → Type 0
Line p log c (Ok o) log' = ∥ WritesDown p log c o log' ∥₁
Line p log c (Err e) log' = log' ≡ log

abbrev pub added : List Event → Option Event → List Event
added log None = log
added log (Some e) = log ++ e ∷ []

-- a list of commands: all of their lines, in order
abbrev pub Lines : ℕ → List Event → List Command → Result (Unit {0}) AllocError → List Event → Type 0
Lines p log cs r log' = ∥ OnOk r (Follows p log cs log') ∥₁

-- ---- two players, over maps of any four kinds

module _ {L B S M C T : Type 0} (bm : Ghosts B L Entry) (sm : Ghosts S StreamLabel Position) (cm : Ghosts C M Entry) (tm : Ghosts T StreamLabel Position) where
  -- equal sizes, fits, ledgers and streams after the logs
  abbrev pub Same : Service L B S → List Event → Service M C T → List Event → Type 0
  Same a la b lb = StandSame (limits_of bm sm a) (history la) (limits_of cm tm b) (history lb)

  abbrev pub Equal : Service L B S → List Event → Service M C T → List Event → Type 0
  Equal a la b lb = ∥ Same a la b lb ∥₁

  -- every further list has the same answers on both
  abbrev pub Onwards : Service L B S → List Event → Service M C T → List Event → Type 0
  Onwards a la b lb = ∥ SameAnswers (limits_of bm sm a) (history la) (limits_of cm tm b) (history lb) ∥₁

-- two logs grew by the same calls with the same answers
abbrev pub SameEvents : List Event → List Event → List Event → List Event → Type 0
SameEvents log log' other other' = (new : List Event) × (log' ≡ log ++ new) × (other' ≡ other ++ new)

abbrev pub OneList : Result (Unit {0}) AllocError → List Event → List Event → List Event → List Event → Type 0
OneList r log log' other other' = ∥ OnOk r (SameEvents log log' other other') ∥₁
