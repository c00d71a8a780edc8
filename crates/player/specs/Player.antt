-- A player as its callers see it, and what its calls promise.
use Rattle.std.specs.Prelude.{◌≡◌, ℕ, List, Option, Result}
use Rattle.std.specs.Borrow.{MutBor}
use Rattle.std.specs.declared.alloc.AllocError.{AllocError}
use Rattle.label.specs.declared.stream.StreamLabel.{StreamLabel}
use Rattle.label.specs.declared.Label.{Ghosts as Label}
use Rattle.map.specs.declared.Map.{Ghosts}
use Rattle.ring.specs.Queue.{places}
use Rattle.rules.specs.declared.Entry.{Entry}
use Rattle.rules.specs.declared.Position.{Position}
use Rattle.rules.specs.Calls.{Limits}
use Rattle.service.specs.declared.grant.Grant.{Grant}
use Rattle.service.specs.declared.pool.Mark.{Mark}
use Rattle.service.specs.declared.state.Service.{Service}
use Rattle.service.specs.Service.{Fixed, limits_of}
use Rattle.player.specs.declared.command.Command.{Command}
use Rattle.player.specs.declared.life.Player.{Player}
use Rattle.player.specs.Hands.{room}
use Rattle.player.specs.Playing.{Event}
use Rattle.player.specs.Lives.{Holding, Made, GivesUp, Line, Lines, Equal, OneList, Onwards}

module _ {L B S : Type 0} {kind : Label L} {bm : Ghosts B L Entry} {sm : Ghosts S StreamLabel Position} where
  -- the service that it plays on
  abbrev pub service_of : Player L B S kind bm sm → Service L B S
  service_of p = p.service

  -- the grants that it holds
  abbrev pub grants_of : Player L B S kind bm sm → List Grant
  grants_of p = p.held.items

  -- every call so far with its answer, the oldest first
  abbrev pub log_of : Player L B S kind bm sm → List Event
  log_of p = p.log.items

  -- how many more commands it has room for
  abbrev pub room_of : Player L B S kind bm sm → ℕ
  room_of p = room p.held p.log

  -- the sizes, and the fits of the maps
  abbrev pub limits_in : Player L B S kind bm sm → Limits
  limits_in p = limits_of bm sm (service_of p)

  abbrev pub blocks_of : Player L B S kind bm sm → ℕ
  blocks_of p = places (service_of p).pool

  -- a player just made over two areas, the bound n and two maps
  abbrev pub IsMade : MutBor (List ℕ) → MutBor (List Mark) → ℕ → B → S → Player L B S kind bm sm → Type 0
  IsMade cells marks n b t q = Made bm sm cells marks n b t (service_of q) (grants_of q) (log_of q)

  -- what was asked, and that all of it was right
  abbrev pub HoldsPromise : Player L B S kind bm sm → Type 0
  HoldsPromise p = Holding bm sm (service_of p) (log_of p)

  module _ (p : Player L B S kind bm sm) where
    -- one command, answered by r, takes the player p to q
    abbrev pub WritesLine : Command → Result (Option Event) AllocError → Player L B S kind bm sm → Type 0
    WritesLine c r q = Line (blocks_of p) (log_of p) c r (log_of q)

    -- a list of commands does
    abbrev pub WritesLines : List Command → Result (Unit {0}) AllocError → Player L B S kind bm sm → Type 0
    WritesLines cs r q = Lines (blocks_of p) (log_of p) cs r (log_of q)

    -- sizes, areas and fits stay
    abbrev pub SizesStay : Player L B S kind bm sm → Type 0
    SizesStay q = Fixed bm sm (service_of p) (service_of q)

    -- service, grants and log stay: nothing was asked
    pub record Unasked (q : Player L B S kind bm sm) : Type 0 where
      pub service : service_of q ≡ service_of p
      pub grants : grants_of q ≡ grants_of p
      pub log : log_of q ≡ log_of p

    -- what was still out is abandoned, and the service is then t
    abbrev pub AbandonsAll : Service L B S → Type 0
    AbandonsAll t = GivesUp bm sm (service_of p) (grants_of p) (log_of p) t

-- ---- two players, over maps of any four kinds

module _ {L B S M C T : Type 0} {kind : Label L} {bm : Ghosts B L Entry} {sm : Ghosts S StreamLabel Position} {other : Label M} {cm : Ghosts C M Entry} {tm : Ghosts T StreamLabel Position} where
  -- equal sizes, fits, ledgers and streams
  abbrev pub AreEqual : Player L B S kind bm sm → Player M C T other cm tm → Type 0
  AreEqual p q = Equal bm sm cm tm (service_of p) (log_of p) (service_of q) (log_of q)

  -- from p and q to p' and q' both made the same calls, and got the same answers
  abbrev pub GoAlike : Result (Unit {0}) AllocError → Player L B S kind bm sm → Player L B S kind bm sm → Player M C T other cm tm → Player M C T other cm tm → Type 0
  GoAlike r p p' q q' = OneList r (log_of p) (log_of p') (log_of q) (log_of q')

  -- every further list has the same answers on both
  abbrev pub GoOnAlike : Player L B S kind bm sm → Player M C T other cm tm → Type 0
  GoOnAlike p q = Onwards bm sm cm tm (service_of p) (log_of p) (service_of q) (log_of q)
