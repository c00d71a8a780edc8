-- What holds of a service that a life led to.
use Rattle.label.specs.declared.stream.StreamLabel.{StreamLabel}
use Rattle.map.specs.declared.Map.{Ghosts}
use Rattle.rules.specs.declared.Entry.{Entry}
use Rattle.rules.specs.declared.Position.{Position}
use Rattle.rules.specs.History.{History}
use Rattle.rules.specs.Lives.{Own, AllLabelled, calls}
use Rattle.rules.specs.Promise.{Life, InPlaces, StandsAs}
use Rattle.service.specs.declared.state.Service.{Service}
use Rattle.service.specs.Service.{ReachedBy, limits_of, standing}

module _ {L B S : Type 0} (bm : Ghosts B L Entry) (sm : Ghosts S StreamLabel Position) where
  -- every answer of the history h was right, every block is in its place, and the service s stands as the ledger of h has it
  pub record Promised (h : History) (s : Service L B S) : Type 0 where
    pub life : Life (limits_of bm sm s) h
    pub places : InPlaces (limits_of bm sm s) h
    pub stands : StandsAs (limits_of bm sm s) h (standing bm sm s)

  -- whatever history of own grants and of labels that exist led here
  abbrev pub PromisedAlways : Service L B S → Type 0
  PromisedAlways s = (h : History) → ReachedBy bm sm h s → Own h → AllLabelled (calls h) → Promised h s
