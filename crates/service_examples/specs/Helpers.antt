-- What the tests' helpers ask of a service.
use Rattle.label.specs.declared.stream.StreamLabel.{StreamLabel}
use Rattle.map.specs.declared.Map.{Ghosts}
use Rattle.rules.specs.declared.Entry.{Entry}
use Rattle.rules.specs.declared.Position.{Position}
use Rattle.rules.specs.History.{History}
use Rattle.service.specs.declared.state.Service.{Service}
use Rattle.service.specs.Service.{ReachedBy}

-- a history led to it
abbrev pub Led : {L B S : Type 0} → Ghosts B L Entry → Ghosts S StreamLabel Position → Service L B S → Type 0
Led bm sm s = (h : History) × ReachedBy bm sm h s
