-- Two services that obey the same commands.
use Rattle.std.specs.Prelude.{List}
use Rattle.label.specs.declared.stream.StreamLabel.{StreamLabel}
use Rattle.map.specs.declared.Map.{Ghosts}
use Rattle.rules.specs.declared.Entry.{Entry}
use Rattle.rules.specs.declared.Position.{Position}
use Rattle.service.specs.declared.grant.Grant.{Grant}
use Rattle.service.specs.declared.state.Service.{Service}
use Rattle.player.specs.Playing.{Event, history, ReachedWith}
use Rattle.player.specs.Lives.{Same, SameEvents}

module _ {L B S M C T : Type 0} (bm : Ghosts B L Entry) (sm : Ghosts S StreamLabel Position) (cm : Ghosts C M Entry) (tm : Ghosts T StreamLabel Position) where
  -- where both stood the same after their logs, the logs grew by the same calls with the same answers, and both stand the same again
  abbrev pub PlayAlike : Service L B S → List Grant → List Event → Service L B S → List Event → Service M C T → List Grant → List Event → Service M C T → List Event → Type 0
  PlayAlike a ga la a' la' b gb lb b' lb' =
      ReachedWith bm sm (history la) a ga → ReachedWith cm tm (history lb) b gb → Same bm sm cm tm a la b lb → Same bm sm cm tm a' la' b' lb' × SameEvents la la' lb lb'
