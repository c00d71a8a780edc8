-- A service that a life led to keeps what is promised.
use Rattle.label.specs.declared.stream.StreamLabel.{StreamLabel}
use Rattle.map.specs.declared.Map.{Ghosts}
use Rattle.rules.specs.declared.Entry.{Entry}
use Rattle.rules.specs.declared.Position.{Position}
use Rattle.rules.specs.History.{History}
use Rattle.rules.specs.Lives.{Own, AllLabelled, calls}
use Rattle.rules.proofs.Whole.{run_life, in_places, stands_as}
use Rattle.service.specs.declared.state.Service.{Service}
use Rattle.service.specs.Service.{ReachedBy, limits_of, standing}
use Rattle.service.specs.Promised.{Promised}

pub promised : {L B S : Type 0} (bm : Ghosts B L Entry) (sm : Ghosts S StreamLabel Position) (s : Service L B S) (h : History) → ReachedBy bm sm h s → Own h → AllLabelled (calls h) → Promised bm sm h s
promised bm sm s h reached own labels = record {
  life = run_life (limits_of bm sm s) h (standing bm sm s) reached.run own labels;
  places = in_places (limits_of bm sm s) h (standing bm sm s) reached.run;
  stands = stands_as (limits_of bm sm s) h (standing bm sm s) reached.run;
}
