-- A host's write, as a part of a history.
use Rattle.std.specs.Prelude.{◌≡◌, ℕ, Bool, true, false, ◌∷◌, None, Ok, Err, Option, Result}
use Rattle.refusal.specs.declared.Refusal.{Refusal}
use Rattle.label.specs.declared.stream.StreamLabel.{StreamLabel}
use Rattle.map.specs.declared.Map.{Ghosts}
use Rattle.rules.specs.declared.Entry.{Entry}
use Rattle.rules.specs.declared.Position.{Position}
use Rattle.rules.specs.declared.Call.TheVariants.{Begin as begin}
use Rattle.rules.specs.declared.Answer.TheVariants.{Refused as refused}
use Rattle.rules.specs.History.{History}
use Rattle.service.specs.declared.entry.Ending.{Ending}
use Rattle.service.specs.declared.entry.Ending.TheVariants.{Commit, Condemn}
use Rattle.service.specs.declared.grant.Grant.{Grant}
use Rattle.service.specs.declared.state.Service.{Service}
use Rattle.service.specs.Service.{ReachedBy, ReachedByBoth}

-- a block that took the data is committed, and one that failed is condemned
abbrev pub ending_of : Bool → Ending
ending_of true = Commit
ending_of false = Condemn

-- after the history h, the write of n answers r and leaves the service t; its ending is never refused
module _ {L B S : Type 0} (bm : Ghosts B L Entry) (sm : Ghosts S StreamLabel Position) where
  abbrev pub Programs : History → ℕ → Bool → Result ℕ (Refusal × Option Grant) → Service L B S → Type 0
  Programs h n took (Ok b) t = ReachedByBoth bm sm h (ending_of took) n (Ok b) t
  Programs h n took (Err e) t = (e.1 ≡ None) × ReachedBy bm sm ((begin n, refused e.0) ∷ h) t
