-- The life of one entry, as a relation.
--   event_of k b     the event by which the ending k of a grant of the block b shows at its entry
--   Turns e v r      the event v at the entry e gives the turn r, or none where e does not allow it
-- Assumes nothing.
use Rattle.std.specs.Prelude.{◌≡◌, ℕ, ◌≢◌, Some, None, Option}
use Rattle.rules.specs.declared.Entry.{Entry}
use Rattle.rules.specs.declared.Entry.TheVariants.{Settled}
use Rattle.rules.specs.Rules.{out_of, settled_of, entry}
use Rattle.service.specs.declared.entry.Event.{Event}
use Rattle.service.specs.declared.entry.Event.TheVariants.{Begin, Commit, Abandon, Condemn, Trim}
use Rattle.service.specs.declared.entry.Ending.{Ending}
use Rattle.service.specs.declared.entry.Ending.TheVariants as ending
use Rattle.service.specs.declared.entry.Turn.{Turn}

abbrev pub event_of : Ending → ℕ → Event
event_of ending.Commit b = Commit b
event_of ending.Abandon b = Abandon b
event_of ending.Condemn b = Condemn b

abbrev pub Turns : Option Entry → Event → Option Turn → Type 0
Turns e (Begin b) None = out_of e ≢ None
Turns e (Begin b) (Some t) = (out_of e ≡ None) × (t.entry ≡ entry (settled_of e) (Some b)) × (t.back ≡ None) × (t.lost ≡ None)
Turns e (Commit b) None = out_of e ≢ Some b
Turns e (Commit b) (Some t) = (out_of e ≡ Some b) × (t.entry ≡ Some (Settled b)) × (t.back ≡ settled_of e) × (t.lost ≡ None)
Turns e (Abandon b) None = out_of e ≢ Some b
Turns e (Abandon b) (Some t) = (out_of e ≡ Some b) × (t.entry ≡ entry (settled_of e) None) × (t.back ≡ Some b) × (t.lost ≡ None)
Turns e (Condemn b) None = out_of e ≢ Some b
Turns e (Condemn b) (Some t) = (out_of e ≡ Some b) × (t.entry ≡ entry (settled_of e) None) × (t.back ≡ None) × (t.lost ≡ Some b)
Turns e Trim None = out_of e ≢ None
Turns e Trim (Some t) = (out_of e ≡ None) × (t.entry ≡ None) × (t.back ≡ settled_of e) × (t.lost ≡ None)
