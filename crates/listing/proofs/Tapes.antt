-- Each reading of a tape adds its line, and the log goes on.
use Rattle.std.proofs.Common.{◌≡◌, ℕ, ◌+◌, ◌*◌, ◌<◌, ◌≤◌, List, [], ◌∷◌, ◌++◌, Some, Ok, Err, Result, arith, sym, refl, ap, ◌∙◌, subst, append_assoc, append-nil}
use Rattle.std.proofs.Props.{props}
use Rattle.std.proofs.Math.Logic.{∥∥₁_elim, ∥∥₁_map}
use Rattle.std.specs.Iterator.{DrainsIf}
use Rattle.refusal.specs.declared.Refusal.{Refusal}
use Rattle.call_tape.specs.declared.calls.Call.{Call}
use Rattle.call_tape.specs.declared.faults.Fault.{Fault}
use Rattle.call_tape.specs.declared.fields.Reader.{Reader}
use Rattle.call_tape.specs.declared.fields.Reading.{Reading}
use Rattle.call_tape.specs.Fields.{Opened, Gives, most_from, most_readings}
use Rattle.call_tape.specs.Tapes.{Tape}
use Rattle.call_tape.proofs.Few.{gives_fewer, most_opened}
use Rattle.call_tape.proofs.Runs.{opened_reads, unopened_reads}
use Rattle.player.specs.Playing.{Event, history}
use Rattle.listing.specs.declared.lines.Line.{Line}
use Rattle.listing.specs.declared.lines.Reply.{Reply}
use Rattle.listing.specs.Plays.{Plays, nothing, call, fault}
use Rattle.listing.specs.Playing.{Came, Adds, PlaysOn, Played}

module _ (log : List Event) (old : List Line) where
  pub plays_none : PlaysOn log old [] old log
  plays_none = ∣ ([], [], nothing, sym (append-nil old), refl) ∣₁

  module _ (rs : List Reading) (lines lines' : List Line) (mid log' : List Event) (on : PlaysOn log old rs lines mid) where
    came_more : (p : ℕ) (x : Result Call Refusal) (o : Result Reply Refusal) → Came mid x o log' → lines' ≡ lines ++ record { place = p; outcome = o } ∷ []
        → PlaysOn log old (rs ++ record { place = p; outcome = x } ∷ []) lines' log'
    came_more p (Ok c) o came is = ∥∥₁_elim on (hlevel props) (λ z. ∥∥₁_map came (λ w. (
      z.0 ++ record { place = p; outcome = o } ∷ [],
      w.0 ++ z.1,
      call rs z.0 z.1 p c o w.0 z.2 w.1,
      is ∙ ap (λ ls. ls ++ record { place = p; outcome = o } ∷ []) z.3 ∙ append_assoc old z.0 (record { place = p; outcome = o } ∷ []),
      w.2 ∙ ap (λ h. w.0 ++ h) z.4 ∙ sym (append_assoc w.0 z.1 (history log)),
    )))
    came_more p (Err e) o (told, same) is = ∥∥₁_map on (λ z. (
      z.0 ++ record { place = p; outcome = o } ∷ [],
      z.1,
      subst (λ q. Plays (rs ++ record { place = p; outcome = Err e } ∷ []) (z.0 ++ record { place = p; outcome = q } ∷ []) z.1) (sym told) (fault rs z.0 z.1 p e z.2),
      is ∙ ap (λ ls. ls ++ record { place = p; outcome = o } ∷ []) z.3 ∙ append_assoc old z.0 (record { place = p; outcome = o } ∷ []),
      ap history same ∙ z.4,
    ))

    pub plays_more : (r : Reading) (l : Line) → Adds mid r l log' → lines' ≡ lines ++ l ∷ [] → PlaysOn log old (rs ++ r ∷ []) lines' log'
    plays_more r l adds is = came_more r.place r.outcome l.outcome adds.came (is ∙ (λ i. lines ++ record { place = adds.place i; outcome = l.outcome } ∷ []))

-- ---- the whole tape

module _ (T : List ℕ) (log₀ log log' : List Event) (old₀ old lines : List Line) (el : log ≡ log₀) (eo : old ≡ old₀) where
  -- from where the player stood, before room was made
  played : (rs : List Reading) → Tape T rs → PlaysOn log old rs lines log' → Played T log₀ old₀ lines log'
  played rs tape on = ∣ (rs, tape, subst (λ x. PlaysOn x old₀ rs lines log') el (subst (λ x. PlaysOn log x rs lines log') eo on)) ∣₁

  pub opened_played : (r : Reader) (rs : List Reading) → Opened T (Ok r) → DrainsIf Gives (Unit {0}) r rs → PlaysOn log old rs lines log' → Played T log₀ old₀ lines log'
  opened_played r rs o ran on = played rs (opened_reads T r rs o ran) on

  pub unopened_played : (f : Fault) (r : Reading) (l : Line) → Opened T (Err f) → r ≡ record { place = f.place; outcome = Err f.refusal } → Adds log r l log' → lines ≡ old ++ l ∷ [] → Played T log₀ old₀ lines log'
  unopened_played f r l o e adds is = played (r ∷ []) (unopened_reads T f _ o (ap (λ x. x ∷ []) e)) (plays_more log old [] old lines log log' (plays_none log old) r l adds is)

-- at the start of a tape, all its readings are still to come
pub opened_most : (T : List ℕ) (r : Reader) → Opened T (Ok r) → most_from r.tape.now r.place ≡ most_readings T
opened_most T r (few, same, start) = (λ i. most_from (same i) (start i)) ∙ sym (most_opened T few)

-- and with each there are fewer
pub fewer : (s t : Reader) (r : Reading) → Gives s (Some r) t → most_from t.tape.now t.place < most_from s.tape.now s.place
fewer s t r gives = subst (λ T. most_from T t.place < most_from s.tape.now s.place) (sym gives.0) (gives_fewer s t r gives)

-- room for two commands was used, and for a line
pub room_left : (a b r r' : ℕ) → a < b → 2 * b ≤ r → r ≤ r' + 2 → 2 * a ≤ r'
room_left a b r r' less room used = omega arith

pub lines_left : (a b n n' c c' : ℕ) → a < b → n + b ≤ c → n' ≡ n + 1 → c' ≡ c → n' + a ≤ c'
lines_left a b n n' c c' less room longer same = omega arith
