-- A list of commands, one after the other.
use Rattle.std.proofs.Common.{◌≡◌, List, [], ◌∷◌, ◌++◌, Some, None, Option, sym, refl, ap, ◌∙◌, subst}
use mathlib.Core.Path.{fun_ext}
use Rattle.label.specs.declared.stream.StreamLabel.{StreamLabel}
use Rattle.map.specs.declared.Map.{Ghosts}
use Rattle.ring.specs.Queue.{places}
use Rattle.rules.specs.declared.Entry.{Entry}
use Rattle.rules.specs.declared.Position.{Position as Spot}
use Rattle.service.specs.declared.grant.Grant.{Grant}
use Rattle.service.specs.declared.state.Service.{Service}
use Rattle.service.specs.Service.{Fixed}
use Rattle.service.proofs.Fixed.{fixed_none, fixed_more}
use Rattle.player.specs.declared.command.Command.{Command}
use Rattle.player.specs.Playing.{asked, ReachedWith, Event, history, WritesDown, Follows, Asks, Obeys, Plays}
use Rattle.player.specs.Lives.{added}
use Rattle.player.specs.Playing.Follows.{nothing, further}

pub history_last : (log : List Event) (e : Event) → history (log ++ e ∷ []) ≡ e ∷ history log
history_last [] e = refl
history_last (x ∷ xs) e = ap (λ h. h ++ x ∷ []) (history_last xs e)

module _ {L B S : Type 0} (bm : Ghosts B L Entry) (sm : Ghosts S StreamLabel Spot) where
  -- what was obeyed is written down
  pub asks_of : (s t : Service L B S) (gs gs' : List Grant) (log log' : List Event) (c : Command) (o : Option Event) → Obeys bm sm s gs c o t gs' → log' ≡ added log o → Asks bm sm s gs log c o t gs' log'
  asks_of s t gs gs' log log' c (Some e) (is, fixed, goes) written = record {
    fixed = fixed;
    lives = λ stood. (
      subst (λ h. ReachedWith bm sm h t gs') (sym (history_last log e) ∙ ap history (sym written)) (goes (history log) stood),
      (ap (λ f. asked f c) (sym (fun_ext stood.holds.all)) ∙ is, written),
    );
  }
  asks_of s t gs gs' log log' c None (is, et, eg) written = record {
    fixed = subst (Fixed bm sm s) (sym et) (fixed_none bm sm s);
    lives = λ stood. (
      subst (λ xs. ReachedWith bm sm (history xs) t gs') (sym written) (subst (λ x. ReachedWith bm sm (history log) x gs') (sym et) (subst (λ xs. ReachedWith bm sm (history log) s xs) (sym eg) stood)),
      (ap (λ f. asked f c) (sym (fun_ext stood.holds.all)) ∙ is, written),
    );
  }

  pub plays_none : (s : Service L B S) (gs : List Grant) (log : List Event) → Plays bm sm s gs log [] s gs log
  plays_none s gs log = record { fixed = fixed_none bm sm s; lives = λ stood. (stood, nothing) }

  -- the commands so far are the first ones of a list
  pub plays_more : (s t u : Service L B S) (gs gs' gs₂ : List Grant) (log log' log₂ : List Event) (cs ds : List Command) (c : Command) (o : Option Event) → ds ≡ cs ++ c ∷ [] → Plays bm sm s gs log cs t gs' log' → Asks bm sm t gs' log' c o u gs₂ log₂
      → Plays bm sm s gs log ds u gs₂ log₂
  plays_more s t u gs gs' gs₂ log log' log₂ cs ds c o is plays asks = record {
    fixed = fixed_more bm sm s t u plays.fixed asks.fixed;
    lives = λ stood.
        let before = plays.lives stood in
        let after = asks.lives before.0 in
        (after.0, subst (λ z. Follows (places s.pool) log z log₂) (sym is) (further cs log' c o log₂ before.1 (subst (λ p. WritesDown p log' c o log₂) plays.fixed.places after.1)));
  }
