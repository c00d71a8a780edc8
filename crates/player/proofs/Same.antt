-- Two services that stand the same go on alike.
use Rattle.std.proofs.Common.{◌≡◌, List, [], ◌∷◌, ◌++◌, Some, None, Option, sym, ap, ◌∙◌, subst, append_assoc, append-nil}
use mathlib.Core.Path.{fun_ext}
use Rattle.label.specs.declared.stream.StreamLabel.{StreamLabel}
use Rattle.map.specs.declared.Map.{Ghosts}
use Rattle.ring.specs.Queue.{places}
use Rattle.rules.specs.declared.Entry.{Entry}
use Rattle.rules.specs.declared.Position.{Position}
use Rattle.rules.specs.declared.Call.{Call}
use Rattle.rules.specs.Calls.{Limits, limits}
use Rattle.rules.specs.History.{ledger}
use Rattle.rules.specs.Lives.{streams, AllLabelled, calls}
use Rattle.rules.specs.Right.{RightAnswer}
use Rattle.rules.specs.Promise.{StandSame}
use Rattle.rules.proofs.Places.{some_one, some_none}
use Rattle.rules.proofs.Rights.{AllRight, run_right}
use Rattle.rules.proofs.Alike.{same_next}
use Rattle.service.specs.declared.grant.Grant.{Grant}
use Rattle.service.specs.declared.state.Service.{Service}
use Rattle.service.specs.Service.{Fixed, limits_of, standing}
use Rattle.player.specs.declared.command.Command.{Command}
use Rattle.player.specs.Playing.{Event, history, asked, WritesDown, ReachedWith, Asks}
use Rattle.player.specs.Lives.{Same, SameEvents}
use Rattle.player.proofs.Lists.{history_last}

module _ {L B S : Type 0} (bm : Ghosts B L Entry) (sm : Ghosts S StreamLabel Position) (s t : Service L B S) (f : Fixed bm sm s t) where
  same_limits : limits_of bm sm s ≡ limits_of bm sm t
  same_limits i = limits (sym f.places i) (sym f.limit i) (bm.fits (sym f.blocks i)) (sm.fits (sym f.streams i))

  -- a log that is one event longer: under the limits before it, every answer is right
  longer_right : (log log' : List Event) (gs' : List Grant) (e : Event) → log' ≡ log ++ e ∷ [] → ReachedWith bm sm (history log') t gs' → AllRight (limits_of bm sm s) (e ∷ history log)
  longer_right log log' gs' e is stood =
      subst (λ h. AllRight (limits_of bm sm s) h) (ap history is ∙ history_last log e)
      (subst (λ k. AllRight k (history log')) (sym same_limits) (run_right (limits_of bm sm t) (history log') (standing bm sm t) stood.lived.run))

module _ {L B S M C T : Type 0} (bm : Ghosts B L Entry) (sm : Ghosts S StreamLabel Position) (cm : Ghosts C M Entry) (tm : Ghosts T StreamLabel Position) where
  -- both lives, and that they leave the same
  pub record Twins (a : Service L B S) (ga : List Grant) (la : List Event) (b : Service M C T) (gb : List Grant) (lb : List Event) : Type 0 where
    pub stood : ReachedWith bm sm (history la) a ga
    pub stood_too : ReachedWith cm tm (history lb) b gb
    pub alike : Same bm sm cm tm a la b lb

  module _ (a a' : Service L B S) (ga ga' : List Grant) (la la' : List Event) (b b' : Service M C T) (gb gb' : List Grant) (lb lb' : List Event) (c : Command)
      (fa : Fixed bm sm a a') (fb : Fixed cm tm b b') (both : Twins a ga la b gb lb) (sa : ReachedWith bm sm (history la') a' ga') (sb : ReachedWith cm tm (history lb') b' gb') where
    k : Limits
    k = limits_of bm sm a

    j : Limits
    j = limits_of cm tm b

    outs : (ledger (places a.pool) (history la)).out ≡ (ledger (places b.pool) (history lb)).out
    outs = fun_ext both.alike.ledger.out

    still : StandSame k (history la') j (history lb') → Same bm sm cm tm a' la' b' lb'
    unfolding k j
    still z =
        subst (λ k'. StandSame k' (history la') (limits_of cm tm b') (history lb')) (same_limits bm sm a a' fa)
        (subst (λ j'. StandSame (limits_of bm sm a) (history la') j' (history lb')) (same_limits cm tm b b' fb) z)

    stepped : (e f : Event) → e.0 ≡ f.0 → la' ≡ la ++ e ∷ [] → lb' ≡ lb ++ f ∷ [] → (e ≡ f) × StandSame k (history la') j (history lb')
    unfolding k j
    stepped e f same la_is lb_is =
        let here : AllRight k (e ∷ history la) = longer_right bm sm a a' fa la la' ga' e la_is sa in
        let there : AllRight j (f ∷ history lb) = longer_right cm tm b b' fb lb lb' gb' f lb_is sb in
        let labels : AllLabelled (calls (e ∷ history la)) = subst (λ h. AllLabelled (calls h)) (ap history la_is ∙ history_last la e) sa.labels in
        let moved : RightAnswer j (ledger j.blocks (history lb)) (streams (history lb)) e.0 f.1 = subst (λ x. RightAnswer j (ledger j.blocks (history lb)) (streams (history lb)) x f.1) (sym same) there.0 in
        let next = same_next k j (history la) (history lb) here.1 both.stood.labels both.alike e.0 labels.0 e.1 f.1 here.0 moved in
        let now : StandSame k (e ∷ history la) j (f ∷ history lb) = subst (λ (x : Call). StandSame k (e ∷ history la) j ((x, f.1) ∷ history lb)) same next.1 in (
          λ i. (same i, next.0 i),
          subst (λ h. StandSame k h j (history lb')) (sym (ap history la_is ∙ history_last la e))
              (subst (λ h. StandSame k (e ∷ history la) j h) (sym (ap history lb_is ∙ history_last lb f)) now),
        )

    -- both go on by the same call and the same answer, or by none
    pub twins_more : (o p : Option Event) → WritesDown (places a.pool) la c o la' → WritesDown (places b.pool) lb c p lb' → Twins a' ga' la' b' gb' lb' × SameEvents la la' lb lb'
    unfolding k j
    twins_more (Some e) (Some f) (ea, la_is) (eb, lb_is) =
        let same : e.0 ≡ f.0 = some_one e.0 f.0 (asked (ledger (places a.pool) (history la)).out c) ea (ap (λ o. asked o c) outs ∙ eb) in
        let both' = stepped e f same la_is lb_is in (
          record { stood = sa; stood_too = sb; alike = still both'.1 },
          (e ∷ [], la_is, lb_is ∙ (λ i. lb ++ sym both'.0 i ∷ [])),
        )
    twins_more (Some e) None (ea, la_is) (eb, lb_is) = absurd (some_none e.0 (asked (ledger (places a.pool) (history la)).out c) ea (ap (λ o. asked o c) outs ∙ eb))
    twins_more None (Some f) (ea, la_is) (eb, lb_is) = absurd (some_none f.0 (asked (ledger (places b.pool) (history lb)).out c) eb (sym (ap (λ o. asked o c) outs) ∙ ea))
    twins_more None None (ea, la_is) (eb, lb_is) = (
      record {
        stood = sa;
        stood_too = sb;
        alike = still (subst (λ l. StandSame k (history l) j (history lb')) (sym la_is) (subst (λ l. StandSame k (history la) j (history l)) (sym lb_is) both.alike));
      },
      ([], la_is ∙ sym (append-nil la), lb_is ∙ sym (append-nil lb)),
    )

  -- so far, where both stood the same at first
  abbrev pub SoFar : Service L B S → List Grant → List Event → Service M C T → List Grant → List Event → Service L B S → List Grant → List Event → Service M C T → List Grant → List Event → Type 0
  SoFar a ga la b gb lb a' ga' la' b' gb' lb' = Twins a ga la b gb lb → Twins a' ga' la' b' gb' lb' × SameEvents la la' lb lb'

  pub so_far_none : (a : Service L B S) (ga : List Grant) (la : List Event) (b : Service M C T) (gb : List Grant) (lb : List Event) → SoFar a ga la b gb lb a ga la b gb lb
  so_far_none a ga la b gb lb both = (both, ([], sym (append-nil la), sym (append-nil lb)))

  pub so_far_more : (a a' a₂ : Service L B S) (ga ga' g₂ : List Grant) (la la' l₂ : List Event) (b b' b₂ : Service M C T) (gb gb' h₂ : List Grant) (lb lb' m₂ : List Event) (c : Command) (o p : Option Event)
      → SoFar a ga la b gb lb a' ga' la' b' gb' lb' → Asks bm sm a' ga' la' c o a₂ g₂ l₂ → Asks cm tm b' gb' lb' c p b₂ h₂ m₂ → SoFar a ga la b gb lb a₂ g₂ l₂ b₂ h₂ m₂
  so_far_more a a' a₂ ga ga' g₂ la la' l₂ b b' b₂ gb gb' h₂ lb lb' m₂ c o p before x y alike =
      let was = before alike in
      let one = x.lives was.0.stood in
      let two = y.lives was.0.stood_too in
      let next = twins_more a' a₂ ga' g₂ la' l₂ b' b₂ gb' h₂ lb' m₂ c x.fixed y.fixed was.0 one.0 two.0 o p one.1 two.1 in
      let old = was.1 in
      let new = next.1 in (
        next.0,
        (old.0 ++ new.0, new.1 ∙ ap (λ z. z ++ new.0) old.1 ∙ append_assoc la old.0 new.0, new.2 ∙ ap (λ z. z ++ new.0) old.2 ∙ append_assoc lb old.0 new.0),
      )
