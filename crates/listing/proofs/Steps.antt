-- What one call of a tape adds to the log.
use Rattle.std.proofs.Common.{◌≡◌, ℕ, List, [], ◌∷◌, ◌++◌, Some, None, Ok, Option, Result, IsSome, sym, refl, ap, ◌∙◌, subst, inl, inr, ⊎_elim, ◌⊎◌}
use Rattle.std.proofs.Props.{props}
use Rattle.std.proofs.Math.Logic.{∥∥₁_elim, ∥∥₁_map}
use Rattle.std.proofs.lemmas.Bool.{false≢true}
use Rattle.std.proofs.lemmas.Option.{none-some}
use Rattle.refusal.specs.declared.Refusal.{Refusal}
use Rattle.label.specs.declared.stream.StreamLabel.{StreamLabel}
use Rattle.label.specs.declared.Label.{Ghosts as Label}
use Rattle.map.specs.declared.Map.{Ghosts}
use Rattle.rules.specs.declared.Entry.{Entry}
use Rattle.rules.specs.declared.Position.{Position as Spot}
use Rattle.rules.specs.declared.GrantId.{GrantId}
use Rattle.rules.specs.declared.Call.{Call}
use Rattle.rules.specs.declared.Call.TheVariants as call
use Rattle.rules.specs.declared.Answer.{Answer}
use Rattle.rules.specs.declared.Answer.TheVariants.{Granted, Block, Refused}
use Rattle.rules.specs.declared.Answer.TheVariants as answer
use Rattle.rules.specs.Calls.{Limits}
use Rattle.rules.specs.History.{History, Ledger, ledger}
use Rattle.rules.specs.Lives.{Streams, streams, InHand, ended_grant}
use Rattle.rules.specs.Right.{reasons, Told, RightAnswer}
use Rattle.rules.specs.Promise.{AllAnswered}
use Rattle.rules.proofs.Places.{some_one, some_none}
use Rattle.rules.proofs.Rights.{reasoned}
use Rattle.rules.proofs.Owned.{rights_hand}
use Rattle.rules.proofs.Whole.{answered_right}
use Rattle.service.specs.declared.entry.Ending.{Ending}
use Rattle.service.specs.declared.entry.Ending.TheVariants.{Commit, Abandon, Condemn}
use Rattle.service.specs.Service.{end_call}
use Rattle.service.specs.Promised.{Promised}
use Rattle.player.specs.declared.command.Command.{Command}
use Rattle.player.specs.declared.command.Command.TheVariants as command
use Rattle.player.specs.Playing.{Event, history, asked, ending, WritesDown}
use Rattle.player.specs.declared.life.Player.{Player}
use Rattle.player.specs.Player.{service_of, log_of, limits_in, blocks_of, HoldsPromise, WritesLine}
use Rattle.player.proofs.Lists.{history_last}
use Rattle.listing.specs.declared.lines.Reply.{Reply}
use Rattle.listing.specs.Lines.{outcome}
use Rattle.listing.specs.Plays.{Programs, Requests}
use Rattle.listing.specs.Playing.{GrowsBy, request_of, Giving, ending_of, grant_in, Programmed, Requested}

-- ---- what a command asks for

-- a request asks for its call whatever is out
request_asked : (c : Command) (x : Call) → request_of c ≡ Some x → (out : ℕ → Option ℕ) → asked out c ≡ Some x
request_asked (command.Begin n) x e out = e
request_asked (command.Append l) x e out = e
request_asked (command.Commit n) x e out = absurd (none-some x e)
request_asked (command.Abandon n) x e out = absurd (none-some x e)
request_asked (command.Condemn n) x e out = absurd (none-some x e)
request_asked (command.Read n) x e out = e
request_asked (command.Trim n) x e out = e
request_asked (command.Open l f n) x e out = e
request_asked (command.Close l) x e out = e
request_asked (command.Position l) x e out = e
request_asked command.Tally x e out = e

-- an ending asks for its call where its grant is out
ends_asked : (k : Ending) (out : ℕ → Option ℕ) (g : GrantId) → out g.number ≡ Some g.block → asked out (ending_of k g.number) ≡ Some (end_call k g)
ends_asked Commit out g e = ap (ending call.Commit g.number) e
ends_asked Abandon out g e = ap (ending call.Abandon g.number) e
ends_asked Condemn out g e = ap (ending call.Condemn g.number) e

ends_own : (k : Ending) (g : GrantId) → ended_grant (end_call k g) ≡ Some g
ends_own Commit g = refl
ends_own Abandon g = refl
ends_own Condemn g = refl

some_of : {X : Type 0} (o : Option X) → IsSome o → (x : X) × (o ≡ Some x)
some_of None e = absurd (false≢true e)
some_of (Some x) e = (x, refl)

-- the call of a command that asks for a grant
giving_of : (c : Command) → Giving c → (x : Call) × (request_of c ≡ Some x) × ((k : Limits) (d : Ledger) (y : Streams) (a : Answer) → RightAnswer k d y x a → ((g : GrantId) × (a ≡ Granted g)) ⊎ ((e : Refusal) × (a ≡ Refused e)))
giving_of (command.Begin n) y = (
  call.Begin n,
  refl,
  λ k d x a r.
      ⊎_elim inr (λ z. inl (record { number = n; block = z.1.0 }, z.1.2)) (reasoned (reasons k d x (call.Begin n)) (Told k d x (call.Begin n) a) a r),
)
giving_of (command.Append l) y = (
  _,
  refl,
  λ k d x a r.
      ⊎_elim inr (λ z. inl (record { number = z.1.0.next; block = z.1.2.0 }, z.1.2.2)) (reasoned (reasons k d x (call.Append _)) (Told k d x (call.Append _) a) a r),
)
giving_of (command.Commit n) y = absurd y
giving_of (command.Abandon n) y = absurd y
giving_of (command.Condemn n) y = absurd y
giving_of (command.Read n) y = absurd y
giving_of (command.Trim n) y = absurd y
giving_of (command.Open l f n) y = absurd y
giving_of (command.Close l) y = absurd y
giving_of (command.Position l) y = absurd y
giving_of command.Tally y = absurd y

-- ---- one call

grown : (log log' : List Event) (e : Event) → log' ≡ log ++ e ∷ [] → history log' ≡ e ∷ history log
grown log log' e is = ap history is ∙ history_last log e

requested : (P : ℕ) (log log' : List Event) (c : Command) (x : Call) (e : Event) → request_of c ≡ Some x → WritesDown P log c (Some e) log' → (e.0 ≡ x) × (history log' ≡ (x, e.1) ∷ history log)
requested P log log' c x e is (asks, written) =
    let same : e.0 ≡ x = some_one e.0 x (asked (ledger P (history log)).out c) asks (request_asked c x is (ledger P (history log)).out) in
    (same, grown log log' e written ∙ (λ i. (same i, e.1) ∷ history log))

module _ {L B S : Type 0} {kind : Label L} {bm : Ghosts B L Entry} {sm : Ghosts S StreamLabel Spot} (p q : Player L B S kind bm sm) (c : Command) (o : Option Event) (line : WritesLine p c (Ok o) q) where
  written : (e : Event) → o ≡ Some e → ∥ WritesDown (blocks_of p) (log_of p) c (Some e) (log_of q) ∥₁
  written e is = subst (λ z. WritesLine p c (Ok z) q) is line

  pub request_told : (e : Event) (x : Result Reply Refusal) → o ≡ Some e → IsSome (request_of c) → x ≡ outcome e.1 → Requested (log_of p) c x (log_of q)
  request_told e x is some told = ∥∥₁_map (written e is) (λ w.
      let y = some_of (request_of c) some in
      (y.0, y.1, (y.0, e.1) ∷ [], (e.1, refl, told), (requested (blocks_of p) (log_of p) (log_of q) c y.0 e y.1 w).1))

  -- ---- a grant and its ending

  module _ (holds : HoldsPromise q) (gives : Giving c) (e : Event) (is : o ≡ Some e) (a : Answer) (same : a ≡ e.1) where
    -- no grant: the call was refused
    pub program_refused : (k : Ending) (x : Result Reply Refusal) → None ≡ grant_in a → x ≡ outcome a → Programmed (log_of p) c k x (log_of q)
    program_refused k x none told = ∥∥₁_elim (written e is) (hlevel props) (λ w. ∥∥₁_map holds (λ kept.
        let y = giving_of c gives in
        let made = requested (blocks_of p) (log_of p) (log_of q) c y.0 e y.1 w in
        let right = subst (AllAnswered (limits_in q)) made.1 kept.life.answered in
        ⊎_elim
        (λ z. absurd (some_none z.0 (grant_in a) (ap grant_in (same ∙ z.1)) (sym none)))
        (λ z. (y.0, y.1, (y.0, Refused z.0) ∷ [], inr (z.0, refl, told ∙ ap outcome (same ∙ z.1)), made.1 ∙ (λ i. (y.0, z.1 i) ∷ history (log_of p))))
        (y.2 (limits_in q) (ledger (blocks_of q) (history (log_of p))) (streams (history (log_of p))) e.1 right.0.right)))

    module _ (g : GrantId) (gave : Some g ≡ grant_in a) where
      granted : (b : Answer) → grant_in b ≡ Some g → b ≡ Granted g
      granted (Granted h) z = ap Granted (some_one h g (Some h) refl z)
      granted (Block n) z = absurd (none-some g z)
      granted answer.Opened z = absurd (none-some g z)
      granted (answer.Closed n) z = absurd (none-some g z)
      granted (answer.Stands n) z = absurd (none-some g z)
      granted (answer.Counts n) z = absurd (none-some g z)
      granted (Refused n) z = absurd (none-some g z)

      given : e.1 ≡ Granted g
      given = sym same ∙ granted a (sym gave)

      -- its block is out
      out_now : WritesDown (blocks_of p) (log_of p) c (Some e) (log_of q) → Promised bm sm (history (log_of q)) (service_of q) → (ledger (blocks_of q) (history (log_of q))).out g.number ≡ Some g.block
      out_now w kept =
          rights_hand (limits_in q) (history (log_of q)) (answered_right (limits_in q) (history (log_of q)) kept.life.answered) g
          (subst (λ h. InHand h g) (sym (grown (log_of p) (log_of q) e w.1)) (inl given))

      module _ (r : Player L B S kind bm sm) (k : Ending) (d : Command) (ends : d ≡ ending_of k g.number) (n : Option Event) (next : WritesLine q d (Ok n) r) where
        then : (f : Option Event) → n ≡ f → WritesLine q (ending_of k g.number) (Ok f) r
        then f z = subst (λ y. WritesLine q (ending_of k g.number) (Ok y) r) z (subst (λ y. WritesLine q y (Ok n) r) ends next)

        pub program_goes_on : n ≡ None → ⊥
        program_goes_on z = ∥∥₁_elim (written e is) (hlevel props) (λ w. ∥∥₁_elim holds (hlevel props) (λ kept. ∥∥₁_elim (then None z) (hlevel props) (λ v.
            let out = (ledger (blocks_of q) (history (log_of q))).out in
            some_none (end_call k g) (asked out (ending_of k g.number)) (ends_asked k out g (out_now w kept)) v.0)))

        pub program_ended : (f : Event) (x : Result Reply Refusal) → n ≡ Some f → HoldsPromise r → x ≡ outcome f.1 → Programmed (log_of p) c k x (log_of r)
        program_ended f x z after told = ∥∥₁_elim (written e is) (hlevel props) (λ w. ∥∥₁_elim holds (hlevel props) (λ kept. ∥∥₁_elim (then (Some f) z) (hlevel props) (λ v. ∥∥₁_map after (λ kept'.
            let y = giving_of c gives in
            let made = requested (blocks_of p) (log_of p) (log_of q) c y.0 e y.1 w in
            let out = (ledger (blocks_of q) (history (log_of q))).out in
            let ended : f.0 ≡ end_call k g = some_one f.0 (end_call k g) (asked out (ending_of k g.number)) v.0 (ends_asked k out g (out_now w kept)) in
            let right = subst (AllAnswered (limits_in r)) (grown (log_of q) (log_of r) f v.1) kept'.life.answered in
            let said : f.1 ≡ Block (Some g.block) = right.0.ended g (ap ended_grant ended ∙ ends_own k g) in (
              y.0,
              y.1,
              (end_call k g, Block (Some g.block)) ∷ ((y.0, Granted g) ∷ []),
              inl (g, refl, told ∙ ap outcome said),
              grown (log_of q) (log_of r) f v.1 ∙ (λ i. (ended i, said i) ∷ made.1 i) ∙ (λ i. (end_call k g, Block (Some g.block)) ∷ ((y.0, given i) ∷ history (log_of p))),
            )))))

-- ---- the calls of a tape

pub obeyed_request : (log log' : List Event) (c : Command) (x : Call) (o : Result Reply Refusal) → request_of c ≡ Some x → Requested log c o log' → ∥ ((new : History) × Requests x o new × GrowsBy log new log') ∥₁
obeyed_request log log' c x o is told = ∥∥₁_map told (λ z. (z.2, subst (λ y. Requests y o z.2) (some_one z.0 x (request_of c) z.1 is) z.3, z.4))

pub obeyed_program : (log log' : List Event) (c : Command) (x : Call) (k : Ending) (o : Result Reply Refusal) → request_of c ≡ Some x → Programmed log c k o log' → ∥ ((new : History) × Programs x (end_call k) o new × GrowsBy log new log') ∥₁
obeyed_program log log' c x k o is told = ∥∥₁_map told (λ z. (z.2, subst (λ y. Programs y (end_call k) o z.2) (some_one z.0 x (request_of c) z.1 is) z.3, z.4))
