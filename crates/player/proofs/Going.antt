-- Where a life begins, why none does, and how lives go on.
use Rattle.std.proofs.Common.{◌≡◌, ℕ, List, [], Ok, Some, None, Option, length, ◌⊎◌, inl, inr, ⊎_elim, arith, sym, refl, subst}
use Rattle.std.proofs.Props.{props}
use Rattle.std.proofs.Math.Logic.{∥∥₁_elim, ∥∥₁_map}
use Rattle.std.specs.Borrow.{MutBor}
use Rattle.std.proofs.lemmas.Bool.{cases_eq, cases_lt}
use Rattle.refusal.specs.declared.Refusal.{Refusal}
use Rattle.refusal.specs.declared.Refusal.TheVariants.{BadSize, MapNotEmpty}
use Rattle.rules.proofs.Places.{some_one, some_none}
use Rattle.service.specs.declared.pool.Mark.{Mark}
use Rattle.service.specs.Making.{Sizes, BothEmpty, Makes, Areas}
use Rattle.rules.proofs.Runs.{is_none}
use Rattle.rules.proofs.Rights.{run_right}
use Rattle.rules.proofs.Alike.{same_answers}
use Rattle.service.specs.Service.{ReachedBy, limits_of, standing}
use Rattle.service.proofs.Promising.{promised}
use Rattle.player.specs.declared.command.Command.{Command}
use Rattle.player.specs.Lives.{Lives, Holding, Refused, Line, Lines, Same, Equal, SameEvents, Onwards, OneList}
use Rattle.player.specs.Twins.{PlayAlike}
use Rattle.ring.specs.Queue.{places}
use Rattle.label.specs.declared.stream.StreamLabel.{StreamLabel}
use Rattle.map.specs.declared.Map.{Ghosts}
use Rattle.rules.specs.declared.Entry.{Entry}
use Rattle.rules.specs.declared.Position.{Position}
use Rattle.service.specs.declared.grant.Grant.{Grant}
use Rattle.service.specs.declared.state.Service.{Service}
use Rattle.player.specs.Playing.{Event, history, ReachedWith, WritesDown, Follows, Asks, Plays}

module _ {L B S : Type 0} (bm : Ghosts B L Entry) (sm : Ghosts S StreamLabel Position) (s : Service L B S) where
  pub starts : (gs : List Grant) (log : List Event) → gs ≡ [] → log ≡ [] → ReachedBy bm sm [] s → ReachedWith bm sm (history log) s gs
  starts gs log eg el lived =
      subst (λ y. ReachedWith bm sm (history y) s gs) (sym el) (subst (λ x. ReachedWith bm sm [] s x) (sym eg) (record { lived = lived; own = tt; labels = tt; holds = record { apart = tt; all = λ n. refl } }))

sizes_known : (p m n : ℕ) → Sizes p m n ⊎ (Sizes p m n → ⊥)
sizes_known p m n =
    ⊎_elim
    (λ a. inr (λ z. omega (arith, a, z.0)))
    (λ a. ⊎_elim
    (λ b. inr (λ z. omega (arith, b, z.1)))
    (λ b. ⊎_elim
    (λ e. ⊎_elim (λ c. inr (λ z. omega (arith, c, z.3))) (λ c. inl (omega (arith, a), omega (arith, b), e, omega (arith, c))) (cases_lt n 1))
    (λ ne. inr (λ z. ne z.2))
    (cases_eq m p))
    (cases_lt 4096 p))
    (cases_lt p 1)

module _ {L B S : Type 0} (bm : Ghosts B L Entry) (sm : Ghosts S StreamLabel Position) (cells : MutBor (List ℕ)) (marks : MutBor (List Mark)) (n : ℕ) (b : B) (t : S) (r : Service L B S) where
  pub refused_so : (e : Refusal) → r.fault ≡ Some e → Makes bm sm cells marks n b t r → Areas cells marks n r → Refused bm sm (length cells.now) (length marks.now) n b t e
  refused_so e failed makes areas =
      ⊎_elim
      (λ sized.
      let full : BothEmpty bm sm b t → ⊥ = λ both. some_none e r.fault failed (makes.fresh sized both).passed in
      inr (some_one e MapNotEmpty r.fault failed (makes.not_empty sized full), sized, full))
      (λ no'. inl (some_one e BadSize r.fault failed (areas.bad_size no'), no'))
      (sizes_known (length cells.now) (length marks.now) n)

-- what a passed check says: allowed sizes and empty maps
module _ {L B S : Type 0} (bm : Ghosts B L Entry) (sm : Ghosts S StreamLabel Position) (cells : MutBor (List ℕ)) (marks : MutBor (List Mark)) (n : ℕ) (b : B) (t : S) (r : Service L B S)
    (passed : r.fault ≡ None) (makes : Makes bm sm cells marks n b t r) (areas : Areas cells marks n r) where
  pub sized_so : Sizes (length cells.now) (length marks.now) n
  sized_so = ⊎_elim (λ z. z) (λ no'. absurd (some_none BadSize r.fault (areas.bad_size no') passed)) (sizes_known (length cells.now) (length marks.now) n)

  not_full : (BothEmpty bm sm b t → ⊥) → ⊥
  not_full full = some_none MapNotEmpty r.fault (makes.not_empty sized_so full) passed

  pub empty_so : BothEmpty bm sm b t
  empty_so = (λ m. is_none (bm.pairs b m) (λ ne. not_full (λ z. ne (z.0 m))), λ l. is_none (sm.pairs t l) (λ ne. not_full (λ z. ne (z.1 l))))

-- ---- a life goes on

module _ {L B S : Type 0} (bm : Ghosts B L Entry) (sm : Ghosts S StreamLabel Position) where
  pub holding : (s : Service L B S) (gs : List Grant) (log : List Event) → Lives bm sm s gs log → Holding bm sm s log
  holding s gs log life = ∥∥₁_map life (λ st. promised bm sm s (history log) st.lived st.own st.labels)

  pub still_holding : (s : Service L B S) (gs : List Grant) (log log' : List Event) → log' ≡ log → Lives bm sm s gs log → Holding bm sm s log'
  still_holding s gs log log' same life = subst (Holding bm sm s) (sym same) (holding s gs log life)

  module _ (s₀ s t : Service L B S) (gs gs' : List Grant) (log₀ log log' : List Event) (es : s ≡ s₀) (el : log ≡ log₀) (life : Lives bm sm s gs log) where
    pub line_of : (c : Command) (o : Option Event) → Asks bm sm s gs log c o t gs' log' → Line (places s₀.pool) log₀ c (Ok o) log'
    line_of c o asks = ∥∥₁_map life (λ st. subst (λ z. WritesDown (places z.pool) log₀ c o log') es (subst (λ z. WritesDown (places s.pool) z c o log') el (asks.lives st).1))

    pub lines_of : (cs : List Command) → Plays bm sm s gs log cs t gs' log' → Lines (places s₀.pool) log₀ cs (Ok tt) log'
    lines_of cs plays = ∥∥₁_map life (λ st. subst (λ z. Follows (places z.pool) log₀ cs log') es (subst (λ z. Follows (places s.pool) z cs log') el (plays.lives st).1))

  pub asked_life : (s t : Service L B S) (gs gs' : List Grant) (log log' : List Event) (c : Command) (o : Option Event) → Lives bm sm s gs log → Asks bm sm s gs log c o t gs' log' → Lives bm sm t gs' log'
  asked_life s t gs gs' log log' c o life asks = ∥∥₁_map life (λ st. (asks.lives st).0)

  pub played_life : (s t : Service L B S) (gs gs' : List Grant) (log log' : List Event) (cs : List Command) → Lives bm sm s gs log → Plays bm sm s gs log cs t gs' log' → Lives bm sm t gs' log'
  played_life s t gs gs' log log' cs life plays = ∥∥₁_map life (λ st. (plays.lives st).0)

-- ---- two lives

module _ {L B S M C T : Type 0} (bm : Ghosts B L Entry) (sm : Ghosts S StreamLabel Position) (cm : Ghosts C M Entry) (tm : Ghosts T StreamLabel Position) where
  pub onwards : (a : Service L B S) (ga : List Grant) (la : List Event) (b : Service M C T) (gb : List Grant) (lb : List Event) → Lives bm sm a ga la → Lives cm tm b gb lb
      → Equal bm sm cm tm a la b lb → Onwards bm sm cm tm a la b lb
  onwards a ga la b gb lb life life' equal =
      ∥∥₁_elim life (hlevel props) (λ st. ∥∥₁_elim life' (hlevel props) (λ su. ∥∥₁_map equal (λ same.
      same_answers (limits_of bm sm a) (limits_of cm tm b) (history la) (history lb)
      (run_right (limits_of bm sm a) (history la) (standing bm sm a) st.lived.run) st.labels
      (run_right (limits_of cm tm b) (history lb) (standing cm tm b) su.lived.run) su.labels same)))

  -- from where they stood when they were asked, which is where they stood before room was made
  module _ (a₀ a a' : Service L B S) (ga : List Grant) (la₀ la la' : List Event) (b₀ b b' : Service M C T) (gb : List Grant) (lb₀ lb lb' : List Event)
      (ea : a ≡ a₀) (el : la ≡ la₀) (eb : b ≡ b₀) (em : lb ≡ lb₀) (life : Lives bm sm a ga la) (life' : Lives cm tm b gb lb)
      (alike : PlayAlike bm sm cm tm a ga la a' la' b gb lb b' lb') (equal : Equal bm sm cm tm a₀ la₀ b₀ lb₀) where
    there : Equal bm sm cm tm a la b lb
    there =
        subst (λ x. Equal bm sm cm tm x la b lb) (sym ea)
        (subst (λ x. Equal bm sm cm tm a₀ x b lb) (sym el)
        (subst (λ x. Equal bm sm cm tm a₀ la₀ x lb) (sym eb)
        (subst (λ x. Equal bm sm cm tm a₀ la₀ b₀ x) (sym em) equal)))

    after : ∥ Same bm sm cm tm a' la' b' lb' × SameEvents la la' lb lb' ∥₁
    after = ∥∥₁_elim life (hlevel props) (λ st. ∥∥₁_elim life' (hlevel props) (λ su. ∥∥₁_map there (λ same. alike st su same)))

    pub one_list : OneList (Ok tt) la₀ la' lb₀ lb'
    one_list =
        subst (λ x. OneList (Ok tt) x la' lb₀ lb') el
        (subst (λ x. OneList (Ok tt) la la' x lb') em (∥∥₁_map after (λ x. x.1)))

    pub still_equal : Equal bm sm cm tm a' la' b' lb'
    still_equal = ∥∥₁_map after (λ x. x.0)
