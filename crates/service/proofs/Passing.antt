-- A grant just given is never refused its ending.
use Rattle.std.proofs.Common.{◌≡◌, ℕ, ◌∷◌, Some, Ok, Err, Result, sym, ap, ◌∙◌, subst, inl, inr, ⊎_elim}
use Rattle.std.proofs.lemmas.Map.{update_here}
use Rattle.std.proofs.lemmas.Bool.{true≢false}
use Rattle.refusal.specs.declared.Refusal.{Refusal}
use Rattle.label.specs.declared.stream.StreamLabel.{StreamLabel}
use Rattle.map.specs.declared.Map.{Ghosts}
use Rattle.rules.specs.declared.Entry.{Entry}
use Rattle.rules.specs.declared.Position.{Position}
use Rattle.rules.specs.Calls.{Limits, Standing}
use Rattle.rules.specs.declared.Answer.{Answer}
use Rattle.rules.specs.declared.Call.TheVariants.{Begin as begin}
use Rattle.rules.specs.declared.Answer.TheVariants.{Granted as granted, Block as block, Opened as opened, Closed as closed, Stands as stands, Counts as counts, Refused as refused}
use Rattle.rules.specs.Rules.{Step, checks, Accepts, out_of, settled_of, entry}
use Rattle.rules.specs.History.{History, accepted}
use Rattle.rules.proofs.Runs.{judged, out_entry}
use Rattle.rules.specs.Laws.{First}
use Rattle.service.specs.declared.entry.Ending.{Ending}
use Rattle.service.specs.declared.entry.Ending.TheVariants.{Commit, Abandon, Condemn}
use Rattle.service.specs.declared.state.Service.{Service}
use Rattle.service.proofs.Lives.{refused_lives}
use Rattle.service.proofs.Giving.{gives_goes}
use Rattle.service.proofs.Endings.{ends_goes}
use Rattle.service.specs.Service.{limits_of, standing, ReachedBy, RefusesAll, StepsByBoth, LeavesByBoth, Gives, Ends, given, end_call, grant_id}

abbrev granted_block : Answer → ℕ
granted_block (granted g) = g.block
granted_block (block b) = 0
granted_block opened = 0
granted_block (closed n) = 0
granted_block (stands p) = 0
granted_block (counts n) = 0
granted_block (refused e) = 0

-- what a granted begin leaves out at its number
pub given_out : (k : Limits) (r s : Standing) (n b : ℕ) → Step k r (begin n) (granted (grant_id n b)) s → out_of (s.entries n) ≡ Some b
given_out k r s n b j =
    ⊎_elim
    (λ no'. absurd (true≢false (ap accepted no'.1)))
    (λ yes'. here yes'.1)
    (judged (checks k r (begin n)) r (granted (grant_id n b)) s (Accepts k r (begin n) (granted (grant_id n b)) s) j)
  where
    here : Accepts k r (begin n) (granted (grant_id n b)) s → out_of (s.entries n) ≡ Some b
    here (c, rest, w, ea, et, fits) =
        let q : b ≡ c = ap granted_block ea in
        ap (λ t. out_of (t.entries n)) et ∙ ap out_of (update_here r.entries n (entry (settled_of (r.entries n)) (Some c))) ∙ out_entry (settled_of (r.entries n)) (Some c) ∙ ap Some (sym q)

-- an ending of what is out is accepted
pub ends_out : (k : Limits) (r s : Standing) (v : Ending) (n b : ℕ) (a : Answer) → out_of (r.entries n) ≡ Some b → Step k r (end_call v (grant_id n b)) a s → a ≡ block (Some b)
ends_out k r s Commit n b a out (inl i) = absurd (i.0 out)
ends_out k r s Commit n b a out (inr i) = i.1.0
ends_out k r s Abandon n b a out (inl i) = absurd (i.0 out)
ends_out k r s Abandon n b a out (inr i) = i.1.0
ends_out k r s Condemn n b a out (inl i) = absurd (i.0 out)
ends_out k r s Condemn n b a out (inr i) = i.1.0

no_first : {L B S : Type 0} (bm : Ghosts B L Entry) (sm : Ghosts S StreamLabel Position) (m : Service L B S) (v : Ending) (n b : ℕ) (e : Refusal) → out_of (bm.pairs m.entries n) ≡ Some b
    → First (checks (limits_of bm sm m) (standing bm sm m) (end_call v (grant_id n b))) e → ⊥
no_first bm sm m Commit n b e out (inl f) = f.0 out
no_first bm sm m Commit n b e out (inr f) = f.1
no_first bm sm m Abandon n b e out (inl f) = f.0 out
no_first bm sm m Abandon n b e out (inr f) = f.1
no_first bm sm m Condemn n b e out (inl f) = f.0 out
no_first bm sm m Condemn n b e out (inr f) = f.1

module _ {L B S : Type 0} (bm : Ghosts B L Entry) (sm : Ghosts S StreamLabel Position) (s m t : Service L B S) (v : Ending) (n b : ℕ) where
  -- what the second of the two calls answers
  second : (h : History) (a : Answer) → ReachedBy bm sm ((end_call v (grant_id n b), a) ∷ ((begin n, granted (grant_id n b)) ∷ h)) t → a ≡ block (Some b)
  second h a after =
      let run = after.run in
      ends_out (limits_of bm sm t) run.0 (standing bm sm t) v n b a (given_out (limits_of bm sm t) run.1.0 run.0 n b run.1.2) run.2

  pub never_refused : (h : History) (e : Refusal) → ReachedBy bm sm ((end_call v (grant_id n b), refused e) ∷ ((begin n, granted (grant_id n b)) ∷ h)) t → ⊥
  never_refused h e after = true≢false (sym (ap accepted (second h (refused e) after)))

  pub passes : (r : Result ℕ Refusal) → RefusesAll bm sm s (given n (Ok b)) m → Gives bm sm s n (Ok b) m → Ends bm sm m v n b r t → LeavesByBoth bm sm s v n r t
  passes (Ok x) faulty gives ends =
      (m, subst (λ y. Gives bm sm s n (Ok y) m) (sym ends.0) gives, subst (λ y. Ends bm sm m v n y (Ok x) t) (sym ends.0) ends)
  passes (Err e) faulty gives no' =
      absurd (⊎_elim
      (λ f. true≢false (ap accepted (faulty e (sym gives.1.left.fault ∙ f)).0))
      (no_first bm sm m v n b e (ap (λ g. out_of (g n)) gives.1.left.pairs ∙ ap out_of (update_here (bm.pairs s.entries) n _) ∙ out_entry (settled_of (bm.pairs s.entries n)) (Some b)))
      no'.reason)

-- what the two leave, one after the other, goes by the rules
module _ {L B S : Type 0} (bm : Ghosts B L Entry) (sm : Ghosts S StreamLabel Position) (s t : Service L B S) (v : Ending) (n : ℕ) where
  pub passes_through : (r : Result ℕ Refusal) → LeavesByBoth bm sm s v n r t → StepsByBoth bm sm s v n r t
  passes_through (Ok b) (m, gives, ends) h lived =
      ends_goes bm sm m t v n b (Ok b) ends _ (gives_goes bm sm s m n (Ok b) gives h lived)
  passes_through (Err e) no' h lived = refused_lives bm sm h s t (begin n) lived e no'
