-- A grant just given shows its number, and its ending is accepted.
use Rattle.std.proofs.Common.{◌≡◌, ℕ, Bool, ◌∷◌, Ok, Err, Some, Option, Result, MatchResult, sym, subst}
use Rattle.refusal.specs.declared.Refusal.{Refusal}
use Rattle.label.specs.declared.stream.StreamLabel.{StreamLabel}
use Rattle.map.specs.declared.Map.{Ghosts}
use Rattle.rules.specs.declared.Entry.{Entry}
use Rattle.rules.specs.declared.Position.{Position}
use Rattle.rules.specs.declared.Answer.{Answer}
use Rattle.rules.specs.declared.Call.TheVariants.{Begin as begin}
use Rattle.rules.specs.declared.Answer.TheVariants.{Granted as granted, Block as block, Refused as refused}
use Rattle.rules.specs.History.{History}
use Rattle.service.specs.declared.grant.Grant.{Grant}
use Rattle.service.specs.declared.state.Service.{Service}
use Rattle.service.specs.Service.{ReachedBy, ReachedByBoth, StepsBy, limits_of, standing, end_call, grant_id, plain, ended}
use Rattle.service_examples.specs.Program.{ending_of, Programs}
use Rattle.service.proofs.Passing.{given_out, ends_out, never_refused}

module _ {L B S : Type 0} (bm : Ghosts B L Entry) (sm : Ghosts S StreamLabel Position) (m t : Service L B S) (took : Bool) (n : ℕ) (g : Grant) (is : g.number ≡ n)
    (h : History) (mid : ReachedBy bm sm ((begin n, granted (plain g)) ∷ h) m) where
  given : ReachedBy bm sm ((begin n, granted (grant_id n g.block)) ∷ h) m
  given = subst (λ x. ReachedBy bm sm ((begin n, granted (grant_id x g.block)) ∷ h) m) is mid

  at_number : (a : Answer) → StepsBy bm sm m (end_call (ending_of took) (plain g)) a t → StepsBy bm sm m (end_call (ending_of took) (grant_id n g.block)) a t
  at_number a goes = subst (λ x. StepsBy bm sm m (end_call (ending_of took) (grant_id x g.block)) a t) is goes

  -- the ending shows the block that was given
  answered : (a : Answer) → ReachedBy bm sm ((end_call (ending_of took) (grant_id n g.block), a) ∷ ((begin n, granted (grant_id n g.block)) ∷ h)) t → a ≡ block (Some g.block)
  answered a after =
      let run = after.run in
      ends_out (limits_of bm sm t) run.0 (standing bm sm t) (ending_of took) n g.block a (given_out (limits_of bm sm t) run.1.0 run.0 n g.block run.1.2) run.2

  by_both : (x : ℕ) → ReachedBy bm sm ((end_call (ending_of took) (grant_id n g.block), block (Some x)) ∷ ((begin n, granted (grant_id n g.block)) ∷ h)) t
      → ReachedByBoth bm sm h (ending_of took) n (Ok x) t
  by_both x after =
      let q : block (Some x) ≡ block (Some g.block) = answered (block (Some x)) after in
      let e : g.block ≡ x = cc in
      subst (λ y. ReachedBy bm sm ((end_call (ending_of took) (grant_id n y), block (Some x)) ∷ ((begin n, granted (grant_id n y)) ∷ h)) t) e after

  pub held_programs : (r : Result ℕ (Refusal × Grant)) (o : Result ℕ (Refusal × Option Grant)) (P : Refusal × Grant → Type 0) → MatchResult r (λ x. o ≡ Ok x) P
      → StepsBy bm sm m (end_call (ending_of took) (plain g)) (ended r) t → Programs bm sm h n took o t
  held_programs (Ok x) o P q goes =
      subst (λ y. Programs bm sm h n took y t) (sym q) (by_both x (at_number (block (Some x)) goes _ given))
  held_programs (Err e) o P q goes = absurd (never_refused bm sm m m t (ending_of took) n g.block h e.0 (at_number (refused e.0) goes _ given))
