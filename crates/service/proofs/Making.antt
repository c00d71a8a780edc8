-- A service just made stands at the start of a history.
use Rattle.std.proofs.Common.{◌≡◌, ℕ, ◌≤◌, true, false, List, [], ◌∷◌, length, replicate, is_some, Some, None, Ok, Err, Option, Result, sym, refl, ap, ◌∙◌, subst, ⊎_elim, arith, ◌<◌, ◌^◌}
use mathlib.Core.Path.{fun_ext}
use lib.ListN.{length-replicate}
use Rattle.std.specs.Borrow.{MutBor}
use Rattle.std.specs.List.{range_with_len}
use Rattle.std.specs.Result.{result_err}
use Rattle.refusal.specs.declared.Refusal.{Refusal}
use Rattle.std.proofs.lemmas.Bool.{false≢true, true≢false}
use Rattle.label.specs.declared.stream.StreamLabel.{StreamLabel}
use Rattle.map.specs.declared.Map.{Ghosts}
use Rattle.map.specs.Sets.{member, Number, Counts}
use Rattle.map.specs.Meaning.{held}
use Rattle.map.proofs.Lists.{in_head}
use Rattle.map.proofs.Sets.{number_none}
use Rattle.ring.specs.Queue.{items, places}
use Rattle.rules.specs.declared.Entry.{Entry}
use Rattle.rules.specs.declared.Position.{Position}
use Rattle.rules.proofs.Places.{some_none}
use Rattle.service.specs.declared.pool.Mark.{Mark}
use Rattle.service.specs.declared.pool.Mark.TheVariants.{Sound}
use Rattle.service.specs.declared.state.Service.{Service}
use Rattle.service.specs.Pool.{lost_in}
use Rattle.service.specs.Making.{Empty, Sizes, BothEmpty, Emptied, Sized, Checks, Makes}
use Rattle.service.specs.Service.{ReachedBy}
use Rattle.service.proofs.Words.{at, none_lost}

-- an empty map counts 0 pairs
pub counts_none : {V : Type 0} (f : ℕ → Option V) (k : ℕ) → Counts (held f) k → Empty f → k ≡ 0
counts_none f k c none = go c.list c.long c.exact
  where
    go : (xs : List ℕ) → length xs ≡ k → ((n : ℕ) → member n xs ≡ held f n) → k ≡ 0
    go [] e x = sym e
    go (y ∷ ys) e x = absurd (true≢false (sym (in_head y ys) ∙ x y ∙ ap is_some (none y)))

module _ {L B S : Type 0} (bm : Ghosts B L Entry) (sm : Ghosts S StreamLabel Position) (r : Service L B S) where
  pub starts : r.fault ≡ None → r.limit < 2 ^ 32 → places r.pool ≤ 4096 → items r.pool ≡ range_with_len 0 (places r.pool) → Empty (bm.pairs r.entries) → Empty (sm.pairs r.streams)
      → r.marks.cells.now ≡ replicate (places r.pool) Sound → r.out ≡ 0 → r.condemned ≡ 0 → ReachedBy bm sm [] r
  starts passed bound small pool eb es marks out gone = record {
    passed = passed;
    small = small;
    bound = bound;
    run = λ i. at (pool i) (fun_ext eb i) (fun_ext es i) (fun_ext no_mark i);
    out = omega (arith, out);
    marks = ap length marks ∙ length-replicate _ _;
    condemned = subst (λ k. Number (λ b. lost_in r.marks.cells.now b ≡ true) k) (sym gone) (number_none (λ b. lost_in r.marks.cells.now b ≡ true) (λ b t. false≢true (sym (no_mark b) ∙ t)));
  }
    where
      no_mark : (b : ℕ) → lost_in r.marks.cells.now b ≡ false
      no_mark b = ap (λ xs. lost_in xs b) marks ∙ none_lost (places r.pool) b

-- what the check answered, v, decides what is made
module _ {L B S : Type 0} (bm : Ghosts B L Entry) (sm : Ghosts S StreamLabel Position) (cells : MutBor (List ℕ)) (marks : MutBor (List Mark)) (n : ℕ) (b : B) (t : S) (r : Service L B S)
    (v : Result (Unit {0}) Refusal) (is : r.fault ≡ result_err v) where
  pub made_fresh : r.fault ≡ None → r.limit < 2 ^ 32 → Sized (length cells.now) (length marks.now) n v → Checks bm sm b t v r.entries r.streams
      → places r.pool ≡ length cells.now → items r.pool ≡ range_with_len 0 (length cells.now) → r.marks.cells.now ≡ replicate (length marks.now) Sound → r.out ≡ 0 → r.condemned ≡ 0
      → Makes bm sm cells marks n b t r
  made_fresh passed bound sized seen room pool marked out gone = go v (sym is ∙ passed) sized seen.verdict
    where
      start : Sizes (length cells.now) (length marks.now) n → BothEmpty bm sm b t → ReachedBy bm sm [] r
      start allowed both =
          starts bm sm r passed bound (omega (arith, room, allowed.1)) (pool ∙ ap (range_with_len 0) (sym room))
          (λ k. (λ i. seen.entries.pairs i k) ∙ both.0 k) (λ k. (λ i. seen.streams.pairs i k) ∙ both.1 k)
          (marked ∙ ap (λ k. replicate k Sound) (allowed.2 ∙ sym room)) out gone

      go : (v : Result (Unit {0}) Refusal) → result_err v ≡ None → Sized (length cells.now) (length marks.now) n v → Emptied bm sm b t v → Makes bm sm cells marks n b t r
      go (Ok u) e sizes empty = record {
        passed = λ _. start sizes empty;
        fresh = λ allowed both. start allowed both;
        not_empty = λ allowed none. absurd (none empty);
        entries = seen.entries;
        streams = seen.streams;
      }
      go (Err e) f sizes no' = absurd (some_none e (Some e) refl f)

  pub made_refused : (e : Refusal) → r.fault ≡ Some e → Sized (length cells.now) (length marks.now) n v → Checks bm sm b t v r.entries r.streams → Makes bm sm cells marks n b t r
  made_refused e failed sized seen = go v (sym is ∙ failed) sized seen.verdict
    where
      go : (v : Result (Unit {0}) Refusal) → result_err v ≡ Some e → Sized (length cells.now) (length marks.now) n v → Emptied bm sm b t v → Makes bm sm cells marks n b t r
      go (Ok u) f sizes empty = absurd (some_none e None f refl)
      go (Err x) f sizes no' = record {
        passed = λ none. absurd (some_none e r.fault failed none);
        fresh = λ allowed both. absurd (⊎_elim (λ y. y.1 allowed) (λ y. no' y.0 both) sizes);
        not_empty = λ allowed none. ⊎_elim (λ y. absurd (y.1 allowed)) (λ y. failed ∙ sym f ∙ ap Some y.0) sizes;
        entries = seen.entries;
        streams = seen.streams;
      }
