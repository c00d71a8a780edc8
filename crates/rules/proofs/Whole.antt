-- What holds after every life.
use Rattle.std.proofs.Common.{◌≡◌, ℕ, true, ◌∷◌, [], length, sym, refl, ap, ◌∙◌, subst, inl, inr, ⊎_elim, arith}
use Rattle.std.proofs.lemmas.Bool.{cases_Bool, false≢true}
use Rattle.map.specs.Sets.{Number}
use Rattle.map.proofs.Sets.{number_exists}
use Rattle.rules.specs.declared.Tally.{Tally}
use Rattle.rules.specs.declared.Call.{Call}
use Rattle.rules.specs.Calls.{Limits, Standing}
use Rattle.rules.specs.History.{History, Run, ledger, grants, endings}
use Rattle.rules.specs.Lives.{Own, streams, AllLabelled, calls}
use Rattle.rules.specs.Places.{Counts}
use Rattle.rules.specs.Places.Place.{retired}
use Rattle.rules.specs.Right.{RightAnswer}
use Rattle.rules.specs.Promise.{Life, AllAnswered, InPlaces, StandsAs}
use Rattle.rules.proofs.Runs.{Good, run_good}
use Rattle.rules.proofs.Counts.{all_places, tally_of, tally_counted}
use Rattle.rules.proofs.Streams.{run_streams}
use Rattle.rules.proofs.RightAnswers.{counted, right_one, full}
use Rattle.rules.proofs.Rights.{AllRight, run_right}
use Rattle.rules.proofs.Owned.{own_ended, rights_hand}

-- ---- what was answered

pub all_answered : (k : Limits) (h : History) → AllRight k h → Own h → AllAnswered k h
all_answered k [] r own = tt
all_answered k (e ∷ h) (r, before) own = (
  record {
    right = r;
    only = λ y i. right_one k (ledger k.blocks h) (streams h) e.0 y e.1 i r;
    ended = λ g q. own_ended k h (ledger k.blocks h) (streams h) (rights_hand k h before) e.0 e.1 r g (own.0 g q) q;
    full = full k (ledger k.blocks h) (streams h) e.0 e.1 r;
  },
  all_answered k h before own.1,
)

pub right_life : (k : Limits) (h : History) → AllRight k h → Own h → AllLabelled (calls h) → Life k h
right_life k h r own labels = record { own = own; labels = labels; answered = all_answered k h r own }

pub run_life : (k : Limits) (h : History) (s : Standing) → Run k h s → Own h → AllLabelled (calls h) → Life k h
run_life k h s run own labels = right_life k h (run_right k h s run) own labels

pub answered_right : (k : Limits) (h : History) → AllAnswered k h → AllRight k h
answered_right k [] r = tt
answered_right k (e ∷ h) (r, before) = (r.right, answered_right k h before)

-- the calls of a history leave it one list of answers
pub one_history : (k : Limits) (h i : History) → AllRight k h → AllRight k i → calls h ≡ calls i → h ≡ i
one_history k [] [] a b e = refl
one_history k [] (f ∷ i) a b e = absurd (let q : length {A = Call} [] ≡ length (calls (f ∷ i)) = ap length e in omega arith)
one_history k (f ∷ h) [] a b e = absurd (let q : length (calls (f ∷ h)) ≡ length {A = Call} [] = ap length e in omega arith)
one_history k (e ∷ h) (f ∷ i) (r, before) (r', before') q =
    let heads : e.0 ≡ f.0 = cc in
    let tails : calls h ≡ calls i = cc in
    let same : h ≡ i = one_history k h i before before' tails in
    let moved : RightAnswer k (ledger k.blocks i) (streams i) f.0 e.1 =
    subst (λ c. RightAnswer k (ledger k.blocks i) (streams i) c e.1) heads (subst (λ z. RightAnswer k (ledger k.blocks z) (streams z) e.0 e.1) same r) in
    let last : e.1 ≡ f.1 = right_one k (ledger k.blocks i) (streams i) f.0 e.1 f.1 moved r' in
    λ m. (heads m, last m) ∷ same m

-- ---- where the blocks are

module _ (k : Limits) (h : History) (s : Standing) (run : Run k h s) where
  good : Good k.blocks (ledger k.blocks h) s (grants h) (endings h)
  good = run_good k h s run

  pub stands_as : StandsAs k h s
  stands_as = record { pool = good.pool; entries = good.entries; marks = good.marks; streams = λ l i. run_streams k h s run i l }

  lost : (g : ℕ) × Number (λ b. s.condemned b ≡ true) g
  lost =
      number_exists (λ b. s.condemned b ≡ true) k.blocks (λ b e. good.placed.no_other b retired (sym (good.marks b) ∙ e))
      (λ b l. ⊎_elim inl (λ e. inr (λ f. false≢true (sym e ∙ f))) (cases_Bool (s.condemned b)))

  n : Tally
  n = tally_of k.blocks s good.outs.0 lost.0

  numbers : Counts (ledger k.blocks h) n
  unfolding n lost good
  numbers = counted k (ledger k.blocks h) s (grants h) (endings h) good n (tally_counted k h s good.outs.0 lost.0 run good.outs.2 lost.1)

  pub in_places : InPlaces k h
  unfolding n lost good
  in_places = record {
    placed = good.placed;
    tallied = (
      n,
      record {
        answer = (n, refl, numbers);
        counted = numbers;
        all = all_places k.blocks (ledger k.blocks h) good.placed n.waiting n.out n.settled n.condemned numbers.waiting numbers.out numbers.settled numbers.condemned;
        out = good.outs.2;
      },
    );
  }
