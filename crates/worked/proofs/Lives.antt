-- What makes the answer to a begin right, and a history one life.
use Rattle.std.proofs.Common.{◌≡◌, ℕ, ◌<◌, List, ◌∷◌, Some, None, refl, ap, inl, inr, arith}
use Rattle.std.proofs.lemmas.Option.{none-some}
use Rattle.refusal.specs.declared.Refusal.TheVariants.{NumberBusy}
use Rattle.rules.specs.declared.GrantId.{GrantId}
use Rattle.rules.specs.declared.Call.TheVariants.{Begin as begin}
use Rattle.rules.specs.declared.Answer.TheVariants.{Granted as granted, Refused as refused}
use Rattle.rules.specs.Calls.{Limits}
use Rattle.rules.specs.History.{History, head, ledger}
use Rattle.rules.specs.Lives.{AllLabelled, Own, calls, streams}
use Rattle.rules.specs.Right.{RightAnswer}
use Rattle.rules.proofs.Places.{some_one}
use Rattle.rules.proofs.Rights.{AllRight}
use Rattle.rules.proofs.Whole.{answered_right, one_history, right_life}
use Rattle.worked.specs.Service.{OneLife, card, grant}
use Rattle.worked.proofs.Numbers.{AloneAt, alone_fits}

pub one_life : (k : Limits) (h : History) → AllRight k h → Own h → AllLabelled (calls h) → OneLife k h
one_life k h right own labels = record {
  life = right_life k h right own labels;
  only = λ i life same. one_history k i h (answered_right k i life.answered) right same;
}

-- ---- a begin of the number n, after the history h

module _ (p : ℕ) (h : History) (n : ℕ) (small : n < 16) where
  -- the front waiting block is granted, where no other number is held and n is not out
  pub grants_front : (b : ℕ) (rest : List ℕ) → (ledger p h).waiting ≡ b ∷ rest → (ledger p h).out n ≡ None
      → AloneAt n (ledger p h).settled → AloneAt n (ledger p h).out
      → RightAnswer (card p) (ledger p h) (streams h) (begin n) (granted (grant n b))
  grants_front b rest front free settled out =
      let fits = alone_fits (ledger p h) n settled out in
      inr (λ large. omega arith, inr (λ busy. busy free, inr (λ none. cc, inr (λ full. full.1 fits, (b, ap head front, refl, λ _. fits)))))

  -- a number that is out is busy
  pub refuses_busy : (b : ℕ) → (ledger p h).out n ≡ Some b → RightAnswer (card p) (ledger p h) (streams h) (begin n) (refused NumberBusy)
  refuses_busy b out = inr (λ large. omega arith, inl (λ free. cc, refl))

-- ---- the grants that a call ends

-- of those that a call ends, where it ends none, anything holds
pub ends_none : (P : GrantId → Type 0) (g : GrantId) → None ≡ Some g → P g
ends_none P g e = absurd (none-some g e)

-- where it ends x, the answer that gave x gave it
pub given : (x g : GrantId) → Some x ≡ Some g → granted x ≡ granted g
given x g e = ap granted (some_one x g (Some x) refl e)
