-- Where a ledger has its blocks.
use Rattle.std.specs.Prelude.{◌≡◌, ℕ, ◌<◌, true, Some}
use Rattle.map.specs.Sets.{◌∈◌, Distinct, Number}
use Rattle.rules.specs.declared.Tally.{Tally}
use Rattle.rules.specs.History.{Ledger}

-- waiting, out at a number, settled at a number, condemned
pub data Place : Type 0 where
  waits : Place
  out_at settled_at : ℕ → Place
  retired : Place

-- the ledger d has the block b at the place q
abbrev pub At : Ledger → ℕ → Place → Type 0
At d b waits = b ∈ d.waiting
At d b (out_at n) = d.out n ≡ Some b
At d b (settled_at n) = d.settled n ≡ Some b
At d b retired = d.condemned b ≡ true

-- each of the p blocks is at just one place, no other block is anywhere, and the waiting stand in their order each once
pub record Placed (p : ℕ) (d : Ledger) : Type 0 where
  pub place : (b : ℕ) → b < p → (q : Place) × At d b q × ((r : Place) → At d b r → r ≡ q)
  pub no_other : (b : ℕ) (q : Place) → At d b q → b < p
  pub once : Distinct d.waiting

-- the tally n has the numbers of the blocks at each place
pub record Counts (d : Ledger) (n : Tally) : Type 0 where
  pub waiting : Number (λ b. At d b waits) n.waiting
  pub out : Number (λ b. (m : ℕ) × At d b (out_at m)) n.out
  pub settled : Number (λ b. (m : ℕ) × At d b (settled_at m)) n.settled
  pub condemned : Number (λ b. At d b retired) n.condemned
