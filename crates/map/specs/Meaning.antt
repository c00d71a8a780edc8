-- The meaning of a map: its pairs f, from a label's number to a payload or none, and its fit F, the sets of numbers that it can hold.
--   held f             the numbers that have a payload
--   beside f l         those and l
--   changed f l w      f, with w at l
--   Lawful f F         what holds of the pairs and the fit of every map
--   Put f F l v g r    what a put of v at l answers, r, and the pairs after it, g
--   Finds, Asks, Puts, Takes, Counted
--                      the five calls, on a map m: the label's number n, the payload v, the answer r and the map after it, m'
-- Each call has the fields
--   fit     its shape, and so its fit, has not changed
--   after   the pairs after the call, which a put has in its answer
--   answer  what is answered
-- Assumes nothing.
use Rattle.std.specs.Prelude.{◌≡◌, ℕ, Bool, true, false, cond, is_some, Some, None, Ok, Err, MatchBool, Option, Result, ◌==◌, nat_eq}
use Rattle.std.specs.Map.{update}
use Rattle.map.specs.declared.Denied.{Denied}
use Rattle.map.specs.declared.Denied.TheVariants.{Full}
use Rattle.map.specs.Sets.{Part, Counts}

abbrev pub held : {V : Type 0} → (ℕ → Option V) → ℕ → Bool
held f n = is_some (f n)

abbrev pub beside : {V : Type 0} → (ℕ → Option V) → ℕ → ℕ → Bool
beside f l n = cond (n == l) true (is_some (f n))

abbrev pub changed : {V : Type 0} → (ℕ → Option V) → ℕ → Option V → ℕ → Option V
changed = update nat_eq

-- a map can hold nothing at all, a part of what it can hold, and what it holds
pub record Lawful {V : Type 0} (f : ℕ → Option V) (F : (ℕ → Bool) → Type 0) : Type 0 where
  pub none : F (λ _. false)
  pub part : (s t : ℕ → Bool) → Part s t → F t → F s
  pub inside : F (held f)

abbrev pub Put : {V : Type 0} → (ℕ → Option V) → ((ℕ → Bool) → Type 0) → ℕ → V → (ℕ → Option V) → Result (Option V) Denied → Type 0
Put f F l v g (Ok old) = (old ≡ f l) × F (beside f l) × (g ≡ changed f l (Some v))
Put f F l v g (Err Full) = (f l ≡ None) × (F (beside f l) → ⊥) × (g ≡ f)

module _ {M V : Type 0} (pairs : M → ℕ → Option V) (shape : M → ℕ) (fits : ℕ → (ℕ → Bool) → Type 0) (m : M) where
  pub record Finds (n : ℕ) (r : Option V) (m' : M) : Type 0 where
    pub fit : shape m' ≡ shape m
    pub after : pairs m' ≡ pairs m
    pub answer : r ≡ pairs m n

  pub record Asks (n : ℕ) (r : Bool) (m' : M) : Type 0 where
    pub fit : shape m' ≡ shape m
    pub after : pairs m' ≡ pairs m
    pub answer : MatchBool r (fits (shape m) (beside (pairs m) n)) (fits (shape m) (beside (pairs m) n) → ⊥)

  pub record Puts (n : ℕ) (v : V) (r : Result (Option V) Denied) (m' : M) : Type 0 where
    pub fit : shape m' ≡ shape m
    pub answer : Put (pairs m) (fits (shape m)) n v (pairs m') r

  pub record Takes (n : ℕ) (r : Option V) (m' : M) : Type 0 where
    pub fit : shape m' ≡ shape m
    pub after : pairs m' ≡ changed (pairs m) n None
    pub answer : r ≡ pairs m n

  pub record Counted (r : ℕ) (m' : M) : Type 0 where
    pub fit : shape m' ≡ shape m
    pub after : pairs m' ≡ pairs m
    pub answer : Counts (held (pairs m)) r
