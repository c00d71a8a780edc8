-- What a ring holds, and what each call does to it, over every cell.
--   contents xs h n    n values of the cells xs, from the cell h on and round the end
--   start h n          the front cell of n cells, by a head of any size
--   held_in xs h n     the contents by a head and a count of any size
--   items r            what waits in the ring r, the front first
--   places r           how many values r has room for
--   around h n m       the cell n further than h, round the end of m cells
--   back r             the cell behind the last value of r, round the end
--   Empty c r, Full c r   a ring made over the lent cells c, holding none or all of them
--   Pushed r x t       t is r with x behind its last value
--   Pushes r x a t     pushing x at r answers a and leaves t
--   Popped r x t       t is r without x, which was at its front
--   Pops r o t         popping at r answers o and leaves t
-- Assumes nothing: each holds of every head and count.
use Rattle.std.specs.Prelude.{◌≡◌, ℕ, ◌+◌, ◌-◌, ◌<◌, ◌≤◌, min, cond, List, [], ◌∷◌, ◌++◌, length, take, drop, Some, None, Ok, Err, Option, Result, nat_lt, slice_set}
use Rattle.std.specs.Borrow.{MutBor}
use Rattle.ring.specs.declared.queue.Ring.{Ring}

abbrev pub contents : {X : Type 0} → List X → ℕ → ℕ → List X
contents xs h n = take n (drop h xs) ++ take (h + n - length xs) xs

abbrev pub start : ℕ → ℕ → ℕ
start h n = cond (nat_lt h n) h 0

abbrev pub held_in : {X : Type 0} → List X → ℕ → ℕ → List X
held_in xs h n = contents xs (start h (length xs)) (min n (length xs))

abbrev pub items : {X : Type 0} → Ring X → List X
items r = held_in r.cells.now r.head r.count

abbrev pub places : {X : Type 0} → Ring X → ℕ
places r = length r.cells.now

abbrev pub around : ℕ → ℕ → ℕ → ℕ
around h n m = cond (nat_lt (h + n) m) (h + n) (h + n - m)

abbrev pub back : {X : Type 0} → Ring X → ℕ
back r = around (start r.head (places r)) (length (items r)) (places r)

-- x goes in behind the last value
pub record Pushed {X : Type 0} (r : Ring X) (x : X) (t : Ring X) : Type 0 where
  pub room : length (items r) < places r
  pub cells : t.cells.now ≡ slice_set r.cells.now (back r) x
  pub head : t.head ≡ start r.head (places r)
  pub count : t.count ≡ length (items r) + 1
  pub area : t.cells.ghost_name ≡ r.cells.ghost_name
  pub places : places t ≡ places r
  pub items : items t ≡ items r ++ x ∷ []

-- where every cell is taken, x comes back, and the ring is as it was
abbrev pub Pushes : {X : Type 0} → Ring X → X → Result (Unit {0}) X → Ring X → Type 0
Pushes r x (Ok u) t = Pushed r x t
Pushes r x (Err y) t = (y ≡ x) × (places r ≤ length (items r)) × (t ≡ r)

-- x leaves from the front; the cells stay as they are
pub record Popped {X : Type 0} (r : Ring X) (x : X) (t : Ring X) : Type 0 where
  pub cells : t.cells.now ≡ r.cells.now
  pub head : t.head ≡ start r.head (places r) + 1
  pub count : t.count ≡ length (items r) - 1
  pub area : t.cells.ghost_name ≡ r.cells.ghost_name
  pub places : places t ≡ places r
  pub items : items r ≡ x ∷ items t

-- where none waits, the ring is as it was
abbrev pub Pops : {X : Type 0} → Ring X → Option X → Ring X → Type 0
Pops r None t = (items r ≡ []) × (t ≡ r)
Pops r (Some x) t = Popped r x t

-- an empty ring over the lent cells c
pub record Empty {X : Type 0} (c : MutBor (List X)) (t : Ring X) : Type 0 where
  pub cells : t.cells ≡ c
  pub head : t.head ≡ 0
  pub count : t.count ≡ 0
  pub places : places t ≡ length c.now
  pub items : items t ≡ []

-- a ring that holds what all the lent cells c hold
pub record Full {X : Type 0} (c : MutBor (List X)) (t : Ring X) : Type 0 where
  pub cells : t.cells ≡ c
  pub head : t.head ≡ 0
  pub count : t.count ≡ length c.now
  pub places : places t ≡ length c.now
  pub items : items t ≡ c.now
