-- The grants held, and the room for more.
use Rattle.std.specs.Prelude.{◌≡◌, ℕ, ◌+◌, ◌-◌, ◌≤◌, min, cond, List, [], ◌∷◌, ◌++◌, Some, None, Ok, Err, Option, Result, ◌==◌, vec_len, vec_capacity}
use Rattle.std.specs.Global.{Vec}
use Rattle.refusal.specs.declared.Refusal.{Refusal}
use Rattle.map.specs.Sets.{Distinct}
use Rattle.rules.specs.declared.Answer.{Answer}
use Rattle.rules.specs.declared.Answer.TheVariants.{Granted, Block, Refused}
use Rattle.service.specs.declared.grant.Grant.{Grant}
use Rattle.service.specs.Service.{plain}

-- the block of the grant for n
abbrev pub block_at : List Grant → ℕ → Option ℕ
block_at [] n = None
block_at (g ∷ gs) n = cond (g.number == n) (Some g.block) (block_at gs n)

-- the grants but for that for n
abbrev pub without : List Grant → ℕ → List Grant
without [] n = []
without (g ∷ gs) n = cond (g.number == n) gs (g ∷ without gs n)

abbrev pub numbers : List Grant → List ℕ
numbers [] = []
numbers (g ∷ gs) = g.number ∷ numbers gs

-- the grants are those out, at most one for a number
pub record Holds (out : ℕ → Option ℕ) (gs : List Grant) : Type 0 where
  pub apart : Distinct (numbers gs)
  pub all : (n : ℕ) → block_at gs n ≡ out n

-- taking out the grant for n
abbrev pub Taken : List Grant → ℕ → Option Grant → List Grant → Type 0
Taken gs n None gs' = (block_at gs n ≡ None) × (gs' ≡ gs)
Taken gs n (Some g) gs' = (g.number ≡ n) × (block_at gs n ≡ Some g.block) × (gs' ≡ without gs n)

-- keeping a grant that was given, and telling of it
abbrev pub Keeps : List Grant → Result Grant Refusal → Answer → List Grant → Type 0
Keeps gs (Ok g) a gs' = (a ≡ Granted (plain g)) × (gs' ≡ gs ++ g ∷ [])
Keeps gs (Err e) a gs' = (a ≡ Refused e) × (gs' ≡ gs)

-- keeping a grant whose ending was refused, and telling of the ending
abbrev pub GivenBack : List Grant → Result ℕ (Refusal × Grant) → Answer → List Grant → Type 0
GivenBack gs (Ok b) a gs' = (a ≡ Block (Some b)) × (gs' ≡ gs)
GivenBack gs (Err e) a gs' = (a ≡ Refused e.0) × (gs' ≡ gs ++ e.1 ∷ [])

-- ---- room

-- from n of c places to m of d places: by at most i more, and no fewer places
abbrev pub Grown : ℕ → ℕ → ℕ → ℕ → ℕ → Type 0
Grown i n c m d = (m ≤ n + i) × (c ≤ d)

-- how many more commands there is room for: a grant and a line for each
abbrev pub room : {A B : Type 0} → Vec A → Vec B → ℕ
room held log = min (vec_capacity held - vec_len held) (vec_capacity log - vec_len log)
