-- The pool and the marks.
--   Released p o q   the pool q is p with the block o, if any, at its back; a pool with no room stays as it is
--   marked o xs      the marks xs with that of the block o, if any, set
--   more n           a counter of 64 bits, one more
--   condemned_with o n   the number n of condemned blocks, with the block o, if any
--   lost_in xs b     whether the marks say that b is condemned
-- Assumes nothing.
use Rattle.std.specs.Prelude.{◌≡◌, ℕ, ◌+◌, min, Bool, true, false, List, Some, None, Option, Result, slice_index_or, slice_set}
use Rattle.ring.specs.declared.queue.Ring.{Ring}
use Rattle.ring.specs.Queue.{Pushes}
use Rattle.service.specs.declared.pool.Mark.{Mark}
use Rattle.service.specs.declared.pool.Mark.TheVariants.{Sound, Condemned}

abbrev pub Released : Ring ℕ → Option ℕ → Ring ℕ → Type 0
Released p None q = q ≡ p
Released p (Some b) q = (done : Result (Unit {0}) ℕ) × Pushes p b done q

abbrev pub marked : Option ℕ → List Mark → List Mark
marked None xs = xs
marked (Some b) xs = slice_set xs b Condemned

abbrev pub is_condemned : Mark → Bool
is_condemned Sound = false
is_condemned Condemned = true

abbrev pub lost_in : List Mark → ℕ → Bool
lost_in xs b = is_condemned (slice_index_or xs b Sound)

abbrev pub more : ℕ → ℕ
more n = min (n + 1) 18446744073709551615

abbrev pub condemned_with : Option ℕ → ℕ → ℕ
condemned_with None n = n
condemned_with (Some b) n = more n
