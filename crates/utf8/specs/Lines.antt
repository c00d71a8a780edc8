-- The line on which bytes stop being text in UTF-8.
--   line_of_fault bs   its number, counted from 1
-- Assumes nothing.
use Rattle.std.specs.Prelude.{ℕ, ◌+◌, ◌==◌, List, take}
use Rattle.std.specs.List.{count_by}
use Rattle.std.specs.Str.Lossy.{utf8_valid_len}

-- the bytes before the fault are text, and the newlines among them end the lines before it
abbrev pub line_of_fault : List ℕ → ℕ
line_of_fault bytes = count_by (λ b. b == 10) (take (utf8_valid_len bytes) bytes) + 1
