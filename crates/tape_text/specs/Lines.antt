-- Lines of a text, and the calls that they say.
--   words L          the words of the line L: what stands between blanks
--   LinesSay ls cs   the lines ls say the calls cs, in order
--   said cs          the text of the calls cs, a line for each
--   OneSaying        lines say one list of calls at most
--   SaidReads        the lines of the text of calls say those calls
--   SayingLaws       both, which hold whatever is said
-- Assumes nothing.
use Rattle.std.specs.Prelude.{◌≡◌, ℕ, ◌==◌, List, [], ◌∷◌, ◌++◌, length, not, filter}
use Rattle.std.specs.List.{slice_split}
use Rattle.std.specs.Str.Lines.{lines}
use Rattle.call_tape.specs.declared.calls.Call.{Call}
use Rattle.call_tape.specs.Written.{AllSmall}
use Rattle.tape_text.specs.Calls.{Says, call_text}

abbrev pub words : List ℕ → List (List ℕ)
words L = filter (λ w. not (length w == 0)) (slice_split (λ b. b == 32) L)

-- no line; a line that says nothing; a line that says a call
pub data LinesSay : List (List ℕ) → List Call → Type 0 where
  end : LinesSay [] []
  blank : (l : List ℕ) (ls : List (List ℕ)) (cs : List Call) → words l ≡ [] → LinesSay ls cs → LinesSay (l ∷ ls) cs
  call : (l : List ℕ) (ls : List (List ℕ)) (c : Call) (cs : List Call) → Says (words l) c → LinesSay ls cs → LinesSay (l ∷ ls) (c ∷ cs)

abbrev pub said : List Call → List ℕ
said [] = []
said (c ∷ cs) = call_text c ++ 10 ∷ said cs

abbrev pub OneSaying : Type 0
OneSaying = (ls : List (List ℕ)) (cs ds : List Call) → LinesSay ls cs → LinesSay ls ds → cs ≡ ds

abbrev pub SaidReads : Type 0
SaidReads = (cs : List Call) → AllSmall cs → LinesSay (lines (said cs)) cs

pub record SayingLaws : Type 0 where
  pub reads : SaidReads
  pub once : OneSaying
