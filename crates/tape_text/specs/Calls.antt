-- The calls as words.
--   word_of c          the first word of the call c
--   values_of c        its numbers, in order; label_values l, opening_values o, of a label and of an opening
--   limits_of c        the largest number that may stand for each of them: number_limits, label_limits or opening_limits
--   spaced ns          the numbers ns, each behind a blank
--   call_text c        the text of the call c
--   Says ws c          the words ws say the call c
--   Wrong ws e         they say no call, and e is what is wrong
--   LineMeans ws r     the words of a line mean r
--   OneMeaning         words mean one thing at most
-- Assumes nothing.
use Rattle.std.specs.Prelude.{◌≡◌, ℕ, ◌≢◌, List, [], ◌∷◌, ◌++◌, codes, decimal, Option, Some, None, Ok, Err, Result}
use Rattle.label.specs.declared.stream.StreamLabel.{StreamLabel}
use Rattle.call_tape.specs.declared.calls.Opening.{Opening}
use Rattle.call_tape.specs.declared.calls.Call.{Call}
use Rattle.call_tape.specs.declared.calls.Call.TheVariants.{Write, Drop, Spoil, Read, Trim, Open, Append, Close, Tally}
use Rattle.tape_text.specs.declared.complaints.Complaint.{Complaint}
use Rattle.tape_text.specs.declared.complaints.Complaint.TheVariants.{UnknownWord}
use Rattle.tape_text.specs.Numbers.{Numbers, Complains}

abbrev pub word_of : Call → List ℕ
word_of (Write n) = codes "write"
word_of (Drop n) = codes "drop"
word_of (Spoil n) = codes "spoil"
word_of (Read n) = codes "read"
word_of (Trim n) = codes "trim"
word_of (Open o) = codes "open"
word_of (Append l) = codes "append"
word_of (Close l) = codes "close"
word_of Tally = codes "tally"

abbrev pub label_values : StreamLabel → List ℕ
label_values l = l.port ∷ l.channel ∷ l.session ∷ []

abbrev pub opening_values : Opening → List ℕ
opening_values o = o.stream.port ∷ o.stream.channel ∷ o.stream.session ∷ o.first ∷ o.length ∷ []

abbrev pub values_of : Call → List ℕ
values_of (Write n) = n ∷ []
values_of (Drop n) = n ∷ []
values_of (Spoil n) = n ∷ []
values_of (Read n) = n ∷ []
values_of (Trim n) = n ∷ []
values_of (Open o) = opening_values o
values_of (Append l) = label_values l
values_of (Close l) = label_values l
values_of Tally = []

abbrev pub number_limits : List ℕ
number_limits = 4294967295 ∷ []

abbrev pub label_limits : List ℕ
label_limits = 255 ∷ 65535 ∷ 255 ∷ []

abbrev pub opening_limits : List ℕ
opening_limits = 255 ∷ 65535 ∷ 255 ∷ 4294967295 ∷ 4294967295 ∷ []

abbrev pub limits_of : Call → List ℕ
limits_of (Write n) = number_limits
limits_of (Drop n) = number_limits
limits_of (Spoil n) = number_limits
limits_of (Read n) = number_limits
limits_of (Trim n) = number_limits
limits_of (Open o) = opening_limits
limits_of (Append l) = label_limits
limits_of (Close l) = label_limits
limits_of Tally = []

abbrev pub spaced : List ℕ → List ℕ
spaced [] = []
spaced (n ∷ ns) = 32 ∷ (decimal n ++ spaced ns)

abbrev pub call_text : Call → List ℕ
call_text c = word_of c ++ spaced (values_of c)

abbrev pub Says : List (List ℕ) → Call → Type 0
Says [] c = ⊥
Says (w ∷ ws) c = (w ≡ word_of c) × Numbers (limits_of c) ws (values_of c)

-- the first word is no call's; it is one's, and the numbers behind it are wrong
pub data Wrong : List (List ℕ) → Complaint → Type 0 where
  unknown : (w : List ℕ) (ws : List (List ℕ)) → ((c : Call) → w ≢ word_of c) → Wrong (w ∷ ws) UnknownWord
  numbers : (c : Call) (w : List ℕ) (ws : List (List ℕ)) (e : Complaint) → w ≡ word_of c → Complains (limits_of c) ws e → Wrong (w ∷ ws) e

-- a line without words means nothing
abbrev pub LineMeans : List (List ℕ) → Result (Option Call) Complaint → Type 0
LineMeans ws (Ok None) = ws ≡ []
LineMeans ws (Ok (Some c)) = Says ws c
LineMeans ws (Err e) = Wrong ws e

abbrev pub OneMeaning : Type 0
OneMeaning = (ws : List (List ℕ)) (r s : Result (Option Call) Complaint) → LineMeans ws r → LineMeans ws s → r ≡ s
