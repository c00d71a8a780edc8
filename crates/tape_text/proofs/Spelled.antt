-- The text of a call, read again: its words, and its line.
use Rattle.std.proofs.Common.{◌≡◌, ℕ, ◌-◌, ◌^◌, ◌<◌, ◌≤◌, ◌≢◌, zero, suc, Bool, true, false, not, ◌==◌, List, [], ◌∷◌, ◌++◌, length, get_or, map, filter, decimal, refl, sym, ap, ◌∙◌, rules, arith, lit<, append-nil}
use Rattle.std.specs.List.{All, slice_split}
use Rattle.std.specs.Str.Lines.{lines, lines_of_parts, strip_carriage_return}
use Rattle.std.specs.Str.Parse.{AllDigits, without_leading_plus}
use Rattle.std.proofs.lemmas.Bool.Decides.{nat_tests}
use Rattle.std.proofs.lemmas.Fmt.{decimal_is_IsNumeral, decimal_nonempty}
use Rattle.std.proofs.lemmas.List.Splits.{slice_split_none, slice_split_at, length-slice_split}
use Rattle.std.proofs.lemmas.Str.Parse.{digit_from_value, without_leading_plus_none}
use Rattle.call_tape.specs.declared.calls.Call.{Call}
use Rattle.call_tape.specs.declared.calls.Call.TheVariants.{Write, Drop, Spoil, Read, Trim, Open, Append, Close, Tally}
use Rattle.call_tape.specs.Calls.{Small}
use Rattle.tape_text.specs.Numbers.{Number, Numbers}
use Rattle.tape_text.specs.Calls.{word_of, values_of, limits_of, spaced, call_text, Says}
use Rattle.tape_text.specs.Lines.{words, said, end, call, SaidReads, SayingLaws}
use Rattle.tape_text.proofs.Once.{one_saying}

-- each byte is above m
abbrev pub Above : ℕ → List ℕ → Type 0
Above m [] = Unit {0}
Above m (x ∷ xs) = (m < x) × Above m xs

pub above_append : (m : ℕ) (xs ys : List ℕ) → Above m xs → Above m ys → Above m (xs ++ ys)
above_append m [] ys h k = k
above_append m (x ∷ xs) ys h k = (h.0, above_append m xs ys h.1 k)

pub above_less : (m n : ℕ) (xs : List ℕ) → n ≤ m → Above m xs → Above n xs
above_less m n [] l h = tt
above_less m n (x ∷ xs) l h = (omega arith, above_less m n xs l h.1)

other : (x c : ℕ) → c < x → (x == c) ≡ false
other x c h = grind (arith, nat_tests)

lacks : (m c : ℕ) (xs : List ℕ) → c ≤ m → Above m xs → All (λ b. (b == c) ≡ false) xs
lacks m c [] l h k d e = absurd (omega arith)
lacks m c (x ∷ xs) l h zero d e = other x c (omega arith)
lacks m c (x ∷ xs) l h (suc k) d e = lacks m c xs l h.1 k d (omega arith)

-- past the end a byte counts as 0
unlike_at : (m c : ℕ) (xs : List ℕ) (k : ℕ) → 0 < c → c ≤ m → Above m xs → get_or xs k 0 ≢ c
unlike_at m c [] k p l h e = absurd (omega arith)
unlike_at m c (x ∷ xs) zero p l h e = absurd (omega arith)
unlike_at m c (x ∷ xs) (suc k) p l h e = unlike_at m c xs k p l h.1 e

digits_above : (ds : List ℕ) → AllDigits 10 ds → Above 47 ds
digits_above [] h = tt
digits_above (c ∷ cs) h = let r = digit_from_value c h.0 in (omega (arith, r.0), digits_above cs h.1)

decimal_above : (n : ℕ) → n < 2 ^ 64 → Above 47 (decimal n)
decimal_above n h = digits_above (decimal n) (decimal_is_IsNumeral n h).0.1

-- the numbers are no larger than these, which 64 bits hold
abbrev pub Within : List ℕ → List ℕ → Type 0
Within [] [] = Unit {0}
Within (limit ∷ limits) (n ∷ ns) = (n ≤ limit) × (limit < 2 ^ 64) × Within limits ns
Within _ _ = ⊥

spaced_above : (limits ns : List ℕ) → Within limits ns → Above 31 (spaced ns)
spaced_above [] [] h = tt
spaced_above (limit ∷ limits) (n ∷ ns) h = (lit< tt, above_append 31 (decimal n) (spaced ns) (above_less 47 31 (decimal n) (omega arith) (decimal_above n (omega arith))) (spaced_above limits ns h.2))
spaced_above _ _ h = absurd h

split_spaced : (limits ns w : List ℕ) → Within limits ns → Above 32 w → slice_split (λ b. b == 32) (w ++ spaced ns) ≡ w ∷ map decimal ns
split_spaced [] [] w h a = rw append-nil (slice_split_none (λ b. b == 32) w (lacks 32 32 w (omega arith) a))
split_spaced (limit ∷ limits) (n ∷ ns) w h a =
    slice_split_at (λ b. b == 32) w 32 (decimal n ++ spaced ns) (lacks 32 32 w (omega arith) a) refl
    ∙ ap (λ z. w ∷ z) (split_spaced limits ns (decimal n) h.2 (above_less 47 32 (decimal n) (omega arith) (decimal_above n (omega arith))))
split_spaced _ _ w h a = absurd h

abbrev is_word : List ℕ → Bool
is_word w = not (length w == 0)

a_word : (w : List ℕ) → 0 < length w → is_word w ≡ true
a_word w h = grind (arith, nat_tests)

all_kept : (limits ns : List ℕ) → Within limits ns → filter is_word (map decimal ns) ≡ map decimal ns
all_kept [] [] h = refl
all_kept (limit ∷ limits) (n ∷ ns) h = rw (a_word (decimal n) (decimal_nonempty n (omega arith)), all_kept limits ns h.2) refl
all_kept _ _ h = absurd h

a_number : (limit n : ℕ) → n ≤ limit → limit < 2 ^ 64 → Number limit (decimal n) n
a_number limit n l h =
    let d = decimal_is_IsNumeral n (omega arith) in
    let plain : without_leading_plus (decimal n) ≡ decimal n = without_leading_plus_none (decimal n) (unlike_at 47 43 (decimal n) 0 (omega arith) (omega arith) (decimal_above n (omega arith))) in
    rw plain (d.0, sym d.1, l)

all_numbers : (limits ns : List ℕ) → Within limits ns → Numbers limits (map decimal ns) ns
all_numbers [] [] h = tt
all_numbers (limit ∷ limits) (n ∷ ns) h = (a_number limit n h.0 h.1, all_numbers limits ns h.2)
all_numbers _ _ h = absurd h

pub small_within : (c : Call) → Small c → Within (limits_of c) (values_of c)
small_within (Write n) h = (omega arith, lit< tt, tt)
small_within (Drop n) h = (omega arith, lit< tt, tt)
small_within (Spoil n) h = (omega arith, lit< tt, tt)
small_within (Read n) h = (omega arith, lit< tt, tt)
small_within (Trim n) h = (omega arith, lit< tt, tt)
small_within (Open o) h = (omega arith, lit< tt, (omega arith, lit< tt, (omega arith, lit< tt, (omega arith, lit< tt, (omega arith, lit< tt, tt)))))
small_within (Append l) h = (omega arith, lit< tt, (omega arith, lit< tt, (omega arith, lit< tt, tt)))
small_within (Close l) h = (omega arith, lit< tt, (omega arith, lit< tt, (omega arith, lit< tt, tt)))
small_within Tally h = tt

word_above : (c : Call) → Above 32 (word_of c)
word_above (Write n) = search rules
word_above (Drop n) = search rules
word_above (Spoil n) = search rules
word_above (Read n) = search rules
word_above (Trim n) = search rules
word_above (Open o) = search rules
word_above (Append l) = search rules
word_above (Close l) = search rules
word_above Tally = search rules

word_long : (c : Call) → 0 < length (word_of c)
word_long (Write n) = lit< tt
word_long (Drop n) = lit< tt
word_long (Spoil n) = lit< tt
word_long (Read n) = lit< tt
word_long (Trim n) = lit< tt
word_long (Open o) = lit< tt
word_long (Append l) = lit< tt
word_long (Close l) = lit< tt
word_long Tally = lit< tt

own_words : (c : Call) → Small c → words (call_text c) ≡ word_of c ∷ map decimal (values_of c)
own_words c h =
    let w = small_within c h in
    rw (split_spaced (limits_of c) (values_of c) (word_of c) w (word_above c), a_word (word_of c) (word_long c), all_kept (limits_of c) (values_of c) w) refl

says_own : (c : Call) → Small c → Says (words (call_text c)) c
says_own c h = rw (own_words c h) (refl, all_numbers (limits_of c) (values_of c) (small_within c h))

pub text_above : (c : Call) → Small c → Above 31 (call_text c)
text_above c h = above_append 31 (word_of c) (spaced (values_of c)) (above_less 32 31 (word_of c) (omega arith) (word_above c)) (spaced_above (limits_of c) (values_of c) (small_within c h))

line_and_more : (x : List ℕ) (ps : List (List ℕ)) → 0 < length ps → lines_of_parts (x ∷ ps) ≡ strip_carriage_return x ∷ lines_of_parts ps
line_and_more x [] h = absurd (omega arith)
line_and_more x (y ∷ ps) h = refl

not_stripped : (x : List ℕ) → Above 31 x → strip_carriage_return x ≡ x
not_stripped x h =
    let ne : get_or x (length x - 1) 0 ≢ 13 = unlike_at 31 13 x (length x - 1) (omega arith) (omega arith) h in
    let e : (get_or x (length x - 1) 0 == 13) ≡ false = grind (arith, nat_tests) in
    rw e refl

first_line : (x rest : List ℕ) → Above 31 x → lines (x ++ 10 ∷ rest) ≡ x ∷ lines rest
first_line x rest h =
    let cut = slice_split_at (λ b. b == 10) x 10 rest (lacks 31 10 x (omega arith) h) refl in
    let some : 0 < length (slice_split (λ b. b == 10) rest) = omega (arith, length-slice_split (λ b. b == 10) rest) in
    ap lines_of_parts cut ∙ line_and_more x (slice_split (λ b. b == 10) rest) some ∙ ap (λ z. z ∷ lines rest) (not_stripped x h)

pub said_reads : SaidReads
said_reads [] h = end
said_reads (c ∷ cs) h = rw (first_line (call_text c) (said cs) (text_above c h.0)) (call (call_text c) (lines (said cs)) c cs (says_own c h.0) (said_reads cs h.1))

pub saying_laws : SayingLaws
saying_laws = record { reads = said_reads; once = one_saying }
