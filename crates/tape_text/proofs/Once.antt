-- Words say one call at most, and lines one list of calls.
use Rattle.std.proofs.Common.{◌≡◌, ℕ, List, [], ◌∷◌, ◌+◌, ◌*◌, length, get_or, map, refl, sym, ap, ◌∙◌, arith}
use Rattle.std.specs.Str.Parse.{digits_value, without_leading_plus}
use Rattle.label.specs.declared.stream.StreamLabel.{StreamLabel}
use Rattle.call_tape.specs.declared.calls.Opening.{Opening}
use Rattle.call_tape.specs.declared.calls.Call.{Call}
use Rattle.call_tape.specs.declared.calls.Call.TheVariants.{Write, Drop, Spoil, Read, Trim, Open, Append, Close, Tally}
use Rattle.tape_text.specs.Numbers.{Numbers}
use Rattle.tape_text.specs.Calls.{word_of, limits_of, values_of, label_values, opening_values, Says}
use Rattle.tape_text.specs.Lines.{words, end, blank, call, OneSaying}

abbrev value_of : List ℕ → ℕ
value_of w = digits_value 10 (without_leading_plus w)

numbers_are : (limits : List ℕ) (ws : List (List ℕ)) (ns : List ℕ) → Numbers limits ws ns → ns ≡ map value_of ws
numbers_are [] [] [] h = refl
numbers_are (limit ∷ limits) (w ∷ ws) (n ∷ ns) h = let e = numbers_are limits ws ns h.1 in let f = h.0.1 in cc
numbers_are _ _ _ h = absurd h

same_label : (l m : StreamLabel) → label_values l ≡ label_values m → l ≡ m
same_label l m e =
    let port : l.port ≡ m.port = cc in
    let channel : l.channel ≡ m.channel = cc in
    let session : l.session ≡ m.session = cc in
    λ i. record { port = port i; channel = channel i; session = session i }

same_opening : (o p : Opening) → opening_values o ≡ opening_values p → o ≡ p
same_opening o p e =
    let port : o.stream.port ≡ p.stream.port = cc in
    let channel : o.stream.channel ≡ p.stream.channel = cc in
    let session : o.stream.session ≡ p.stream.session = cc in
    let first : o.first ≡ p.first = cc in
    let len : o.length ≡ p.length = cc in
    λ i. record { stream = record { port = port i; channel = channel i; session = session i }; first = first i; length = len i }

-- the length and the first byte of a word tell the calls apart
mark : List ℕ → ℕ
mark w = length w * 256 + get_or w 0 0

-- calls of one word take the same numbers, and are equal if their own are
pub alike : (c d : Call) → word_of c ≡ word_of d → (limits_of c ≡ limits_of d) × (values_of c ≡ values_of d → c ≡ d)
unfolding mark
alike (Write m) (Write n) w = (refl, λ v. cc)
alike (Drop m) (Drop n) w = (refl, λ v. cc)
alike (Spoil m) (Spoil n) w = (refl, λ v. cc)
alike (Read m) (Read n) w = (refl, λ v. cc)
alike (Trim m) (Trim n) w = (refl, λ v. cc)
alike (Open o) (Open p) w = (refl, λ v. ap Open (same_opening o p v))
alike (Append l) (Append m) w = (refl, λ v. ap Append (same_label l m v))
alike (Close l) (Close m) w = (refl, λ v. ap Close (same_label l m v))
alike Tally Tally w = (refl, λ v. refl)
alike c d w = let f = ap mark w in absurd (omega arith)

pub says_once : (ws : List (List ℕ)) (c d : Call) → Says ws c → Says ws d → c ≡ d
says_once [] c d h k = absurd h
says_once (w ∷ ws) c d h k =
    let same : word_of c ≡ word_of d = let e = h.0 in let f = k.0 in cc in
    (alike c d same).1 (numbers_are (limits_of c) ws (values_of c) h.1 ∙ sym (numbers_are (limits_of d) ws (values_of d) k.1))

pub one_saying : OneSaying
one_saying _ _ _ end end = refl
one_saying _ _ _ (blank l ls cs w h) (blank _ _ ds v k) = one_saying ls cs ds h k
one_saying _ _ _ (blank l ls cs w h) (call _ _ d ds v k) = absurd (rw w at v)
one_saying _ _ _ (call l ls c cs w h) (blank _ _ ds v k) = absurd (rw v at w)
one_saying _ _ _ (call l ls c cs w h) (call _ _ d ds v k) = let e = says_once (words l) c d w v in let f = one_saying ls cs ds h k in cc
