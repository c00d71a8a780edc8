-- How long the text of calls is.
use Rattle.std.proofs.Common.{◌≡◌, ℕ, ◌+◌, ◌*◌, ◌<◌, ◌≤◌, List, [], ◌∷◌, ◌++◌, length, get_or, take, drop, decimal, refl, sym, ap, ◌∙◌, arith, lit<, append_assoc, append-nil, length-append, take-append-drop}
use Rattle.std.proofs.lemmas.Fmt.{length-decimal-le}
use Rattle.std.proofs.lemmas.List.{take_more}
use Rattle.call_tape.specs.declared.calls.Call.{Call}
use Rattle.call_tape.specs.declared.calls.Call.TheVariants.{Write, Drop, Spoil, Read, Trim, Open, Append, Close, Tally}
use Rattle.call_tape.specs.Calls.{contents_of, Small}
use Rattle.tape_text.specs.Calls.{word_of, values_of, spaced, call_text}

spaced_append : (ms ns : List ℕ) → spaced (ms ++ ns) ≡ spaced ms ++ spaced ns
spaced_append [] ns = refl
spaced_append (m ∷ ms) ns = ap (λ z. 32 ∷ z) (rw (spaced_append ms ns) (sym (append_assoc (decimal m) (spaced ms) (spaced ns))))

pub spaced_more : (ns : List ℕ) (i : ℕ) → i < length ns → spaced (take (i + 1) ns) ≡ spaced (take i ns) ++ 32 ∷ decimal (get_or ns i 0)
spaced_more ns i l = rw (take_more ns i 0 l) (spaced_append (take i ns) (get_or ns i 0 ∷ []) ∙ ap (λ z. spaced (take i ns) ++ 32 ∷ z) (append-nil (decimal (get_or ns i 0))))

-- the first numbers, and the one behind them, take no more than all
pub room_for_more : (ns : List ℕ) (i : ℕ) → i < length ns → length (spaced (take i ns)) + 1 + length (decimal (get_or ns i 0)) ≤ length (spaced ns)
room_for_more ns i l =
    let cut : spaced ns ≡ spaced (take (i + 1) ns) ++ spaced (drop (i + 1) ns) = ap spaced (sym (take-append-drop (i + 1) ns)) ∙ spaced_append (take (i + 1) ns) (drop (i + 1) ns) in
    omega (
      arith,
      ap length cut,
      length-append (spaced (take (i + 1) ns)) (spaced (drop (i + 1) ns)),
      ap length (spaced_more ns i l),
      length-append (spaced (take i ns)) (32 ∷ decimal (get_or ns i 0)),
    )

spaced_one : (n : ℕ) (ns : List ℕ) → length (spaced (n ∷ ns)) ≡ 1 + length (decimal n) + length (spaced ns)
spaced_one n ns = simp length-append (omega arith)

byte : (n : ℕ) → n < 256 → length (decimal n) ≤ 3
byte n h = length-decimal-le 3 n (lit< tt) (omega arith) (omega arith)

two_bytes : (n : ℕ) → n < 65536 → length (decimal n) ≤ 5
two_bytes n h = length-decimal-le 5 n (lit< tt) (omega arith) (omega arith)

four_bytes : (n : ℕ) → n < 4294967296 → length (decimal n) ≤ 10
four_bytes n h = length-decimal-le 10 n (lit< tt) (omega arith) (omega arith)

-- a line has three bytes at most for each byte of its call's field
pub few_bytes : (c : Call) → Small c → length (call_text c) + 1 ≤ 3 * (3 + length (contents_of c))
few_bytes c h = omega (arith, length-append (word_of c) (spaced (values_of c)), shared c h)
  where
    shared : (c : Call) → Small c → length (word_of c) + length (spaced (values_of c)) + 1 ≤ 3 * (3 + length (contents_of c))
    shared (Write n) h = omega (arith, spaced_one n [], four_bytes n h)
    shared (Drop n) h = omega (arith, spaced_one n [], four_bytes n h)
    shared (Spoil n) h = omega (arith, spaced_one n [], four_bytes n h)
    shared (Read n) h = omega (arith, spaced_one n [], four_bytes n h)
    shared (Trim n) h = omega (arith, spaced_one n [], four_bytes n h)
    shared (Open o) h = omega (
      arith,
      spaced_one o.stream.port (o.stream.channel ∷ o.stream.session ∷ o.first ∷ o.length ∷ []),
      spaced_one o.stream.channel (o.stream.session ∷ o.first ∷ o.length ∷ []),
      spaced_one o.stream.session (o.first ∷ o.length ∷ []),
      spaced_one o.first (o.length ∷ []),
      spaced_one o.length [],
      byte o.stream.port h.0.0,
      two_bytes o.stream.channel h.0.1,
      byte o.stream.session h.0.2,
      four_bytes o.first h.1,
      four_bytes o.length h.2,
    )
    shared (Append l) h = omega (arith, spaced_one l.port (l.channel ∷ l.session ∷ []), spaced_one l.channel (l.session ∷ []), spaced_one l.session [], byte l.port h.0, two_bytes l.channel h.1, byte l.session h.2)
    shared (Close l) h = omega (arith, spaced_one l.port (l.channel ∷ l.session ∷ []), spaced_one l.channel (l.session ∷ []), spaced_one l.session [], byte l.port h.0, two_bytes l.channel h.1, byte l.session h.2)
    shared Tally h = omega arith

-- a blank and the number behind it, added behind the first numbers
pub number_more : (ns : List ℕ) (i : ℕ) (x y z w d : List ℕ) → i < length ns → y ≡ x ++ spaced (take i ns) → z ≡ y ++ 32 ∷ [] → w ≡ z ++ d → d ≡ decimal (get_or ns i 0) → w ≡ x ++ spaced (take (i + 1) ns)
number_more ns i x y z w d l p q r e = rw (spaced_more ns i l) (r ∙ ((λ j. q j ++ e j) ∙ (append_assoc y (32 ∷ []) _ ∙ (ap (λ t. t ++ 32 ∷ decimal (get_or ns i 0)) p ∙ append_assoc x (spaced (take i ns)) _))))
