-- A filter with one more mask.
use Rattle.std.proofs.Common.{◌≡◌, ℕ, ap, arith}
use Rattle.std.proofs.lemmas.Nat.Bits.{bit_at_and, bit_at_or, same_from_bits}
use Rattle.std.specs.Int.{bit_at}
use lib.Bits.{bit_and, bit_or}

pub or_keep : (f a m : ℕ) → bit_and f m ≡ m → bit_and (bit_or f a) m ≡ m
or_keep f a m e =
    same_from_bits _ m (λ i. let k = ap (λ z. bit_at z i) e in omega (arith, bit_at_and (bit_or f a) m i, bit_at_or f a i, bit_at_and f m i))
