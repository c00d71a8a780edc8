-- The numbers that labels mean, and their digests.
--   rotated n                          n rotated right by 8 within 32 bits
--   old_digest n                       the digest of the old line's block number n
--   stirred z k m                      z xor z / 2 ^ k, times m, within 64 bits
--   mixed z                            SplitMix64's mixing step
--   stream_number port channel session the number of a stream label
-- Assumes nothing.
use Rattle.std.specs.Prelude.{ℕ, ◌+◌, ◌*◌, ◌/◌, ◌%◌, ◌^◌}
use Rattle.std.specs.Int.Bits.{bit_xor}

unfoldable pub rotated : ℕ → ℕ
rotated n = n / 2 ^ 8 + 2 ^ 24 * (n % 2 ^ 8)

unfoldable pub old_digest : ℕ → ℕ
old_digest n = n + 2 ^ 32 * rotated n

unfoldable pub stirred : ℕ → ℕ → ℕ → ℕ
stirred z k m = bit_xor z (z / 2 ^ k) * m % 2 ^ 64

unfoldable pub mixed : ℕ → ℕ
mixed z =
    let y : ℕ = stirred (stirred z 30 0xbf58476d1ce4e5b9) 27 0x94d049bb133111eb in
    bit_xor y (y / 2 ^ 31)

unfoldable pub stream_number : ℕ → ℕ → ℕ → ℕ
stream_number port channel session = port * 2 ^ 24 + channel * 2 ^ 8 + session
