-- The four slots of a bucket, one by one, and the sizes of the cases.
use Rattle.std.proofs.Common.{◌≡◌, ℕ, zero, suc, ◌<◌, true, refl, arith}
use Rattle.bucket.specs.Spread.{allowed_size}
use Rattle.bucket.proofs.Sizes.{true_allowed}

pub two_allowed : allowed_size 2 ≡ true
two_allowed = true_allowed 2 (1, omega arith, refl)

pub each : (P : ℕ → Type 0) → P 0 → P 1 → P 2 → P 3 → (j : ℕ) → j < 4 → P j
each P a b c d zero h = a
each P a b c d (suc zero) h = b
each P a b c d (suc (suc zero)) h = c
each P a b c d (suc (suc (suc zero))) h = d
each P a b c d (suc (suc (suc (suc j)))) h = absurd (omega arith)

-- those below one of them
pub below : (P : ℕ → Type 0) (k : ℕ) → k < 4 → (0 < k → P 0) → (1 < k → P 1) → (2 < k → P 2) → (j : ℕ) → j < k → P j
below P k few a b c zero h = a h
below P k few a b c (suc zero) h = b h
below P k few a b c (suc (suc zero)) h = c h
below P k few a b c (suc (suc (suc j))) h = absurd (omega arith)
