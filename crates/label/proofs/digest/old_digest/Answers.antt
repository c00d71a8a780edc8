-- The rotation as a sum: its two halves share no bit.
use Rattle.std.proofs.Common.{◌≡◌, ◌*◌, ◌/◌, ◌%◌, ◌^◌, ap, ◌∙◌, arith}
use lib.Bits.{bit_or, or_shifted_r}
use Rattle.label.specs.Digests.{old_digest, rotated}
use Rattle.label.proofs.digest.old_digest.Goals as goal

pub returns : goal.returns
unfolding old_digest rotated
returns c =
    let n = c.args.n in
    let e = or_shifted_r (n % 2 ^ 8) 24 (n / 2 ^ 8) (omega arith) in
    let m : n * 2 ^ 24 % 2 ^ 32 ≡ (n % 2 ^ 8) * 2 ^ 24 = omega arith in
    omega (arith, c.rotate_right.ensures ∙ ap (bit_or (n / 2 ^ 8)) m ∙ e)
