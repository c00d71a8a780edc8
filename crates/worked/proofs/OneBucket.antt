-- In one bucket each label has that bucket alone.
use Rattle.std.proofs.Common.{◌&&◌, eqb, arith}
use Rattle.std.proofs.lemmas.Bool.Decides.{nat_tests}
use Rattle.label.specs.Lines.{old_line}
use Rattle.map.proofs.Sets.{most_part}
use Rattle.placement.proofs.Placing.{fits_few}
use Rattle.bucket.proofs.Sizes.{first_below, second_below}
use Rattle.worked.specs.Cases.{OneBucket}

pub one_bucket_holds : OneBucket
one_bucket_holds s = (
  fits_few old_line 1 s (omega arith),
  λ fits. most_part 4 s (λ n. s n && eqb (fits.given n) 0) (λ n h.
      let p = first_below (old_line.spread n) 1 (omega arith) in
      let q = second_below (old_line.spread n) 1 (omega arith) in
      let given = (fits.choice n h).1 in
      grind (arith, nat_tests)) (fits.four 0),
)
