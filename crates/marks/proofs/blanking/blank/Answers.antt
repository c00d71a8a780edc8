-- Each turn blanks one place, and its bucket leaves.
use Rattle.std.proofs.Common.{arith}
use Rattle.marks.proofs.Wiping.{wiped_place, wiped_more, wiped_all}
use Rattle.marks.proofs.blanking.blank.Goals as goal

pub place_at-place-requires : goal.place_at-place-requires
place_at-place-requires g c = wiped_place _ _ _ _ c.requires c.loop-j.invariant (omega arith)

pub mark_place-requires : goal.mark_place-requires
mark_place-requires g c = let p = wiped_place _ _ _ _ c.requires c.loop-j.invariant (omega arith) in omega (arith, c.mark_joined.auto.buckets)

pub loop-j-preserved : goal.loop-j-preserved
loop-j-preserved g c =
    wiped_more _ _ _ _ c.requires c.loop-j.invariant (omega arith) _ c.place_at-place.ensures.bucket _ _ c.mark_joined.ensures c.mark_place.ensures

pub returns : goal.returns
returns g c = wiped_all _ _ _ _ (omega arith) c.loop-j.invariant
