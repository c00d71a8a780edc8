-- A label leaves one bucket and comes to the other.
use Rattle.bucket.proofs.Sizes.{allowed_most}
use Rattle.table.proofs.Relocating.{relocate_area, relocate_moves}
use Rattle.table.proofs.moving.relocate.Goals as goal

pub returns : goal.returns
returns g c =
    let area = relocate_area g.L.Label _ _ _ c.args.to.bucket c.args.to.slot c.requires.within.0 _ _ c.hop.ensures.slot c.hop.ensures.area in
    record { area = area; finds = λ movable sound. relocate_moves g.L.Label _ _ _ _ _ c.requires.within.0 movable sound (allowed_most _ c.requires.right) _ area }
