-- The limits of a player over these maps are these.
use Rattle.std.proofs.Math.Logic.{∥∥₁_map}
use Rattle.bench_card.proofs.fits.play_in_buckets.Goals as goal

pub returns-clause-life : goal.returns-clause-life
returns-clause-life g c = ∥∥₁_map c.play.ensures.promised (λ kept. kept.life)
