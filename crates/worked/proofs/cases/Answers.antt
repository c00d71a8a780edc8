-- Each case is computed, or comes from the one outcome of its puts or from the one list of answers of its calls.
use Rattle.std.proofs.Common.{refl}
use Rattle.label.specs.Digests.{mixed, stirred, old_digest, rotated}
use Rattle.bucket.specs.Spread.{pair_of}
use Rattle.worked.proofs.Denying.{put_denied_holds}
use Rattle.worked.proofs.Direct.{put_aside_holds}
use Rattle.worked.proofs.Moving.{put_with_move_holds}
use Rattle.worked.proofs.OneBucket.{one_bucket_holds}
use Rattle.worked.proofs.Outcomes.{one_outcome_holds}
use Rattle.worked.proofs.Reading.{buckets_read_holds}
use Rattle.worked.proofs.Service.{service_holds}
use Rattle.worked.proofs.cases.Goals as goal

pub returns : goal.returns
unfolding mixed stirred old_digest rotated pair_of
returns g c =
    record {
      spread = record { of_256 = refl; of_1 = refl; pair_of_1 = (refl, refl); tag_of_1 = refl; mask_of_131328 = refl; mixed_0 = refl };
      one_outcome = one_outcome_holds;
      places = put_aside_holds;
      moves = put_with_move_holds;
      denies = put_denied_holds;
      reads = buckets_read_holds;
      one_bucket = one_bucket_holds;
      service = service_holds;
    }
