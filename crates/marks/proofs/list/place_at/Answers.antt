-- The marks of the bucket with the place's number.
use Rattle.std.proofs.Common.{sym, ◌∙◌}
use Rattle.bucket.proofs.Lists.{peek_read}
use Rattle.marks.proofs.list.place_at.Goals as goal

pub returns : goal.returns
returns g c =
    let bs = c.args.buckets.now in
    let j = c.args.j in
    let x = c.index-buckets-j.result in
    record {
      bucket = c.place_marks.ensures.bucket ∙ sym (peek_read (λ b. b.mark.bucket) 0 bs j x c.requires c.index-buckets-j.is);
      parent = c.place_marks.ensures.parent ∙ sym (peek_read (λ b. b.mark.parent) 0 bs j x c.requires c.index-buckets-j.is);
      slot = c.place_marks.ensures.slot ∙ sym (peek_read (λ b. b.mark.slot) 0 bs j x c.requires c.index-buckets-j.is);
    }
