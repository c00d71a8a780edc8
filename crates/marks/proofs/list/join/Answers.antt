-- A bucket that has joined is left; another one is marked, and so is the place after the last.
use Rattle.std.proofs.Common.{refl, sym, ap, ◌∙◌, arith}
use Rattle.bucket.specs.Changes.{modify, with_place}
use Rattle.marks.proofs.Joining.{count_lt, count_le, join_old, join_new, joined_read}
use Rattle.marks.proofs.list.join.Goals as goal

pub returns-then-has_joined : goal.returns-then-has_joined
returns-then-has_joined g c =
    let ms = c.args.buckets.now in
    let place = c.args.place in
    let e = joined_read _ _ _ _ c.requires.within c.has_joined.ensures ∙ c.if-has_joined.true in
    record {
      area = sym (join_old ms c.args.count place.bucket place.parent place.slot e);
      count = rw e refl;
    }

pub mark_place-requires : goal.mark_place-requires
mark_place-requires g c =
    let ms = c.args.buckets.now in
    let place = c.args.place in
    let e = joined_read _ _ _ _ c.requires.within c.has_joined.ensures ∙ c.if-has_joined.false in
    omega (arith, c.mark_joined.auto.buckets, count_lt ms place.bucket c.requires.within e, c.requires.room)

pub overflow_add-result : goal.overflow_add-result
overflow_add-result g c = omega (arith, count_le c.args.buckets.now, c.requires.room, c.requires.small.0)

pub returns : goal.returns
returns g c =
    let ms = c.args.buckets.now in
    let place = c.args.place in
    let e = joined_read _ _ _ _ c.requires.within c.has_joined.ensures ∙ c.if-has_joined.false in
    record {
      area = c.mark_place.ensures ∙ ap (λ z. modify (with_place place.bucket place.parent place.slot) z c.args.count) c.mark_joined.ensures ∙ sym (join_new ms c.args.count place.bucket place.parent place.slot e);
      count = rw e refl;
    }
