-- Two tables with the same marks keep the same list.
use Rattle.std.proofs.Common.{◌≡◌, ℕ, suc, ◌<◌, ◌≤◌, cond, List, [], ◌∷◌, length, sym, refl, ap, ◌∙◌, subst, arith}
use Rattle.bucket.specs.declared.slots.Bucket.{Bucket}
use Rattle.marks.specs.Marks.{Listed, Marked, bucket_at, has_joined, joined_count, parent_at, slot_at}

pub record SameMarks {L V : Type 0} (ms cs : List (Bucket L V)) : Type 0 where
  pub long : length cs ≡ length ms
  pub joined : (i : ℕ) → has_joined cs i ≡ has_joined ms i
  pub buckets : (j : ℕ) → bucket_at cs j ≡ bucket_at ms j
  pub parents : (j : ℕ) → parent_at cs j ≡ parent_at ms j
  pub slots : (j : ℕ) → slot_at cs j ≡ slot_at ms j

module _ {L V : Type 0} where
  same_count : (ms cs : List (Bucket L V)) → length cs ≡ length ms → ((i : ℕ) → has_joined cs i ≡ has_joined ms i) → joined_count cs ≡ joined_count ms
  same_count [] [] e h = refl
  same_count [] (c ∷ cs) e h = absurd (omega arith)
  same_count (m ∷ ms) [] e h = absurd (omega arith)
  same_count (m ∷ ms) (c ∷ cs) e h =
      let more = same_count ms cs (omega arith) (λ i. h (suc i)) in
      let one : ◌≡◌ {A = ℕ} (cond c.mark.joined 1 0) (cond m.mark.joined 1 0) = ap {B = ℕ} (λ z. cond z 1 0) (h 0) in
      omega arith

  module _ (ms cs : List (Bucket L V)) (s : SameMarks ms cs) (n : ℕ) where
    pub same_listed : Listed ms n → Listed cs n
    same_listed l =
        record {
          room = subst (λ z. n ≤ z) (sym (same_count ms cs s.long s.joined)) l.room;
          within = λ j h. subst (λ z. z < length cs) (sym (s.buckets j)) (subst (λ z. bucket_at ms j < z) (sym s.long) (l.within j h));
          earlier = λ j p h. subst (λ z. z < j) (sym (s.parents j)) (l.earlier j p h);
        }

    pub same_marked : Marked ms n → Marked cs n
    same_marked m =
        record {
          joined = λ j h. s.joined (bucket_at cs j) ∙ ap (has_joined ms) (s.buckets j) ∙ m.joined j h;
          listed = λ i e. let o = m.listed i (sym (s.joined i) ∙ e) in (o.0, o.1, s.buckets o.0 ∙ o.2);
          once = λ i j hi hj e. m.once i j hi hj (sym (s.buckets i) ∙ e ∙ s.buckets j);
          blank = λ j h. let z = m.blank j h in (s.buckets j ∙ z.0, s.parents j ∙ z.1, s.slots j ∙ z.2);
        }
