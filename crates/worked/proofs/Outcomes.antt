-- The outcome of a put whose list can be shown; no put has another.
use Rattle.std.proofs.Common.{◌≡◌, ℕ, ◌<◌, ◌≤◌, true, cond, eqb, ◌⊎◌, List, length, None, Ok, Err, Result, sym, refl, ap, ◌∙◌, inl, inr, arith}
use Rattle.std.proofs.lemmas.Bool.Decides.{nat_tests}
use Rattle.label.specs.declared.Label.{Ghosts}
use Rattle.map.specs.declared.Denied.{Denied}
use Rattle.map.specs.declared.Denied.TheVariants.{Full}
use Rattle.bucket.specs.Spread.{allowed_size}
use Rattle.bucket.specs.declared.slots.Bucket.{Bucket}
use Rattle.bucket.proofs.Sizes.{allowed_pos, allowed_true, first_below, second_below}
use Rattle.table.specs.Moving.{occupied, other_at, used_at}
use Rattle.table.specs.Tables.{WellKept, first_of, live, look, second_of}
use Rattle.table.proofs.Relocating.{nowhere_of}
use Rattle.search.specs.Reached.{LowestAt, Reached, Trail}
use Rattle.insertion.specs.Chain.{Moved, start}
use Rattle.insertion.specs.Plans.{UsedUp}
use Rattle.insertion.specs.Putting.{Puts}
use Rattle.insertion.specs.declared.storing.Stored.{Stored}
use Rattle.insertion.specs.declared.storing.Stored.TheVariants.{Added}
use Rattle.insertion.proofs.OnePut.{one_put}
use Rattle.label.specs.Lines.{old_line}
use Rattle.worked.specs.Cases.{OneOutcome, done, old, put}
use Rattle.insertion.proofs.Verdicts.{put_full, put_walk}

-- ---- the lists

-- before any label has been followed
abbrev homes : ℕ → ℕ → Trail
homes p s =
    record { count = cond (eqb s p) 1 2; starts = cond (eqb s p) 1 2; bucket = λ j. cond (eqb j 0) p s; parent = λ j. 0; slot = λ j. 0 }

-- n buckets, each at the place of its number, of which st are starts; what is later was reached through slot 0 of bucket 0
abbrev pub places : ℕ → ℕ → Trail
places n st = record { count = n; starts = st; bucket = λ j. j; parent = λ j. 0; slot = λ j. 0 }

module _ {L V : Type 0} (kind : Ghosts L) (bs : List (Bucket L V)) where
  -- where the labels of bucket 0, which is full, lead: to places of the list, and to the later one through slot 0
  pub past_first : (n st s : ℕ) → st ≤ n → n ≤ 2 → n ≤ length bs → ((st ≡ 1) × (s ≡ 0)) ⊎ ((st ≡ 2) × (s ≡ 1))
      → ((i : ℕ) → i < 4 → used_at bs 0 i ≡ true)
      → ((i : ℕ) → i < 4 → (m : ℕ) × (m < n) × (m ≡ other_at kind bs 0 i) × (st ≤ m → i ≡ 0))
      → (st < n → other_at kind bs 0 0 ≡ 1) → Reached kind bs 0 s (places n st) 1 0
  past_first n st s few small long starts full leads later =
      record {
        first = (grind arith, refl);
        second = grind arith;
        few = few;
        within = λ j h. omega arith;
        once = λ i j h h' q. q;
        through = λ j h h'.
            let one : j ≡ 1 = grind arith in
            let far = later (omega arith) in
            (omega arith, omega arith, full 0 (omega arith), far ∙ sym one);
        order = λ i j h h' h''. absurd (grind arith);
        behind = λ j h h'. inl (omega arith);
        full = λ j i h. let zero : j ≡ 0 = omega arith in rw zero (full i);
        followed = λ a i few before.
            let zero : a ≡ 0 = grind arith in
            let (m, lt, is, way) = leads i few in
            (m, lt, is ∙ ap (λ z. other_at kind bs z i) (sym zero), λ h. inr (sym zero, sym (way h)));
      }

  homes_reached : (p s : ℕ) → p < length bs → s < length bs → Reached kind bs p s (homes p s) 0 0
  homes_reached p s lp ls =
      record {
        first = (grind (arith, nat_tests), refl);
        second = grind (arith, nat_tests);
        few = omega arith;
        within = λ j h. grind (arith, nat_tests);
        once = λ i j h h' q. grind (arith, nat_tests);
        through = λ j h h'. absurd (omega arith);
        order = λ i j h h' h''. absurd (omega arith);
        behind = λ j h h'. absurd (omega arith);
        full = λ j i h h'. absurd (omega arith);
        followed = λ a j h h'. absurd (grind arith);
      }

  module _ (l : L) (allowed : allowed_size (length bs) ≡ true) (kept : WellKept kind (live bs)) (none : look kind bs (kind.number l) ≡ None) (v : V) where
    abbrev n : ℕ
    n = kind.number l

    abbrev p : ℕ
    p = first_of kind (length bs) n

    abbrev s : ℕ
    s = second_of kind (length bs) n

    -- the list is shown, and the moves back along it
    pub by_list : (t : Trail) (e k : ℕ) → Reached kind bs p s t e 0 → e < t.count → LowestAt bs (t.bucket e) k → (m : ℕ) (cs : List (Bucket L V)) (a j : ℕ) → Moved kind t bs e k m cs a j → a < t.starts
        → Puts kind bs l v (Ok (Added m)) (occupied kind cs n (t.bucket a) j l v)
    by_list t e k reached here low m cs a j moved home =
        put_walk kind bs l allowed kept (nowhere_of kind bs n none) t e k reached here low m cs a j moved home v (occupied kind cs n (t.bucket a) j l v) refl

    -- an unused slot in the first bucket
    pub at_once : (k : ℕ) → LowestAt bs p k → Puts kind bs l v (Ok (Added 0)) (occupied kind bs n p k l v)
    at_once k low =
        let some = allowed_pos (length bs) (allowed_true (length bs) allowed) in
        let reached = homes_reached p s (first_below (kind.spread n) (length bs) some) (second_below (kind.spread n) (length bs) some) in
        by_list (homes p s) 0 k reached (grind (arith, nat_tests)) low 0 bs 0 k start reached.first.0

    pub full : UsedUp kind bs n → Puts kind bs l v (Err Full) bs
    full up = put_full kind bs l allowed kept (nowhere_of kind bs n none) v up

    pub denied : UsedUp kind bs n → (r : Result (Stored V) Denied) (es : List (Bucket L V)) → Puts kind bs l v r es → r ≡ Err Full
    denied up r es puts = (one_put kind bs l v r (Err Full) es bs puts (full up)).0

pub one_outcome_holds : {V : Type 0} → OneOutcome V
one_outcome_holds bs es ds ps rs qs (done bs') (done bs'') = (refl, refl)
one_outcome_holds bs es ds ps rs qs (put b1 cs e1 m v r ps1 rs1 puts then) (put b2 xs e2 m' v' q ps2 qs1 puts' then') =
    let (answer, table) = one_put old_line bs (old m) v r q cs xs puts puts' in
    let (answers, last) = one_outcome_holds cs es ds ps1 rs1 qs1 then (rw table then') in
    (cc, last)
