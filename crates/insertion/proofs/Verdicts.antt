-- What put and ask answer, from what was found out about the label.
use Rattle.std.proofs.Common.{◌≡◌, ℕ, ◌<◌, ◌≤◌, true, false, List, length, get_or, is_some, Some, None, Ok, Err, Option, Result, sym, refl, ap, ◌∙◌, arith}
use Rattle.std.proofs.lemmas.Bool.Decides.{nat_tests}
use Rattle.std.specs.Result.{IsErr}
use Rattle.label.specs.declared.Label.{Ghosts}
use Rattle.map.specs.Meaning.{beside, changed}
use Rattle.map.specs.declared.Denied.{Denied}
use Rattle.map.specs.declared.Denied.TheVariants.{Full}
use Rattle.map.proofs.Room.{held_room}
use Rattle.bucket.specs.Changes.{modify, with_payload}
use Rattle.bucket.specs.Slots.{slot_of}
use Rattle.bucket.specs.Spread.{Allowed, allowed_size}
use Rattle.bucket.specs.declared.slots.Bucket.{Bucket}
use Rattle.bucket.proofs.Lists.{length_modify, pick}
use Rattle.bucket.proofs.Sizes.{allowed_most, allowed_pos, allowed_true}
use Rattle.table.specs.Finding.{Looks}
use Rattle.table.specs.Moving.{occupied}
use Rattle.table.specs.Tables.{Lies, Nowhere, Sound, WellKept, first_of, live, look, second_of, unmarked}
use Rattle.table.specs.declared.finding.Spot.{Spot}
use Rattle.table.proofs.Alike.{with_payload_look, with_payload_sound}
use Rattle.table.proofs.Answering.{live_right, live_wrong}
use Rattle.table.proofs.Looking.{look_at, look_none}
use Rattle.table.proofs.Marks.{rest_with_payload}
use Rattle.table.proofs.Rule.{looks_lies, looks_nowhere}
use Rattle.marks.specs.Marks.{Marked, bucket_at}
use Rattle.search.specs.Reached.{LowestAt, Reached, Trail, trail_of}
use Rattle.placement.specs.Fit.{Fits}
use Rattle.placement.proofs.Placing.{laws, used_up}
use Rattle.insertion.specs.Chain.{Moved, start}
use Rattle.insertion.specs.Plans.{FindsOut, Follows, Planned, UsedUp, Walkable}
use Rattle.insertion.specs.Putting.{Adds, Asks, Puts, Room}
use Rattle.insertion.specs.declared.planning.Plan.{Plan}
use Rattle.insertion.specs.declared.storing.Stored.{Stored}
use Rattle.insertion.specs.declared.storing.Stored.TheVariants.{Added, Replaced}
use Rattle.insertion.proofs.Additions.{Grown, ended_room, grown}
use Rattle.insertion.proofs.Shifts.{moved_good}

module _ {L V : Type 0} (kind : Ghosts L) (bs : List (Bucket L V)) (l : L) where
  abbrev n : ℕ
  n = kind.number l

  -- an area of wrong size holds nothing and can take nothing
  wrong_room : allowed_size (length bs) ≡ false → Room kind bs n → ⊥
  wrong_room f room =
      let empty : length (live bs) ≡ 0 = ap length (live_wrong bs f) in
      let some = (room.choice n (grind (arith, nat_tests))).0 in
      omega arith

  pub put_wrong : (v : V) → allowed_size (length bs) ≡ false → WellKept kind (live bs) → Puts kind bs l v (Err Full) bs
  put_wrong v f kept = record { kept = kept; size = refl; stores = (ap (λ z. look kind z n) (live_wrong bs f), wrong_room f, refl) }

  pub ask_wrong : allowed_size (length bs) ≡ false → Asks kind bs n false bs
  ask_wrong f = record { same = refl; answer = wrong_room f }

  module _ (allowed : allowed_size (length bs) ≡ true) (kept : WellKept kind (live bs)) where
    is_live : live bs ≡ bs
    is_live = live_right bs allowed

    sound : Sound kind bs
    sound = rw is_live at kept.sound

    pub at_rest : unmarked bs ≡ bs
    at_rest = rw is_live at kept.blank

    right : Allowed (length bs)
    right = allowed_true (length bs) allowed

    some : 0 < length bs
    some = allowed_pos (length bs) right

    small : length bs ≤ 4096
    small = allowed_most (length bs) right

    live_room : Fits kind (length bs) (beside (look kind bs) n) → Room kind bs n
    live_room h = rw is_live h

    -- a table after the call
    module _ (es : List (Bucket L V)) (size : length es ≡ length bs) where
      live_es : live es ≡ es
      live_es = live_right es (ap allowed_size size ∙ allowed)

      kept_es : Sound kind es → unmarked es ≡ es → WellKept kind (live es)
      kept_es s b = rw live_es (record { sound = s; blank = b })

      looks_es : (f : (ℕ → Option V) → ℕ → Option V) → ((q : ℕ) → look kind es q ≡ f (look kind bs) q) → (q : ℕ) → look kind (live es) q ≡ f (look kind (live bs)) q
      looks_es f h q = ap (λ z. look kind z q) live_es ∙ h q ∙ ap (λ z. f (look kind z) q) (sym is_live)

    -- ---- the label is held

    module _ (x : Spot) (c : ℕ) (looks : Looks kind bs n (Some x) c) where
      lies : Lies kind bs n x.bucket x.slot
      lies = looks_lies kind bs n some x c looks

      abbrev y : Bucket L V
      y = (pick bs x.bucket lies.0).0

      y_is : y ≡ get_or bs x.bucket y
      y_is = (pick bs x.bucket lies.0).1

      held_look : look kind bs n ≡ Some (slot_of y x.slot).payload
      held_look = look_at kind bs sound n x.bucket x.slot y y_is lies

      pub ask_held : Asks kind bs n true bs
      ask_held = record { same = refl; answer = live_room (held_room (look kind bs) (Fits kind (length bs)) (laws kind bs sound) n (ap is_some held_look)) }

      pub put_held : (v old : V) (es : List (Bucket L V)) → ((d : Bucket L V) → old ≡ (slot_of (get_or bs x.bucket d) x.slot).payload) → es ≡ modify (with_payload x.slot v) bs x.bucket → Puts kind bs l v (Ok (Replaced old)) es
      put_held v old es was area =
          let size : length es ≡ length bs = ap length area ∙ length_modify (with_payload x.slot v) bs x.bucket in
          record {
            kept = kept_es es size
                (rw area (with_payload_sound kind bs sound n x.bucket x.slot v lies))
                (rw area (rest_with_payload bs x.bucket x.slot v at_rest));
            size = size;
            stores = (
              ap (λ z. look kind z n) is_live ∙ held_look ∙ ap Some (ap (λ b. (slot_of b x.slot).payload) y_is ∙ sym (was y)),
              looks_es es size (λ f. changed f n (Some v)) (λ q. let put = with_payload_look kind bs sound n x.bucket x.slot v lies q in rw area (grind (arith, nat_tests))),
              λ i k h. elsewhere i k (rw is_live at h),
            );
          }
        where
          elsewhere : (i k : ℕ) → Lies kind bs n i k → es ≡ modify (with_payload k v) bs i
          elsewhere i k h = let one = sound.once n x.bucket x.slot i k lies h in cc

    -- ---- it is held nowhere

    module _ (none : Nowhere kind bs n) where
      none_look : look kind (live bs) n ≡ None
      none_look = ap (λ z. look kind z n) is_live ∙ look_none kind bs n none

      no_room : UsedUp kind bs n → Room kind bs n → ⊥
      no_room u room = used_up kind bs n u.0 sound none u.1 (rw is_live at room)

      pub put_full : (v : V) → UsedUp kind bs n → Puts kind bs l v (Err Full) bs
      put_full v u = record { kept = kept; size = refl; stores = (none_look, no_room u, refl) }

      pub ask_full : UsedUp kind bs n → Asks kind bs n false bs
      ask_full u = record { same = refl; answer = no_room u }

      -- moves lead back from the end of its search
      module _ (t : Trail) (e k : ℕ) (r : Reached kind bs (first_of kind (length bs) n) (second_of kind (length bs) n) t e 0) (here : e < t.count) (low : LowestAt bs (t.bucket e) k) (m : ℕ) (cs : List (Bucket L V)) (a j : ℕ) (moved : Moved kind t bs e k m cs a j) (home : a < t.starts) (v : V) (es : List (Bucket L V)) (area : es ≡ occupied kind cs n (t.bucket a) j l v) where
        more : Grown kind bs n v m es
        more = rw area (grown kind bs n t e k r here low small sound none m cs a j moved home l v refl)

        adds : Adds kind bs l v m es
        adds =
            record {
              trail = t;
              place = e;
              slot = k;
              reached = r;
              ended = (here, low);
              table = cs;
              home = a;
              freed = j;
              moved = moved;
              start = home;
              between = λ i ds b x w.
                  let good = moved_good kind bs (first_of kind (length bs) n) (second_of kind (length bs) n) t e k r here low small i ds b x w in
                  record { sound = good.sound sound; finds = good.finds sound };
              area = area;
            }

        pub put_walk : Puts kind bs l v (Ok (Added m)) es
        put_walk =
            record {
              kept = kept_es es more.long more.sound (more.blank at_rest);
              size = more.long;
              stores = (none_look, live_room more.room, looks_es es more.long (λ f. changed f n (Some v)) more.finds, more.few, adds);
            }

    module _ (c : ℕ) (looks : Looks kind bs n None c) where
      none_here : Nowhere kind bs n
      none_here = looks_nowhere kind bs n sound c looks

      module _ (ms : List (Bucket L V)) (q : Plan) (walk : Walkable ms q) (plan : Planned kind bs n ms q) where
        abbrev trail : Trail
        trail = trail_of ms q.starts q.count

        reached : Reached kind bs (first_of kind (length bs) n) (second_of kind (length bs) n) trail q.place 0
        reached = plan.search.reached

        within : q.place < q.count
        within = omega arith

        low : LowestAt bs (trail.bucket q.place) q.free.slot
        low = rw walk.bucket at plan.free

        pub ask_ready : (gs : List (Bucket L V)) → (Marked ms q.count → gs ≡ unmarked ms) → Asks kind bs n true gs
        ask_ready gs blanked =
            record {
              same = blanked plan.search.marked ∙ plan.search.same;
              answer = live_room (ended_room kind bs n trail q.place q.free.slot reached within low small sound none_here l refl);
            }

        pub follows_start : Follows kind trail bs q.place q.free.slot ms q
        follows_start =
            record {
              buckets = λ j. refl;
              parents = λ j. refl;
              slots = λ j. refl;
              starts = refl;
              moved = rw (plan.none, plan.search.same) start;
            }

        module _ (v : V) (ms' gs es : List (Bucket L V)) (q' : Plan) (follows : Follows kind trail bs q.place q.free.slot ms' q') (home : q'.place < q'.starts) (eb : q'.free.bucket ≡ bucket_at ms' q'.place) (blanked : gs ≡ unmarked ms') (area : es ≡ occupied kind gs n q'.free.bucket q'.free.slot l v) where
          at_start : q'.place < trail.starts
          at_start = let same = follows.starts in omega arith

          area_is : es ≡ occupied kind (unmarked ms') n (trail.bucket q'.place) q'.free.slot l v
          area_is = let same = follows.buckets q'.place in cc

          pub put_added : Puts kind bs l v (Ok (Added q'.moves)) es
          put_added =
              put_walk none_here trail q.place q.free.slot reached within low q'.moves (unmarked ms') q'.place q'.free.slot follows.moved at_start v es area_is

    -- ---- it is denied, in the one way there is

    module _ (ms : List (Bucket L V)) where
      pub put_denied : (v : V) (e : Denied) (r : Result (Stored V) Denied) → IsErr r → FindsOut kind bs n ms (Err e) → Puts kind bs l v r ms
      put_denied v Full (Ok s) is_err told = absurd (cc)
      put_denied v Full (Err Full) is_err told =
          let full = told.0 at_rest in
          rw full.0 (put_full (none_here told.1.0 told.1.1) v full.1)

      pub ask_denied : (e : Denied) → FindsOut kind bs n ms (Err e) → Asks kind bs n false ms
      ask_denied Full told = let full = told.0 at_rest in rw full.0 (ask_full (none_here told.1.0 told.1.1) full.1)
