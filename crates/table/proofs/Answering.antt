-- What find and take answer, from where the label was found.
use Rattle.std.proofs.Common.{◌≡◌, ℕ, ◌<◌, true, false, cond, eqb, List, [], length, get_or, Some, None, sym, refl, ap, ◌∙◌, subst, arith}
use Rattle.std.proofs.lemmas.Bool.{cond-false, cond-true, true≢false}
use Rattle.std.specs.Map.{update}
use Rattle.label.specs.declared.Label.{Ghosts}
use Rattle.label.proofs.Sameness.{eqb_swap}
use Rattle.bucket.specs.Changes.{freed, counted_back}
use Rattle.bucket.specs.Slots.{slot_of}
use Rattle.bucket.specs.Spread.{allowed_size}
use Rattle.bucket.specs.declared.slots.Bucket.{Bucket}
use Rattle.bucket.specs.declared.slots.Slot.{Slot}
use Rattle.bucket.proofs.Lists.{pick}
use Rattle.bucket.proofs.Sizes.{allowed_pos, allowed_true}
use Rattle.table.specs.Finding.{Finds, Looks}
use Rattle.table.specs.Moving.{Takes, vacated}
use Rattle.table.specs.Tables.{Lies, Nowhere, Sound, WellKept, first_of, live, look, unmarked}
use Rattle.table.specs.Twins.{SameFind}
use Rattle.table.specs.declared.finding.Found.{Found}
use Rattle.table.specs.declared.finding.Spot.{Spot}
use Rattle.table.proofs.Both.{length_at_both}
use Rattle.table.proofs.Leaving.{vacate_look, vacate_sound}
use Rattle.table.proofs.Looking.{look_but, look_none, look_some}
use Rattle.table.proofs.Marks.{rest_vacated}
use Rattle.table.proofs.Rule.{looks_lies, looks_nowhere}

module _ {X : Type 0} (bs : List X) where
  pub live_right : allowed_size (length bs) ≡ true → live bs ≡ bs
  live_right t = cond-true (allowed_size (length bs)) bs [] t

  pub live_wrong : allowed_size (length bs) ≡ false → live bs ≡ []
  live_wrong f = cond-false (allowed_size (length bs)) bs [] f

module _ {L V : Type 0} (kind : Ghosts L) (bs : List (Bucket L V)) (n : ℕ) where
  pub found_wrong : allowed_size (length bs) ≡ false → Finds kind bs n (record { payload = None; read = 0 })
  found_wrong f =
      record {
        right = λ t. absurd (true≢false (sym t ∙ f));
        wrong = λ _. (refl, refl);
        answer = λ _. sym (ap (λ z. look kind z n) (live_wrong bs f));
      }

  module _ (t : allowed_size (length bs) ≡ true) where
    some : 0 < length bs
    some = allowed_pos (length bs) (allowed_true (length bs) t)

    not_wrong : {P : Type 0} → allowed_size (length bs) ≡ false → P
    not_wrong f = absurd (true≢false (sym t ∙ f))

    sound_of : Sound kind (live bs) → Sound kind bs
    sound_of sound = subst (Sound kind) (live_right bs t) sound

    pub found : (x : Spot) (c : ℕ) (v : V) → Looks kind bs n (Some x) c → ((d : Bucket L V) → v ≡ (slot_of (get_or bs x.bucket d) x.slot).payload) → Finds kind bs n (record { payload = Some v; read = c })
    found x c v looks e =
        let lies = looks_lies kind bs n some x c looks in
        record {
          right = λ _. (x, looks, λ d. sym (e d));
          wrong = not_wrong;
          answer = λ sound.
              sym (look_some kind bs (sound_of sound) n x.bucket x.slot v lies (λ d. sym (e d))) ∙ ap (λ z. look kind z n) (sym (live_right bs t));
        }

    pub found_none : (c : ℕ) → Looks kind bs n None c → Finds kind bs n (record { payload = None; read = c })
    found_none c looks =
        record {
          right = λ _. looks;
          wrong = not_wrong;
          answer = λ sound. sym (look_none kind bs n (looks_nowhere kind bs n (sound_of sound) c looks)) ∙ ap (λ z. look kind z n) (sym (live_right bs t));
        }

  -- a twin has the same pairs
  pub same_find : (r : Found V) → Finds kind bs n r → SameFind kind bs n r
  same_find r f kept cs twin q g = g.answer twin.kept.sound ∙ twin.pairs n ∙ sym (f.answer kept.sound)

  -- ---- take

  unchanged : WellKept kind (live bs) → Nowhere kind (live bs) n → Takes kind bs n None bs
  unchanged kept nowhere =
      record {
        kept = kept;
        size = refl;
        pairs = λ m. look_but (look kind (live bs)) (look kind (live bs)) n m None (look_none kind (live bs) n nowhere) (λ ne. refl)
            ∙ ap (λ b. cond b None (look kind (live bs) m)) (eqb_swap m n);
        answer = sym (look_none kind (live bs) n nowhere);
        held = λ i k l. absurd (nowhere i k l);
        none = λ _. refl;
      }

  pub took_wrong : allowed_size (length bs) ≡ false → WellKept kind (live bs) → Takes kind bs n None bs
  took_wrong f kept = unchanged kept (subst (λ z. Nowhere kind z n) (sym (live_wrong bs f)) (λ i k l. let h = l.0 in omega arith))

  module _ (t : allowed_size (length bs) ≡ true) (kept : WellKept kind (live bs)) where
    abbrev at_rest : unmarked bs ≡ bs
    at_rest = subst (λ z. unmarked z ≡ z) (live_right bs t) kept.blank

    pub took_none : (c : ℕ) → Looks kind bs n None c → Takes kind bs n None bs
    took_none c looks = unchanged kept (subst (λ z. Nowhere kind z n) (sym (live_right bs t)) (looks_nowhere kind bs n (sound_of t kept.sound) c looks))

    module _ (x : Spot) (c : ℕ) (looks : Looks kind bs n (Some x) c) (s : Slot L V) (es : List (Bucket L V)) (slot : (d : Bucket L V) → s ≡ slot_of (get_or bs x.bucket d) x.slot) (area : es ≡ vacated kind bs (kind.number s.label) x.bucket x.slot) where
      lies : Lies kind bs n x.bucket x.slot
      lies = looks_lies kind bs n (some t) x c looks

      abbrev y : Bucket L V
      y = (pick bs x.bucket lies.0).0

      y_is : y ≡ get_or bs x.bucket y
      y_is = (pick bs x.bucket lies.0).1

      area_is : es ≡ vacated kind bs n x.bucket x.slot
      area_is = area ∙ ap (λ z. vacated kind bs z x.bucket x.slot) (ap (λ z. kind.number z.label) (slot y) ∙ (lies.2 y).1)

      size : length es ≡ length bs
      size = ap length area_is ∙ length_at_both (freed x.slot) counted_back bs x.bucket (first_of kind (length bs) n)

      live_es : live es ≡ es
      live_es = live_right es (ap allowed_size size ∙ t)

      pub took : Takes kind bs n (Some s.payload) es
      took =
          record {
            kept = subst (WellKept kind) (sym (live_es ∙ area_is)) (record {
              sound = vacate_sound kind bs (sound_of t kept.sound) n x.bucket x.slot y lies y_is;
              blank = rest_vacated kind bs n x.bucket x.slot at_rest;
            });
            size = size;
            pairs = λ m. ap (λ z. look kind z m) (live_es ∙ area_is) ∙ vacate_look kind bs (sound_of t kept.sound) n x.bucket x.slot y lies y_is m
                ∙ ap (λ b. cond b None (look kind bs m)) (eqb_swap m n)
                ∙ ap (λ z. update eqb (look kind z) n None m) (sym (live_right bs t));
            answer = sym (look_some kind bs (sound_of t kept.sound) n x.bucket x.slot s.payload lies (λ d. ap (λ z. z.payload) (sym (slot d))))
                ∙ ap (λ z. look kind z n) (sym (live_right bs t));
            held = λ i k l. elsewhere i k (subst (λ z. Lies kind z n i k) (live_right bs t) l);
            none = λ nowhere. absurd (nowhere x.bucket x.slot (subst (λ z. Lies kind z n x.bucket x.slot) (sym (live_right bs t)) lies));
          }
        where
          elsewhere : (i k : ℕ) → Lies kind bs n i k → es ≡ vacated kind bs n i k
          elsewhere i k l =
              let one = (sound_of t kept.sound).once n x.bucket x.slot i k lies l in
              area_is ∙ ap (λ z. vacated kind bs n z x.slot) one.0 ∙ ap (vacated kind bs n i) one.1
