-- The text of a tape's calls, reading by reading.
use Rattle.std.proofs.Common.{◌≡◌, ℕ, ◌+◌, ◌*◌, ◌<◌, ◌≤◌, List, [], ◌∷◌, ◌++◌, length, Bool, true, false, Some, Ok, Err, ap, ◌∙◌, arith, append_assoc, append-nil, length-append, refl, sym}
use Rattle.refusal.specs.declared.Refusal.{Refusal}
use Rattle.call_tape.specs.declared.calls.Call.{Call}
use Rattle.call_tape.specs.declared.faults.Fault.{Fault}
use Rattle.call_tape.specs.declared.fields.Reader.{Reader}
use Rattle.call_tape.specs.declared.fields.Reading.{Reading}
use Rattle.call_tape.specs.Fields.{most_bytes, Next, Gives, Opened}
use Rattle.call_tape.specs.Soundness.{calls_in, FaultsAdded}
use Rattle.call_tape.specs.Written.{encoded, written, AllSmall}
use Rattle.call_tape.proofs.Cutting.{Bytes}
use Rattle.call_tape.proofs.Judging.{sound_said}
use Rattle.call_tape.proofs.Leading.{leads_on, call_leads}
use Rattle.call_tape.proofs.Runs.{unopened_reads}
use Rattle.call_tape.proofs.Sorting.{call_more, no_call_more}
use Rattle.tape_text.specs.Calls.{call_text}
use Rattle.tape_text.specs.Lines.{said}
use Rattle.tape_text.specs.Taken.{HasTextWithin, CallsSaid, Worded}
use Rattle.tape_text.proofs.Lengths.{few_bytes}
use Rattle.tape_text.proofs.Sayings.{said_append}

module _ (rs : List Reading) (r : Reading) (x y : List ℕ) (so_far : y ≡ x ++ said (calls_in rs)) where
  pub call_said : (c : Call) (z : List ℕ) → r.outcome ≡ Ok c → z ≡ y ++ (call_text c ++ 10 ∷ []) → z ≡ x ++ said (calls_in (rs ++ r ∷ []))
  call_said c z is e =
      let more : said (calls_in (rs ++ r ∷ [])) ≡ said (calls_in rs) ++ (call_text c ++ 10 ∷ []) = ap said (call_more rs r c is) ∙ said_append (calls_in rs) (c ∷ []) in
      e ∙ (ap (λ t. t ++ (call_text c ++ 10 ∷ [])) so_far ∙ (append_assoc x (said (calls_in rs)) _ ∙ ap (λ t. x ++ t) (sym more)))

  pub fault_unsaid : (e : Refusal) → r.outcome ≡ Err e → y ≡ x ++ said (calls_in (rs ++ r ∷ []))
  fault_unsaid e is = so_far ∙ ap (λ cs. x ++ said cs) (sym (no_call_more rs r e is))

-- the reader r gives the reading x, and is then s
module _ (T : List ℕ) (r s : Reader) (x : Reading) (gives : Gives r (Some x) s) (at : r.tape.now ≡ T) where
  next : Next T r.place (Some x) s.place
  next = rw at at gives.1

  pub on_tape : (s.tape.now ≡ T) × (r.place ≤ s.place) × (s.place ≤ length T)
  on_tape = let on = leads_on T r.place x s.place next in (gives.0 ∙ at, on.0, on.1)

  -- three bytes for each byte of its field are room for the line of a call
  pub line_fits : (c : Call) → Bytes T → x.outcome ≡ Ok c → length (call_text c) + 1 + 3 * r.place ≤ 3 * s.place
  line_fits c bytes is = let own = call_leads T r.place x s.place c bytes next is in omega (arith, own.1, few_bytes c own.0)

said_within : (cs : List Call) → AllSmall cs → length (said cs) ≤ 3 * length (written cs)
said_within [] h = omega arith
said_within (c ∷ cs) h = omega (arith, length-append (call_text c) (10 ∷ said cs), length-append (encoded c) (written cs), few_bytes c h.0, said_within cs h.1)

pub text_within : (T : List ℕ) → HasTextWithin T (3 * length T)
text_within T cs (l, small, is) = omega (arith, ap length is, said_within cs small)

pub no_text_of_longer : (T : List ℕ) → most_bytes < length T → HasTextWithin T 0
no_text_of_longer T h cs sound = absurd (omega (arith, h, sound.0))

-- a tape that is not opened says no call
pub unopened_said : (T : List ℕ) (f : Fault) (x : List ℕ) → Opened T (Err f) → CallsSaid T x x
unopened_said T f x h = (_, unopened_reads T f _ h refl, sym (append-nil x))

-- a sound tape, of which no fault was added
pub worded_sound : (T x y : List ℕ) (fs gs : List Fault) (b : Bool) → b ≡ true → FaultsAdded T fs gs b → CallsSaid T x y → Worded T x fs y gs b
worded_sound T x y fs gs true _ (all, is, (none, (cs, sound))) (rs, says, e) =
    ((cs, sound, rw (sound_said T cs rs sound says) at e), is ∙ (ap (λ z. fs ++ z) none ∙ append-nil fs))
worded_sound T x y fs gs false e added says = absurd cc
