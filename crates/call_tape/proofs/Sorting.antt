-- The calls and the faults among readings, reading by reading.
use Rattle.std.proofs.Common.{◌≡◌, List, [], ◌∷◌, ◌++◌, Ok, Err, Result, refl, ap, ◌∙◌, append-nil, append_assoc}
use Rattle.refusal.specs.declared.Refusal.{Refusal}
use Rattle.call_tape.specs.declared.calls.Call.{Call}
use Rattle.call_tape.specs.declared.faults.Fault.{Fault}
use Rattle.call_tape.specs.declared.fields.Reading.{Reading}
use Rattle.call_tape.specs.Soundness.{calls_in, faults_in}

both_append : (rs ss : List Reading) → (calls_in (rs ++ ss) ≡ calls_in rs ++ calls_in ss) × (faults_in (rs ++ ss) ≡ faults_in rs ++ faults_in ss)
both_append [] ss = (refl, refl)
both_append (x ∷ rs) ss = go x.outcome (both_append rs ss)
  where
    go : (o : Result Call Refusal) → (calls_in (rs ++ ss) ≡ calls_in rs ++ calls_in ss) × (faults_in (rs ++ ss) ≡ faults_in rs ++ faults_in ss)
        → (calls_in (record { place = x.place; outcome = o } ∷ (rs ++ ss)) ≡ calls_in (record { place = x.place; outcome = o } ∷ rs) ++ calls_in ss)
        × (faults_in (record { place = x.place; outcome = o } ∷ (rs ++ ss)) ≡ faults_in (record { place = x.place; outcome = o } ∷ rs) ++ faults_in ss)
    go (Ok c) (p, q) = (ap (λ z. c ∷ z) p, q)
    go (Err e) (p, q) = (p, ap (λ z. record { place = x.place; refusal = e } ∷ z) q)

-- one reading more
module _ (rs : List Reading) (r : Reading) where
  pub call_more : (c : Call) → r.outcome ≡ Ok c → calls_in (rs ++ r ∷ []) ≡ calls_in rs ++ c ∷ []
  call_more c e = (both_append rs (r ∷ [])).0 ∙ rw e refl

  pub no_call_more : (e : Refusal) → r.outcome ≡ Err e → calls_in (rs ++ r ∷ []) ≡ calls_in rs
  no_call_more e is = (both_append rs (r ∷ [])).0 ∙ rw is (append-nil (calls_in rs))

  fault_more : (e : Refusal) → r.outcome ≡ Err e → faults_in (rs ++ r ∷ []) ≡ faults_in rs ++ record { place = r.place; refusal = e } ∷ []
  fault_more e is = (both_append rs (r ∷ [])).1 ∙ rw is refl

  -- and behind others
  pub fault_behind : (xs ys zs : List Fault) (e : Refusal) → r.outcome ≡ Err e → ys ≡ xs ++ faults_in rs → zs ≡ ys ++ record { place = r.place; refusal = e } ∷ [] → zs ≡ xs ++ faults_in (rs ++ r ∷ [])
  fault_behind xs ys zs e is p q = rw (fault_more e is) (q ∙ (ap (λ fs. fs ++ record { place = r.place; refusal = e } ∷ []) p ∙ append_assoc xs (faults_in rs) _))

  pub no_fault_more : (c : Call) → r.outcome ≡ Ok c → faults_in (rs ++ r ∷ []) ≡ faults_in rs
  no_fault_more c is = (both_append rs (r ∷ [])).1 ∙ rw is (append-nil (faults_in rs))
