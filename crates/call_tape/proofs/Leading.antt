-- How far one reading leads.
use Rattle.std.proofs.Common.{◌≡◌, ℕ, ◌+◌, ◌≤◌, List, length, drop, Some, Ok, Err, Result, sym, ap, ◌∙◌, inl, inr, arith, length-drop}
use Rattle.std.proofs.lemmas.List.{length-take-le}
use Rattle.refusal.specs.declared.Refusal.{Refusal}
use Rattle.refusal.specs.declared.Refusal.TheVariants.{FieldCutShort}
use Rattle.call_tape.specs.declared.calls.Call.{Call}
use Rattle.call_tape.specs.declared.fields.Reading.{Reading}
use Rattle.call_tape.specs.Calls.{contents_of, Small, decoded, Decodes, call}
use Rattle.call_tape.specs.Fields.{tag_at, size_at, contents_at, Next}
use Rattle.call_tape.proofs.Cutting.{Bytes, bytes_part}
use Rattle.call_tape.proofs.Decoding.{decodes}

-- within the tape, and not back
pub leads_on : (T : List ℕ) (p : ℕ) (r : Reading) (q : ℕ) → Next T p (Some r) q → (p ≤ q) × (q ≤ length T)
leads_on T p r q (inl (c, e, b)) = (omega (arith, b), omega (arith, b))
leads_on T p r q (inr (w, e, b)) = (omega (arith, b), omega (arith, b))

own_size : (t : ℕ) (xs : List ℕ) (o : Result Call Refusal) (c : Call) → Decodes t xs o → o ≡ Ok c → Small c × (xs ≡ contents_of c)
own_size t xs (Ok d) c (call _ small tag is) e = let same : d ≡ c = cc in rw (← same) (small, is)
own_size t xs (Err f) c h e = absurd cc

-- a call leads behind its own field
pub call_leads : (T : List ℕ) (p : ℕ) (r : Reading) (q : ℕ) (c : Call) → Bytes T → Next T p (Some r) q → r.outcome ≡ Ok c → Small c × (q ≡ p + 3 + length (contents_of c))
call_leads T p r q c bytes (inl (h, e, b)) is = let f : r.outcome ≡ Err FieldCutShort = ap (λ z. z.outcome) e in absurd cc
call_leads T p r q c bytes (inr (w, e, b)) is =
    let own = own_size (tag_at T p) (contents_at T p) (decoded (tag_at T p) (contents_at T p)) c (decodes (contents_at T p) (bytes_part T (size_at T p) (p + 3) bytes) (tag_at T p)) (ap (λ z. z.outcome) (sym e) ∙ is) in
    let size : size_at T p ≡ length (contents_of c) = sym (length-take-le (size_at T p) (drop (p + 3) T) (rw length-drop (omega arith))) ∙ ap length own.1 in
    (own.0, omega (arith, b, size))
