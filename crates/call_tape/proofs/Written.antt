-- A tape that is written from calls says those calls.
use Rattle.std.proofs.Common.{◌≡◌, ℕ, ◌+◌, ◌*◌, ◌/◌, ◌%◌, List, [], ◌∷◌, ◌++◌, length, sym, refl, subst, inr, append_assoc, arith, length-append, get_or-append-add}
use lib.Seq.{get_or-append_seam, drop-append-add, take-append_seam}
use Rattle.call_tape.specs.declared.calls.Call.{Call}
use Rattle.call_tape.specs.declared.calls.Call.TheVariants.{Write, Drop, Spoil, Read, Trim, Open, Append, Close, Tally}
use Rattle.call_tape.specs.declared.fields.Reading.{Reading}
use Rattle.call_tape.specs.Calls.{tag_of, contents_of, decoded}
use Rattle.call_tape.specs.Fields.{tag_at, size_at, contents_at, Whole}
use Rattle.call_tape.specs.Tapes.{Reads, end, field}
use Rattle.call_tape.specs.Written.{encoded, written, AllSmall, placed, WrittenReads}
use Rattle.call_tape.proofs.Decoding.{own_field}

-- the field that stands behind the bytes B
module _ (B : List ℕ) (t a b : ℕ) (xs rest : List ℕ) (n : length xs ≡ a * 256 + b) where
  abbrev whole_tape : List ℕ
  whole_tape = B ++ (t ∷ a ∷ b ∷ (xs ++ rest))

  tag_here : tag_at whole_tape (length B) ≡ t
  tag_here = get_or-append_seam B t _ 0

  size_here : size_at whole_tape (length B) ≡ length xs
  size_here = rw (get_or-append-add B (t ∷ a ∷ b ∷ (xs ++ rest)) 1 0, get_or-append-add B (t ∷ a ∷ b ∷ (xs ++ rest)) 2 0) (sym n)

  contents_here : contents_at whole_tape (length B) ≡ xs
  contents_here = rw (size_here, drop-append-add B (t ∷ a ∷ b ∷ (xs ++ rest)) 3) (take-append_seam xs rest)

  whole_here : Whole whole_tape (length B)
  whole_here = rw size_here (simp length-append (omega arith))

  pub reads_field : (rs : List Reading) → Reads whole_tape (length B + 3 + length xs) rs → Reads whole_tape (length B) (record { place = length B; outcome = decoded t xs } ∷ rs)
  reads_field rs h =
      let P : ℕ → List ℕ → Type 0 = λ i ys. Reads whole_tape (length B) (record { place = length B; outcome = decoded i ys } ∷ rs) in
      subst (λ i. P i xs) tag_here (subst (λ ys. P (tag_at whole_tape (length B)) ys) contents_here (field (length B) rs whole_here (rw (← size_here) at h)))

-- the two bytes of a length say it
size_said : (c : Call) → length (contents_of c) ≡ ((length (contents_of c) / 256) % 256) * 256 + length (contents_of c) % 256
size_said (Write n) = refl
size_said (Drop n) = refl
size_said (Spoil n) = refl
size_said (Read n) = refl
size_said (Trim n) = refl
size_said (Open o) = refl
size_said (Append l) = refl
size_said (Close l) = refl
size_said Tally = refl

reads_behind : (B : List ℕ) (cs : List Call) → AllSmall cs → Reads (B ++ written cs) (length B) (placed (length B) cs)
reads_behind B [] h = end (length B) (simp length-append (omega arith))
reads_behind B (c ∷ cs) h =
    let e : length (B ++ encoded c) ≡ length B + 3 + length (contents_of c) = simp length-append (omega arith) in
    let k = rw (append_assoc, e) at (reads_behind (B ++ encoded c) cs h.1) in
    rw (own_field c h.0) at (reads_field B (tag_of c) _ _ (contents_of c) (written cs) (size_said c) _ k)

pub written_reads : WrittenReads
written_reads cs h l = inr (l, reads_behind [] cs h)
