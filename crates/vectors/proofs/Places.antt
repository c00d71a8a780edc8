-- The lines read so far, and the line after them.
use Rattle.std.proofs.Common.{◌≡◌, ℕ, ◌+◌, ◌<◌, List, [], ◌∷◌, ◌++◌, length, get_or, take, drop, suc, arith}
use Rattle.std.proofs.Math.Seq.{split_at}
use Rattle.std.specs.List.{AllZip}
use Rattle.vectors.specs.declared.agreement.Vector.{Vector}
use Rattle.vectors.specs.Reading.{Says, SaysNothing, FailsAt}

pub said_more : (lines : List (List ℕ)) (vs : List Vector) (line : List ℕ) (v : Vector) → AllZip Says lines vs → Says line v → AllZip Says (lines ++ line ∷ []) (vs ++ v ∷ [])
said_more [] [] line v all more = (more, tt)
said_more [] (w ∷ vs) line v all more = absurd all
said_more (l ∷ lines) [] line v all more = absurd all
said_more (l ∷ lines) (w ∷ vs) line v all more = (all.0, said_more lines vs line v all.1 more)

pub said_length : (lines : List (List ℕ)) (vs : List Vector) → AllZip Says lines vs → length lines ≡ length vs
said_length [] [] all = omega arith
said_length [] (w ∷ vs) all = absurd all
said_length (l ∷ lines) [] all = absurd all
said_length (l ∷ lines) (w ∷ vs) all = omega (arith, said_length lines vs all.1)

-- the lines so far are the first k
pub fails_at : (lines good : List (List ℕ)) (bad : List ℕ) (vs : List Vector) (k : ℕ) → good ≡ take k lines → (k < length lines) × (bad ≡ get_or lines k bad) → AllZip Says good vs → SaysNothing bad → FailsAt lines (length vs + 1)
fails_at lines good bad vs k start (within, here) all nothing =
    let cut = split_at lines k bad within in
    record { good = good; bad = bad; rest = drop (suc k) lines; vectors = vs; parts = cc; number = omega (arith, said_length good vs all); before = all; here = nothing }
