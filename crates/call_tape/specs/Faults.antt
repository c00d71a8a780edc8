-- A fault of a tape, in words.
--   fault_words e   what is wrong, by the refusal e
--   fault_text f    the text of the fault f
-- Assumes nothing.
use Rattle.std.specs.Prelude.{ℕ, List, ◌++◌, cond, ◌==◌, codes, decimal}
use Rattle.refusal.specs.declared.Refusal.{Refusal}
use Rattle.refusal.specs.Numbers.{code, layer_of}
use Rattle.call_tape.specs.declared.faults.Fault.{Fault}

abbrev pub fault_words : Refusal → List ℕ
fault_words e =
    cond (code e == 13) (codes "the tape ends inside the field")
    (cond (code e == 14) (codes "no call has the tag")
    (cond (code e == 15) (codes "the length is wrong for the tag")
    (cond (code e == 16) (codes "the tape is above 65,535 bytes") (codes "no fault of a tape"))))

abbrev pub fault_text : Fault → List ℕ
fault_text f = codes "place " ++ (decimal f.place ++ (codes ": layer " ++ (decimal (layer_of (code f.refusal)) ++ (codes ", fault " ++ (decimal (code f.refusal) ++ (codes ": " ++ fault_words f.refusal))))))
