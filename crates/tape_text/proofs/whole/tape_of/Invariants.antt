-- The writer holds the calls of the lines so far.
use Rattle.std.proofs.Common.{◌≡◌, List, map}
use Rattle.call_tape.specs.declared.calls.Call.{Call}
use Rattle.call_tape.specs.Writing.{Holds}
use Rattle.tape_text.specs.Lines.{LinesSay}
use Rattle.tape_text.proofs.whole.tape_of.Given as goal

abbrev pub invariant-loop-above : goal.invariant-loop-above
invariant-loop-above l =
    (cs : List Call) × LinesSay (map (λ p. p.1.now) l.yielded) cs × Holds l.initial.writer.area.now l.writer.area.now l.writer.used cs
    × (l.writer.area.ghost_name ≡ l.initial.writer.area.ghost_name)
