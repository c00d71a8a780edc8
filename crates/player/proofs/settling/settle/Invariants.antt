-- Where the grants were those of a life, they still are; and one fewer is left.
use Rattle.std.proofs.Common.{◌≡◌, vec_len}
use Rattle.rules.specs.History.{History}
use Rattle.service.specs.Service.{Fixed}
use Rattle.player.specs.Playing.{ReachedWith, given_up}
use Rattle.player.proofs.settling.settle.Given as goal

abbrev pub invariant-loop-grant : goal.invariant-loop-grant
invariant-loop-grant g l = Fixed g.B.Map g.S.Map l.initial.service l.service × ((h : History) → ReachedWith g.B.Map g.S.Map h l.initial.service l.initial.held.items → (i : History) × ReachedWith g.B.Map g.S.Map i l.service l.held.items × (given_up l.held.items i ≡ given_up l.initial.held.items h))

abbrev pub decreases-loop-grant : goal.decreases-loop-grant
decreases-loop-grant g l = vec_len l.held
