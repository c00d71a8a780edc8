-- The counters and what they leave over are the numbers of the places.
use Rattle.std.proofs.Common.{◌≡◌, ◌+◌, ◌-◌, length, arith}
use Rattle.ring.specs.Queue.{items, places}
use Rattle.service.proofs.Promising.{promised}
use Rattle.service.proofs.Reading.{tallied_lives}
use Rattle.service.proofs.state.Service.tally.Goals as goal

pub returns-clause-step : goal.returns-clause-step
returns-clause-step g c =
    let s = c.args.self.now in
    let waits : c.len-waiting.result ≡ length (items s.pool) = c.len-waiting.ensures.count in
    let rest : c.others-settled.result ≡ places s.pool - (length (items s.pool) + s.out + s.condemned) = omega arith in
    λ h lived. tallied_lives g.B.Map g.S.Map h s lived _
    (λ i. record { waiting = waits i; out = s.out; settled = rest i; condemned = s.condemned })

pub returns-clause-promised : goal.returns-clause-promised
returns-clause-promised g c = promised g.B.Map g.S.Map c.args.self.now
