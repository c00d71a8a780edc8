-- A block sent out at the stream's next number.
use Rattle.std.proofs.Common.{false, refl, Ok}
use Rattle.service.proofs.Streaming.{appended, appends_goes}
use Rattle.service.proofs.state.Service.append.Goals as goal

pub returns-clause-leaves : goal.returns-clause-leaves
returns-clause-leaves g c = (
  refl,
  appended g.B.Map g.S.Map _ _ _ _ c.find.ensures _ c.in_ok-stream.ensures.ok_part c.if-stream.false _ _ c.in_ok-block.ensures.leaves _
      c.advanced.ensures _ _ c.put.ensures,
)

pub returns-clause-step : goal.returns-clause-step
returns-clause-step g c =
    appends_goes g.B.Map g.S.Map _ _ _ (Ok (record { number = c.in_ok-stream.stream.next; block = c.in_ok-block.block; spent = false })) (returns-clause-leaves g c)
