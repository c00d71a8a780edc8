-- A refused service gives no grant.
use Rattle.service_examples.proofs.Out.{no_grant, still_refused}
use Rattle.service_examples.proofs.making.refused_begin.Goals as goal

pub drop-grant-requires : goal.drop-grant-requires
drop-grant-requires g c = absurd (no_grant g.B.Map g.S.Map c.args.service.now c.begin.new.self c.in-Ok._grant c.args.refusal c.requires c.in-Ok.ensures.faulty)

pub returns-in-Ok : goal.returns-in-Ok
returns-in-Ok g c = absurd (no_grant g.B.Map g.S.Map c.args.service.now c.begin.new.self c.in-Ok._grant c.args.refusal c.requires c.in-Ok.ensures.faulty)

pub returns-in-Err : goal.returns-in-Err
returns-in-Err g c = still_refused g.B.Map g.S.Map c.args.service.now c.begin.new.self _ c.args.refusal c.requires c.in-Err.ensures.faulty
