-- The block stays out over the three calls, so its ending is accepted.
use Rattle.service.specs.declared.entry.Ending.TheVariants.{Commit, Abandon, Condemn}
use Rattle.service_examples.proofs.Out.{begin_out, out_stays, not_refused}
use Rattle.service_examples.proofs.holding.busy.Goals as goal

pub drop-grant-requires : goal.drop-grant-requires
drop-grant-requires g c =
    let n = c.args.n in
    let grant = c.in_ok-grant.grant in
    let begun = c.in_ok-grant.ensures in
    let out = begin_out g.B.Map g.S.Map c.args.service.now c.begin.new.self n grant begun.faulty begun.leaves in
    let written = out_stays g.B.Map g.S.Map c.begin.new.self c.write.new.self Commit n grant.block c.write.result out c.write.ensures.leaves in
    let dropped = out_stays g.B.Map g.S.Map c.write.new.self c.drop.new.self Abandon n grant.block c.drop.result written c.drop.ensures.leaves in
    let spoiled = out_stays g.B.Map g.S.Map c.drop.new.self c.spoil.new.self Condemn n grant.block c.spoil.result dropped c.spoil.ensures.leaves in
    absurd (not_refused g.B.Map g.S.Map c.spoil.new.self c.abandon.new.self Abandon n grant c.in-Err._grant c.in-Err.why begun.leaves.0 spoiled c.in-Err.ensures.leaves)
