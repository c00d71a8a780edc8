-- The grant comes back as it was, so its own service ends it.
use Rattle.std.proofs.Common.{sym, ap, subst, ◌∙◌}
use Rattle.service.specs.declared.entry.Ending.TheVariants.{Abandon}
use Rattle.service_examples.proofs.Out.{Out, begin_out, not_refused}
use Rattle.service_examples.proofs.holding.foreign.Goals as goal

pub drop-same-requires : goal.drop-same-requires
drop-same-requires g c =
    let m = c.begin.new.self in
    let begun = c.in_ok-grant.ensures in
    let same = c.in-Err.ensures in
    let out = begin_out g.B.Map g.S.Map c.args.own.now m 7 c.in_ok-grant.grant begun.faulty begun.leaves in
    absurd (not_refused g.B.Map g.S.Map m c.abandon.new.self Abandon 7 c.in-Err.same c.in-Err-abandon._same c.in-Err-abandon.why (ap (λ x. x.number) same ∙ begun.leaves.0) (subst (λ x. Out g.B.Map g.S.Map m 7 x.block) (sym same) out) c.in-Err-abandon.ensures.leaves)
