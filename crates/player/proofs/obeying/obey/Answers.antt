-- Grants given.
use Rattle.std.proofs.Common.{Some, sym, refl, ap, ◌∙◌}
use Rattle.rules.specs.declared.Call.TheVariants.{Begin, Append}
use Rattle.service.specs.Service.{label_number}
use Rattle.service.proofs.Fixed.{begins_fixed, appends_fixed}
use Rattle.player.specs.Hands.{block_at}
use Rattle.player.specs.Playing.{asked}
use Rattle.player.proofs.Standing.{obeyed_giving, obeyed_appending}
use Rattle.player.proofs.obeying.obey.Goals as goal

pub returns-in-Begin-clause-obeys : goal.returns-in-Begin-clause-obeys
returns-in-Begin-clause-obeys g c =
    let both = obeyed_giving g.B.Map g.S.Map _ _ (Begin c.in-Begin.n) refl c.begin.result _ _ _ _ refl c.keep.ensures.keeps
    (begins_fixed g.B.Map g.S.Map _ _ c.in-Begin.n c.begin.result c.begin.ensures.leaves) c.begin.ensures.step in
    (ap (asked (block_at c.args.held.now.items)) c.in-Begin.is, both.0, both.1)

pub returns-in-Append-clause-obeys : goal.returns-in-Append-clause-obeys
returns-in-Append-clause-obeys g c =
    let is = c.number.ensures.number in
    let both = obeyed_appending g.B.Map g.S.Map _ _ (label_number c.in-Append.l) _ is c.append.result _ _ _ _ refl c.keep-in-Append.ensures.keeps
    (appends_fixed g.B.Map g.S.Map _ _ (label_number c.in-Append.l) c.append.result c.append.ensures.leaves) c.append.ensures.step in
    (ap (asked (block_at c.args.held.now.items)) c.in-Append.is ∙ (λ i. Some (Append (sym is i))), both.0, both.1)
