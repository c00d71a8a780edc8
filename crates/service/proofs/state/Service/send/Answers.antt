-- The refusal where no block waits, and the block sent out.
use Rattle.std.proofs.Common.{◌≡◌, Ok, Err, sym, ◌∙◌, subst, rules}
use Rattle.refusal.specs.declared.Refusal.TheVariants.{NoBlockWaiting}
use Rattle.service.specs.declared.entry.Event.TheVariants.{Begin}
use Rattle.service.specs.Turns.{Turns}
use Rattle.service.proofs.Giving.{sent_out, no_block_waiting}
use Rattle.service.proofs.state.Service.send.Goals as goal

pub returns-in_err-b-clause-leaves : goal.returns-in_err-b-clause-leaves
returns-in_err-b-clause-leaves g c =
    let n = c.args.n in
    let turns = subst (Turns c.find-entry.result (Begin c.unwrap_or.result)) c.in_ok-turn.ensures.ok_part c.advance.ensures in
    let is : c.from_residual-in_err-b.result ≡ Err NoBlockWaiting = search rules in
    rw is (no_block_waiting g.B.Map g.S.Map c.args.self.now n _ (g.met.L.BlockNumber.made n _ c.from-label.ensures) _ _ c.find-entry.ensures turns.0
    (sym c.in_err-b.ensures.ok_part ∙ c.front-front.ensures))

pub returns-clause-leaves : goal.returns-clause-leaves
returns-clause-leaves g c =
    let n = c.args.n in
    let b = c.in_ok-b.b in
    let turns = subst (Turns c.find-entry.result (Begin c.unwrap_or.result)) c.in_ok-turn.ensures.ok_part c.advance.ensures in
    let front_is : c.unwrap_or.result ≡ b = search rules in
    let taken : c.store.result ≡ Ok tt = search rules in
    sent_out g.B.Map g.S.Map c.args.self.now n _ (g.met.L.BlockNumber.made n _ c.from-label.ensures) _ _ c.find-entry.ensures _ _ b c.unwrap_or.result _ _ _ turns.0 front_is turns.1
    (rw taken at c.store.ensures) (sym c.in_ok-b.ensures.ok_part ∙ c.front-front.ensures) c.pop_front.ensures c.saturating_add-self.ensures
