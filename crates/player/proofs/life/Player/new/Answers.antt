-- A fresh service is at the start of a life, and the check's refusal has its reason.
use Rattle.std.proofs.Common.{◌∙◌}
use Rattle.player.proofs.Going.{refused_so, starts, holding}
use Rattle.player.proofs.life.Player.new.Goals as goal

pub returns-in-Err-clause-refused : goal.returns-in-Err-clause-refused
returns-in-Err-clause-refused g c = refused_so g.B.Map g.S.Map c.args.cells c.args.marks c.args.limit c.args.entries c.args.streams c.new-service.result c.in-Err.refusal c.in-Err.ensures c.new-service.ensures.makes c.new-service.ensures.areas

pub returns-in-Ok-clause-promised : goal.returns-in-Ok-clause-promised
returns-in-Ok-clause-promised g c =
    holding g.B.Map g.S.Map c.new-service.result c.pages-held.result.0.items c.pages-held.result.1.items
    ∣ starts g.B.Map g.S.Map c.new-service.result _ _ ((λ i. (c.pages-held.ensures.held i).items) ∙ c.args.notebook.no_grants) ((λ i. (c.pages-held.ensures.log i).items) ∙ c.args.notebook.blank) (c.new-service.ensures.makes.passed c.in-Ok.ensures) ∣₁
