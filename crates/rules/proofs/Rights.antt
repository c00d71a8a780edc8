-- Every answer of a run is right: what is shown of lives goes by this alone, and no longer by steps.
use Rattle.std.proofs.Common.{◌≡◌, true, ◌⊎◌, [], ◌∷◌, ap, inl, inr, ⊎_elim}
use Rattle.refusal.specs.declared.Refusal.{Refusal}
use Rattle.rules.specs.Calls.{Limits, Standing}
use Rattle.rules.specs.declared.Call.{Call}
use Rattle.rules.specs.declared.Answer.{Answer}
use Rattle.rules.specs.declared.Call.TheVariants.{Begin as begin, Append as append, Commit as commit, Abandon as abandon, Condemn as condemn, Read as read, Trim as trim, Open as open_stream, Close as close_stream, Position as position, Tally as tally}
use Rattle.rules.specs.declared.Answer.TheVariants.{Refused as refused}
use Rattle.rules.specs.Rules.{Checks}
use Rattle.rules.specs.History.{History, Run, Ledger, ledger, accepted, grants, endings}
use Rattle.rules.specs.Lives.{Streams, streams}
use Rattle.rules.specs.Right.{Told, ByReasons, RightAnswer}
use Rattle.rules.proofs.Runs.{NoneOf, run_good}
use Rattle.rules.proofs.Streams.{run_streams}
use Rattle.rules.proofs.RightAnswers.{right}

abbrev pub AllRight : Limits → History → Type 0
AllRight k [] = Unit {0}
AllRight k (e ∷ h) = RightAnswer k (ledger k.blocks h) (streams h) e.0 e.1 × AllRight k h

pub run_right : (k : Limits) (h : History) (s : Standing) → Run k h s → AllRight k h
run_right k [] s run = tt
run_right k (e ∷ h) s (r, before, j) = (
  right k (ledger k.blocks h) r (grants h) (endings h) (run_good k h r before) (streams h) (run_streams k h r before) e.0 e.1 s j,
  run_right k h r before,
)

-- refused, or told where no reason applies
pub reasoned : (cs : Checks) (T : Type 0) (a : Answer) → ByReasons cs T a → ((i : Refusal) × (a ≡ refused i)) ⊎ (NoneOf cs × T)
reasoned [] T a j = inr (tt, j)
reasoned (c ∷ cs) T a (inl r) = inl (c.refusal, r.1)
reasoned (c ∷ cs) T a (inr r) = ⊎_elim inl (λ p. inr ((r.0, p.0), p.1)) (reasoned cs T a r.1)

pub told_accepted : (k : Limits) (d : Ledger) (x : Streams) (c : Call) (a : Answer) → Told k d x c a → accepted a ≡ true
told_accepted k d x (begin n) a (b, hb, ea, fits) = ap accepted ea
told_accepted k d x (append l) a (p, es, (b, hb, ea, fits)) = ap accepted ea
told_accepted k d x (commit g) a ea = ap accepted ea
told_accepted k d x (abandon g) a ea = ap accepted ea
told_accepted k d x (condemn g) a ea = ap accepted ea
told_accepted k d x (read n) a ea = ap accepted ea
told_accepted k d x (trim n) a ea = ap accepted ea
told_accepted k d x (open_stream l f n) a (ea, fits) = ap accepted ea
told_accepted k d x (close_stream l) a (p, es, ea) = ap accepted ea
told_accepted k d x (position l) a (p, es, ea) = ap accepted ea
told_accepted k d x tally a (n, ea, num) = ap accepted ea
