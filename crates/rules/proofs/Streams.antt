-- After every run the streams stand as the calls and answers tell.
use Rattle.std.proofs.Common.{◌≡◌, true, false, cond, Bool, [], ◌∷◌, nat_eq, sym, ap, ◌∙◌, ⊎_elim}
use Rattle.std.specs.Map.{update}
use Rattle.rules.specs.Calls.{Limits, Standing}
use Rattle.rules.specs.declared.Call.{Call}
use Rattle.rules.specs.declared.Answer.{Answer}
use Rattle.rules.specs.declared.Call.TheVariants.{Begin as begin, Append as append, Commit as commit, Abandon as abandon, Condemn as condemn, Read as read, Trim as trim, Open as open_stream, Close as close_stream, Position as position, Tally as tally}
use Rattle.rules.specs.Rules.{Step, checks, Accepts}
use Rattle.rules.specs.History.{History, Run, accepted}
use Rattle.rules.specs.Lives.{Streams, streams, streamed, streams_noted, raised}
use Rattle.rules.proofs.Runs.{judged}
use Rattle.rules.proofs.Answers.{accepts_not}

accepts_streams : (k : Limits) (s : Standing) (c : Call) (a : Answer) (t : Standing) → Accepts k s c a t → t.streams ≡ streamed c s.streams
accepts_streams k s (begin n) a t x = ap (λ v. v.streams) x.4
accepts_streams k s (append l) a t x = ap (λ v. v.streams) x.2.4 ∙ ap (λ o. update nat_eq s.streams l (raised o)) (sym x.1)
accepts_streams k s (commit g) a t x = ap (λ v. v.streams) x.1
accepts_streams k s (abandon g) a t x = ap (λ v. v.streams) x.1
accepts_streams k s (condemn g) a t x = ap (λ v. v.streams) x.1
accepts_streams k s (read n) a t x = ap (λ v. v.streams) x.1
accepts_streams k s (trim n) a t x = ap (λ v. v.streams) x.1
accepts_streams k s (open_stream l f n) a t x = ap (λ v. v.streams) x.1
accepts_streams k s (close_stream l) a t x = ap (λ v. v.streams) x.3
accepts_streams k s (position l) a t x = ap (λ v. v.streams) x.3
accepts_streams k s tally a t x = ap (λ v. v.streams) x.3

cond_at : (b c : Bool) (x y : Streams) → b ≡ c → cond b x y ≡ cond c x y
cond_at b c x y e = ap (λ v. cond v x y) e

pub step_streams : (k : Limits) (s : Standing) (c : Call) (a : Answer) (t : Standing) → Step k s c a t → t.streams ≡ streams_noted c a s.streams
step_streams k s c a t j =
    ⊎_elim
    (λ r. ap (λ v. v.streams) r.2 ∙ sym (cond_at (accepted a) false (streamed c s.streams) s.streams (ap accepted r.1)))
    (λ r. accepts_streams k s c a t r.1 ∙ sym (cond_at (accepted a) true (streamed c s.streams) s.streams (accepts_not k s c a t r.1)))
    (judged (checks k s c) s a t (Accepts k s c a t) j)

pub run_streams : (k : Limits) (h : History) (s : Standing) → Run k h s → s.streams ≡ streams h
run_streams k [] s start = ap (λ v. v.streams) start
run_streams k (e ∷ h) s (r, before, j) =
    step_streams k r e.0 e.1 s j ∙ ap (λ x. cond (accepted e.1) (streamed e.0 x) x) (run_streams k h r before)
