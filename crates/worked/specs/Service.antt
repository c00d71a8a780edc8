-- Small examples of the rules of a service, worked out by hand: the whole lives of one or two blocks.
use Rattle.std.specs.Prelude.{◌≡◌, ℕ, [], ◌∷◌, Some}
use Rattle.refusal.specs.declared.Refusal.TheVariants.{NumberBusy, NoBlockWaiting}
use Rattle.label.specs.Lines.{old_line}
use Rattle.map.specs.Sets.{AtMost}
use Rattle.placement.specs.Fit.{Fits}
use Rattle.rules.specs.declared.GrantId.{GrantId}
use Rattle.rules.specs.declared.Answer.{Answer}
use Rattle.rules.specs.declared.Call.TheVariants.{Begin as begin, Commit as commit, Abandon as abandon, Condemn as condemn, Read as read, Tally as tally}
use Rattle.rules.specs.declared.Answer.TheVariants.{Granted as granted, Block as block, Counts as counts, Refused as refused}
use Rattle.rules.specs.Calls.{Limits, limits}
use Rattle.rules.specs.History.{History}
use Rattle.rules.specs.Lives.{calls}
use Rattle.rules.specs.Promise.{Life}

-- a card of p blocks and 16 block numbers, with two buckets for them and four rows for the streams
abbrev pub card : ℕ → Limits
card p = limits p 16 (Fits old_line 2) (AtMost 4)

-- the grant that gave the block b for the number n
abbrev pub grant : ℕ → ℕ → GrantId
grant n b = record { number = n; block = b }

-- so many blocks wait, are out, are settled and are condemned
abbrev pub tallied : ℕ → ℕ → ℕ → ℕ → Answer
tallied w o s c = counts (record { waiting = w; out = o; settled = s; condemned = c })

-- ---- three histories, the newest call first

-- 7 is begun over its settled block 0: until the commit a read still answers that, and another begin is refused
abbrev pub change : History
change =
    (tally, tallied 1 0 1 0)
    ∷ (commit (grant 7 1), block (Some 1))
    ∷ (begin 7, refused NumberBusy)
    ∷ (read 7, block (Some 0))
    ∷ (begin 7, granted (grant 7 1))
    ∷ (commit (grant 7 0), block (Some 0))
    ∷ (begin 7, granted (grant 7 0))
    ∷ []

-- the only block is condemned, and none waits any more
abbrev pub retirement : History
retirement =
    (tally, tallied 0 0 0 1)
    ∷ (begin 7, refused NoBlockWaiting)
    ∷ (condemn (grant 7 0), block (Some 0))
    ∷ (begin 7, granted (grant 7 0))
    ∷ []

-- the only block, given up by 3, goes to 9
abbrev pub handing_on : History
handing_on =
    (begin 9, granted (grant 9 0))
    ∷ (abandon (grant 3 0), block (Some 0))
    ∷ (begin 3, granted (grant 3 0))
    ∷ []

-- ---- what holds of them

-- the history h is a life, and its calls have no other answers
pub record OneLife (k : Limits) (h : History) : Type 0 where
  pub life : Life k h
  pub only : (i : History) → Life k i → calls i ≡ calls h → i ≡ h

-- on two blocks and on one
pub record ServiceCases : Type 0 where
  pub changed : OneLife (card 2) change
  pub retired : OneLife (card 1) retirement
  pub handed_on : OneLife (card 1) handing_on
