-- What the calls of a service over two maps mean; bm and sm are the ghost members of the block map and of the stream map.
use Rattle.std.specs.Prelude.{◌≡◌, ℕ, ◌+◌, ◌-◌, ◌<◌, ◌≤◌, ◌^◌, min, true, false, ◌≢◌, ◌⊎◌, List, ◌∷◌, length, Some, None, Ok, Err, Option, Result, nat_eq}
use Rattle.std.specs.Map.{update}
use Rattle.refusal.specs.declared.Refusal.{Refusal}
use Rattle.label.specs.declared.stream.StreamLabel.{StreamLabel}
use Rattle.label.specs.Digests.{stream_number}
use Rattle.map.specs.declared.Map.{Ghosts}
use Rattle.map.specs.Meaning.{beside}
use Rattle.map.specs.Sets.{Number}
use Rattle.ring.specs.declared.queue.Ring.{Ring}
use Rattle.ring.specs.Queue.{items, places, Popped}
use Rattle.rules.specs.declared.Entry.{Entry}
use Rattle.rules.specs.declared.Entry.TheVariants.{Settled}
use Rattle.rules.specs.declared.Position.{Position}
use Rattle.rules.specs.declared.Tally.{Tally}
use Rattle.rules.specs.Calls.{Limits, Standing}
use Rattle.rules.specs.declared.Call.{Call}
use Rattle.rules.specs.declared.Answer.{Answer}
use Rattle.rules.specs.declared.GrantId.{GrantId}
use Rattle.rules.specs.declared.Call.TheVariants.{Begin as begin, Append as append, Commit as commit, Abandon as abandon, Condemn as condemn, Read as read, Trim as trim, Open as open_stream, Close as close_stream, Position as position}
use Rattle.rules.specs.declared.Answer.TheVariants.{Granted as granted, Block as block, Opened as opened, Closed as closed, Stands as stands, Counts as counts, Refused as refused}
use Rattle.rules.specs.Rules.{entry, settled_of, out_of, started, grant_checks, checks}
use Rattle.rules.specs.History.{History, Run, grants, endings}
use Rattle.rules.specs.Laws.{First}
use Rattle.service.specs.declared.grant.Grant.{Grant}
use Rattle.service.specs.declared.entry.Ending.{Ending}
use Rattle.service.specs.declared.entry.Ending.TheVariants.{Commit, Abandon, Condemn}
use Rattle.service.specs.declared.pool.Mark.{Mark}
use Rattle.service.specs.declared.state.Service.{Service}
use Rattle.service.specs.Pool.{Released, marked, lost_in, more, condemned_with}

-- ---- answers in the words of the rules

abbrev pub plain : Grant → GrantId
plain g = record { number = g.number; block = g.block }

abbrev pub grant_id : ℕ → ℕ → GrantId
grant_id n b = record { number = n; block = b }

abbrev pub given : ℕ → Result ℕ Refusal → Answer
given n (Ok b) = granted (grant_id n b)
given n (Err e) = refused e

abbrev pub begun : Result Grant Refusal → Answer
begun (Ok g) = granted (plain g)
begun (Err e) = refused e

abbrev pub end_call : Ending → GrantId → Call
end_call Commit g = commit g
end_call Abandon g = abandon g
end_call Condemn g = condemn g

abbrev pub finished : Result ℕ Refusal → Answer
finished (Ok b) = block (Some b)
finished (Err e) = refused e

abbrev pub ended : Result ℕ (Refusal × Grant) → Answer
ended (Ok b) = block (Some b)
ended (Err e) = refused e.0

-- a refused ending hands back the grant
abbrev pub Back : Grant → Result ℕ (Refusal × Grant) → Type 0
Back g (Ok b) = Unit {0}
Back g (Err e) = e.1 ≡ g

abbrev pub found : Result (Option ℕ) Refusal → Answer
found (Ok o) = block o
found (Err e) = refused e

abbrev pub tallied : Result Tally Refusal → Answer
tallied (Ok n) = counts n
tallied (Err e) = refused e

-- ---- what each ending does with the settled block o and the block b of its grant

abbrev pub entry_after : Ending → Option ℕ → ℕ → Option Entry
entry_after Commit o b = Some (Settled b)
entry_after Abandon o b = entry o None
entry_after Condemn o b = entry o None

abbrev pub freed : Ending → Option ℕ → ℕ → Option ℕ
freed Commit o b = o
freed Abandon o b = Some b
freed Condemn o b = None

abbrev pub lost : Ending → ℕ → Option ℕ
lost Commit b = None
lost Abandon b = None
lost Condemn b = Some b

-- ---- a service

module _ {L B S : Type 0} (bm : Ghosts B L Entry) (sm : Ghosts S StreamLabel Position) where
  -- its sizes, and the fits of its maps
  abbrev pub limits_of : Service L B S → Limits
  limits_of s = record {
    blocks = places s.pool;
    numbers = s.limit;
    blocks_fit = bm.fits (bm.shape s.entries);
    streams_fit = sm.fits (sm.shape s.streams);
  }

  -- where it stands: what its pool, maps and marks hold
  abbrev pub standing : Service L B S → Standing
  standing s = record {
    waiting = items s.pool;
    entries = bm.pairs s.entries;
    streams = sm.pairs s.streams;
    condemned = lost_in s.marks.cells.now;
  }

  -- the history h led the fresh service to s; all that the code relies on follows from it
  pub record ReachedBy (h : History) (s : Service L B S) : Type 0 where
    pub passed : s.fault ≡ None
    pub small : places s.pool ≤ 4096
    pub bound : s.limit < 2 ^ 32
    pub run : Run (limits_of s) h (standing s)
    pub out : s.out + endings h ≡ grants h
    pub marks : length s.marks.cells.now ≡ places s.pool
    pub condemned : Number (λ b. lost_in s.marks.cells.now b ≡ true) s.condemned

  -- after every history that led to s, the call c answered by a leads to t
  abbrev pub StepsBy : Service L B S → Call → Answer → Service L B S → Type 0
  StepsBy s c a t = (h : History) → ReachedBy h s → ReachedBy ((c, a) ∷ h) t

  -- the sizes, the lent areas and both fits stay
  pub record Fixed (s t : Service L B S) : Type 0 where
    pub limit : t.limit ≡ s.limit
    pub places : places t.pool ≡ places s.pool
    pub pool_area : t.pool.cells.ghost_name ≡ s.pool.cells.ghost_name
    pub marks_area : t.marks.cells.ghost_name ≡ s.marks.cells.ghost_name
    pub blocks : bm.shape t.entries ≡ bm.shape s.entries
    pub streams : sm.shape t.streams ≡ sm.shape s.streams

  -- after a begin and its ending k in one: a grant just given is never refused its ending
  abbrev pub ReachedByBoth : History → Ending → ℕ → Result ℕ Refusal → Service L B S → Type 0
  ReachedByBoth h k n (Ok b) t = ReachedBy ((end_call k (grant_id n b), block (Some b)) ∷ ((begin n, granted (grant_id n b)) ∷ h)) t
  ReachedByBoth h k n (Err e) t = ReachedBy ((begin n, refused e) ∷ h) t

  -- after every history that led to s, the two lead to t
  abbrev pub StepsByBoth : Service L B S → Ending → ℕ → Result ℕ Refusal → Service L B S → Type 0
  StepsByBoth s k n r t = (h : History) → ReachedBy h s → ReachedByBoth h k n r t

  -- a service whose check failed answers that refusal, and nothing changes
  abbrev pub RefusesAll : Service L B S → Answer → Service L B S → Type 0
  RefusesAll s a t = (e : Refusal) → s.fault ≡ Some e → (a ≡ refused e) × (t ≡ s)

-- ---- what a call leaves, by its answer

module _ {L B S : Type 0} (bm : Ghosts B L Entry) (sm : Ghosts S StreamLabel Position) (s : Service L B S) where
  abbrev pub pairs_of : ℕ → Option Entry
  pairs_of = bm.pairs s.entries

  abbrev pub streams_of : ℕ → Option Position
  streams_of = sm.pairs s.streams

  -- the block map with the pairs f, the stream map with the pairs x, a pool as Q says, the marks d, and the counters o and g
  pub record Leaves (f : ℕ → Option Entry) (x : ℕ → Option Position) (Q : Ring ℕ → Type 0) (d : List Mark) (o g : ℕ) (t : Service L B S) : Type 0 where
    pub fit : bm.shape t.entries ≡ bm.shape s.entries
    pub pairs : bm.pairs t.entries ≡ f
    pub stream_fit : sm.shape t.streams ≡ sm.shape s.streams
    pub streams : sm.pairs t.streams ≡ x
    pub pool : Q t.pool
    pub marks : t.marks.cells.now ≡ d
    pub area : t.marks.cells.ghost_name ≡ s.marks.cells.ghost_name
    pub out : t.out ≡ o
    pub condemned : t.condemned ≡ g
    pub limit : t.limit ≡ s.limit
    pub fault : t.fault ≡ s.fault

  abbrev pub Unchanged : Service L B S → Type 0
  Unchanged = Leaves pairs_of streams_of (λ q. q ≡ s.pool) s.marks.cells.now s.out s.condemned

  -- the call c is refused with e: by the check at making, or by the first of its own checks that applies; nothing changes
  pub record Refuses (c : Call) (e : Refusal) (t : Service L B S) : Type 0 where
    pub reason : (s.fault ≡ Some e) ⊎ First (checks (limits_of bm sm s) (standing bm sm s) c) e
    pub same : Unchanged t

  -- the block b sent out at the number n, which is not busy, and fits; the streams are then x
  pub record SentOut (n b : ℕ) (x : ℕ → Option Position) (t : Service L B S) : Type 0 where
    pub free : out_of (pairs_of n) ≡ None
    pub fits : bm.fits (bm.shape s.entries) (beside pairs_of n)
    pub left : Leaves (update nat_eq pairs_of n (entry (settled_of (pairs_of n)) (Some b))) x (Popped s.pool b) s.marks.cells.now (more s.out) s.condemned t

  abbrev pub Sends : ℕ → Result ℕ Refusal → Service L B S → Type 0
  Sends n (Ok b) t = SentOut n b streams_of t
  Sends n (Err e) t = First (grant_checks (limits_of bm sm s) (standing bm sm s) n) e × Unchanged t

  abbrev pub Gives : ℕ → Result ℕ Refusal → Service L B S → Type 0
  Gives n (Ok b) t = (n < s.limit) × SentOut n b streams_of t
  Gives n (Err e) t = Refuses (begin n) e t

  -- the block given on a grant, which is not spent yet
  abbrev pub Begins : ℕ → Result Grant Refusal → Service L B S → Type 0
  Begins n (Ok g) t = (g.number ≡ n) × (g.spent ≡ false) × Gives n (Ok g.block) t
  Begins n (Err e) t = Refuses (begin n) e t

  -- the grant of the block b for the number n, which is out, ended by k
  pub record GrantEnded (k : Ending) (n b : ℕ) (t : Service L B S) : Type 0 where
    pub out : out_of (pairs_of n) ≡ Some b
    pub left : Leaves (update nat_eq pairs_of n (entry_after k (settled_of (pairs_of n)) b)) streams_of (Released s.pool (freed k (settled_of (pairs_of n)) b)) (marked (lost k b) s.marks.cells.now) (s.out - 1) (condemned_with (lost k b) s.condemned) t

  abbrev pub Ends : Ending → ℕ → ℕ → Result ℕ Refusal → Service L B S → Type 0
  Ends k n b (Ok r) t = (r ≡ b) × GrantEnded k n b t
  Ends k n b (Err e) t = Refuses (end_call k (grant_id n b)) e t

  -- the grant handed over to the ending k
  abbrev pub Finishes : Ending → Grant → Result ℕ (Refusal × Grant) → Service L B S → Type 0
  Finishes k g (Ok r) t = Ends k g.number g.block (Ok r) t
  Finishes k g (Err e) t = Ends k g.number g.block (Err e.0) t

  -- the settled block of the number n told; a read changes nothing
  abbrev pub Reads : ℕ → Result (Option ℕ) Refusal → Service L B S → Type 0
  Reads n (Ok o) t = (n < s.limit) × (o ≡ settled_of (pairs_of n)) × Unchanged t
  Reads n (Err e) t = Refuses (read n) e t

  -- the settled block of the number n, which is allowed and not busy, removed
  pub record Trimmed (n : ℕ) (o : Option ℕ) (t : Service L B S) : Type 0 where
    pub small : n < s.limit
    pub free : out_of (pairs_of n) ≡ None
    pub answer : o ≡ settled_of (pairs_of n)
    pub left : Leaves (update nat_eq pairs_of n None) streams_of (Released s.pool o) s.marks.cells.now s.out s.condemned t

  abbrev pub Trims : ℕ → Result (Option ℕ) Refusal → Service L B S → Type 0
  Trims n (Ok o) t = Trimmed n o t
  Trims n (Err e) t = Refuses (trim n) e t

  -- what waits and what the counters say; what is in no other place is settled
  abbrev pub tally_now : Tally
  tally_now = record {
    waiting = length (items s.pool);
    out = s.out;
    settled = places s.pool - (length (items s.pool) + s.out + s.condemned);
    condemned = s.condemned;
  }

  -- a tally looks, and changes nothing
  abbrev pub Tallies : Result Tally Refusal → Type 0
  Tallies (Ok n) = (s.fault ≡ None) × (n ≡ tally_now)
  Tallies (Err e) = s.fault ≡ Some e

-- ---- what a stream's call leaves

abbrev pub positioned : Result Position Refusal → Answer
positioned (Ok p) = stands p
positioned (Err e) = refused e

abbrev pub opening : Result (Unit {0}) Refusal → Answer
opening (Ok u) = opened
opening (Err e) = refused e

abbrev pub closing : Result ℕ Refusal → Answer
closing (Ok n) = closed n
closing (Err e) = refused e

abbrev pub label_number : StreamLabel → ℕ
label_number l = stream_number l.port l.channel l.session

-- a stream that went on by one; its number never passes 32 bits
abbrev pub gone_on : Position → Position
gone_on p = record p { next = min (p.next + 1) 4294967295 }

module _ {L B S : Type 0} (bm : Ghosts B L Entry) (sm : Ghosts S StreamLabel Position) (s : Service L B S) where
  -- only the streams change
  abbrev pub LeavesStreams : (ℕ → Option Position) → Service L B S → Type 0
  LeavesStreams x = Leaves bm sm s (pairs_of bm sm s) x (λ q. q ≡ s.pool) s.marks.cells.now s.out s.condemned

  -- the stream l, which was not open and fits, opened for the n numbers from f on, all of them allowed
  pub record Opened (l f n : ℕ) (t : Service L B S) : Type 0 where
    pub some : n ≢ 0
    pub inside : f + n ≤ s.limit
    pub free : streams_of bm sm s l ≡ None
    pub fits : sm.fits (sm.shape s.streams) (beside (streams_of bm sm s) l)
    pub left : LeavesStreams (update nat_eq (streams_of bm sm s) l (Some (started f n))) t

  abbrev pub Opens : ℕ → ℕ → ℕ → Result (Unit {0}) Refusal → Service L B S → Type 0
  Opens l f n (Ok u) t = Opened l f n t
  Opens l f n (Err e) t = Refuses bm sm s (open_stream l f n) e t

  -- the block b sent out at the next number n of the stream l, which is not at its end and goes on by one
  pub record Appended (l n b : ℕ) (t : Service L B S) : Type 0 where
    pub stream : Position
    pub open_at : streams_of bm sm s l ≡ Some stream
    pub next : n ≡ stream.next
    pub more : stream.next ≢ stream.end
    pub sent : SentOut bm sm s n b (update nat_eq (streams_of bm sm s) l (Some (gone_on stream))) t

  abbrev pub Appends : ℕ → Result Grant Refusal → Service L B S → Type 0
  Appends l (Ok g) t = (g.spent ≡ false) × Appended l g.number g.block t
  Appends l (Err e) t = Refuses bm sm s (append l) e t

  -- the open stream l closed
  pub record Closed (l n : ℕ) (t : Service L B S) : Type 0 where
    pub stream : Position
    pub open_at : streams_of bm sm s l ≡ Some stream
    pub next : n ≡ stream.next
    pub left : LeavesStreams (update nat_eq (streams_of bm sm s) l None) t

  abbrev pub Closes : ℕ → Result ℕ Refusal → Service L B S → Type 0
  Closes l (Ok n) t = Closed l n t
  Closes l (Err e) t = Refuses bm sm s (close_stream l) e t

  -- where the open stream l stands; nothing changes
  abbrev pub Stands : ℕ → Result Position Refusal → Service L B S → Type 0
  Stands l (Ok p) t = (streams_of bm sm s l ≡ Some p) × Unchanged bm sm s t
  Stands l (Err e) t = Refuses bm sm s (position l) e t

-- a begin for the number n and its ending k in one: what the two leave, one after the other
module _ {L B S : Type 0} (bm : Ghosts B L Entry) (sm : Ghosts S StreamLabel Position) where
  abbrev pub LeavesByBoth : Service L B S → Ending → ℕ → Result ℕ Refusal → Service L B S → Type 0
  LeavesByBoth s k n (Ok b) t = (m : Service L B S) × Gives bm sm s n (Ok b) m × Ends bm sm m k n b (Ok b) t
  LeavesByBoth s k n (Err e) t = Refuses bm sm s (begin n) e t
