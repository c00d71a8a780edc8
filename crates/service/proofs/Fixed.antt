-- Whatever a call leaves, the sizes, the lent areas and both fits stay.
use Rattle.std.proofs.Common.{◌≡◌, ℕ, List, Ok, Err, Option, Result, refl, ap, ◌∙◌}
use Rattle.refusal.specs.declared.Refusal.{Refusal}
use Rattle.label.specs.declared.stream.StreamLabel.{StreamLabel}
use Rattle.map.specs.declared.Map.{Ghosts}
use Rattle.ring.specs.declared.queue.Ring.{Ring}
use Rattle.ring.specs.Queue.{places}
use Rattle.rules.specs.declared.Entry.{Entry}
use Rattle.rules.specs.declared.Position.{Position}
use Rattle.service.specs.declared.entry.Ending.{Ending}
use Rattle.service.specs.declared.pool.Mark.{Mark}
use Rattle.service.specs.declared.state.Service.{Service}
use Rattle.service.specs.declared.grant.Grant.{Grant}
use Rattle.service.specs.Service.{Fixed, Leaves, Unchanged, Gives, Begins, Finishes, Appends, Ends, Reads, Trims, LeavesByBoth}
use Rattle.service.proofs.Words.{released_places, released_area}

module _ {L B S : Type 0} (bm : Ghosts B L Entry) (sm : Ghosts S StreamLabel Position) where
  pub fixed_none : (s : Service L B S) → Fixed bm sm s s
  fixed_none s = record { limit = refl; places = refl; pool_area = refl; marks_area = refl; blocks = refl; streams = refl }

  pub fixed_more : (s t u : Service L B S) → Fixed bm sm s t → Fixed bm sm t u → Fixed bm sm s u
  fixed_more s t u a b = record { limit = b.limit ∙ a.limit; places = b.places ∙ a.places; pool_area = b.pool_area ∙ a.pool_area; marks_area = b.marks_area ∙ a.marks_area; blocks = b.blocks ∙ a.blocks; streams = b.streams ∙ a.streams }

  module _ (s t : Service L B S) where
    left_fixed : (f : ℕ → Option Entry) (x : ℕ → Option Position) (Q : Ring ℕ → Type 0) (d : List Mark) (o g : ℕ) → Leaves bm sm s f x Q d o g t → places t.pool ≡ places s.pool → t.pool.cells.ghost_name ≡ s.pool.cells.ghost_name → Fixed bm sm s t
    left_fixed f x Q d o g left room area = record { limit = left.limit; places = room; pool_area = area; marks_area = left.area; blocks = left.fit; streams = left.stream_fit }

    pub unchanged_fixed : Unchanged bm sm s t → Fixed bm sm s t
    unchanged_fixed left = left_fixed _ _ _ _ _ _ left (ap places left.pool) (λ i. (left.pool i).cells.ghost_name)

    pub gives_fixed : (n : ℕ) (r : Result ℕ Refusal) → Gives bm sm s n r t → Fixed bm sm s t
    gives_fixed n (Ok b) (small, sent) = left_fixed _ _ _ _ _ _ sent.left sent.left.pool.places sent.left.pool.area
    gives_fixed n (Err e) no' = unchanged_fixed no'.same

    pub ends_fixed : (k : Ending) (n b : ℕ) (r : Result ℕ Refusal) → Ends bm sm s k n b r t → Fixed bm sm s t
    ends_fixed k n b (Ok x) (e, ends) = left_fixed _ _ _ _ _ _ ends.left (released_places s.pool t.pool _ ends.left.pool) (released_area s.pool t.pool _ ends.left.pool)
    ends_fixed k n b (Err e) no' = unchanged_fixed no'.same

    pub reads_fixed : (n : ℕ) (r : Result (Option ℕ) Refusal) → Reads bm sm s n r t → Fixed bm sm s t
    reads_fixed n (Ok o) left = unchanged_fixed left.2
    reads_fixed n (Err e) no' = unchanged_fixed no'.same

    pub trims_fixed : (n : ℕ) (r : Result (Option ℕ) Refusal) → Trims bm sm s n r t → Fixed bm sm s t
    trims_fixed n (Ok o) did = left_fixed _ _ _ _ _ _ did.left (released_places s.pool t.pool o did.left.pool) (released_area s.pool t.pool o did.left.pool)
    trims_fixed n (Err e) no' = unchanged_fixed no'.same

  module _ (s t : Service L B S) where
    pub begins_fixed : (n : ℕ) (r : Result Grant Refusal) → Begins bm sm s n r t → Fixed bm sm s t
    begins_fixed n (Ok g) did = gives_fixed s t n (Ok g.block) did.2
    begins_fixed n (Err e) no' = unchanged_fixed s t no'.same

    pub finishes_fixed : (k : Ending) (g : Grant) (r : Result ℕ (Refusal × Grant)) → Finishes bm sm s k g r t → Fixed bm sm s t
    finishes_fixed k g (Ok b) did = ends_fixed s t k g.number g.block (Ok b) did
    finishes_fixed k g (Err e) no' = ends_fixed s t k g.number g.block (Err e.0) no'

    pub appends_fixed : (l : ℕ) (r : Result Grant Refusal) → Appends bm sm s l r t → Fixed bm sm s t
    appends_fixed l (Ok g) did = left_fixed s t _ _ _ _ _ _ did.1.sent.left did.1.sent.left.pool.places did.1.sent.left.pool.area
    appends_fixed l (Err e) no' = unchanged_fixed s t no'.same

  pub passes_fixed : (s t : Service L B S) (k : Ending) (n : ℕ) (r : Result ℕ Refusal) → LeavesByBoth bm sm s k n r t → Fixed bm sm s t
  passes_fixed s t k n (Ok b) (m, gives, ends) = fixed_more s m t (gives_fixed s m n (Ok b) gives) (ends_fixed m t k n b (Ok b) ends)
  passes_fixed s t k n (Err e) no' = unchanged_fixed s t no'.same
