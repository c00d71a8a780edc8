-- The rules allow one reached list: two lists that keep them agree place by place, so in their counts and in their ends too.
use Rattle.std.proofs.Common.{◌≡◌, ℕ, zero, suc, ◌<◌, ◌≤◌, ◌⊎◌, List, sym, ap, ◌∙◌, inl, inr, ⊎_elim, arith}
use Rattle.std.proofs.lemmas.Bool.{cases_eq, cases_lt}
use Rattle.label.specs.declared.Label.{Ghosts}
use Rattle.bucket.specs.declared.slots.Bucket.{Bucket}
use Rattle.table.specs.Moving.{other_at}
use Rattle.search.specs.Reached.{Before, Reached, Trail}
use Rattle.search.specs.Unique.{AtEnd, OneTrail}

-- ---- what comes before what

abbrev NotAfter : ℕ → ℕ → ℕ → ℕ → Type 0
NotAfter a j b k = Before a j b k ⊎ ((a ≡ b) × (j ≡ k))

one_first : (a j b k : ℕ) → ((a ≡ b) × (j ≡ k)) ⊎ (Before a j b k ⊎ Before b k a j)
one_first a j b k = grind arith

module _ {L V : Type 0} (kind : Ghosts L) (bs : List (Bucket L V)) (p s : ℕ) where
  -- ---- one list

  in_order : (t : Trail) (d : ℕ) → Reached kind bs p s t d 0 → (i j : ℕ) → t.starts ≤ i → i ≤ j → j < t.count → NotAfter (t.parent i) (t.slot i) (t.parent j) (t.slot j)
  in_order t d r i j st le h = ⊎_elim (λ e. inr (ap t.parent e, ap t.slot e)) (λ ne. inl (r.order i j st (omega arith) h)) (cases_eq i j)

  -- ---- two lists, whose buckets below place j are the same

  module _ (t u : Trail) (d e : ℕ) (rt : Reached kind bs p s t d 0) (ru : Reached kind bs p s u e 0) where
    same_starts : t.starts ≡ u.starts
    same_starts = omega arith

    same_early : (j : ℕ) → j < t.starts → t.bucket j ≡ u.bucket j
    same_early j h =
        let z : (j ≡ 0) ⊎ (j ≡ 1) = grind arith in
        grind arith

    module _ (j : ℕ) (below : (i : ℕ) → i < j → t.bucket i ≡ u.bucket i) (late : u.starts ≤ j) (lu : j < u.count) where
      other_same : other_at kind bs (t.bucket (u.parent j)) (u.slot j) ≡ u.bucket j
      other_same =
          let way = ru.through j late lu in
          let same = below (u.parent j) way.0 in
          cc

      -- if t has followed the label through which u came to place j, its bucket is in t, and not below j
      joins_late : u.parent j < d → (m : ℕ) × (m < t.count) × (j ≤ m) × (t.starts ≤ m → NotAfter (t.parent m) (t.slot m) (u.parent j) (u.slot j))
      joins_late passed =
          let (m, lm, is, way) = rt.followed (u.parent j) (u.slot j) (ru.through j late lu).1 (inl passed) in
          let le = λ (lt : m < j). let same = ru.once m j (omega arith) lu (sym (below m lt) ∙ is ∙ other_same) in absurd (omega arith) in
          (m, lm, ⊎_elim le (λ h. h) (cases_lt m j), way)

      -- so u did not come to place j through a label that comes before that of t
      no_sooner : j < t.count → Before (u.parent j) (u.slot j) (t.parent j) (t.slot j) → ⊥
      no_sooner lt sooner =
          let st = same_starts in
          let behind = rt.behind j (omega arith) lt in
          let (m, lm, le, way) = joins_late (omega arith) in
          let rise = in_order t d rt j m (omega arith) le lm in
          let first = way (omega arith) in
          omega arith

  -- ---- they agree wherever both have a place

  abbrev AgreeAt : Trail → Trail → ℕ → Type 0
  AgreeAt t u j = (t.bucket j ≡ u.bucket j) × (t.starts ≤ j → (t.parent j ≡ u.parent j) × (t.slot j ≡ u.slot j))

  module _ (t u : Trail) (d e : ℕ) (rt : Reached kind bs p s t d 0) (ru : Reached kind bs p s u e 0) where
    agree_later : (j : ℕ) → ((i : ℕ) → i < j → t.bucket i ≡ u.bucket i) → t.starts ≤ j → u.starts ≤ j → j < t.count → j < u.count → AgreeAt t u j
    agree_later j below st su lt lu =
        ⊎_elim
        (λ way.
        let from = rt.through j st lt in
        let to = other_same t u d e rt ru j below su lu in
        ((cc), λ _. way))
        (⊎_elim
        (λ sooner. absurd (no_sooner u t e d ru rt j (λ i h. sym (below i h)) st lt lu sooner))
        (λ sooner. absurd (no_sooner t u d e rt ru j below su lu lt sooner)))
        (one_first (t.parent j) (t.slot j) (u.parent j) (u.slot j))

    agree_at : (j : ℕ) → ((i : ℕ) → i < j → t.bucket i ≡ u.bucket i) → j < t.count → j < u.count → AgreeAt t u j
    agree_at j below lt lu =
        let same = same_starts t u d e rt ru in
        ⊎_elim
        (λ early. (same_early t u d e rt ru j early, λ late. absurd (omega arith)))
        (λ late. agree_later j below late (omega arith) lt lu)
        (cases_lt j t.starts)

    agree_below : (n j : ℕ) → j < n → j < t.count → j < u.count → AgreeAt t u j
    agree_below zero j h lt lu = absurd (omega arith)
    agree_below (suc n) j h lt lu = agree_at j (λ i l. (agree_below n i (omega arith) (omega arith) (omega arith)).0) lt lu

    agree : (j : ℕ) → j < t.count → j < u.count → AgreeAt t u j
    agree j lt lu = agree_below t.count j lt lt lu

    -- ---- so they have one count and one end

    module _ (at : AtEnd bs t d) (au : AtEnd bs u e) where
      -- t has used up its list, or ends at an unused slot, and u passes none
      ends_first : (t.count ≤ d) ⊎ (e ≤ d)
      ends_first =
          ⊎_elim
          (λ c. inl (omega arith))
          (λ (lt, (k, few, free)). inr (⊎_elim
          (λ past.
          let full = ru.full d k past few in
          let same = (agree d lt (omega arith)).0 in
          absurd (cc))
          (λ le. le)
          (cases_lt d e)))
          at

      -- so t has followed each label through which u came to a place
      no_more : t.count < u.count → ⊥
      no_more more =
          let st = same_starts t u d e rt ru in
          let few = rt.few in
          let late : u.starts ≤ t.count = omega arith in
          let back = (ru.through t.count late more).0 in
          let behind = ru.behind t.count late more in
          let ends = ends_first in
          let (m, lm, le, _) = joins_late t u d e rt ru t.count (λ i h. (agree i h (omega arith)).0) late more (omega arith) in
          omega arith

      no_later : t.count ≡ u.count → e ≤ d
      no_later same = let ends = ends_first in omega arith

pub one_trail : {L V : Type 0} (kind : Ghosts L) (bs : List (Bucket L V)) → OneTrail kind bs
one_trail kind bs p s t u d e rt at ru au =
    let count : t.count ≡ u.count = omega (arith, no_more kind bs p s t u d e rt ru at au, no_more kind bs p s u t e d ru rt au at) in
    let same = λ (j : ℕ) (h : j < t.count). agree kind bs p s t u d e rt ru j h (omega arith) in (
      record {
        count = count;
        starts = same_starts kind bs p s t u d e rt ru;
        bucket = λ j h. (same j h).0;
        parent = λ j st h. ((same j h).1 st).0;
        slot = λ j st h. ((same j h).1 st).1;
      },
      omega (arith, no_later kind bs p s t u d e rt ru at au count, no_later kind bs p s u t e d ru rt au at (sym count)),
    )
