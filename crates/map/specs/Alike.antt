-- Two maps, of any two kinds, that mean the same: am and bm are the ghost members of the kinds.
--   Same F G        the fits F and G have the same sets
--   Agree am bm a b  the maps a and b have the same pairs and the same fit
--   Alike am bm a b  where they agree, the same call has the same answer on both, and they still agree after it
-- Assumes nothing.
use Rattle.std.specs.Prelude.{◌≡◌, ℕ, Bool, Option, Result}
use Rattle.map.specs.declared.Denied.{Denied}
use Rattle.map.specs.declared.Map.{Ghosts}
use Rattle.map.specs.Meaning.{Finds, Asks, Puts, Takes, Counted}

abbrev pub Same : ((ℕ → Bool) → Type 0) → ((ℕ → Bool) → Type 0) → Type 0
Same F G = (s : ℕ → Bool) → (F s → G s) × (G s → F s)

module _ {A B L V : Type 0} (am : Ghosts A L V) (bm : Ghosts B L V) where
  abbrev pub Agree : A → B → Type 0
  Agree a b = (am.pairs a ≡ bm.pairs b) × Same (am.fits (am.shape a)) (bm.fits (bm.shape b))

  pub record Alike (a : A) (b : B) : Type 0 where
    pub find : Agree a b → (n : ℕ) (r s : Option V) (a' : A) (b' : B)
        → Finds am.pairs am.shape am.fits a n r a' → Finds bm.pairs bm.shape bm.fits b n s b'
        → (r ≡ s) × Agree a' b'
    pub ask : Agree a b → (n : ℕ) (r s : Bool) (a' : A) (b' : B)
        → Asks am.pairs am.shape am.fits a n r a' → Asks bm.pairs bm.shape bm.fits b n s b'
        → (r ≡ s) × Agree a' b'
    pub put : Agree a b → (n : ℕ) (v : V) (r s : Result (Option V) Denied) (a' : A) (b' : B)
        → Puts am.pairs am.shape am.fits a n v r a' → Puts bm.pairs bm.shape bm.fits b n v s b'
        → (r ≡ s) × Agree a' b'
    pub take : Agree a b → (n : ℕ) (r s : Option V) (a' : A) (b' : B)
        → Takes am.pairs am.shape am.fits a n r a' → Takes bm.pairs bm.shape bm.fits b n s b'
        → (r ≡ s) × Agree a' b'
    pub count : Agree a b → (r s : ℕ) (a' : A) (b' : B)
        → Counted am.pairs am.shape am.fits a r a' → Counted bm.pairs bm.shape bm.fits b s b'
        → (r ≡ s) × Agree a' b'
