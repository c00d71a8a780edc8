-- A line that is barred is no line that says a call which fits, and is barred for one reason.
use Rattle.std.proofs.Common.{Some, None, Ok, Err, ◌≡◌, ℕ, ◌+◌, ◌<◌, ◌≤◌, List, [], ◌∷◌, ◌++◌, length, take, Result, Option, refl, sym, ◌∙◌, inl, inr, arith, length-append, length-take}
use Rattle.std.proofs.lemmas.List.{take_all}
use Rattle.call_tape.specs.declared.calls.Call.{Call}
use Rattle.call_tape.specs.declared.calls.Call.TheVariants.{Write, Drop, Spoil, Read, Trim, Open, Append, Close, Tally}
use Rattle.call_tape.specs.Written.{encoded, written}
use Rattle.tape_text.specs.declared.complaints.Complaint.{Complaint}
use Rattle.tape_text.specs.Numbers.{Numbers, FirstBad, Complains, count, number}
use Rattle.tape_text.specs.Calls.{limits_of, values_of, Says, Wrong, unknown, numbers, LineMeans, OneMeaning}
use Rattle.tape_text.specs.Lines.{words, LinesSay, end, blank, call}
use Rattle.tape_text.specs.Taken.{Barred, wrong, full}
use Rattle.call_tape.proofs.Writing.{length_written_append}
use Rattle.tape_text.proofs.Once.{alike, says_once}

pub numbers_length : (limits : List ℕ) (ws : List (List ℕ)) (ns : List ℕ) → Numbers limits ws ns → length ws ≡ length limits
numbers_length [] [] [] h = refl
numbers_length (limit ∷ limits) (w ∷ ws) (n ∷ ns) h = omega (arith, numbers_length limits ws ns h.1)
numbers_length _ _ _ h = absurd h

none_bad : (limits : List ℕ) (ws : List (List ℕ)) (ns : List ℕ) (i j t : ℕ) → Numbers limits ws ns → FirstBad limits ws i j t → ⊥
none_bad (limit ∷ limits) (w ∷ ws) (n ∷ ns) i j t h (inl (never, _, _)) = never n h.0
none_bad (limit ∷ limits) (w ∷ ws) (n ∷ ns) i j t h (inr (_, _, b)) = none_bad limits ws ns (i + 1) j t h.1 b
none_bad (limit ∷ limits) (w ∷ ws) [] i j t h b = absurd h
none_bad (limit ∷ limits) [] ns i j t h b = absurd b
none_bad [] ws ns i j t h b = absurd b

bad_once : (limits : List ℕ) (ws : List (List ℕ)) (i j t k u : ℕ) → FirstBad limits ws i j t → FirstBad limits ws i k u → (j ≡ k) × (t ≡ u)
bad_once (limit ∷ limits) (w ∷ ws) i j t k u (inl (_, a, b)) (inl (_, c, d)) = (a ∙ sym c, b ∙ sym d)
bad_once (limit ∷ limits) (w ∷ ws) i j t k u (inl (never, _, _)) (inr (n, is, _)) = absurd (never n is)
bad_once (limit ∷ limits) (w ∷ ws) i j t k u (inr (n, is, _)) (inl (never, _, _)) = absurd (never n is)
bad_once (limit ∷ limits) (w ∷ ws) i j t k u (inr (_, _, a)) (inr (_, _, b)) = bad_once limits ws (i + 1) j t k u a b
bad_once (limit ∷ limits) [] i j t k u a b = absurd a
bad_once [] ws i j t k u a b = absurd a

complains_once : (limits : List ℕ) (ws : List (List ℕ)) (e f : Complaint) → Complains limits ws e → Complains limits ws f → e ≡ f
complains_once limits ws _ _ (count n) (count m) = refl
complains_once limits ws _ _ (count n) (number k u l b) = absurd (n l)
complains_once limits ws _ _ (number j t l a) (count n) = absurd (n l)
complains_once limits ws _ _ (number j t l a) (number k u m b) = let s = bad_once limits ws 2 j t k u a b in let p = s.0 in let q = s.1 in cc

no_complaint : (limits : List ℕ) (ws : List (List ℕ)) (ns : List ℕ) (e : Complaint) → Numbers limits ws ns → Complains limits ws e → ⊥
no_complaint limits ws ns _ h (count n) = n (numbers_length limits ws ns h)
no_complaint limits ws ns _ h (number j t l b) = none_bad limits ws ns 2 j t h b

pub said_not_wrong : (ws : List (List ℕ)) (c : Call) (e : Complaint) → Says ws c → Wrong ws e → ⊥
said_not_wrong _ c _ h (unknown w ws u) = u c h.0
said_not_wrong _ c _ h (numbers d w ws e k bad) =
    let limits : limits_of c ≡ limits_of d = (alike c d (sym h.0 ∙ k)).0 in
    no_complaint (limits_of d) ws (values_of c) e (rw limits at h.1) bad

wrong_once : (ws : List (List ℕ)) (e f : Complaint) → Wrong ws e → Wrong ws f → e ≡ f
wrong_once _ _ _ (unknown w ws u) (unknown _ _ v) = refl
wrong_once _ _ _ (unknown w ws u) (numbers d _ _ f l bad) = absurd (u d l)
wrong_once _ _ _ (numbers c w ws e k bad) (unknown _ _ v) = absurd (v c k)
wrong_once _ _ _ (numbers c w ws e k bad) (numbers d _ _ f l worse) =
    let limits : limits_of c ≡ limits_of d = (alike c d (sym k ∙ l)).0 in
    complains_once (limits_of d) ws e f (rw limits at bad) worse

pub barred_once : (n : ℕ) (cs : List Call) (L : List ℕ) (e f : Complaint) → Barred n cs L e → Barred n cs L f → e ≡ f
barred_once n cs L _ _ (wrong e a) (wrong f b) = wrong_once (words L) e f a b
barred_once n cs L _ _ (wrong e a) (full c s _) = absurd (said_not_wrong (words L) c e s a)
barred_once n cs L _ _ (full c s _) (wrong f b) = absurd (said_not_wrong (words L) c f s b)
barred_once n cs L _ _ (full c _ _) (full d _ _) = refl

nothing_wrong : (e : Complaint) → Wrong [] e → ⊥
nothing_wrong e h = elim h [ ]

pub one_meaning : OneMeaning
one_meaning ws (Ok None) (Ok None) h k = refl
one_meaning ws (Ok None) (Ok (Some d)) h k = absurd (rw h at k)
one_meaning ws (Ok None) (Err f) h k = absurd (nothing_wrong f (rw h at k))
one_meaning ws (Ok (Some c)) (Ok None) h k = absurd (rw k at h)
one_meaning ws (Ok (Some c)) (Ok (Some d)) h k = let e = says_once ws c d h k in cc
one_meaning ws (Ok (Some c)) (Err f) h k = absurd (said_not_wrong ws c f h k)
one_meaning ws (Err e) (Ok None) h k = absurd (nothing_wrong e (rw k at h))
one_meaning ws (Err e) (Ok (Some d)) h k = absurd (said_not_wrong ws d e k h)
one_meaning ws (Err e) (Err f) h k = let g = wrong_once ws e f h k in cc

-- no call has more than five numbers, so seven words tell what all mean
few_numbers : (c : Call) → length (limits_of c) ≤ 5
few_numbers (Write n) = omega arith
few_numbers (Drop n) = omega arith
few_numbers (Spoil n) = omega arith
few_numbers (Read n) = omega arith
few_numbers (Trim n) = omega arith
few_numbers (Open o) = omega arith
few_numbers (Append l) = omega arith
few_numbers (Close l) = omega arith
few_numbers Tally = omega arith

all_six : (ws : List (List ℕ)) → length (take 6 ws) ≤ 5 → take 6 ws ≡ ws
all_six ws h = take_all 6 ws (omega (arith, h, length-take 6 ws))

complains_of_all : (limits : List ℕ) (ws : List (List ℕ)) (e : Complaint) → length limits ≤ 5 → Complains limits (take 6 ws) e → Complains limits ws e
complains_of_all limits ws _ few (count n) = count (λ z. n (omega (arith, z, few, length-take 6 ws)))
complains_of_all limits ws _ few (number j t l b) = rw (all_six ws (omega (arith, l, few))) at (number j t l b)

wrong_by_first : (vs ws : List (List ℕ)) (w : List ℕ) (e : Complaint) → vs ≡ w ∷ take 6 ws → Wrong vs e → Wrong (w ∷ ws) e
wrong_by_first _ ws w _ same (unknown v vs u) = let is : v ≡ w = cc in unknown w ws (λ c z. u c (is ∙ z))
wrong_by_first _ ws w _ same (numbers c v vs e k bad) =
    let is : v ≡ w = cc in
    let rest : vs ≡ take 6 ws = cc in
    numbers c w ws e (sym is ∙ k) (complains_of_all (limits_of c) ws e (few_numbers c) (rw rest at bad))

pub means_by_first : (ws : List (List ℕ)) (r : Result (Option Call) Complaint) → LineMeans (take 7 ws) r → LineMeans ws r
means_by_first [] r h = h
means_by_first (w ∷ ws) (Ok None) h = absurd cc
means_by_first (w ∷ ws) (Ok (Some c)) h = (h.0, rw (all_six ws (omega (arith, numbers_length (limits_of c) (take 6 ws) (values_of c) h.1, few_numbers c))) at h.1)
means_by_first (w ∷ ws) (Err e) h = wrong_by_first (w ∷ take 6 ws) ws w e refl h

-- a line that says a call, or nothing, where all fits
not_barred : (n : ℕ) (cs ds : List Call) (L : List ℕ) (ls : List (List ℕ)) (e : Complaint) → LinesSay (L ∷ ls) ds → length (written (cs ++ ds)) ≤ n → Barred n cs L e → ⊥
not_barred n cs _ _ _ e (blank L ls ds w h) l (wrong _ a) = nothing_wrong e (rw w at a)
not_barred n cs _ _ _ e (blank L ls ds w h) l (full c s _) = rw w at s
not_barred n cs _ _ _ e (call L ls d ds w h) l (wrong _ a) = said_not_wrong (words L) d e w a
not_barred n cs _ _ _ e (call L ls d ds w h) l (full c s big) =
    let same : c ≡ d = says_once (words L) c d s w in
    let long : n < length (written (cs ++ d ∷ [])) = rw same at big in
    omega (arith, long, length_written_append cs (d ∷ ds), length_written_append cs (d ∷ []), length-append (encoded d) (written ds), length-append (encoded d) (written []))

-- the calls of the first lines are the first of the calls
lines_behind : (ls ms : List (List ℕ)) (cs ds : List Call) → LinesSay (ls ++ ms) ds → LinesSay ls cs → (es : List Call) × (ds ≡ cs ++ es) × LinesSay ms es
lines_behind _ ms _ ds h end = (ds, refl, h)
lines_behind _ ms _ _ (blank _ _ ds v h) (blank l ls cs w k) = lines_behind ls ms cs ds h k
lines_behind _ ms _ _ (call _ _ d ds v h) (blank l ls cs w k) = absurd (rw w at v)
lines_behind _ ms _ _ (blank _ _ ds v h) (call l ls c cs w k) = absurd (rw v at w)
lines_behind _ ms _ _ (call _ _ d ds v h) (call l ls c cs w k) =
    let r = lines_behind ls ms cs ds h k in
    let same : d ≡ c = says_once (words l) d c v w in
    (r.0, cc r.1, r.2)

pub none_barred : (n : ℕ) (before : List (List ℕ)) (L : List ℕ) (after : List (List ℕ)) (cs ds : List Call) (e : Complaint) → LinesSay (before ++ L ∷ after) ds → LinesSay before cs → length (written ds) ≤ n → Barred n cs L e → ⊥
none_barred n before L after cs ds e h k l b =
    let r = lines_behind before (L ∷ after) cs ds h k in
    not_barred n cs r.0 L after e r.2 (rw r.1 at l) b
