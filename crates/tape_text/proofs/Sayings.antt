-- Lines, one behind the other, and what they say.
use Rattle.std.proofs.Common.{◌≡◌, ℕ, List, [], ◌∷◌, ◌++◌, refl, sym, append_assoc}
use Rattle.call_tape.specs.declared.calls.Call.{Call}
use Rattle.tape_text.specs.Calls.{Says, call_text}
use Rattle.tape_text.specs.Lines.{words, said, LinesSay, end, blank, call}

pub one_blank_more : (ls : List (List ℕ)) (cs : List Call) (l : List ℕ) → LinesSay ls cs → words l ≡ [] → LinesSay (ls ++ l ∷ []) cs
one_blank_more _ _ l end w = blank l [] [] w end
one_blank_more _ _ l (blank k ks cs e h) w = blank k _ cs e (one_blank_more ks cs l h w)
one_blank_more _ _ l (call k ks c cs e h) w = call k _ c cs e (one_blank_more ks cs l h w)

pub one_call_more : (ls : List (List ℕ)) (cs : List Call) (l : List ℕ) (c : Call) → LinesSay ls cs → Says (words l) c → LinesSay (ls ++ l ∷ []) (cs ++ c ∷ [])
one_call_more _ _ l d end w = call l [] d [] w end
one_call_more _ _ l d (blank k ks cs e h) w = blank k _ _ e (one_call_more ks cs l d h w)
one_call_more _ _ l d (call k ks c cs e h) w = call k _ c _ e (one_call_more ks cs l d h w)

pub said_append : (cs ds : List Call) → said (cs ++ ds) ≡ said cs ++ said ds
said_append [] ds = refl
said_append (c ∷ cs) ds = rw (said_append cs ds) (sym (append_assoc (call_text c) (10 ∷ said cs) (said ds)))
