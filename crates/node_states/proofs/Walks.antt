-- A walk along a list that writes each place: what was written, and in front of it what the walk makes of the rest.
use Rattle.std.proofs.Common.{◌≡◌, ℕ, ◌+◌, ◌<◌, List, [], ◌∷◌, ◌++◌, length, get_or, take, drop, set, sym, ap, ◌∙◌, append_assoc, add-one, arith, drop-cons, drop-set-lt}
use Rattle.std.proofs.lemmas.List.{take_more_set}

-- the element at a place, and what follows it
pub from_place : {X : Type 0} (s : List X) (i : ℕ) (d : X) → i < length s → drop i s ≡ get_or s i d ∷ drop (i + 1) s
from_place s i d lt = drop-cons s i d lt ∙ ap (λ k. get_or s i d ∷ drop k s) (sym (add-one i))

-- before a step the walk makes F of the rest, after it G
pub write_more : {X : Type 0} (F G : List X → List X) (s : List X) (i : ℕ) (d v : X) (whole : List X) → i < length s → F (get_or s i d ∷ drop (i + 1) s) ≡ v ∷ G (drop (i + 1) s) → take i s ++ F (drop i s) ≡ whole
    → take (i + 1) (set s i v) ++ G (drop (i + 1) (set s i v)) ≡ whole
write_more F G s i d v whole lt step so_far =
    ap (λ t. t ++ G (drop (i + 1) (set s i v))) (take_more_set s i v lt) ∙ ap (λ r. (take i s ++ v ∷ []) ++ G r) (drop-set-lt (i + 1) s i v (omega arith))
    ∙ append_assoc (take i s) (v ∷ []) (G (drop (i + 1) s)) ∙ ap (λ r. take i s ++ r) (sym step ∙ ap F (sym (from_place s i d lt))) ∙ so_far
