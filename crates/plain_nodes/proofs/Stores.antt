-- Stores that count rows have so many.
use Rattle.std.proofs.Common.{◌≡◌, ℕ, List, [], ◌∷◌, ◌++◌, length, map, replicate, refl, ap, ap₂, ◌∙◌, append-nil, sym, take}
use Rattle.std.proofs.Math.Seq.{take-append_seam}
use Rattle.std.proofs.lemmas.List.{length-replicate}
use Rattle.node_states.specs.Heads.{rows_stored}
use Rattle.ps_frame.specs.Tables.{Row}
use Rattle.plain_nodes.specs.Seen.{counted_store}

one_counted : (n : ℕ) → rows_stored (counted_store n) ≡ n
one_counted n =
    let rows : List Row = replicate n [] in
    ap length (append-nil rows) ∙ length-replicate n []

pub all_counted : (ns : List ℕ) → map rows_stored (map counted_store ns) ≡ ns
all_counted [] = refl
all_counted (n ∷ ns) = ap₂ (λ m ms. m ∷ ms) (one_counted n) (all_counted ns)

-- what is written over a whole list is that list
pub whole_written : {X : Type 0} (xs ys : List X) (n : ℕ) → length xs ≡ n → take n (xs ++ ys) ≡ xs
whole_written xs ys n long = ap (λ k. take k (xs ++ ys)) (sym long) ∙ take-append_seam xs ys
