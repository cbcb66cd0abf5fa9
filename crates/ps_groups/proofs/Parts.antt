-- Parts of a table whose rows lie group by group.
use Rattle.std.proofs.Common.{◌≡◌, ℕ, zero, suc, ◌<◌, List, [], ◌∷◌, ◌++◌, length, get_or, map, take, drop, sym, ap, ◌∙◌, arith, length-append}
use Rattle.std.specs.Prelude.{slice_get, Some}
use Rattle.std.specs.List.{concat, take-map}
use Rattle.std.proofs.Math.Seq.{drop-append-add, take-append_seam}
use Rattle.std.proofs.lemmas.List.{length-map, drop-map}
use Rattle.std.proofs.lemmas.Option.{get_or_from_slice_get}
use Rattle.ps_frame.specs.Gathered.{rows_at}
use Rattle.ps_frame.specs.Tables.{Frame}
use Rattle.ps_frame.specs.Zip.{below}
use Rattle.ps_keys.proofs.FirstRows.{length-below}
use Rattle.ps_keys.proofs.KeptRows.{map-places}
use Rattle.ps_groups.specs.GroupTables.{part_in, parts_in, table_at}

-- a part of lists that were joined
pub part-of-joined : (ps : List (List ℕ)) (k : ℕ) → k < length ps → take (length (get_or ps k [])) (drop (length (concat (take k ps))) (concat ps)) ≡ get_or ps k []
part-of-joined [] k within = absurd (omega arith)
part-of-joined (p ∷ ps) zero within = take-append_seam p (concat ps)
part-of-joined (p ∷ ps) (suc k) within =
    let joined = concat (take k ps) in
    ap (λ n. take (length (get_or ps k [])) (drop n (p ++ concat ps))) (length-append p joined)
    ∙ ap (take (length (get_or ps k []))) (drop-append-add p (concat ps) (length joined))
    ∙ part-of-joined ps k (omega arith)

pub length-parts_in : (f : Frame) (groups : List (List ℕ)) → length (parts_in f groups) ≡ length groups
length-parts_in f groups = length-map (below (length groups)) (part_in f groups) ∙ length-below (length groups)

-- the parts of a table of gathered rows are the tables of the groups
pub parts-gathered : (t f : Frame) (groups : List (List ℕ)) → f.schema ≡ t.schema → f.rows ≡ rows_at (concat groups) t.rows → parts_in f groups ≡ map (table_at t) groups
parts-gathered t f groups schema rows = map-places (table_at t) groups [] (part_in f groups) (λ k within.
    let n = length (get_or groups k []) in
    let s = length (concat (take k groups)) in
    let cut : take n (drop s f.rows) ≡ rows_at (get_or groups k []) t.rows =
    ap (λ rs. take n (drop s rs)) rows
    ∙ ap (take n) (drop-map (λ i. get_or t.rows i []) s (concat groups))
    ∙ take-map (λ i. get_or t.rows i []) n (drop s (concat groups))
    ∙ ap (λ ps. rows_at ps t.rows) (part-of-joined groups k within) in
    λ i. record { schema = schema i; rows = cut i })

-- the part of a group
pub part-is : (f p : Frame) (groups : List (List ℕ)) (k start : ℕ) (rows : List ℕ) → slice_get groups k ≡ Some rows → start ≡ length (concat (take k groups))
    → p ≡ record { schema = f.schema; rows = take (length rows) (drop start f.rows) } → p ≡ part_in f groups k
part-is f p groups k start rows found begins is =
    let here : rows ≡ get_or groups k [] = sym (get_or_from_slice_get groups k rows [] found) in
    is ∙ (λ j. record { schema = f.schema; rows = take (length (here j)) (drop (begins j) f.rows) })
