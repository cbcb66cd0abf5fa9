-- Groups before a faulty one, and how many rows and keys there are.
use Rattle.std.proofs.Common.{◌≡◌, ◌+◌, ◌≤◌, Bool, true, false, List, [], ◌∷◌, ◌++◌, length, refl, ap, arith}
use Rattle.std.specs.Prelude.{flat_map, map, not, if◌then◌else◌}
use Rattle.std.specs.List.{AllByRecursion}
use Rattle.ps_frame.specs.Causes.{Cause, is_empty}
use Rattle.ps_frame.specs.Values.{same_row}
use Rattle.ps_frame.specs.declared.value.Value.{Value}
use Rattle.ps_meaning.specs.Distinct.{distinct_rows}
use Rattle.ps_meaning.specs.Groups.{Group, groups, rows_before_faulty}
use Rattle.ps_meaning.specs.Steps.{distinct}
use Rattle.ps_meaning.proofs.Begins.{Begins, begins-empty}
use Rattle.lowering_sizes.proofs.Lengths.{fewer}

-- the rows before a faulty group are the first ones of all, and all of them where there is none
pub before_begins : (gs : List Group) → Begins (rows_before_faulty gs) (map (λ (x : Group). x.cells) gs)
before_begins [] = ([], refl)
before_begins (x ∷ gs) = by (is_empty x.causes) (before_begins gs)
  where
    by : (b : Bool) → Begins (rows_before_faulty gs) (map (λ (x : Group). x.cells) gs) → Begins (if b then x.cells ∷ rows_before_faulty gs else []) (x.cells ∷ map (λ (x : Group). x.cells) gs)
    by true h = (h.0, ap (λ rows. x.cells ∷ rows) h.1)
    by false h = begins-empty (x.cells ∷ map (λ (x : Group). x.cells) gs)

first_none : (xs ys : List Cause) → xs ++ ys ≡ [] → (xs ≡ []) × (ys ≡ [])
first_none [] ys e = (refl, e)
first_none (x ∷ xs) ys e = let w : x ∷ (xs ++ ys) ≡ [] = e in cc

pub none_faulty : (gs : List Group) → flat_map (λ (x : Group). x.causes) gs ≡ [] → AllByRecursion (λ (x : Group). x.causes ≡ []) gs
none_faulty [] e = tt
none_faulty (x ∷ gs) e = let h = first_none x.causes (flat_map (λ (x : Group). x.causes) gs) e in (h.0, none_faulty gs h.1)

-- no more distinct rows than rows, and no more rows before a faulty group than groups
pub distinct_few : (rows : List (List Value)) → length (distinct_rows rows) ≤ length rows
distinct_few [] = omega arith
distinct_few (r ∷ rs) = let h = distinct_few rs in let f = fewer (λ q. not (same_row r q)) (distinct_rows rs) in omega arith

pub before_few : (gs : List Group) → length (rows_before_faulty gs) ≤ length gs
before_few [] = omega arith
before_few (x ∷ gs) = by (is_empty x.causes) (before_few gs)
  where
    by : (b : Bool) → length (rows_before_faulty gs) ≤ length gs → length (if b then x.cells ∷ rows_before_faulty gs else []) ≤ length (x ∷ gs)
    by true h = omega arith
    by false h = omega arith
