-- Zips of columns without faulty cells: their rows, and what ends them.
use Rattle.std.proofs.Common.{◌≡◌, ℕ, suc, ◌+◌, Bool, true, false, not, cond, List, [], ◌∷◌, ◌++◌, length, take, get_or, refl, sym, ap, ◌∙◌, arith}
use Rattle.std.specs.Prelude.{map, flat_map, take_while, ◌||◌}
use Rattle.std.specs.List.{AllByRecursion, list_any, prefix_len}
use Rattle.std.proofs.Math.ListN.{get_or-map}
use Rattle.std.proofs.Math.Seq.{take-length}
use Rattle.ps_frame.specs.Causes.{Cause, Cell, Column, value, faulty, cell_causes, cell_values, column_causes, is_empty, is_ended}
use Rattle.ps_frame.specs.Zip.{Extent, below, breaks_shape, broadcasts, cell_in_row, extent_of, extents, is_faulty_row, rows_before_fault, zip_length, zip_rows}
use Rattle.ps_frame.specs.declared.value.DataFault.TheVariants as data_fault
use Rattle.ps_frame.specs.declared.value.Value.{Value}
use Rattle.ps_frame.specs.declared.value.Value.TheVariants as val
use Rattle.ps_meaning.specs.Shape.{mild_zip}
use Rattle.ps_shares.specs.Shares.{IsClear}
use Rattle.ps_shares.proofs.FlatLength.{ends}

-- the value of a cell, null where it is faulty
abbrev pub held : Cell → Value
held (value v) = v
held (faulty c cs) = val.Null

abbrev pub values_in_row : ℕ → List Column → List Value
values_in_row i cs = map (λ c. held (cell_in_row false i c)) cs

is_held : (c : Cell) (v : Value) → c ≡ value v → c ≡ value (held c)
is_held c v e = e ∙ ap value (sym (ap held e))

clear_cell : (i : ℕ) (c : Column) → IsClear c → cell_in_row false i c ≡ value (held (cell_in_row false i c))
clear_cell i c clear =
    let k = cond (broadcasts false (extent_of c)) 0 i in
    is_held _ (get_or clear.0.0 k val.Null) (ap (λ xs. get_or xs k (value val.Null)) clear.0.1 ∙ get_or-map value clear.0.0 k val.Null)

pub clear_row : (i : ℕ) (cs : List Column) → AllByRecursion IsClear cs → map (cell_in_row false i) cs ≡ map value (values_in_row i cs)
clear_row i [] clear = refl
clear_row i (c ∷ cs) clear = let p = clear_cell i c clear.0 in let q = clear_row i cs clear.1 in λ j. p j ∷ q j

pub no_causes : (vs : List Value) → flat_map cell_causes (map value vs) ≡ []
no_causes [] = refl
no_causes (v ∷ vs) = no_causes vs

not_faulty : (vs : List Value) → is_faulty_row (map value vs) ≡ false
not_faulty vs = ap (λ cs. not (is_empty cs)) (no_causes vs)

values_held : (vs : List Value) → cell_values (map value vs) ≡ vs
values_held [] = refl
values_held (v ∷ vs) = ap (λ ws. v ∷ ws) (values_held vs)

all_pass : (g : ℕ → List Value) (ns : List ℕ) → prefix_len (λ row. not (is_faulty_row row)) (map (λ i. map value (g i)) ns) ≡ length (map (λ i. map value (g i)) ns)
all_pass g [] = refl
all_pass g (n ∷ ns) =
    let k = prefix_len (λ row. not (is_faulty_row row)) (map (λ i. map value (g i)) ns) in
    let h = all_pass g ns in
    let e : 1 + k ≡ suc (length (map (λ i. map value (g i)) ns)) = omega arith in
    ap (λ b. cond (not b) (1 + k) 0) (not_faulty (g n)) ∙ e

all_taken : (g : ℕ → List Value) (ns : List ℕ) → take_while (λ row. not (is_faulty_row row)) (map (λ i. map value (g i)) ns) ≡ map (λ i. map value (g i)) ns
all_taken g ns = let rows = map (λ i. map value (g i)) ns in ap (λ k. take k rows) (all_pass g ns) ∙ take-length rows

all_held : (g : ℕ → List Value) (ns : List ℕ) → map cell_values (map (λ i. map value (g i)) ns) ≡ map g ns
all_held g [] = refl
all_held g (n ∷ ns) = let p = values_held (g n) in let q = all_held g ns in λ j. p j ∷ q j

none_faulty : (g : ℕ → List Value) (ns : List ℕ) → list_any is_faulty_row (map (λ i. map value (g i)) ns) ≡ false
none_faulty g [] = refl
none_faulty g (n ∷ ns) = ap (λ b. b || list_any is_faulty_row (map (λ i. map value (g i)) ns)) (not_faulty (g n)) ∙ none_faulty g ns

-- the rows of cells of a clear zip
clear_cells : (n : ℕ) (cs : List Column) → AllByRecursion IsClear cs → zip_rows false n cs ≡ map (λ i. map value (values_in_row i cs)) (below n)
clear_cells n cs clear = λ j. map (λ i. clear_row i cs clear j) (below n)

pub clear_zip_rows : (at : ℕ) (cs : List Column) → AllByRecursion IsClear cs → (mild_zip at cs).rows ≡ map (λ i. values_in_row i cs) (below (zip_length false (extents cs)))
clear_zip_rows at cs clear =
    let n = zip_length false (extents cs) in
    ap rows_before_fault (clear_cells n cs clear) ∙ ap (map cell_values) (all_taken (λ i. values_in_row i cs) (below n)) ∙ all_held (λ i. values_in_row i cs) (below n)

pub clear_not_faulty : (cs : List Column) → AllByRecursion IsClear cs → list_any is_faulty_row (zip_rows false (zip_length false (extents cs)) cs) ≡ false
clear_not_faulty cs clear =
    let n = zip_length false (extents cs) in
    ap (list_any is_faulty_row) (clear_cells n cs clear) ∙ none_faulty (λ i. values_in_row i cs) (below n)

pub any_ended : (cs : List Column) → list_any (λ (e : Extent). e.ended) (extents cs) ≡ list_any is_ended cs
any_ended [] = refl
any_ended (c ∷ cs) = ap (λ b. is_ended c || b) (any_ended cs)

not_empty_after : (xs ys : List Cause) → not (is_empty ys) ≡ true → not (is_empty (xs ++ ys)) ≡ true
not_empty_after [] ys h = h
not_empty_after (x ∷ xs) ys h = refl

not_empty_before : (xs ys : List Cause) → not (is_empty xs) ≡ true → not (is_empty (xs ++ ys)) ≡ true
not_empty_before [] ys h = cc
not_empty_before (x ∷ xs) ys h = refl

ended_first : (b : Bool) (xs ys zs : List Cause) → not (is_empty ys) ≡ b → (b ≡ false → not (is_empty zs) ≡ true) → not (is_empty ((xs ++ ys) ++ zs)) ≡ true
ended_first true xs ys zs e h = not_empty_before (xs ++ ys) zs (not_empty_after xs ys e)
ended_first false xs ys zs e h = not_empty_after (xs ++ ys) zs (h refl)

pub ended_shows : (cs : List Column) → list_any is_ended cs ≡ true → not (is_empty (flat_map column_causes cs)) ≡ true
ended_shows [] h = cc
ended_shows (c ∷ cs) h =
    ended_first (is_ended c) (flat_map cell_causes c.cells) c.broken (flat_map column_causes cs) refl (λ p. ended_shows cs (ap (λ b. b || list_any is_ended cs) (sym p) ∙ h))

mild_cases : (x b f : Bool) (E X : List Cause) (s : Cause) → (x ≡ true → not (is_empty E) ≡ true) → f ≡ false
    → not (is_empty (cond x E (cond ((x || b) || f) (X ++ cond b (s ∷ []) []) []))) ≡ (x || b)
mild_cases true b f E X s h p = h refl
mild_cases false true f E X s h p = not_empty_after X (s ∷ []) refl
mild_cases false false false E X s h p = refl
mild_cases false false true E X s h p = cc

-- what breaks a clear zip
pub mild_ends : (at : ℕ) (cs : List Column) → AllByRecursion IsClear cs → not (is_empty (mild_zip at cs).broken) ≡ ends (extents cs)
mild_ends at cs clear =
    mild_cases (list_any is_ended cs) (breaks_shape false (extents cs)) _ _ _ (record { fault = data_fault.Shape; node = at }) (ended_shows cs) (clear_not_faulty cs clear)
    ∙ ap (λ b. b || breaks_shape false (extents cs)) (sym (any_ended cs))
