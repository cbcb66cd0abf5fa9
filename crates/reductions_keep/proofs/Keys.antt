-- The row that a key's reductions give holds the key and each reduction's value under its name; so what stands above has the cells of the whole aggregates.
use Rattle.std.proofs.Common.{◌≡◌, inl, inr, ℕ, Bool, true, false, not, List, [], ◌∷◌, ◌++◌, drop, get_or, length, Option, Some, None, refl, sym, ap, subst, ◌∙◌, arith, length-append}
use Rattle.std.proofs.lemmas.List.{append-nil, length-map, map-append}
use Rattle.std.specs.Prelude.{flat_map, is_some, map, take, unwrap_or, ◌||◌}
use Rattle.std.specs.List.{AllByRecursion, list_all, list_any}
use Rattle.std.specs.Str.{bytes_eq}
use Rattle.std.proofs.Math.Seq.{drop-append_seam, take-append_seam}
use Rattle.ps_frame.proofs.NamePlaces.{is_some-position}
use Rattle.ps_frame.specs.Causes.{Cause, Cell, Column, value, faulty, cell_causes, cell_value, cell_values, column_causes, is_empty}
use Rattle.ps_frame.specs.Eval.{eval}
use Rattle.ps_frame.specs.Frames.{has_distinct_names}
use Rattle.ps_frame.specs.Tables.{Fields, Table, field_index}
use Rattle.ps_frame.specs.Trees.{Tree}
use Rattle.ps_frame.specs.Zip.{row_causes}
use Rattle.ps_frame.specs.declared.value.DataType.{DataType}
use Rattle.ps_frame.specs.declared.value.Value.{Value}
use Rattle.ps_frame.specs.declared.value.Value.TheVariants as val
use Rattle.ps_meaning.specs.Distinct.{picked, places_in}
use Rattle.ps_meaning.specs.Groups.{Group, group_of, group_rows, only_value}
use Rattle.ps_meaning.specs.Schemas.{expr_names, names_of}
use Rattle.ps_meaning.specs.Steps.{Name, Named, exprs_of}
use Rattle.ps_meaning.proofs.Begins.{append-empty_left, append-empty_right, or-right}
use Rattle.ps_meaning.proofs.StepFits.{same-name}
use Rattle.ps_rowwise.proofs.ByRow.{both, cell_for, place_cell}
use Rattle.ps_rules.specs.Slots.{columns_named}
use Rattle.ps_shares.proofs.Members.{Has}
use Rattle.ps_bundles.proofs.ZipEnds.{is_none}
use Rattle.picked_zips.proofs.Members.{has_flat, has_map, of_flat, of_map}
use Rattle.plan_rules.specs.Reductions.{is_made_of_reductions}
use Rattle.step_keeps.proofs.OwnColumns.{own_values}
use Rattle.reductions_keep.specs.Reduced.{IsCell, IsSingle, reductions_in}
use Rattle.reductions_keep.proofs.Cells.{IsRead, cell_is}
use Rattle.reductions_keep.proofs.Inside.{loses_as_reductions, made_single, shows_reductions}
use Rattle.reductions_keep.proofs.Parts.{AreApart}
use Rattle.reductions_keep.proofs.Rows.{Agrees, Meets}

-- the names of a schema are placed in it
abbrev Stands_in : Fields → Name → Type 0
Stands_in h n = list_any (λ (f : Name × DataType). bytes_eq n f.0) h ≡ true

each_stands : (fs h : Fields) → ((n : Name) → Stands_in fs n → Stands_in h n) → AllByRecursion (Stands_in h) (names_of fs)
each_stands [] h up = tt
each_stands (f ∷ fs) h up = (up f.0 (ap (λ (b : Bool). b || list_any (λ (g : Name × DataType). bytes_eq f.0 g.0) fs) (same-name f.0)), each_stands fs h (λ n q. up n (or-right (bytes_eq n f.0) (list_any (λ (g : Name × DataType). bytes_eq n g.0) fs) q)))

module _ (at : ℕ) (h : Fields) (row : List Value) where
  abbrev here : Name → Cell
  here n = place_cell at h (field_index n h) row

  at_place : (n : Name) → Stands_in h n → here n ≡ value (get_or row (unwrap_or (field_index n h) 0) val.Null)
  at_place n q = by (field_index n h) (is_some-position (λ (f : Name × DataType). bytes_eq n f.0) h ∙ q)
    where
      by : (o : Option ℕ) → is_some o ≡ true → place_cell at h o row ≡ value (get_or row (unwrap_or o 0) val.Null)
      by None q = cc
      by (Some j) q = refl

  at_places : (ns : List Name) → AllByRecursion (Stands_in h) ns → map here ns ≡ map value (picked (places_in ns h) row)
  at_places [] all = refl
  at_places (n ∷ ns) all = let p = at_place n all.0 in let q = at_places ns all.1 in λ i. p i ∷ q i

  all_places : has_distinct_names h ≡ true → length row ≡ length h → map here (names_of h) ≡ map value row
  all_places distinct wide = at_places (names_of h) (each_stands h h (λ n q. q)) ∙ ap (map value) (own_values h row distinct wide)

-- two lists that are alike, part by part
same_parts : {A : Type 0} (xs ys us vs : List A) → length xs ≡ length us → xs ++ ys ≡ us ++ vs → (xs ≡ us) × (ys ≡ vs)
same_parts xs ys us vs long e = (
  sym (take-append_seam xs ys) ∙ (λ i. take (long i) (e i)) ∙ take-append_seam us vs,
  sym (drop-append_seam xs ys) ∙ (λ i. drop (long i) (e i)) ∙ drop-append_seam us vs,
)

-- a column without causes has one value
clear_cell : (c : Column) → IsSingle c → column_causes c ≡ [] → IsCell c (value (only_value c))
clear_cell c (inl (value v, k)) e =
    let v' : only_value c ≡ v = ap (λ (cells : List Cell). unwrap_or (cell_value (get_or cells 0 (value val.Null))) val.Null) k.cells in
    record { cells = k.cells ∙ ap (λ (v : Value). value v ∷ []) (sym v'); broken = k.broken }
clear_cell c (inl (faulty x xs, k)) e = let w : x ∷ ((xs ++ []) ++ []) ≡ [] = sym (λ i. flat_map cell_causes (k.cells i) ++ k.broken i) ∙ e in cc
clear_cell c (inr n) e =
    let none = append-empty_right (flat_map cell_causes c.cells) c.broken e in
    let w : true ≡ false = sym n.ended ∙ ap (λ (xs : List Cause). not (is_empty xs)) none in
    cc

-- its causes are those of the cell
cell_own : (c : Column) (x : Cell) → IsCell c x → column_causes c ≡ cell_causes x
cell_own c x k = (λ i. flat_map cell_causes (k.cells i) ++ k.broken i) ∙ append-nil (cell_causes x ++ []) ∙ append-nil (cell_causes x)

cell_only : (c : Column) (v : Value) → IsCell c (value v) → only_value c ≡ v
cell_only c v k = ap (λ (cells : List Cell). unwrap_or (cell_value (get_or cells 0 (value val.Null))) val.Null) k.cells

-- values in front of cells
values_causes : (vs : List Value) (zs : List Cell) → row_causes (map value vs ++ zs) ≡ row_causes zs
values_causes [] zs = refl
values_causes (v ∷ vs) zs = values_causes vs zs

values_first : (vs : List Value) (zs : List Cell) → cell_values (map value vs ++ zs) ≡ vs ++ cell_values zs
values_first [] zs = refl
values_first (v ∷ vs) zs = ap (λ (ws : List Value). v ∷ ws) (values_first vs zs)

-- one of several
pub one_made : (es : List Tree) → list_all is_made_of_reductions es ≡ true → (e : Tree) → Has es e → is_made_of_reductions e ≡ true
one_made [] all e h = absurd h
one_made (x ∷ es) all e (inl q) = subst (λ (e : Tree). is_made_of_reductions e ≡ true) q (both (is_made_of_reductions x) (list_all is_made_of_reductions es) all).0
one_made (x ∷ es) all e (inr k) = one_made es (both (is_made_of_reductions x) (list_all is_made_of_reductions es) all).1 e k

module _ (at : ℕ) (s : Fields) (rows : List (List Value)) (aggs rs xs : List Named) (names : List Name) (h : Fields) (named : names_of h ≡ names ++ expr_names rs) (distinct : has_distinct_names h ≡ true)
    (made : list_all is_made_of_reductions (exprs_of aggs) ≡ true) (all_made : list_all is_made_of_reductions (exprs_of rs) ≡ true) (apart : AreApart rs aggs xs) (inside : exprs_of rs ≡ flat_map reductions_in (exprs_of aggs)) where
  abbrev pub first : List Value → Group
  first key = group_of at (exprs_of rs) s rows key

  abbrev pub whole : List Value → Group
  whole key = group_of at (exprs_of aggs) s rows key

  -- the cells that keys and what stands above have over a row
  abbrev pub cells : List Value → List Cell
  cells row = map (λ (e : Tree). cell_for at h e row) (columns_named names ++ exprs_of xs)

  module _ (key : List Value) (long : length key ≡ length names) where
    abbrev G : Table
    G = group_rows s rows key

    abbrev columns : List Tree → List Column
    columns es = map (λ (e : Tree). eval at G e) es

    abbrev row : List Value
    row = (first key).cells

    abbrev here' : Name → Cell
    here' n = here at h row n

    wide : length row ≡ length h
    wide =
        let a = length-append key (map only_value (columns (exprs_of rs))) in
        let b = length-map (columns (exprs_of rs)) only_value in
        let c = length-map (exprs_of rs) (λ (e : Tree). eval at G e) in
        let d = length-map rs (λ (m : Named). m.1) in
        let e = length-map rs (λ (m : Named). m.0) in
        let f = length-append names (expr_names rs) in
        let g = ap length named in
        let k = length-map h (λ (f : Name × DataType). f.0) in
        omega arith

    -- the key's values, and those of the reductions, at their places
    placed : (map here' names ≡ map value key) × (map here' (expr_names rs) ≡ map value (map only_value (columns (exprs_of rs))))
    placed =
        let m = length-map names here' in
        let n = length-map key value in
        same_parts (map here' names) (map here' (expr_names rs)) (map value key) (map value (map only_value (columns (exprs_of rs)))) (omega arith)
        (sym (map-append here' names (expr_names rs)) ∙ ap (map here') (sym named) ∙ all_places at h row distinct wide ∙ map-append value key (map only_value (columns (exprs_of rs))))

    reads : (ms : List Named) → list_all is_made_of_reductions (exprs_of ms) ≡ true → flat_map column_causes (columns (exprs_of ms)) ≡ [] → map here' (expr_names ms) ≡ map value (map only_value (columns (exprs_of ms))) → (m : Named) → Has ms m → IsRead at h row G m
    reads [] made clear same m k = absurd k
    reads (n ∷ ms) made clear same m (inl q) =
        let c = eval at G n.1 in
        let t = both (is_made_of_reductions n.1) (list_all is_made_of_reductions (exprs_of ms)) made in
        subst (IsRead at h row G) q
        (record {
          cell = value (only_value c);
          column = clear_cell c (made_single at G n.1 t.0) (append-empty_left (column_causes c) (flat_map column_causes (columns (exprs_of ms))) clear);
          place = ap (λ (zs : List Cell). get_or zs 0 (value val.Null)) same;
        })
    reads (n ∷ ms) made clear same m (inr k) =
        let t = both (is_made_of_reductions n.1) (list_all is_made_of_reductions (exprs_of ms)) made in
        reads ms t.1 (append-empty_right (column_causes (eval at G n.1)) (flat_map column_causes (columns (exprs_of ms))) clear) (ap (drop 1) same) m k

    -- the aggregates and what stands above
    above_causes : (es bs : List Named) → list_all is_made_of_reductions (exprs_of es) ≡ true → AreApart rs es bs → ((m : Named) → Has rs m → IsRead at h row G m)
        → row_causes (map (λ (e : Tree). cell_for at h e row) (exprs_of bs)) ≡ flat_map column_causes (columns (exprs_of es))
    above_causes [] [] made apart read = refl
    above_causes [] (b ∷ bs) made apart read = absurd apart
    above_causes (a ∷ es) [] made apart read = absurd apart
    above_causes (a ∷ es) (b ∷ bs) made apart read =
        let t = both (is_made_of_reductions a.1) (list_all is_made_of_reductions (exprs_of es)) made in
        let p = sym (cell_own (eval at G a.1) (cell_for at h b.1 row) (cell_is at h row G rs read a.1 b.1 t.0 apart.1)) in
        let q = above_causes es bs t.1 apart.2 read in
        λ i. p i ++ q i

    one_value : (c : Column) (x : Cell) → IsCell c x → cell_causes x ≡ [] → x ≡ value (only_value c)
    one_value c (value v) k e = ap value (sym (cell_only c v k))
    one_value c (faulty y ys) k e = cc

    above_values : (es bs : List Named) → list_all is_made_of_reductions (exprs_of es) ≡ true → AreApart rs es bs → ((m : Named) → Has rs m → IsRead at h row G m)
        → flat_map column_causes (columns (exprs_of es)) ≡ [] → cell_values (map (λ (e : Tree). cell_for at h e row) (exprs_of bs)) ≡ map only_value (columns (exprs_of es))
    above_values [] [] made apart read clear = refl
    above_values [] (b ∷ bs) made apart read clear = absurd apart
    above_values (a ∷ es) [] made apart read clear = absurd apart
    above_values (a ∷ es) (b ∷ bs) made apart read clear =
        let t = both (is_made_of_reductions a.1) (list_all is_made_of_reductions (exprs_of es)) made in
        let c = eval at G a.1 in
        let x = cell_for at h b.1 row in
        let k = cell_is at h row G rs read a.1 b.1 t.0 apart.1 in
        let none = append-empty_left (column_causes c) (flat_map column_causes (columns (exprs_of es))) clear in
        let v = one_value c x k (sym (cell_own c x k) ∙ none) in
        let rest = above_values es bs t.1 apart.2 read (append-empty_right (column_causes c) (flat_map column_causes (columns (exprs_of es))) clear) in
        ap (λ (y : Cell). cell_values (y ∷ map (λ (e : Tree). cell_for at h e row) (exprs_of bs))) v ∙ ap (λ (ws : List Value). only_value c ∷ ws) rest

    names_are : map (λ (e : Tree). cell_for at h e row) (columns_named names) ≡ map here' names
    names_are = by names
      where
        by : (ns : List Name) → map (λ (e : Tree). cell_for at h e row) (columns_named ns) ≡ map here' ns
        by [] = refl
        by (n ∷ ns) = ap (λ (zs : List Cell). here' n ∷ zs) (by ns)

    cells_are : cells row ≡ map value key ++ map (λ (e : Tree). cell_for at h e row) (exprs_of xs)
    cells_are = let p = names_are ∙ placed.0 in map-append (λ (e : Tree). cell_for at h e row) (columns_named names) (exprs_of xs) ∙ ap (λ (zs : List Cell). zs ++ map (λ (e : Tree). cell_for at h e row) (exprs_of xs)) p

    agreed : (first key).causes ≡ [] → Agrees first whole cells key
    agreed clear =
        let read = reads rs all_made clear placed.1 in
        let zs = map (λ (e : Tree). cell_for at h e row) (exprs_of xs) in
        record {
          clear = clear;
          causes = ap row_causes cells_are ∙ values_causes key zs ∙ above_causes aggs xs made apart read;
          values = λ none. ap cell_values cells_are ∙ values_first key zs ∙ ap (λ (ws : List Value). key ++ ws) (above_values aggs xs made apart read none);
        }

    -- what shows at a reduction's column shows at that of the aggregate which holds it
    up_to : (shown : Column → List Cause) → ((e : Tree) → is_made_of_reductions e ≡ true → (r : Tree) → Has (reductions_in e) r → (c : Cause) → Has (shown (eval at G r)) c → Has (shown (eval at G e)) c) → (c : Cause)
        → Has (flat_map shown (columns (exprs_of rs))) c → Has (flat_map shown (columns (exprs_of aggs))) c
    up_to shown up c k =
        let col = of_flat shown (columns (exprs_of rs)) c k in
        let r = of_map (λ (e : Tree). eval at G e) (exprs_of rs) col.0 col.1 in
        let e = of_flat reductions_in (exprs_of aggs) r.0 (subst (λ (es : List Tree). Has es r.0) inside r.1) in
        let c' = subst (λ (x : Column). Has (shown x) c) (sym r.2) col.2 in
        has_flat shown (columns (exprs_of aggs)) (eval at G e.0) c (has_map (λ (e : Tree). eval at G e) (exprs_of aggs) e.0 e.1) (up e.0 (one_made (exprs_of aggs) made e.0 e.1) r.0 e.2 c c')

    pub causes_up : (c : Cause) → Has (first key).causes c → Has (whole key).causes c
    causes_up = up_to column_causes (shows_reductions at G)

    pub lost_up : (c : Cause) → Has (flat_map (λ (x : Column). x.lost) (columns (exprs_of rs))) c → Has (flat_map (λ (x : Column). x.lost) (columns (exprs_of aggs))) c
    lost_up = up_to (λ (x : Column). x.lost) (loses_as_reductions at G)

    both_faulty : (b : Bool) → is_empty (first key).causes ≡ b → Meets first whole cells key
    both_faulty true q = inl (agreed (is_none (first key).causes q))
    both_faulty false q = inr (record { below = q; above = some (first key).causes q (whole key).causes causes_up })
      where
        some : (ys : List Cause) → is_empty ys ≡ false → (zs : List Cause) → ((c : Cause) → Has ys c → Has zs c) → is_empty zs ≡ false
        some [] q zs up = cc
        some (y ∷ ys) q [] up = absurd (up y (inl refl))
        some (y ∷ ys) q (z ∷ zs) up = refl

    pub key_meets : Meets first whole cells key
    key_meets = both_faulty (is_empty (first key).causes) refl
