-- An aggregate over a column that is within another.
use Rattle.std.proofs.Common.{◌≡◌, inl, inr, ℕ, ◌≤◌, Bool, true, false, not, cond, List, [], ◌∷◌, ◌++◌, length, get_or, refl, sym, ap, subst, ◌∙◌, arith}
use Rattle.std.specs.Prelude.{Option, map, flat_map, ◌||◌}
use Rattle.std.specs.List.{list_any}
use Rattle.ps_frame.specs.Aggregates.{aggregate_column}
use Rattle.ps_frame.specs.Causes.{Cause, Cell, Column, value, faulty, cell_causes, cell_values, column_causes, has_cause, is_empty, is_ended}
use Rattle.ps_frame.specs.Eval.{eval}
use Rattle.ps_frame.specs.Functions.{Functions}
use Rattle.ps_frame.specs.Tables.{Table}
use Rattle.ps_frame.specs.Trees.{Aggregation, Tree}
use Rattle.ps_frame.specs.Typing.{kind_over}
use Rattle.ps_frame.specs.Zip.{below, breaks_shape, broadcasts, cell_in_row, ends_early, extent_of, extents, is_faulty_row, rows_before_fault, zip_causes, zip_length, zipped, Extent}
use Rattle.ps_frame.specs.declared.value.DataType.{DataType}
use Rattle.ps_frame.specs.declared.value.Value.{Value}
use Rattle.ps_frame.specs.declared.value.Value.TheVariants as val
use Rattle.ps_meaning.specs.Steps.{Name}
use Rattle.ps_meaning.proofs.Begins.{append-empty_right}
use Rattle.ps_shares.specs.Kept.{IsPartOf}
use Rattle.ps_shares.specs.CallLaws.{AggregatesShow}
use Rattle.ps_shares.specs.Shares.{Shows}
use Rattle.ps_shares.proofs.ByLeaves.{faulty_breaks, rows_clear}
use Rattle.ps_shares.proofs.ClearZips.{any_ended}
use Rattle.ps_shares.proofs.FlatLength.{neither}
use Rattle.ps_shares.proofs.Leaves.{leaf_cells, one_extent}
use Rattle.ps_shares.proofs.Shares.{cons_is, nothing_shows, rows_of_zip, selects_show, zip_whole}

pub map_again : {A B C : Type 0} (f : B → C) (g : A → B) (xs : List A) → map f (map g xs) ≡ map (λ x. f (g x)) xs
map_again f g [] = refl
map_again f g (x ∷ xs) = ap (λ ys. f (g x) ∷ ys) (map_again f g xs)

-- the rows of a zip of one column are its cells
one_row_each : (c : Column) → rows_of_zip 0 (c ∷ []) ≡ map (λ x. x ∷ []) c.cells
one_row_each c =
    ap (λ n. map (λ i. cell_in_row false i c ∷ []) (below n)) (sym (ap (λ (e : Extent). e.len) (one_extent (extent_of c))))
    ∙ sym (map_again (λ x. x ∷ []) (λ i. cell_in_row false i c) (below (length c.cells)))
    ∙ ap (map (λ x. x ∷ [])) (sym (leaf_cells c (broadcasts false (extent_of c)) refl))

-- cells of which none is faulty
clear_step : (x : Cell) (xs : List Cell) → (list_any is_faulty_row (map (λ x. x ∷ []) xs) ≡ false → (flat_map cell_causes xs ≡ []) × (rows_before_fault (map (λ x. x ∷ []) xs) ≡ map (λ v. v ∷ []) (cell_values xs)))
    → list_any is_faulty_row (map (λ x. x ∷ []) (x ∷ xs)) ≡ false → (flat_map cell_causes (x ∷ xs) ≡ []) × (rows_before_fault (map (λ x. x ∷ []) (x ∷ xs)) ≡ map (λ v. v ∷ []) (cell_values (x ∷ xs)))
clear_step (value v) xs rest h =
    let r = rest h in
    (r.0, cons_is (value v ∷ []) (map (λ x. x ∷ []) xs) false refl ∙ ap (λ rows. (v ∷ []) ∷ rows) r.1)
clear_step (faulty c cs) xs rest h = cc

clear_column : (xs : List Cell) → list_any is_faulty_row (map (λ x. x ∷ []) xs) ≡ false → (flat_map cell_causes xs ≡ []) × (rows_before_fault (map (λ x. x ∷ []) xs) ≡ map (λ v. v ∷ []) (cell_values xs))
clear_column [] h = (refl, refl)
clear_column (x ∷ xs) h = clear_step x xs (clear_column xs) h

pub same_values : (vs ws : List Value) → map (λ v. v ∷ []) vs ≡ map (λ v. v ∷ []) ws → vs ≡ ws
same_values vs ws e = sym (back vs) ∙ ap (map (λ row. get_or row 0 val.Null)) e ∙ back ws
  where
    back : (vs : List Value) → map (λ row. get_or row 0 val.Null) (map (λ v. v ∷ []) vs) ≡ vs
    back [] = refl
    back (v ∷ vs) = ap (λ ws. v ∷ ws) (back vs)

not_ended : (c : Column) → (is_ended c || false) ≡ false → c.broken ≡ []
not_ended c h = by c.broken h
  where
    by : (b : List Cause) → (not (is_empty b) || false) ≡ false → b ≡ []
    by [] h = refl
    by (x ∷ xs) h = cc

-- where the zip of one column is whole, the column has no cause, and the rows are its values
pub whole_column_is : (node : ℕ) (c : Column) → (zipped false node (c ∷ [])).broken ≡ [] → (column_causes c ≡ []) × ((zipped false node (c ∷ [])).rows ≡ map (λ v. v ∷ []) (cell_values c.cells))
whole_column_is node c e = by (list_any is_faulty_row (rows_of_zip node (c ∷ []))) refl
  where
    ends : ends_early false (c ∷ []) ≡ false
    ends = (zip_whole node (c ∷ []) (ends_early false (c ∷ [])) (list_any is_faulty_row (rows_of_zip node (c ∷ []))) refl refl e).0

    none : c.broken ≡ []
    none = not_ended c (neither (is_ended c || false) (breaks_shape false (extents (c ∷ []))) ends).0

    by : (b : Bool) → list_any is_faulty_row (rows_of_zip node (c ∷ [])) ≡ b → (column_causes c ≡ []) × ((zipped false node (c ∷ [])).rows ≡ map (λ v. v ∷ []) (cell_values c.cells))
    by false q =
        let k = clear_column c.cells (ap (list_any is_faulty_row) (sym (one_row_each c)) ∙ q) in
        ((λ i. k.0 i ++ none i), ap rows_before_fault (one_row_each c) ∙ k.1)
    by true q =
        let all : (zipped false node (c ∷ [])).broken ≡ zip_causes false node (c ∷ []) = λ i. cond (ends i || q i) (zip_causes false node (c ∷ [])) [] in
        absurd (faulty_breaks node (c ∷ []) (below (zip_length false (extents (c ∷ [])))) q (sym all ∙ e))

-- where the column has no cause, its zip is whole
pub clear_is_whole : (node : ℕ) (c : Column) → column_causes c ≡ [] → (zipped false node (c ∷ [])).broken ≡ []
clear_is_whole node c e =
    let none : c.broken ≡ [] = append-empty_right (flat_map cell_causes c.cells) c.broken e in
    let whole : ends_early false (c ∷ []) ≡ false =
    ap (λ b. b || breaks_shape false (extents (c ∷ []))) (sym (any_ended (c ∷ []))) ∙ sym (ap (λ (e : Extent). e.ended) (one_extent (extent_of c))) ∙ ap (λ b. not (is_empty b)) none in
    let clear = rows_clear (c ∷ []) (below (zip_length false (extents (c ∷ [])))) (ap (λ xs. xs ++ []) e) in
    λ i. cond (whole i || clear i) (zip_causes false node (c ∷ [])) []

-- what was lost doesn't show
pub same_shows : (R : Table) (x y : Column) → x.cells ≡ y.cells → x.broken ≡ y.broken → Shows R (x ∷ []) → Shows R (y ∷ [])
same_shows R x y ec eb s =
    let k : Shows R (record { cells = y.cells; broken = y.broken; lost = x.lost } ∷ []) = subst (λ (c : Column). Shows R (c ∷ [])) (λ i. record { cells = ec i; broken = eb i; lost = x.lost }) s in
    record { few = k.few; whole = k.whole; rows = k.rows }

-- an aggregate of a column, by whether that has a cause
abbrev pub aggregate_as : ℕ → Aggregation → Option DataType → Column → Bool → Column
aggregate_as node a k c b =
    cond b (record { cells = []; broken = flat_map column_causes (c ∷ []); lost = flat_map (λ (c : Column). c.lost) (c ∷ []) })
    (record (aggregate_column node a k (cell_values c.cells)) { lost = flat_map (λ (c : Column). c.lost) (c ∷ []) })

pub no_cause : (c : Column) → column_causes c ≡ [] → (has_cause c || false) ≡ false
no_cause c e = ap (λ cs. not (is_empty cs) || false) e

pub cause_of : (c : Column) (b : Bool) → has_cause c ≡ b → (column_causes c ≡ [] → ⊥) → (has_cause c || false) ≡ true
cause_of c true h some = ap (λ b. b || false) h
cause_of c false h some = absurd (some (empty (column_causes c) h))
  where
    empty : (cs : List Cause) → not (is_empty cs) ≡ false → cs ≡ []
    empty [] h = refl
    empty (x ∷ xs) h = cc

no_items : {A : Type 0} (xs : List A) → length xs ≤ 0 → xs ≡ []
no_items [] h = refl
no_items (x ∷ xs) h = absurd (omega arith)

module _ (F : Functions) (at : ℕ) (name : Name) (a : Aggregation) (given known : Tree) (z t R : Table) (kinds : kind_over z.schema given ≡ kind_over t.schema known) (shows : Shows R (eval at z (Tree.aggregate a given) ∷ [])) where
  abbrev c : Column
  c = eval at z given

  abbrev d : Column
  d = eval at t known

  abbrev k : Option DataType
  k = kind_over z.schema given

  abbrev l : Option DataType
  l = kind_over t.schema known

  shown : IsPartOf (zipped false at (c ∷ [])) (zipped false at (d ∷ [])) → Shows R (eval at t (Tree.aggregate a known) ∷ [])
  shown (inl (p, q, rows)) =
      let u = whole_column_is at c p in
      let v = whole_column_is at d q in
      let vals = same_values (cell_values c.cells) (cell_values d.cells) (sym u.1 ∙ rows ∙ v.1) in
      let x : eval at z (Tree.aggregate a given) ≡ aggregate_as at a k c false = ap (aggregate_as at a k c) (no_cause c u.0) in
      let y : eval at t (Tree.aggregate a known) ≡ aggregate_as at a l d false = ap (aggregate_as at a l d) (no_cause d v.0) in
      let same : aggregate_column at a k (cell_values c.cells) ≡ aggregate_column at a l (cell_values d.cells) = λ i. aggregate_column at a (kinds i) (vals i) in
      same_shows R (eval at z (Tree.aggregate a given)) (eval at t (Tree.aggregate a known))
      (ap (λ (c : Column). c.cells) x ∙ ap (λ (c : Column). c.cells) same ∙ sym (ap (λ (c : Column). c.cells) y))
      (ap (λ (c : Column). c.broken) x ∙ ap (λ (c : Column). c.broken) same ∙ sym (ap (λ (c : Column). c.broken) y))
      shows
  shown (inr (broken, rest)) =
      let some : column_causes c ≡ [] → ⊥ = λ e. broken (clear_is_whole at c e) in
      let x : eval at z (Tree.aggregate a given) ≡ aggregate_as at a k c true = ap (aggregate_as at a k c) (cause_of c (has_cause c) refl some) in
      let s : Shows R (aggregate_as at a k c true ∷ []) = subst (λ (c : Column). Shows R (c ∷ [])) x shows in
      let ended : not (is_empty (column_causes c ++ [])) ≡ true = not_none (column_causes c) some in
      nothing_shows (eval at t (Tree.aggregate a known) ∷ []) R (no_items R.rows (none (column_causes c ++ []) ended s.few)) (λ e. differ (sym (ap (λ b. (b || false) || breaks_shape false (extents (aggregate_as at a k c true ∷ []))) ended) ∙ (s.whole e).0))
    where
      not_none : (cs : List Cause) → (cs ≡ [] → ⊥) → not (is_empty (cs ++ [])) ≡ true
      not_none [] h = absurd (h refl)
      not_none (x ∷ xs) h = refl

      none : (cs : List Cause) → not (is_empty cs) ≡ true → length R.rows ≤ zip_length false (extents (record { cells = []; broken = cs; lost = flat_map (λ (c : Column). c.lost) (c ∷ []) } ∷ [])) → length R.rows ≤ 0
      none [] h le = cc
      none (x ∷ xs) h le = le

      differ : true ≡ false → ⊥
      differ h = cc

pub aggregates_show : AggregatesShow
aggregates_show F at name a given known z t R kinds part case = shown F at name a given known z t R kinds (selects_show F at ((name, Tree.aggregate a given) ∷ []) z R case) part
