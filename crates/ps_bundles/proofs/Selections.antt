-- The select of some expressions over the input, as the rules make it.
use Rattle.std.proofs.Common.{◌≡◌, ◌≢◌, ◌⊎◌, inl, inr, ℕ, zero, suc, ◌≤◌, ◌^◌, Bool, true, false, not, cond, List, [], ◌∷◌, ◌++◌, length, Some, None, refl, sym, ap, subst, ◌∙◌, arith}
use Rattle.std.specs.Prelude.{IsTrue, Option, is_some, map, unwrap_or, ◌==◌, ◌&&◌}
use Rattle.std.specs.Cmp.Lexicographic.{bytes_decides}
use Rattle.std.specs.List.{AllByRecursion, list_all}
use Rattle.std.specs.Str.{bytes_eq}
use Rattle.std.proofs.lemmas.List.{length-map}
use Rattle.ps_frame.proofs.NamePlaces.{is_some-position}
use Rattle.ps_frame.specs.Causes.{Cause, Cell, Column, value, is_empty, is_ended}
use Rattle.ps_frame.specs.Eval.{at as item, cell_of_row, cellwise, eval, function_column}
use Rattle.ps_frame.specs.Frames.{has_distinct_names}
use Rattle.ps_frame.specs.Functions.{Functions}
use Rattle.ps_frame.specs.Operators.{binary_value, cast_cell, cast_value, choice_of, not_value}
use Rattle.ps_frame.specs.Tables.{Fields, Table, column_at, field_index, field_kind, table_column, values_at_some}
use Rattle.ps_frame.specs.Trees.{Tree}
use Rattle.ps_frame.specs.Typing.{goes_by_cell, is_elementwise, is_independent, kind_over}
use Rattle.ps_frame.specs.Values.{is_null}
use Rattle.ps_frame.specs.Zip.{Zipped, broadcasts, extent_of, extents, unseen_causes, zip_length, zip_rows, zipped}
use Rattle.ps_frame.specs.declared.expr.FunctionExpr.{FunctionExpr}
use Rattle.ps_frame.specs.declared.expr.FunctionExpr.TheVariants as fun
use Rattle.ps_frame.specs.declared.value.DataType.{DataType}
use Rattle.ps_frame.specs.declared.value.Value.{Value}
use Rattle.ps_frame.specs.declared.value.Value.TheVariants as val
use Rattle.ps_meaning.proofs.Begins.{append-empty_right}
use Rattle.ps_meaning.specs.Cases.{GivesBeforeCut, columns_at, projected}
use Rattle.ps_meaning.specs.Distinct.{places_in}
use Rattle.ps_meaning.specs.Schemas.{both as both_of, fields_of, is_among, named_fields, names_of}
use Rattle.ps_meaning.specs.Shape.{IsPhysicalChoice, PhysicalNode, Shape, independent_select, select_node, simple_projection}
use Rattle.ps_meaning.specs.Steps.{Name, Named, exprs_of, project}
use Rattle.ps_rowwise.proofs.Ignoring.{same-kind}
use Rattle.ps_rules.specs.Calls.{Operand, all_independent, exprs_of_all}
use Rattle.ps_rules.specs.Names.{Names}
use Rattle.ps_rules.specs.Rules.{NamedOperand, answered, are_own_columns, computed, is_own_column, names_of_items, operands_of, selected, together}
use Rattle.ps_rules.specs.Slots.{Made, State, Stream, columns_named, projection, same_names, schema_at, schema_or_none, selected_schema, under, with_columns, without_input}
use Rattle.ps_shares.specs.Kept.{HasNoOther, all_causes}
use Rattle.ps_shares.proofs.Adding.{AllAdd, answers_made, inserted, node_later, one_made, together_gathers}
use Rattle.ps_shares.proofs.Ends.{exprs_under, last_there, same_fields}
use Rattle.ps_shares.proofs.FlatLength.{both_hold, moving}
use Rattle.ps_shares.proofs.Growing.{AllGrow, finished_names, grows_together}
use Rattle.ps_shares.proofs.Leaves.{least_all}
use Rattle.ps_shares.proofs.Members.{Has, from_has, to_has}
use Rattle.ps_shares.proofs.Projected.{kind_as, named_as}
use Rattle.ps_shares.proofs.Stepped.{keyed_broken, keyed_rows, keyed_whole, selected as selected_is, those_at}
use Rattle.ps_shares.proofs.ZipShares.{AtLeast, first_of}
use Rattle.ps_bundles.specs.Endings.{EndAs, Ends}
use Rattle.ps_bundles.proofs.Apart.{AllTyped, all_of, collected, lone, lone_columns}
use Rattle.ps_bundles.proofs.Bundling.{bundle_finished}
use Rattle.ps_bundles.proofs.ExprEnds.{from_each}
use Rattle.ps_bundles.proofs.Gathered.{IsFine, fine_later}
use Rattle.ps_bundles.proofs.NewNodes.{AllOf, Inside, New, inside_before, last_broken, new_none, new_one, new_then, project_all, select_all, there, zip_covers}
use Rattle.ps_bundles.proofs.Reading.{HasFields, has_fields, kinds_own}
use Rattle.ps_bundles.proofs.StepEnds.{none_other}
use Rattle.ps_bundles.proofs.Together.{AllSteps}
use Rattle.ps_bundles.proofs.ZipEnds.{differ, inputs_end, is_none, is_some as is_not_empty, lost_in, no_items, selects_end, some_is, zip_table_shows}

-- What an elementwise expression over a table lost, it lost over no rows.
abbrev IsDrained : Column → Type 0
IsDrained c = (c.lost ≡ []) ⊎ (c.cells ≡ [])

drained_list : (cs : List Column) → AllByRecursion IsDrained cs → (lost_in cs ≡ []) ⊎ ((b : ℕ) → AtLeast b (extents cs) → b ≤ 0)
drained_list [] all = inl refl
drained_list (c ∷ cs) all = by all.0 (drained_list cs all.1)
  where
    later : ((b : ℕ) → AtLeast b (extents cs) → b ≤ 0) → (b : ℕ) → AtLeast b (extents (c ∷ cs)) → b ≤ 0
    later f b far = f b (first_of b (extent_of c) (extents cs) (broadcasts false (extent_of c)) refl far).1

    and_false : (b : Bool) → (b && false) ≡ false
    and_false true = refl
    and_false false = refl

    by : IsDrained c → (lost_in cs ≡ []) ⊎ ((b : ℕ) → AtLeast b (extents cs) → b ≤ 0) → (lost_in (c ∷ cs) ≡ []) ⊎ ((b : ℕ) → AtLeast b (extents (c ∷ cs)) → b ≤ 0)
    by (inr none) rest =
        inr (λ b far.
        let l = ap length none in
        let still : broadcasts false (extent_of c) ≡ false = ap (λ n. not (is_ended c) && (n == 1)) l ∙ and_false (not (is_ended c)) in
        let le = (first_of b (extent_of c) (extents cs) false still far).0 refl in
        omega arith)
    by (inl p) (inl q) = inl (λ i. p i ++ q i)
    by (inl p) (inr f) = inr (later f)

drained_zip : (cs : List Column) → AllByRecursion IsDrained cs → ((lost_in cs ++ unseen_causes false (zip_length false (extents cs)) cs) ≡ []) ⊎ (zip_length false (extents cs) ≡ 0)
drained_zip cs all = by (drained_list cs all) (zip_length false (extents cs)) refl
  where
    by : (lost_in cs ≡ []) ⊎ ((b : ℕ) → AtLeast b (extents cs) → b ≤ 0) → (n : ℕ) → zip_length false (extents cs) ≡ n → ((lost_in cs ++ unseen_causes false (zip_length false (extents cs)) cs) ≡ []) ⊎ (zip_length false (extents cs) ≡ 0)
    by (inr f) n q = let b = zip_length false (extents cs) in let le = f b (least_all b 1 (moving (extents cs)) (omega arith)) in inr (omega arith)
    by (inl p) zero q = inr q
    by (inl p) (suc n) q = inl (λ i. p i ++ (ap (λ n. unseen_causes false n cs) q) i)

module _ (at : ℕ) (z : Table) where
  drained_operator : (f : List Value → Cell) (cs : List Column) → AllByRecursion IsDrained cs → IsDrained (cellwise at f cs)
  drained_operator f cs all = by (drained_zip cs all)
    where
      by : ((lost_in cs ++ unseen_causes false (zip_length false (extents cs)) cs) ≡ []) ⊎ (zip_length false (extents cs) ≡ 0) → IsDrained (cellwise at f cs)
      by (inl e) = inl e
      by (inr e) = inr (ap (λ n. map (cell_of_row f) (zip_rows false n cs)) e)

  drained_function : (g : FunctionExpr) (c : Column) → IsTrue (goes_by_cell g) → IsDrained c → IsDrained (function_column at g c)
  drained_function fun.Not c h k = drained_operator (λ row. value (not_value (item 0 row))) (c ∷ []) (k, tt)
  drained_function fun.IsNull c h k = drained_operator (λ row. value (val.Boolean (is_null (item 0 row)))) (c ∷ []) (k, tt)
  drained_function fun.IsNotNull c h k = drained_operator (λ row. value (val.Boolean (not (is_null (item 0 row))))) (c ∷ []) (k, tt)
  drained_function fun.Reverse c h k = absurd (differ (sym h))

  drained : (e : Tree) → IsTrue (is_elementwise e) → IsDrained (eval at z e)
  drained (Tree.column name) h = inl refl
  drained (Tree.literal l) h = inl refl
  drained (Tree.binary o l r) h =
      let b = both_hold (is_elementwise l) (is_elementwise r) h in
      drained_operator (λ row. value (binary_value o (item 0 row) (item 1 row))) (eval at z l ∷ eval at z r ∷ []) (drained l b.0, (drained r b.1, tt))
  drained (Tree.cast c strict e) h = drained_operator (λ row. cast_cell at strict (cast_value c (item 0 row))) (eval at z e ∷ []) (drained e h, tt)
  drained (Tree.ternary p a b) h =
      let u = both_hold (is_elementwise p) (is_elementwise a && is_elementwise b) h in
      let v = both_hold (is_elementwise a) (is_elementwise b) u.1 in
      drained_operator (λ row. value (choice_of (item 0 row) (item 1 row) (item 2 row))) (eval at z p ∷ eval at z a ∷ eval at z b ∷ []) (drained p u.0, (drained a v.0, (drained b v.1, tt)))
  drained (Tree.function g e) h = let b = both_hold (goes_by_cell g) (is_elementwise e) h in drained_function g (eval at z e) b.0 (drained e b.1)
  drained (Tree.sort d n e) h = absurd (differ (sym h))
  drained (Tree.sort_by d n e by) h = absurd (differ (sym h))
  drained (Tree.gather s e i) h = absurd (differ (sym h))
  drained (Tree.filter e by) h = absurd (differ (sym h))
  drained (Tree.aggregate a e) h = absurd (differ (sym h))
  drained (Tree.slice e o l) h = absurd (differ (sym h))
  drained Tree.len h = absurd (differ (sym h))
  drained (Tree.left_out w) h = absurd (differ (sym h))
  drained Tree.missing h = absurd (differ (sym h))

  drained_all : (es : List Tree) → AllByRecursion (λ e. IsTrue (is_elementwise e)) es → AllByRecursion IsDrained (columns_at at es z)
  drained_all [] all = tt
  drained_all (e ∷ es) all = (drained e all.0, drained_all es all.1)

  pub loses_rows : (es : List Tree) → AllByRecursion (λ e. IsTrue (is_elementwise e)) es → (zipped false at (columns_at at es z)).lost ≢ [] → (zipped false at (columns_at at es z)).rows ≡ []
  loses_rows es all some = by (drained_zip (columns_at at es z) (drained_all es all))
    where
      by : ((lost_in (columns_at at es z) ++ unseen_causes false (zip_length false (extents (columns_at at es z))) (columns_at at es z)) ≡ []) ⊎ (zip_length false (extents (columns_at at es z)) ≡ 0) → (zipped false at (columns_at at es z)).rows ≡ []
      by (inl e) = absurd (some e)
      by (inr e) = let few = (zip_table_shows at (columns_at at es z)).few in no_items (zipped false at (columns_at at es z)).rows (omega arith)

-- What ends as a zip that ends as another ends as that one.
pub ends_through : (T : Table) (p l : Zipped) → EndAs T.rows T.broken p → EndAs p.rows p.broken l → HasNoOther (all_causes p) (all_causes l) → (p.lost ≢ [] → p.rows ≡ []) → EndAs T.rows T.broken l
ends_through T p l (inl (r, a)) (inl (r', a')) none drained = inl (r ∙ r', a ∙ a')
ends_through T p l (inl (r, a)) (inr (r', b', lost)) none drained = inr (r ∙ r', is_not_empty T.broken (a ∙ some_is p.broken b'), lost)
ends_through T p l (inr (r, b, lost)) ends none drained = by (is_empty l.lost) refl ends
  where
    by : (e : Bool) → is_empty l.lost ≡ e → EndAs p.rows p.broken l → EndAs T.rows T.broken l
    by false q ends = inr (r, b, is_not_empty l.lost q)
    by true q (inr (r', b', more)) = absurd (more (is_none l.lost q))
    by true q (inl (r', a')) =
        let broken : l.broken ≢ [] = λ e.
        let nothing : all_causes l ≡ [] = λ i. e i ++ (is_none l.lost q) i in
        lost (append-empty_right p.broken p.lost (none_other (all_causes p) (all_causes l) none nothing)) in
        inl (r ∙ sym (drained lost) ∙ r', some_is T.broken b ∙ sym (some_is l.broken broken))

module _ (F : Functions) (at : ℕ) (input : Stream) (N : Shape) (tables : ℕ → Table) (choice : IsPhysicalChoice F N tables) where
  abbrev t : Table
  t = tables input.0

  abbrev pub shown : List Tree → List Cause
  shown es = all_causes (zipped false at (columns_at at es t))

  -- A stream that ends as the select of some expressions.
  pub record Selected (ns : List Name) (es : List Tree) (s : State) (m : Made) : Type 0 where
    pub fields : Fields
    pub are : fields_of (under ns es) t.schema ≡ Some fields
    pub table_schema : (tables m.stream.0).schema ≡ fields
    pub schema : schema_at m.state.nodes m.stream ≡ fields
    pub ends : Ends at (tables m.stream.0) (columns_at at es t)
    pub broken : AllOf (shown es) (tables m.stream.0).broken
    pub made : New F N tables choice (shown es) s.nodes m.state.nodes

  typed_fields : (ns : List Name) (es : List Tree) → length ns ≡ length es → AllTyped F at input N tables choice es → (fs : Fields) × (fields_of (under ns es) t.schema ≡ Some fs)
  typed_fields [] [] l typed = ([], refl)
  typed_fields [] (e ∷ es) l typed = absurd (omega arith)
  typed_fields (n ∷ ns) [] l typed = absurd (omega arith)
  typed_fields (n ∷ ns) (e ∷ es) l typed = by (kind_over t.schema e) refl typed.0 (typed_fields ns es (omega arith) typed.1)
    where
      by : (k : Option DataType) → kind_over t.schema e ≡ k → is_some k ≡ true → (fs : Fields) × (fields_of (under ns es) t.schema ≡ Some fs) → (fs : Fields) × (fields_of (under (n ∷ ns) (e ∷ es)) t.schema ≡ Some fs)
      by None q s r = absurd (differ (sym s))
      by (Some k) q s (fs, r) = ((n, k) ∷ fs, (λ i. both_of (λ k fs. (n, k) ∷ fs) (q i) (r i)))

  lone_kinds : (es : List Tree) → AllByRecursion (λ e. is_independent e ≡ true) es → map (kind_over []) es ≡ map (kind_over t.schema) es
  lone_kinds [] all = refl
  lone_kinds (e ∷ es) all = let p = same-kind [] t.schema e all.0 in let q = lone_kinds es all.1 in λ i. p i ∷ q i

  none_of : (es : List Tree) → AllOf (shown es) (shown es)
  none_of es = from_each (λ (c : Cause). Has (shown es) c) (shown es) (λ c k. k)

  independent_selected : (ns : List Name) (es : List Tree) (s : State) → length ns ≡ length es → AllTyped F at input N tables choice es → list_all is_independent es ≡ true → Inside F N tables choice (without_input at (under ns es) s).state.nodes → Selected ns es s (without_input at (under ns es) s)
  independent_selected ns es s l typed independent inside =
      let items = under ns es in
      let all = all_of F at input N tables choice es independent in
      let p : PhysicalNode = record { kind = independent_select items; schema = selected_schema items []; origin = at; inputs = [] } in
      let own = choice (length s.nodes) p (there F N tables choice s.nodes p inside) in
      let T = tables (length s.nodes) in
      let f = typed_fields ns es l typed in
      let kinds : fields_of items [] ≡ fields_of items t.schema = same_fields [] t.schema ns es es (lone_kinds es all) in
      let exprs = exprs_under ns es l in
      let columns : columns_at at (exprs_of items) (lone F at input N tables choice) ≡ columns_at at es t = ap (λ es. columns_at at es (lone F at input N tables choice)) exprs ∙ lone_columns F at input N tables choice es all in
      let zip : AllOf (shown es) (all_causes (zipped false at (columns_at at (exprs_of items) (lone F at input N tables choice)))) = subst (λ cs. AllOf (shown es) (all_causes (zipped false at cs))) (sym columns) (none_of es) in
      let new = new_one F N tables choice (shown es) s.nodes p inside (λ U. refl) (λ U before. select_all F N tables choice (shown es) at items (lone F at input N tables choice) U zip before) in
      let schema : selected_schema items [] ≡ f.0 = ap (λ o. unwrap_or o []) (kinds ∙ f.1) in
      record {
        fields = f.0;
        are = f.1;
        table_schema = (selected_is F at items (lone F at input N tables choice) T own).0 ∙ schema;
        schema = ap schema_or_none (last_there s.nodes p) ∙ schema;
        ends = subst (Ends at T) columns (selects_end F at items (lone F at input N tables choice) T own);
        broken = last_broken F N tables choice (shown es) s.nodes p new;
        made = new;
      }

  -- one call, and a select over its stream
  computed_selected : (ns : List Name) (os : List Operand) (adds : AllAdd at input os) (grow : AllGrow at input os) (steps : AllSteps F at input N tables choice os) (s : State) (ms : List Named) → IsFine at input tables ms s → exprs_of_all os ≢ [] → length ns ≡ length (exprs_of_all os)
      → AllTyped F at input N tables choice (exprs_of_all os)
      → let a = answered at input os s in
      let es = under ns a.exprs in
      let p : PhysicalNode = record { kind = select_node es false; schema = selected_schema es (schema_at a.state.nodes a.stream); origin = at; inputs = a.stream ∷ [] } in
      Inside F N tables choice (a.state.nodes ++ p ∷ []) → a.state.names.next ≤ 2 ^ 64 → Selected ns (exprs_of_all os) s (record { state = record { nodes = a.state.nodes ++ p ∷ []; names = a.state.names }; stream = (length a.state.nodes, 0) })
  computed_selected ns os adds grow steps s ms fine some l typed inside small =
      let asked = exprs_of_all os in
      let b = together at input os s in
      let a = answered at input os s in
      let items = under ns a.exprs in
      let p : PhysicalNode = record { kind = select_node items false; schema = selected_schema items (schema_at a.state.nodes a.stream); origin = at; inputs = a.stream ∷ [] } in
      let causes = shown asked in
      let names = finished_names at input b in
      let made = answers_made at input os adds s fine.ordered fine.node in
      let here = inserted a.state p made.0.1 (made.1, tt) in
      let within = inside_before F N tables choice a.state.nodes (a.state.nodes ++ p ∷ []) here.0 inside in
      let gather = together_gathers at input os adds s fine.ordered fine.node in
      let g0 = one_made at input b gather.0.1 (node_later s.nodes b.state.nodes gather.0 input fine.node) gather.1 in
      let r = collected F at input N tables choice os adds grow steps s ms causes fine some typed (zip_covers at causes (columns_at at asked t) (none_of asked)) (inside_before F N tables choice b.state.nodes a.state.nodes g0.0 within) (subst (λ (a : Names). a.next ≤ 2 ^ 64) names small) in
      let fine' = fine_later at input tables ms r.more s b.state fine (grows_together at input os grow s) gather.0 r.extends r.after.only in
      let z = bundle_finished F at input N tables choice r.more asked b fine'.ordered fine'.node fine'.schema r.dependent r.after within in
      let Z = tables a.stream.0 in
      let T = tables (length a.state.nodes) in
      let own = choice (length a.state.nodes) p (there F N tables choice a.state.nodes p inside) in
      let count : length ns ≡ length a.exprs = l ∙ same_count (kind_over Z.schema) (kind_over t.schema) a.exprs asked z.kinds in
      let exprs = exprs_under ns a.exprs count in
      let zp = zipped false at (columns_at at a.exprs Z) in
      let zip : AllOf causes (all_causes (zipped false at (columns_at at (exprs_of items) Z))) =
      subst (λ es. AllOf causes (all_causes (zipped false at (columns_at at es Z)))) (sym exprs) (from_each (λ (c : Cause). Has causes c) (all_causes zp) (λ c k. to_has causes c (z.within.causes c (from_has (all_causes zp) c k)))) in
      let new = new_one F N tables choice causes a.state.nodes p inside (λ U. refl) (λ U before. select_all F N tables choice causes at items Z U zip before) in
      let f = typed_fields ns asked l typed in
      let schema : selected_schema items Z.schema ≡ f.0 = ap (λ o. unwrap_or o []) (same_fields Z.schema t.schema ns a.exprs asked z.kinds ∙ f.1) in
      record {
        fields = f.0;
        are = f.1;
        table_schema = (selected_is F at items Z T own).0 ∙ schema;
        schema = ap schema_or_none (last_there a.state.nodes p) ∙ ap (selected_schema items) z.schema ∙ schema;
        ends = ends_through T zp (zipped false at (columns_at at asked t)) (subst (λ es. Ends at T (columns_at at es Z)) exprs (selects_end F at items Z T own)) z.ends z.within.causes (loses_rows at Z a.exprs r.after.plain);
        broken = last_broken F N tables choice causes a.state.nodes p new;
        made = new_then F N tables choice causes s.nodes a.state.nodes (a.state.nodes ++ p ∷ []) (new_then F N tables choice causes s.nodes b.state.nodes a.state.nodes r.made z.made) new;
      }
    where
      same_count : (f g : Tree → Option DataType) (xs ys : List Tree) → map f xs ≡ map g ys → length ys ≡ length xs
      same_count f g xs ys e = sym (length-map ys g) ∙ sym (ap length e) ∙ length-map xs f

-- A select of columns under their own names is a projection, or the input itself.
module _ (F : Functions) (at : ℕ) (input : Stream) (N : Shape) (tables : ℕ → Table) (choice : IsPhysicalChoice F N tables) (distinct : IsTrue (has_distinct_names (tables input.0).schema))
    (wide : AllByRecursion (λ (row : List Value). length row ≡ length (tables input.0).schema) (tables input.0).rows) where
  abbrev t' : Table
  t' = tables input.0

  -- the places of names
  places : (ns : List Name) → AllByRecursion (λ n. is_among n (names_of t'.schema) ≡ true) ns → columns_at at (columns_named ns) t' ≡ those_at at t' (places_in ns t'.schema)
  places [] all = refl
  places (n ∷ ns) all = by (field_index n t'.schema) refl (is_some-position (λ f. bytes_eq n f.0) t'.schema ∙ sym (named_as n t'.schema) ∙ all.0) (places ns all.1)
    where
      by : (o : Option ℕ) → field_index n t'.schema ≡ o → is_some o ≡ true → columns_at at (columns_named ns) t' ≡ those_at at t' (places_in ns t'.schema) → columns_at at (columns_named (n ∷ ns)) t' ≡ those_at at t' (places_in (n ∷ ns) t'.schema)
      by None q s rest = absurd (differ (sym s))
      by (Some j) q s rest =
          let a : table_column n t' ≡ column_at j t' = ap (λ o. record { cells = map value (values_at_some o t'.rows); broken = t'.broken; lost = [] }) q in
          let b : column_at (unwrap_or (field_index n t'.schema) 0) t' ≡ column_at j t' = ap (λ o. column_at (unwrap_or o 0) t') q in
          λ i. (a ∙ sym b) i ∷ rest i

  -- what is projected ends as its columns
  project_ends : (ns : List Name) (fs : Fields) → ns ≢ [] → AllByRecursion (λ n. is_among n (names_of t'.schema) ≡ true) ns → Ends at (projected ns fs t') (columns_at at (columns_named ns) t')
  project_ends [] fs some all = absurd (some refl)
  project_ends (n ∷ ns) fs some all =
      let j = unwrap_or (field_index n t'.schema) 0 in
      let js = places_in ns t'.schema in
      subst (Ends at (projected (n ∷ ns) fs t')) (sym (places (n ∷ ns) all)) (inl (sym (keyed_rows at t' j js), by (is_empty t'.broken) (is_empty (zipped false at (those_at at t' (j ∷ js))).broken) refl refl))
    where
      by : (a b : Bool) → is_empty t'.broken ≡ a → is_empty (zipped false at (those_at at t' (unwrap_or (field_index n t'.schema) 0 ∷ places_in ns t'.schema))).broken ≡ b
          → is_empty t'.broken ≡ is_empty (zipped false at (those_at at t' (unwrap_or (field_index n t'.schema) 0 ∷ places_in ns t'.schema))).broken
      by true true p q = p ∙ sym q
      by false false p q = p ∙ sym q
      by true false p q = absurd (differ (sym (ap is_empty (keyed_whole at t' (unwrap_or (field_index n t'.schema) 0) (places_in ns t'.schema) (is_none t'.broken p))) ∙ q))
      by false true p q =
          absurd (differ (sym (ap is_empty (keyed_broken at t' (unwrap_or (field_index n t'.schema) 0) (places_in ns t'.schema) (is_none (zipped false at (those_at at t' (unwrap_or (field_index n t'.schema) 0 ∷ places_in ns t'.schema))).broken q))) ∙ p))

  pub same_is : (xs ys : List Name) → same_names xs ys ≡ true → xs ≡ ys
  same_is [] [] h = refl
  same_is [] (y ∷ ys) h = absurd (differ (sym h))
  same_is (x ∷ xs) [] h = absurd (differ (sym h))
  same_is (x ∷ xs) (y ∷ ys) h =
      let b = both_hold (bytes_eq x y) (same_names xs ys) h in
      let p = (bytes_decides x y).0 b.0 in
      let q = same_is xs ys b.1 in
      λ i. p i ∷ q i

  typed_named : (ns : List Name) → AllTyped F at input N tables choice (columns_named ns) → AllByRecursion (λ n. is_among n (names_of t'.schema) ≡ true) ns
  typed_named [] typed = tt
  typed_named (n ∷ ns) typed = (named_as n t'.schema ∙ sym (kind_as n t'.schema) ∙ typed.0, typed_named ns typed.1)

  own_fields : (ns : List Name) → fields_of (under ns (columns_named ns)) t'.schema ≡ named_fields ns t'.schema
  own_fields [] = refl
  own_fields (n ∷ ns) = let r = own_fields ns in λ i. both_of (λ k fs. (n, k) ∷ fs) (kind_over t'.schema (Tree.column n)) (r i)

  input_known : (ns : List Name) → ns ≢ [] → AllOf (shown F at input N tables choice (columns_named ns)) t'.broken
  input_known [] some = absurd (some refl)
  input_known (n ∷ ns) some = (zip_covers at (shown F at input N tables choice (columns_named (n ∷ ns))) (columns_at at (columns_named (n ∷ ns)) t') (none_of F at input N tables choice (columns_named (n ∷ ns)))).0.0.1

  own_selected : (ns : List Name) (s : State) → schema_at s.nodes input ≡ t'.schema → ns ≢ [] → AllTyped F at input N tables choice (columns_named ns) → Inside F N tables choice (with_columns at ns input s).state.nodes
      → Selected F at input N tables choice ns (columns_named ns) s (with_columns at ns input s)
  own_selected ns s schema some typed = by (same_names ns (names_of (schema_at s.nodes input))) refl
    where
      all : AllByRecursion (λ n. is_among n (names_of t'.schema) ≡ true) ns
      all = typed_named ns typed

      fs : HasFields ns t'.schema
      fs = has_fields ns t'.schema all

      some_field : (s : Fields) → t'.schema ≡ s → (ns : List Name) → ns ≢ [] → AllByRecursion (λ n. is_among n (names_of t'.schema) ≡ true) ns → t'.schema ≢ []
      some_field s q [] some here e = absurd (some refl)
      some_field s q (n ∷ ns) some here e = differ (sym (sym (ap (λ s. is_among n (names_of s)) e) ∙ here.0))

      by : (b : Bool) → same_names ns (names_of (schema_at s.nodes input)) ≡ b → Inside F N tables choice (cond {A = Made} b (record { state = s; stream = input }) (projection at ns input s)).state.nodes
          → Selected F at input N tables choice ns (columns_named ns) s (cond {A = Made} b (record { state = s; stream = input }) (projection at ns input s))
      by true q inside =
          let is : ns ≡ names_of t'.schema = same_is ns (names_of (schema_at s.nodes input)) q ∙ ap names_of schema in
          record {
            fields = t'.schema;
            are = own_fields ns ∙ ap (λ ns. named_fields ns t'.schema) is ∙ all_fields t'.schema t'.schema (kinds_own t'.schema distinct);
            table_schema = refl;
            schema = schema;
            ends = subst (λ ns. Ends at t' (columns_at at (columns_named ns) t')) (sym is) (inputs_end at t' (some_field t'.schema refl ns some all) distinct wide);
            broken = input_known ns some;
            made = new_none F N tables choice (shown F at input N tables choice (columns_named ns)) s.nodes;
          }
        where
          all_fields : (r s : Fields) → AllByRecursion (λ (f : Name × DataType). field_kind f.0 s ≡ Some f.1) r → named_fields (names_of r) s ≡ Some r
          all_fields [] s h = refl
          all_fields (f ∷ r) s h = let p = h.0 in let q = all_fields r s h.1 in λ i. both_of (λ k fs. (f.0, k) ∷ fs) (p i) (q i)
      by false q inside =
          let p : PhysicalNode = record { kind = simple_projection ns; schema = unwrap_or (named_fields ns (schema_at s.nodes input)) []; origin = at; inputs = input ∷ [] } in
          let T = tables (length s.nodes) in
          let own = choice (length s.nodes) p (there F N tables choice s.nodes p inside) in
          let is : T ≡ projected ns fs.fields t' = given T own.0 own.1 own.2 in
          let new = new_one F N tables choice (shown F at input N tables choice (columns_named ns)) s.nodes p inside (λ U. refl) (λ U before. project_all F N tables choice (shown F at input N tables choice (columns_named ns)) at ns t' U (input_known ns some) before) in
          record {
            fields = fs.fields;
            are = own_fields ns ∙ fs.found;
            table_schema = ap (λ (T : Table). T.schema) is;
            schema = ap schema_or_none (last_there s.nodes p) ∙ ap (λ f. unwrap_or (named_fields ns f) []) schema ∙ ap (λ o. unwrap_or o []) fs.found;
            ends = subst (λ T. Ends at T (columns_at at (columns_named ns) t')) (sym is) (project_ends ns fs.fields some all);
            broken = last_broken F N tables choice (shown F at input N tables choice (columns_named ns)) s.nodes p new;
            made = new;
          }
        where
          given : (T U : Table) → GivesBeforeCut F at (project ns) (t' ∷ []) U → T ≡ U → T ≡ projected ns fs.fields t'
          given T U (inl g) e = e ∙ g ∙ ap (λ o. projected ns (unwrap_or o []) t') fs.found
          given T U (inr (V, g, some, u)) e = absurd (some refl)

  own_names : (items : List NamedOperand) → are_own_columns items ≡ true → exprs_of_all (operands_of items) ≡ columns_named (names_of_items items)
  own_names [] h = refl
  own_names (i ∷ items) h =
      let b = both_hold (is_own_column i.0 i.1.expr) (are_own_columns items) h in
      let p = one i.0 i.1.expr b.0 in
      let q = own_names items b.1 in
      λ j. p j ∷ q j
    where
      one : (n : Name) (e : Tree) → is_own_column n e ≡ true → e ≡ Tree.column n
      one n (Tree.column m) h = ap Tree.column (sym ((bytes_decides n m).0 h))
      one n (Tree.literal l) h = absurd (differ (sym h))
      one n (Tree.binary o l r) h = absurd (differ (sym h))
      one n (Tree.cast k s e) h = absurd (differ (sym h))
      one n (Tree.ternary p a b) h = absurd (differ (sym h))
      one n (Tree.function g e) h = absurd (differ (sym h))
      one n (Tree.sort d m e) h = absurd (differ (sym h))
      one n (Tree.sort_by d m e by) h = absurd (differ (sym h))
      one n (Tree.gather s e i) h = absurd (differ (sym h))
      one n (Tree.filter e by) h = absurd (differ (sym h))
      one n (Tree.aggregate a e) h = absurd (differ (sym h))
      one n (Tree.slice e o l) h = absurd (differ (sym h))
      one n Tree.len h = absurd (differ (sym h))
      one n (Tree.left_out w) h = absurd (differ (sym h))
      one n Tree.missing h = absurd (differ (sym h))

  count_items : (items : List NamedOperand) → length (names_of_items items) ≡ length (exprs_of_all (operands_of items))
  count_items [] = refl
  count_items (i ∷ items) = ap suc (count_items items)

  -- What the rules make of a select.
  pub selection : (items : List NamedOperand) → AllAdd at input (operands_of items) → AllGrow at input (operands_of items) → AllSteps F at input N tables choice (operands_of items) → (s : State) (ms : List Named) → IsFine at input tables ms s → items ≢ []
      → AllTyped F at input N tables choice (exprs_of_all (operands_of items)) → Inside F N tables choice (selected at input items s).state.nodes → (selected at input items s).state.names.next ≤ 2 ^ 64
      → Selected F at input N tables choice (names_of_items items) (exprs_of_all (operands_of items)) s (selected at input items s)
  selection items adds grow steps s ms fine some typed = by (all_independent (exprs_of_all (operands_of items))) (are_own_columns items) refl refl
    where
      ns : List Name
      ns = names_of_items items

      es : List Tree
      es = exprs_of_all (operands_of items)

      some_exprs : (items : List NamedOperand) → items ≢ [] → exprs_of_all (operands_of items) ≢ []
      some_exprs [] some e = some refl
      some_exprs (i ∷ items) some e = cc

      some_names : (items : List NamedOperand) → items ≢ [] → names_of_items items ≢ []
      some_names [] some e = some refl
      some_names (i ∷ items) some e = cc

      by : (a b : Bool) → all_independent es ≡ a → are_own_columns items ≡ b
          → Inside F N tables choice (cond {A = State → Made} a (without_input at (under ns es)) (cond {A = State → Made} b (with_columns at ns input) (computed at input items)) s).state.nodes
          → (cond {A = State → Made} a (without_input at (under ns es)) (cond {A = State → Made} b (with_columns at ns input) (computed at input items)) s).state.names.next ≤ 2 ^ 64
          → Selected F at input N tables choice ns es s (cond {A = State → Made} a (without_input at (under ns es)) (cond {A = State → Made} b (with_columns at ns input) (computed at input items)) s)
      by true b p q inside small = independent_selected F at input N tables choice ns es s (count_items items) typed p inside
      by false true p q inside small =
          let is : es ≡ columns_named ns = own_names items q in
          subst (λ es. Selected F at input N tables choice ns es s (with_columns at ns input s)) (sym is) (own_selected ns s fine.schema (some_names items some) (subst (AllTyped F at input N tables choice) is typed) inside)
      by false false p q inside small = computed_selected F at input N tables choice ns (operands_of items) adds grow steps s ms fine (some_exprs items some) (count_items items) typed inside small
