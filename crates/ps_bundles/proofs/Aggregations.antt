-- What a call does at an aggregate, and at the height of its input.
use Rattle.std.proofs.Common.{◌≡◌, ◌≢◌, ◌⊎◌, inl, inr, ℕ, ◌≤◌, ◌^◌, Bool, true, false, not, cond, List, [], ◌∷◌, ◌++◌, length, Some, None, refl, sym, ap, subst, ◌∙◌, arith}
use Rattle.std.specs.Prelude.{IsTrue, Option, flat_map, is_some, map, nat_le, unwrap_or, ◌==◌, ◌||◌}
use Rattle.std.specs.Cmp.Lexicographic.{bytes_decides}
use Rattle.std.specs.List.{AllByRecursion, list_any}
use Rattle.std.proofs.lemmas.Bool.{eqb-true}
use Rattle.std.proofs.lemmas.Grind.{flat_map-append}
use Rattle.ps_frame.specs.Aggregates.{aggregate_column, count_column, max_rows}
use Rattle.ps_frame.specs.Causes.{Cause, Column, cell_causes, cell_values, column_causes, has_cause, is_empty, whole_column}
use Rattle.ps_frame.specs.Eval.{eval, height_column, operand}
use Rattle.ps_frame.specs.Frames.{has_distinct_names}
use Rattle.ps_frame.specs.Functions.{Functions}
use Rattle.ps_frame.specs.Tables.{Table}
use Rattle.ps_frame.specs.Trees.{Aggregation, Tree}
use Rattle.ps_frame.specs.Typing.{aggregate_kind, is_elementwise, kind_over}
use Rattle.ps_frame.specs.Zip.{extent_of, extents, zipped}
use Rattle.ps_frame.specs.declared.value.DataType.{DataType}
use Rattle.ps_frame.specs.declared.value.DataFault.TheVariants as data_fault
use Rattle.ps_frame.specs.declared.value.Value.{Value}
use Rattle.ps_frame.specs.declared.value.Value.TheVariants as val
use Rattle.ps_meaning.specs.Cases.{Case, columns_at}
use Rattle.ps_meaning.specs.Schemas.{both as both_of, is_among, names_of}
use Rattle.ps_meaning.specs.Shape.{IsPhysicalChoice, PhysicalNode, Shape, reduce}
use Rattle.ps_meaning.specs.Steps.{Name, Named, select}
use Rattle.ps_rules.specs.Bundles.{finished, is_stream_alone}
use Rattle.ps_rules.specs.Calls.{Answer, Bundle, Call, Operand, given_reduction}
use Rattle.ps_rules.specs.Names.{IsKnown, Names}
use Rattle.ps_rules.specs.Rules.{counted_rows, first_tree, reduced_apart, reduced_column, together}
use Rattle.ps_rules.specs.Slots.{State, Stream, after_name, new_name, schema_at, schema_or_none, selected_schema}
use Rattle.ps_rules.proofs.Free.{fresh_known}
use Rattle.ps_shares.specs.Ends.{AreKnownBy}
use Rattle.ps_shares.specs.Kept.{HasNoOther, all_causes}
use Rattle.ps_shares.specs.Leaves.{AtLeaves, all_leaves, leaves, put_back}
use Rattle.ps_shares.proofs.Adding.{Adds, AddsTo, AreNodes, MadeFrom, adds_same, adds_then, answers_made, inserted, node_later, one_made, together_gathers}
use Rattle.ps_shares.proofs.Causes.{all_append, down_zip}
use Rattle.ps_shares.proofs.Ends.{last_there}
use Rattle.ps_shares.proofs.FlatLength.{both_hold}
use Rattle.ps_shares.proofs.Fresh.{Grown, grown_fresh, grown_same, grown_then}
use Rattle.ps_shares.proofs.Growing.{Grows, finished_names, grows_together}
use Rattle.ps_shares.proofs.Members.{Has, from_has, to_has}
use Rattle.ps_shares.proofs.Named.{at_all}
use Rattle.ps_shares.proofs.Stands.{some_aggregate}
use Rattle.ps_shares.proofs.Stepped.{selected}
use Rattle.ps_bundles.specs.Endings.{EndAs}
use Rattle.ps_bundles.proofs.Answers.{given_step, reduction_step}
use Rattle.ps_bundles.proofs.Apart.{collected}
use Rattle.ps_bundles.proofs.Bundling.{bundle_finished}
use Rattle.ps_bundles.proofs.CallSteps.{StepTo, Steps, own_put}
use Rattle.ps_bundles.proofs.Depending.{down_whole}
use Rattle.ps_bundles.proofs.ExprEnds.{from_each, one_of as one_among}
use Rattle.ps_bundles.proofs.Gathered.{Col, Extends, Gathered, IsFine, IsNarrow, IsStream, Kind, OnlyKnown, Stands, extends_fresh, extends_same, extends_then, fine_later, has_last, named, only_fresh, own_named, own_stands}
use Rattle.ps_bundles.proofs.NewNodes.{AllOf, Covers, Inside, KnownOf, New, covers_zip, inside_before, last_broken, new_none, new_one, new_then, new_weaker, same_fit, select_all, there, zip_covers}
use Rattle.ps_bundles.proofs.Reading.{among_or}
use Rattle.ps_bundles.proofs.StepEnds.{aggregates_end}
use Rattle.ps_bundles.proofs.Streams.{Finished}
use Rattle.ps_bundles.proofs.ZipEnds.{differ, is_some as is_not_empty}

-- one column agrees with itself
pub one_covers : (at : ℕ) (causes : List Cause) (c : Column) → KnownOf causes c → Covers at causes (c ∷ [])
one_covers at causes c h = ((h, tt), (λ q. absurd (differ (sym q ∙ same_fit (extent_of c) (extents (c ∷ [])) (refl, tt)))))

-- the aggregates that make one value of any values
abbrev pub MakesOne : ℕ → Aggregation → Type 0
MakesOne at a = (k : Option DataType) (vs : List Value) → (v : Value) × (aggregate_column at a k vs ≡ whole_column (v ∷ []))

module _ (at : ℕ) (input : Stream) (tables : ℕ → Table) where
  count_narrow : (n : ℕ) → IsNarrow at input tables (count_column at n)
  count_narrow n = by (nat_le n max_rows)
    where
      by : (b : Bool) → IsNarrow at input tables (cond b (whole_column (val.IdxSize n ∷ [])) (record { cells = []; broken = record { fault = data_fault.Rows; node = at } ∷ []; lost = [] }))
      by true = inl refl
      by false = inr (refl, (λ e. cc))

  -- the height of a table
  pub height_narrow : (t : Table) → IsNarrow at input tables (height_column at t)
  height_narrow t = by (is_empty t.broken) refl
    where
      by : (b : Bool) → is_empty t.broken ≡ b → IsNarrow at input tables (cond b (count_column at (length t.rows)) (record { cells = []; broken = t.broken; lost = [] }))
      by true q = count_narrow (length t.rows)
      by false q = inr (refl, is_not_empty t.broken q)

  -- one value, or none
  pub aggregate_narrow : (a : Aggregation) → MakesOne at a → (e : Tree) (t : Table) → IsNarrow at input tables (eval at t (Tree.aggregate a e))
  aggregate_narrow a one e t = by (list_any has_cause (eval at t e ∷ [])) refl
    where
      c : Column
      c = eval at t e

      some : (xs : List Cause) → (not (is_empty xs) || false) ≡ true → xs ++ [] ≢ []
      some [] h e = differ (sym h)
      some (x ∷ xs) h e = let w : x ∷ (xs ++ []) ≡ [] = e in cc

      by : (b : Bool) → (has_cause c || false) ≡ b
          → IsNarrow at input tables (cond b (record { cells = []; broken = flat_map column_causes (c ∷ []); lost = flat_map (λ (c : Column). c.lost) (c ∷ []) }) (record (aggregate_column at a (kind_over t.schema e) (operand 0 (map (λ (c : Column). cell_values c.cells) (c ∷ [])))) { lost = flat_map (λ (c : Column). c.lost) (c ∷ []) }))
      by true q = inr (refl, some (column_causes c) q)
      by false q = inl (ap (λ (c : Column). length c.cells) (one (kind_over t.schema e) (operand 0 (map (λ (c : Column). cell_values c.cells) (c ∷ [])))).1)

module _ (F : Functions) (at : ℕ) (input : Stream) (N : Shape) (tables : ℕ → Table) (choice : IsPhysicalChoice F N tables) where
  abbrev t : Table
  t = tables input.0

  pub len_steps : Steps F at input N tables choice Tree.len (counted_rows at input)
  len_steps c ms asked causes fine h inside small typed known =
      reduction_step F at input N tables choice Tree.len c ms asked causes c.state ms Tree.len h (extends_same at input tables c.state.names ms) (grown_same c.state.names)
      (adds_same c.state.nodes fine.ordered) small refl typed known (height_narrow at input tables t) (new_none F N tables choice causes c.state.nodes) h.only

  -- the causes of an aggregate are those of its values
  aggregate_known : (a : Aggregation) → MakesOne at a → (causes : List Cause) (e : Tree) (z : Table) → KnownOf causes (eval at z e) → KnownOf causes (eval at z (Tree.aggregate a e))
  aggregate_known a one causes e z h = by (has_cause (eval at z e) || false)
    where
      c : Column
      c = eval at z e

      lost : AllOf causes (flat_map (λ (c : Column). c.lost) (c ∷ []))
      lost = all_append (λ (c : Cause). Has causes c) c.lost [] h.2 tt

      by : (b : Bool)
          → KnownOf causes (cond b (record { cells = []; broken = flat_map column_causes (c ∷ []); lost = flat_map (λ (c : Column). c.lost) (c ∷ []) }) (record (aggregate_column at a (kind_over z.schema e) (operand 0 (map (λ (c : Column). cell_values c.cells) (c ∷ [])))) { lost = flat_map (λ (c : Column). c.lost) (c ∷ []) }))
      by true = (tt, all_append (λ (c : Cause). Has causes c) (column_causes c) [] (all_append (λ (c : Cause). Has causes c) (flat_map cell_causes c.cells) c.broken h.0 h.1) tt, lost)
      by false =
          let k = one (kind_over z.schema e) (operand 0 (map (λ (c : Column). cell_values c.cells) (c ∷ []))) in (
            subst (λ (c : Column). AllOf causes (flat_map cell_causes c.cells)) (sym k.1) tt,
            subst (λ (c : Column). AllOf causes c.broken) (sym k.1) tt,
            lost,
          )

  module _ (distinct : IsTrue (has_distinct_names t.schema)) (wide : AllByRecursion (λ (row : List Value). length row ≡ length t.schema) t.rows) (a : Aggregation) (one : MakesOne at a) (o : Operand)
      (adds : AddsTo at input o.rule) (grow : Grows at input o.rule) (steps : Steps F at input N tables choice o.expr o.rule) where
    abbrev E : Tree
    E = Tree.aggregate a o.expr

    module _ (c : Call) (ms : List Named) (asked : List Tree) (causes : List Cause) (fine : IsFine at input tables ms c.state) (h : Gathered at input tables ms asked causes c.state c.streams c.reduced c.exprs c.mapped) (typed : IsTrue (is_some (kind_over t.schema E))) (known : KnownOf causes (eval at t E)) where
      abbrev b : Bundle
      b = together at input (o ∷ []) c.state

      abbrev bexpr : Tree
      bexpr = Tree.aggregate a (first_tree b.exprs)

      operand_known : KnownOf causes (eval at t o.expr)
      operand_known = (down_whole (λ (c : Cause). Has causes c) (λ vs. aggregate_column at a (kind_over t.schema o.expr) (operand 0 vs)) (eval at t o.expr ∷ []) known).0

      operand_typed : IsTrue (is_some (kind_over t.schema o.expr))
      operand_typed = some_aggregate a (kind_over t.schema o.expr) typed

      gather : Adds c.state.nodes b.state.nodes × AreNodes b.state.nodes b.streams
      gather = together_gathers at input (o ∷ []) (adds, tt) c.state fine.ordered fine.node

      named_more : Grown c.state.names b.state.names
      named_more = grows_together at input (o ∷ []) (grow, tt) c.state

      -- over the input itself
      alone : is_stream_alone input b.streams b.reduced ≡ true → Inside F N tables choice b.state.nodes → (after_name b.state).names.next ≤ 2 ^ 64 → StepTo F at input N tables choice E c (given_reduction bexpr b.state c) ms asked causes
      alone q inside small =
          let le = (grown_fresh b.state.names).1 in
          let r = collected F at input N tables choice (o ∷ []) (adds, tt) (grow, tt) (steps, tt) c.state ms causes fine (λ e. cc) (operand_typed, tt) (one_covers at causes (eval at t o.expr) operand_known) inside (omega arith) in
          let fine' = fine_later at input tables ms r.more c.state b.state fine named_more gather.0 r.extends r.after.only in
          reduction_step F at input N tables choice E c ms asked causes b.state r.more bexpr h r.extends named_more gather.0 small (ap (Tree.aggregate a) (is_operand r.more b.exprs r.after.back r.after.plain (own r.after.names_stand) fine')) typed known (aggregate_narrow at input tables a one o.expr t) r.made r.after.only
        where
          is_operand : (more : List Named) (bs : List Tree) → map (put_back more) bs ≡ o.expr ∷ [] → AllByRecursion (λ e. IsTrue (is_elementwise e)) bs → AllByRecursion (AtLeaves (λ n. is_among n (names_of t.schema) ≡ true)) bs → IsFine at input tables more b.state → first_tree bs ≡ o.expr
          is_operand more [] back plain own fine = let w : [] ≡ o.expr ∷ [] = back in cc
          is_operand more (x ∷ y ∷ bs) back plain own fine = let w : put_back more x ∷ put_back more y ∷ map (put_back more) bs ≡ o.expr ∷ [] = back in cc
          is_operand more (x ∷ []) back plain own fine =
              let w : put_back more x ∷ [] ≡ o.expr ∷ [] = back in
              let is : put_back more x ≡ o.expr = cc in
              sym (own_put F at input N tables choice distinct wide more b.state fine x plain.0 own.0) ∙ is

          own_in : (ss : List Stream) (rs : List Named) → is_stream_alone input ss rs ≡ true → (n : Name) → Stands at input tables ss rs [] n → is_among n (names_of t.schema) ≡ true
          own_in [] rs q n k = absurd (differ (sym q))
          own_in (s ∷ []) (m ∷ rs) q n k = absurd (differ (sym q))
          own_in (s ∷ r ∷ ss) rs q n k = absurd (differ (sym q))
          own_in (s ∷ []) [] q n k =
              let e : input.0 ≡ s.0 = eqb-true input.0 s.0 (both_hold (input.0 == s.0) (input.1 == s.1) q).0 in
              ap (λ m. is_among n (names_of (tables m).schema)) e ∙ by (among_or n (names_of (tables s.0).schema ++ []) [] k)
            where
              rest : (is_among n (names_of (tables s.0).schema) ≡ true) ⊎ (is_among n [] ≡ true) → is_among n (names_of (tables s.0).schema) ≡ true
              rest (inl r) = r
              rest (inr r) = absurd (differ (sym r))

              by : (is_among n (names_of (tables s.0).schema ++ []) ≡ true) ⊎ (is_among n [] ≡ true) → is_among n (names_of (tables s.0).schema) ≡ true
              by (inl r) = rest (among_or n (names_of (tables s.0).schema) [] r)
              by (inr r) = absurd (differ (sym r))

          own : AllByRecursion (AtLeaves (Stands at input tables b.streams b.reduced [])) b.exprs → AllByRecursion (AtLeaves (λ n. is_among n (names_of t.schema) ≡ true)) b.exprs
          own k = at_all (Stands at input tables b.streams b.reduced []) (λ n. is_among n (names_of t.schema) ≡ true) (own_in b.streams b.reduced q) b.exprs k

      -- over a stream of its own
      abbrev shown : List Cause
      shown = all_causes (zipped false at (eval at t o.expr ∷ []))

      abbrev ans : Answer
      ans = finished at input b

      abbrev f : Name
      f = new_name ans.state

      abbrev items : List Named
      items = (f, bexpr) ∷ []

      abbrev p : PhysicalNode
      p = record { kind = reduce items; schema = selected_schema items (schema_at ans.state.nodes ans.stream); origin = at; inputs = ans.stream ∷ [] }

      apart : Inside F N tables choice (ans.state.nodes ++ p ∷ []) → (after_name ans.state).names.next ≤ 2 ^ 64 → StepTo F at input N tables choice E c (reduced_apart at input bexpr ans c) ms asked causes
      apart inside small =
          let le = (grown_fresh ans.state.names).1 in
          let names = finished_names at input b in
          let made = answers_made at input (o ∷ []) (adds, tt) c.state fine.ordered fine.node in
          let here = inserted (after_name ans.state) p made.0.1 (made.1, tt) in
          let within = inside_before F N tables choice ans.state.nodes (ans.state.nodes ++ p ∷ []) here.0 inside in
          let g0 = one_made at input b gather.0.1 (node_later c.state.nodes b.state.nodes gather.0 input fine.node) gather.1 in
          let in_b = inside_before F N tables choice b.state.nodes ans.state.nodes g0.0 within in
          let small_b : b.state.names.next ≤ 2 ^ 64 = subst (λ (a : Names). a.next ≤ 2 ^ 64) names (omega arith) in
          let shown_known : AllOf causes shown = covers_zip at causes (eval at t o.expr ∷ []) (one_covers at causes (eval at t o.expr) operand_known) in
          let r = collected F at input N tables choice (o ∷ []) (adds, tt) (grow, tt) (steps, tt) c.state ms shown fine (λ e. cc) (operand_typed, tt) (zip_covers at shown (eval at t o.expr ∷ []) (from_each (λ (c : Cause). Has shown c) shown (λ c k. k))) in_b small_b in
          let fine' = fine_later at input tables ms r.more c.state b.state fine named_more gather.0 r.extends r.after.only in
          let z = bundle_finished F at input N tables choice r.more (o.expr ∷ []) b fine'.ordered fine'.node fine'.schema r.dependent r.after within in
          by r.more r.extends r.made b.exprs refl r.after.back z g0.0 here within shown_known (subst (λ a. Grown c.state.names a) (sym names) named_more) names r.after.only
        where
          by : (middle : List Named) → Extends at input tables c.state.names ms middle → New F N tables choice shown c.state.nodes b.state.nodes → (bs : List Tree) → b.exprs ≡ bs → map (put_back middle) b.exprs ≡ o.expr ∷ [] → Finished F at input N tables choice (o.expr ∷ []) b.exprs b.state (record { state = ans.state; stream = ans.stream })
              → Adds b.state.nodes ans.state.nodes → MadeFrom ans.state.nodes (record { state = record { nodes = ans.state.nodes ++ p ∷ []; names = (after_name ans.state).names }; stream = (length ans.state.nodes, 0) }) → Inside F N tables choice ans.state.nodes → AllOf causes shown → Grown c.state.names ans.state.names → ans.state.names ≡ b.state.names → OnlyKnown at input tables middle b.state.names
              → StepTo F at input N tables choice E c (reduced_apart at input bexpr ans c) ms asked causes
          by middle x made [] q back z g0 here within shown_known grown names only = let w : [] ≡ o.expr ∷ [] = ap (map (put_back middle)) (sym q) ∙ back in cc
          by middle x made (y ∷ y' ∷ bs) q back z g0 here within shown_known grown names only = let w : put_back middle y ∷ put_back middle y' ∷ map (put_back middle) bs ≡ o.expr ∷ [] = ap (map (put_back middle)) (sym q) ∙ back in cc
          by middle x made (y ∷ []) q back z g0 here within shown_known grown names only =
              let Z = tables ans.stream.0 in
              let ends = subst (λ bs. EndAs (zipped false at (columns_at at bs Z)).rows (zipped false at (columns_at at bs Z)).broken (zipped false at (eval at t o.expr ∷ []))) q z.ends in
              let none : HasNoOther (all_causes (zipped false at (eval at Z y ∷ []))) shown = subst (λ bs. HasNoOther (all_causes (zipped false at (columns_at at bs Z))) shown) q z.within.causes in
              let kinds : kind_over Z.schema y ∷ [] ≡ kind_over t.schema o.expr ∷ [] = ap (map (kind_over Z.schema)) (sym q) ∙ z.kinds in
              let kind : kind_over Z.schema y ≡ kind_over t.schema o.expr = cc in
              let expr : bexpr ≡ Tree.aggregate a y = ap (λ bs. Tree.aggregate a (first_tree bs)) q in
              let T = tables (length ans.state.nodes) in
              let own = choice (length ans.state.nodes) p (there F N tables choice ans.state.nodes p inside) in
              let case : Case F at (select ((f, Tree.aggregate a y) ∷ [])) (Z ∷ []) T = subst (λ e. Case F at (select ((f, e) ∷ [])) (Z ∷ []) T) expr own in
              let known_z : KnownOf causes (eval at Z y) =
              (down_zip (λ (c : Cause). Has causes c) at (eval at Z y ∷ []) (from_each (λ (c : Cause). Has causes c) (all_causes (zipped false at (eval at Z y ∷ []))) (λ c k. one_among (λ (c : Cause). Has causes c) shown c shown_known (to_has shown c (none c (from_has (all_causes (zipped false at (eval at Z y ∷ []))) c k)))))).0 in
              let zip : AllOf causes (all_causes (zipped false at (eval at Z bexpr ∷ []))) =
              subst (λ e. AllOf causes (all_causes (zipped false at (eval at Z e ∷ [])))) (sym expr) (covers_zip at causes (eval at Z (Tree.aggregate a y) ∷ []) (one_covers at causes (eval at Z (Tree.aggregate a y)) (aggregate_known a one causes y Z known_z))) in
              let new = new_one F N tables choice causes ans.state.nodes p inside (λ U. refl) (λ U before. select_all F N tables choice causes at items Z U zip before) in
              let more = (f, E) ∷ middle in
              let b' : State = record { nodes = ans.state.nodes ++ p ∷ []; names = (after_name ans.state).names } in
              let x' = extends_then at input tables c.state.names ans.state.names ms middle more grown x (extends_fresh at input tables ans.state.names middle E small) in
              let stands = own_stands at input tables f E middle in
              let fs = Tree.column f ∷ [] in
              let env = Col at input tables more in
              let there' : Has (all_leaves env (c.exprs ++ fs)) (env f) = subst (λ cs. Has cs (env f)) (sym (flat_map-append (leaves env) c.exprs fs)) (has_last (all_leaves env c.exprs) (env f ∷ []) (env f) (inl refl)) in
              let typed_z : is_some (kind_over Z.schema (Tree.aggregate a y)) ≡ true = ap (λ k. is_some (aggregate_kind a k)) kind ∙ typed in
              let typed_p : is_some (kind_over Z.schema bexpr) ≡ true = ap (λ e. is_some (kind_over Z.schema e)) expr ∙ typed_z in
              let schema = schema_of (kind_over Z.schema bexpr) refl typed_p T own in
              let the_kind : Some schema.0 ≡ Kind at input tables more f = sym schema.2 ∙ ap (kind_over Z.schema) expr ∙ ap (aggregate_kind a) kind ∙ sym (ap (kind_over t.schema) stands) in
              let stream : IsStream at input tables more (c.exprs ++ fs) causes b'.names b'.nodes (length ans.state.nodes, 0) =
              record {
                columns = eval at t E ∷ [];
                ends = aggregates_end F at f a y o.expr Z t T kind ends none case;
                known = subst (λ s. AreKnownBy (λ n. IsTrue (named at input tables more n)) env s (eval at t E ∷ [])) (sym schema.1) ((λ is. ap (eval at t) (sym stands)), tt);
                kinds = subst (AllByRecursion (λ (f : Name × DataType). IsTrue (named at input tables more f.0) → Some f.1 ≡ Kind at input tables more f.0)) (sym schema.1) ((λ is. the_kind), tt);
                some = λ e. cc;
                covered = (inl (subst (Has (all_leaves env (c.exprs ++ fs))) (ap (eval at t) stands) there'), tt);
                broken = last_broken F N tables choice causes ans.state.nodes p new;
                names_known = subst (λ s. AllByRecursion (IsKnown b'.names) (names_of s)) (sym schema.1) (fresh_known ans.state.names small, tt);
                schema = ap schema_or_none (last_there ans.state.nodes p) ∙ ap (selected_schema items) z.schema ∙ schema.3;
              } in
              given_step F at input N tables choice E c ms asked causes f (length ans.state.nodes, 0) b' more h x' (grown_then c.state.names ans.state.names b'.names grown (grown_fresh ans.state.names))
              (adds_then c.state.nodes ans.state.nodes b'.nodes (adds_then c.state.nodes b.state.nodes ans.state.nodes gather.0 g0) here.0) stands (own_named at input tables f E middle) (fresh_known ans.state.names small) stream here.1
              (ap (λ s. is_among f (names_of s)) schema.1 ∙ ap (λ b. b || false) ((bytes_decides f f).1 refl))
              (new_then F N tables choice causes c.state.nodes ans.state.nodes b'.nodes (new_weaker F N tables choice shown causes c.state.nodes ans.state.nodes shown_known (new_then F N tables choice shown c.state.nodes b.state.nodes ans.state.nodes made z.made)) new)
              (only_fresh at input tables middle ans.state.names E (grown_fresh ans.state.names) small (subst (OnlyKnown at input tables middle) (sym names) only))
            where
              schema_of : (k : Option DataType) → kind_over (tables ans.stream.0).schema bexpr ≡ k → is_some k ≡ true → (T : Table) → Case F at (select items) (tables ans.stream.0 ∷ []) T
                  → (k' : DataType) × (T.schema ≡ (f, k') ∷ []) × (kind_over (tables ans.stream.0).schema bexpr ≡ Some k') × (selected_schema items (tables ans.stream.0).schema ≡ T.schema)
              schema_of None q s T case = absurd (differ (sym s))
              schema_of (Some k) q s T case =
                  let e = (selected F at items (tables ans.stream.0) T case).0 in
                  let k' : selected_schema items (tables ans.stream.0).schema ≡ (f, k) ∷ [] = ap (λ o. unwrap_or (both_of (λ k fs. (f, k) ∷ fs) o (Some [])) []) q in
                  (k, e ∙ k', q, sym e)

      pub column_step : Inside F N tables choice (reduced_column at input a o c).state.nodes → (reduced_column at input a o c).state.names.next ≤ 2 ^ 64 → StepTo F at input N tables choice E c (reduced_column at input a o c) ms asked causes
      column_step = by (is_stream_alone input b.streams b.reduced) refl
        where
          by : (q : Bool) → is_stream_alone input b.streams b.reduced ≡ q → Inside F N tables choice (cond {A = Call → Call} q (given_reduction bexpr b.state) (reduced_apart at input bexpr ans) c).state.nodes
              → (cond {A = Call → Call} q (given_reduction bexpr b.state) (reduced_apart at input bexpr ans) c).state.names.next ≤ 2 ^ 64 → StepTo F at input N tables choice E c (cond {A = Call → Call} q (given_reduction bexpr b.state) (reduced_apart at input bexpr ans) c) ms asked causes
          by true q inside small = alone q inside small
          by false q inside small = apart inside small

    pub column_steps : Steps F at input N tables choice E (reduced_column at input a o)
    column_steps c ms asked causes fine h inside small typed known = column_step c ms asked causes fine h typed known inside small
