-- The nodes of stages, one after the other.
use Rattle.std.proofs.Common.{◌≡◌, ℕ, suc, ◌+◌, ◌<◌, List, ◌∷◌, length, map, get_or, drop, cond, refl, sym, subst, ap, ◌∙◌, arith, drop-cons}
use Rattle.std.specs.Prelude.{Option, Some, None, filter_map, is_none, option_and_then, option_map}
use Rattle.std.specs.List.{cons_option}
use Rattle.ps_frame.specs.Tables.{Frame}
use Rattle.ps_meaning.specs.PlanTrees.{PlanTree, node, no_trees, tree, IsCompletePlan}
use Rattle.ps_meaning.specs.declared.options.JoinType.{JoinType}
use Rattle.text_plans.specs.QueryPlans.{Tables, first_unknown, nodes_of, query_tables, query_tree, scan_at, stage_step, stage_table, stage_tree, stages_tree}
use Rattle.text_queries.specs.Queries.{Stage, Filter, Select, With, Group, Sort, Slice, Distinct, Join, Query}
use Rattle.text_queries.specs.Views.{stage_of}
use Rattle.text_queries.specs.declared.query.Stage as stages

-- the stages from a place on
next : (xs : List stages.Stage) (i : ℕ) (x : stages.Stage) → i < length xs → x ≡ get_or xs i x → drop i xs ≡ x ∷ drop (i + 1) xs
next xs i x within is =
    let e : suc i ≡ i + 1 = omega arith in
    drop-cons xs i x within ∙ (λ j. sym is j ∷ drop (e j) xs)

-- a scan is the node of its table, and complete
scanned : (at : ℕ) (t : PlanTree) (o : Option Frame) → option_map (scan_at at) o ≡ Some t → (frame : Frame) × (o ≡ Some frame) × (scan_at at frame ≡ t)
scanned at t None e = absurd (cc)
scanned at t (Some frame) e = (frame, refl, cc)

pub scan-whole : (at : ℕ) (t : PlanTree) (o : Option Frame) → option_map (scan_at at) o ≡ Some t → IsCompletePlan t
scan-whole at t o e = subst IsCompletePlan (scanned at t o e).2 (tt, tt)

module _ (tables : Tables) where
  -- the node of a join over a scan that was made just before
  pub join-tree : (at n : ℕ) (before right : PlanTree) (how : JoinType) (table : List ℕ) (on : List (List ℕ)) → option_map (scan_at at) (tables table) ≡ Some right → n ≡ at + 1
      → stage_tree tables at before (Join how table on) ≡ Some (node n (stage_step (Join how table on)) (tree before (tree right no_trees)))
  join-tree at n before right how table on e number =
      let scan = scanned at right (tables table) e in
      ap (option_map (λ frame. node (at + 1) (stage_step (Join how table on)) (tree before (tree (scan_at at frame) no_trees)))) scan.1
      ∙ (λ i. Some (node (sym number i) (stage_step (Join how table on)) (tree before (tree (scan.2 i) no_trees))))

  -- one more stage
  module _ (xs : List stages.Stage) (i : ℕ) (x : stages.Stage) (within : i < length xs) (is : x ≡ get_or xs i x) where
    pub stages-turn : (at n : ℕ) (before t : PlanTree) → stage_tree tables at before (stage_of x) ≡ Some t → n ≡ at + nodes_of (stage_of x)
        → stages_tree tables n t (map stage_of (drop (i + 1) xs)) ≡ stages_tree tables at before (map stage_of (drop i xs))
    stages-turn at n before t one number =
        ap (λ (k : ℕ). stages_tree tables k t (map stage_of (drop (i + 1) xs))) number
        ∙ sym (ap (option_and_then (λ over. stages_tree tables (at + nodes_of (stage_of x)) over (map stage_of (drop (i + 1) xs)))) one)
        ∙ ap (λ ys. stages_tree tables at before (map stage_of ys)) (sym (next xs i x within is))

    names-turn : filter_map stage_table (map stage_of (drop i xs)) ≡ cons_option (stage_table (stage_of x)) (filter_map stage_table (map stage_of (drop (i + 1) xs)))
    names-turn = ap (λ ys. filter_map stage_table (map stage_of ys)) (next xs i x within is)

    pub known-turn : (at : ℕ) (before t : PlanTree) → stage_tree tables at before (stage_of x) ≡ Some t
        → first_unknown tables (filter_map stage_table (map stage_of (drop (i + 1) xs))) ≡ first_unknown tables (filter_map stage_table (map stage_of (drop i xs)))
    known-turn at before t one = sym (ap (first_unknown tables) names-turn ∙ by (stage_of x) one)
      where
        names : List (List ℕ)
        names = filter_map stage_table (map stage_of (drop (i + 1) xs))

        two : (table : List ℕ) (n : ℕ) (f : Frame → PlanTree) (o : Option Frame) → tables table ≡ o → option_map f o ≡ Some t → cond (is_none (tables table)) (Some table) (first_unknown tables names) ≡ first_unknown tables names
        two table n f None e h = absurd (cc)
        two table n f (Some frame) e h = ap (λ o. cond (is_none o) (Some table) (first_unknown tables names)) e

        by : (s : Stage) → stage_tree tables at before s ≡ Some t → first_unknown tables (cons_option (stage_table s) names) ≡ first_unknown tables names
        by (Filter e) h = refl
        by (Select items) h = refl
        by (With items) h = refl
        by (Group keys aggs) h = refl
        by (Sort keys) h = refl
        by (Slice offset length) h = refl
        by Distinct h = refl
        by (Join how table on) h = two table at (λ frame. node (at + 1) (stage_step (Join how table on)) (tree before (tree (scan_at at frame) no_trees))) (tables table) refl h

    pub unknown-turn : (name : List ℕ) → stage_table (stage_of x) ≡ Some name → tables name ≡ None → first_unknown tables (filter_map stage_table (map stage_of (drop i xs))) ≡ Some name
    unknown-turn name h e =
        ap (first_unknown tables) names-turn
        ∙ ap (λ o. first_unknown tables (cons_option o (filter_map stage_table (map stage_of (drop (i + 1) xs))))) h
        ∙ ap (λ o. cond (is_none o) (Some name) (first_unknown tables (filter_map stage_table (map stage_of (drop (i + 1) xs))))) e

  -- the scan of the query's own table
  module _ (query : Query) where
    pub first-tree : (t : PlanTree) → option_map (scan_at 0) (tables query.source) ≡ Some t → stages_tree tables 1 t query.stages ≡ query_tree tables query
    first-tree t e =
        let scan = scanned 0 t (tables query.source) e in
        ap (λ (u : PlanTree). stages_tree tables 1 u query.stages) (sym scan.2)
        ∙ sym (ap (option_and_then (λ frame. stages_tree tables 1 (scan_at 0 frame) query.stages)) scan.1)

    pub first-known : (t : PlanTree) → option_map (scan_at 0) (tables query.source) ≡ Some t → first_unknown tables (filter_map stage_table query.stages) ≡ first_unknown tables (query_tables query)
    first-known t e =
        let scan = scanned 0 t (tables query.source) e in
        sym (ap (λ o. cond (is_none o) (Some query.source) (first_unknown tables (filter_map stage_table query.stages))) scan.1)

    pub first-unknown : (name : List ℕ) → name ≡ query.source → tables query.source ≡ None → first_unknown tables (query_tables query) ≡ Some name
    first-unknown name is e = ap (λ o. cond (is_none o) (Some query.source) (first_unknown tables (filter_map stage_table query.stages))) e ∙ ap (λ n. Some n) (sym is)
