use Rattle.std.proofs.Common.{◌≡◌, ◌∙◌, ap, length, map, sym}
use Rattle.std.specs.Prelude.{false, None, Some}
use Rattle.ps_frame.specs.Trees.{tree_at}
use Rattle.ps_meaning.specs.PlanTrees.{node, no_trees, tree}
use Rattle.ps_meaning.specs.Steps.{key_trees}
use Rattle.ps_meaning.specs.Steps as step
use Rattle.ps_plan.specs.Plans.{plan_at}
use Rattle.text_plans.specs.FoundTables.{tables_in}
use Rattle.text_plans.specs.QueryPlans.{expr_tree, stage_tree}
use Rattle.text_queries.specs.Queries.{Key}
use Rattle.text_queries.specs.Views.{key_of, stage_of}
use Rattle.text_queries.specs.declared.query.Stage as stages
use Rattle.text_plans.proofs.entries.stage_entry.Goals as goal

pub returns-in_ok-sort_options-in-Sort-clause-tree : goal.returns-in_ok-sort_options-in-Sort-clause-tree
returns-in_ok-sort_options-in-Sort-clause-tree c =
    let before = plan_at c.args.nodes.now.items c.args.exprs.now.items c.args.input in
    let ks : map (λ (key : Key). expr_tree key.expr) (map key_of c.in-Sort.keys) ≡ key_trees (tree_at c.add_keys.new.into.items) c.in_ok-by_column-in-Sort.by_column =
    ap (λ xs. map (λ (key : Key). expr_tree key.expr) (map key_of xs)) (sym c.as_slice-in-Sort.ensures) ∙ sym c.in_ok-by_column-in-Sort.ensures.trees in
    let ds : map (λ (key : Key). key.desc) (map key_of c.in-Sort.keys) ≡ c.in_ok-sort_options-in-Sort.sort_options.descending =
    ap (λ xs. map (λ (key : Key). key.desc) (map key_of xs)) (sym c.as_slice-in-Sort-2.ensures) ∙ sym c.in_ok-sort_options-in-Sort.ensures.descending in
    let ns : map (λ (key : Key). false) (map key_of c.in-Sort.keys) ≡ c.in_ok-sort_options-in-Sort.sort_options.nulls_last =
    ap (λ xs. map (λ (key : Key). false) (map key_of xs)) (sym c.as_slice-in-Sort-2.ensures) ∙ sym c.in_ok-sort_options-in-Sort.ensures.nulls_first in
    ap (λ (s : stages.Stage). stage_tree (tables_in c.args.tables.now) (length c.args.nodes.now.items) before (stage_of s)) c.in-Sort.is
    ∙ (λ i. Some (node (length c.args.nodes.now.items) (step.sort (record { keys = ks i; descending = ds i; nulls_last = ns i; cut = None })) (tree before no_trees)))
