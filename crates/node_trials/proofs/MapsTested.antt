-- What is asked of the plans of the tests.
use Rattle.std.proofs.Common.{◌≡◌, List, [], ◌∷◌, map, refl, sym, subst, ap, ◌∙◌}
use Rattle.std.specs.Prelude.{Contains, None, Some, slice_get}
use Rattle.std.specs.List.{AllByRecursion}
use Rattle.pu_base.specs.declared.arena.Node.{Node}
use Rattle.ps_frame.specs.Functions.{Functions}
use Rattle.ps_frame.specs.Tables.{Fields, Frame}
use Rattle.ps_frame.specs.Trees.{IsComplete, Tree, tree_at}
use Rattle.ps_frame.specs.declared.expr.AExpr.{AExpr}
use Rattle.ps_meaning.proofs.Containing.{contains-first}
use Rattle.ps_plan.specs.Graph.{Reached, here, named_by, onward}
use Rattle.ps_meaning.specs.Maps.{map_step}
use Rattle.ps_meaning.specs.Steps.{Step, step_exprs}
use Rattle.ps_plan.specs.Entries.{entry_inputs, entry_step}
use Rattle.ps_plan.specs.declared.ir.IR.{IR}
use Rattle.ps_plan.specs.declared.ir.IR.TheVariants as entry
use Rattle.ps_meaning.specs.declared.map.MapKind.{MapKind}
use Rattle.ps_meaning.specs.declared.map.MapKind.TheVariants as kind
use Rattle.valid_plans.specs.Valid.{IsValidWith, ValidNodes, plan_with}
use Rattle.ps_walks.proofs.Fits.{step-fits}
use Rattle.ps_walks.specs.Accepted.{schemas_at}
use Rattle.ps_walks.specs.Fit.{plan_schemas}
use Rattle.ps_node_eval.specs.Nodes.{FitInputs}
use Rattle.ps_owned_maps.specs.Owned.{MapParts, step_of}
use Rattle.ready_steps.specs.Ready.{IsReadyFor, frame_schemas}
use Rattle.node_trials.specs.MapsTested.{tested_entry, tested_nodes}
use Rattle.ps_node_eval.proofs.NodeSteps.{at-entry, node-ready}

-- the second node is over the first
over-first : (k : MapKind) → entry_inputs (tested_entry k) ≡ record { 0 = 0 } ∷ []
over-first (kind.Function n) = refl
over-first (kind.Select es) = refl
over-first (kind.Sort by cut options) = refl
over-first (kind.GroupBy keys aggs maintain cut) = refl
over-first (kind.Distinct options) = refl

-- and does what the map does
same-step : (f : Node → Tree) (k : MapKind) → entry_step f (tested_entry k) ≡ map_step f k
same-step f (kind.Function n) = refl
same-step f (kind.Select es) = refl
same-step f (kind.Sort by cut options) = refl
same-step f (kind.GroupBy keys aggs maintain cut) = refl
same-step f (kind.Distinct options) = refl

module _ (F : Functions) (v : ValidNodes) (exprs : List AExpr) (df : Frame) (k : MapKind) (root : v.root ≡ record { 0 = 2 }) (nodes : v.nodes ≡ tested_nodes df k) (valid : IsValidWith F v exprs) where
  scan-there : slice_get v.nodes 0 ≡ Some (entry.DataFrameScan df None)
  scan-there = ap (λ ns. slice_get ns 0) nodes

  entry-there : slice_get v.nodes 1 ≡ Some (tested_entry k)
  entry-there = ap (λ ns. slice_get ns 1) nodes

  below-root : Contains (named_by entry_inputs (slice_get v.nodes v.root.0)) 1
  below-root =
      subst (λ (ns : List IR). Contains (named_by entry_inputs (slice_get ns v.root.0)) 1) (sym nodes)
      (subst (λ (r : Node). Contains (named_by entry_inputs (slice_get (tested_nodes df k) r.0)) 1) (sym root) (contains-first 1 []))

  below-entry : Contains (named_by entry_inputs (slice_get v.nodes 1)) 0
  below-entry =
      subst (λ ns. Contains ns 0) (sym (ap (named_by entry_inputs) entry-there ∙ ap (map (λ (n : Node). n.0)) (over-first k))) (contains-first 0 [])

  entry-reached : Reached (plan_with v exprs) 1
  entry-reached = onward below-root here

  pub scan-reached : Reached (plan_with v exprs) 0
  scan-reached = onward below-root (onward below-entry here)

  pub scan-inputs : FitInputs F (plan_with v exprs) 0 []
  scan-inputs = at-entry (λ e. frame_schemas [] ≡ schemas_at (plan_schemas F (plan_with v exprs)) (entry_inputs e)) (slice_get v.nodes 0) (entry.DataFrameScan df None) scan-there refl

  -- over the table of the scan
  module _ (t : Frame) (has : t.schema ≡ plan_schemas F (plan_with v exprs) 0) where
    entry-fits : FitInputs F (plan_with v exprs) 1 (t ∷ [])
    entry-fits =
        at-entry (λ e. frame_schemas (t ∷ []) ≡ schemas_at (plan_schemas F (plan_with v exprs)) (entry_inputs e)) (slice_get v.nodes 1) (tested_entry k) entry-there
        (ap (λ s. s ∷ []) has ∙ ap (schemas_at (plan_schemas F (plan_with v exprs))) (sym (over-first k)))

    pub map-ready : (m : MapParts) → step_of m ≡ map_step (tree_at exprs) k → (s : Fields) × IsReadyFor F (step_of m) (t ∷ []) s
    map-ready m same = (
      plan_schemas F (plan_with v exprs) 1,
      subst (λ (step : Step). IsReadyFor F step (t ∷ []) (plan_schemas F (plan_with v exprs) 1)) (same-step (tree_at exprs) k ∙ sym same)
          (node-ready F (plan_with v exprs) 1 (tested_entry k) (t ∷ []) entry-there valid.valid valid.typed entry-reached entry-fits),
    )

  pub map-complete : AllByRecursion IsComplete (step_exprs (map_step (tree_at exprs) k))
  map-complete =
      subst (λ (step : Step). AllByRecursion IsComplete (step_exprs step)) (same-step (tree_at exprs) k)
      (step-fits F (plan_with v exprs) valid.valid valid.typed 1 entry-reached (tested_entry k) entry-there).complete
