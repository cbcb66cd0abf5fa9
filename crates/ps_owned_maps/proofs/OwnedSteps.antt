-- The step of a map with expressions of its own, by the form of the map.
use Rattle.std.proofs.Common.{◌≡◌, ℕ, List, sym, subst, ap, ◌∙◌}
use Rattle.std.proofs.lemmas.Result.{IfErr-weaker, IfOk-weaker}
use Rattle.std.specs.Prelude.{IfErr, IfOk}
use Rattle.ps_frame.specs.Functions.{Functions}
use Rattle.ps_frame.specs.Tables.{Fields, Frame}
use Rattle.ps_frame.specs.Trees.{tree_at}
use Rattle.ps_frame.specs.declared.expr.AExpr.{AExpr}
use Rattle.ps_meaning.specs.Maps.{map_step}
use Rattle.ps_meaning.specs.Nodes.{GivesFrame, MayFault}
use Rattle.ps_meaning.specs.Steps.{Step}
use Rattle.ps_meaning.specs.declared.map.MapKind.{MapKind}
use Rattle.ps_owned_maps.specs.Owned.{MapParts, step_of}
use Rattle.ready_steps.specs.Ready.{IsReady, IsReadyFor}
use Rattle.ready_steps.proofs.OverInputs.{Answer}

module _ (F : Functions) (m : MapParts) (exprs : List AExpr) (k x : MapKind) (view : record { kind = k; exprs = exprs } ≡ m) (is : k ≡ x) where
  owned-is : step_of m ≡ map_step (tree_at exprs) x
  owned-is = ap step_of (sym view) ∙ ap (map_step (tree_at exprs)) is

  pub owned-ready : (fs : List Frame) (s : Fields) → IsReadyFor F (step_of m) fs s → IsReady (map_step (tree_at exprs) x) fs s
  owned-ready fs s r = (F, subst (λ (step : Step). IsReadyFor F step fs s) owned-is r)

  pub owned-gives : (at : ℕ) (fs : List Frame) (r : Answer) → IfOk r (λ t. (G : Functions) → GivesFrame G at (map_step (tree_at exprs) x) fs t) → IfOk r (λ t. GivesFrame F at (step_of m) fs t)
  owned-gives at fs r h = IfOk-weaker r _ _ (λ t g. subst (λ (step : Step). GivesFrame F at step fs t) (sym owned-is) (g F)) h

  pub owned-faults : (at : ℕ) (fs : List Frame) (r : Answer) → IfErr r (λ t. (G : Functions) → MayFault G at (map_step (tree_at exprs) x) fs t) → IfErr r (λ t. MayFault F at (step_of m) fs t)
  owned-faults at fs r h = IfErr-weaker r _ _ (λ t g. subst (λ (step : Step). MayFault F at step fs t) (sym owned-is) (g F)) h
