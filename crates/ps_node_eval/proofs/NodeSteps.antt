-- The step of a node that a valid plan reaches, over tables that fit its inputs.
use Rattle.std.proofs.Common.{◌≡◌, ℕ, List, [], ◌∷◌, length, refl, suc, sym, subst, ap, ◌∙◌}
use Rattle.std.specs.Prelude.{IfErr, IfOk, IfSome, Option, Some, Ok, Err, slice_get, unwrap_or}
use Rattle.pu_base.specs.declared.arena.Node.{Node}
use Rattle.ps_frame.specs.Functions.{Functions, IsLawful}
use Rattle.ps_frame.specs.Tables.{Fields, Frame, whole}
use Rattle.ps_frame.specs.Trees.{tree_at}
use Rattle.ps_meaning.proofs.SchemaLaw.{case-schema}
use Rattle.ps_meaning.specs.Cases.{schemas_of}
use Rattle.ps_plan.specs.Graph.{Reached}
use Rattle.ps_meaning.specs.Nodes.{GivesFrame, MayFault, wholes}
use Rattle.ps_plan.specs.Plans.{Plan}
use Rattle.ps_plan.specs.Refusals.{IsValid}
use Rattle.ps_meaning.specs.Schemas.{output_schema, schema_or_empty}
use Rattle.ps_meaning.specs.Steps.{Step}
use Rattle.ps_plan.specs.Entries.{entry_inputs, entry_step}
use Rattle.ps_plan.specs.declared.ir.IR.{IR}
use Rattle.ps_walks.proofs.Fits.{step-fits}
use Rattle.ps_walks.specs.Accepted.{NodeSchemas, schemas_at}
use Rattle.ps_walks.specs.Fit.{HasSchemas, IsFit, plan_schemas}
use Rattle.ps_node_eval.specs.Nodes.{FitInputs, NodeFaults, NodeGives}
use Rattle.ready_steps.specs.Ready.{IsReadyFor, frame_schemas}
use Rattle.ready_steps.proofs.OverInputs.{Answer}

-- what holds of the entry that stands there
pub of-entry : {A : Type 0} (P : A → Type 0) (o : Option A) (x : A) → o ≡ Some x → IfSome o P → P x
of-entry P o x is h = let there : IfSome (Some x) P = subst (λ q. IfSome q P) is h in there

pub at-entry : {A : Type 0} (P : A → Type 0) (o : Option A) (x : A) → o ≡ Some x → P x → IfSome o P
at-entry P o x is h = subst (λ q. IfSome q P) (sym is) h

-- as many tables as schemas, and as nodes that have these
many-frames : (fs : List Frame) → length (frame_schemas fs) ≡ length fs
many-frames [] = refl
many-frames (f ∷ fs) = ap (λ n. suc n) (many-frames fs)

many-nodes : (S : NodeSchemas) (ns : List Node) → length (schemas_at S ns) ≡ length ns
many-nodes S [] = refl
many-nodes S (n ∷ ns) = ap (λ k. suc k) (many-nodes S ns)

-- the schemas of whole tables
whole-schemas : (fs : List Frame) → schemas_of (wholes fs) ≡ frame_schemas fs
whole-schemas [] = refl
whole-schemas (f ∷ fs) = ap (λ ss. f.schema ∷ ss) (whole-schemas fs)

-- a table that a step gives has the schema of the step
pub given-schema : (F : Functions) → IsLawful F → (at : ℕ) (step : Step) (fs : List Frame) (s : Fields) → IsReadyFor F step fs s → (f : Frame) → GivesFrame F at step fs f → f.schema ≡ s
given-schema F lawful at step fs s r f g =
    case-schema F lawful at step (wholes fs) (whole f) g ∙ ap (schema_or_empty F step) (whole-schemas fs) ∙ ap (λ o. unwrap_or o []) r.schema

module _ (F : Functions) (plan : Plan) (n : ℕ) (e : IR) (fs : List Frame) (is : slice_get plan.nodes n ≡ Some e) where
  pub node-ready : IsValid F plan → HasSchemas F plan → Reached plan n → FitInputs F plan n fs → IsReadyFor F (entry_step (tree_at plan.exprs) e) fs (plan_schemas F plan n)
  node-ready valid typed reached fit =
      let same = of-entry (λ x. frame_schemas fs ≡ schemas_at (plan_schemas F plan) (entry_inputs x)) (slice_get plan.nodes n) e is fit in
      record {
        fit = subst (λ ss. IsFit F (entry_step (tree_at plan.exprs) e) ss) (sym same) (step-fits F plan valid typed n reached e is);
        schema = subst (λ ss. output_schema F (entry_step (tree_at plan.exprs) e) ss ≡ Some (plan_schemas F plan n)) (sym same) (typed n e reached is);
      }

  pub node-inputs : FitInputs F plan n fs → length fs ≡ length (entry_inputs e)
  node-inputs fit =
      let same = of-entry (λ x. frame_schemas fs ≡ schemas_at (plan_schemas F plan) (entry_inputs x)) (slice_get plan.nodes n) e is fit in
      sym (many-frames fs) ∙ ap length same ∙ many-nodes (plan_schemas F plan) (entry_inputs e)

  pub node-gives : (r : Answer) → IfOk r (λ f. GivesFrame F n (entry_step (tree_at plan.exprs) e) fs f) → IfOk r (λ f. NodeGives F plan n fs f)
  node-gives (Ok f) g = at-entry (λ x. GivesFrame F n (entry_step (tree_at plan.exprs) x) fs f) (slice_get plan.nodes n) e is g
  node-gives (Err x) g = tt

  pub node-faults : (r : Answer) → IfErr r (λ x. MayFault F n (entry_step (tree_at plan.exprs) e) fs x) → IfErr r (λ x. NodeFaults F plan n fs x)
  node-faults (Ok f) g = tt
  node-faults (Err x) g = at-entry (λ y. MayFault F n (entry_step (tree_at plan.exprs) y) fs x) (slice_get plan.nodes n) e is g

  pub node-schema : IsLawful F → IsReadyFor F (entry_step (tree_at plan.exprs) e) fs (plan_schemas F plan n) → (r : Answer) → IfOk r (λ f. GivesFrame F n (entry_step (tree_at plan.exprs) e) fs f) → IfOk r (λ f. f.schema ≡ plan_schemas F plan n)
  node-schema lawful ready (Ok f) g = given-schema F lawful n (entry_step (tree_at plan.exprs) e) fs (plan_schemas F plan n) ready f g
  node-schema lawful ready (Err x) g = tt
