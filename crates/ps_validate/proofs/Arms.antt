-- The answer of a node's kind is the answer of its entry.
use Rattle.std.proofs.Common.{◌≡◌, ◌+◌, List, [], ◌∷◌, ◌++◌, Ok, Err, Result, sym, subst, ◌∙◌, ap, arith}
use Rattle.std.specs.Prelude.{IfErr, IfOk}
use Rattle.std.specs.List.{AllByRecursion}
use Rattle.ps_frame.specs.Functions.{Functions}
use Rattle.ps_frame.specs.Tables.{Fields}
use Rattle.ps_frame.specs.Trees.{Tree, IsComplete}
use Rattle.ps_frame.specs.declared.refusal.PolarsError.{PolarsError}
use Rattle.pu_base.specs.declared.arena.Node.{Node}
use Rattle.ps_meaning.specs.PlanTrees.{all_sizes}
use Rattle.ps_meaning.specs.Steps.{Step}
use Rattle.ps_plan.specs.Entries.{entry_inputs, entry_step}
use Rattle.ps_plan.specs.declared.ir.IR.{IR}
use Rattle.valid_plans.specs.Known.{Known, schemas_in}
use Rattle.ps_validate.specs.Nodes.{GivesSchema, IsNodeError}

pub if-ok : {T E : Type 0} {P : T → Type 0} (Q : T → Type 0) (r : Result T E) → IfOk r P → ((t : T) → P t → Q t) → IfOk r Q
if-ok Q (Ok t) h p = p t h
if-ok Q (Err e) h p = tt

pub if-error : {T E : Type 0} {P : E → Type 0} (Q : E → Type 0) (r : Result T E) → IfErr r P → ((e : E) → P e → Q e) → IfErr r Q
if-error Q (Ok t) h p = tt
if-error Q (Err e) h p = p e h

-- an entry x that is known to be e, whose kind answered for this step over these schemas
module _ (F : Functions) (at : Node) (f : Node → Tree) (known : Known) (x e : IR) (is : x ≡ e) (step : Step) (ss : List Fields) (is_step : entry_step f e ≡ step) (is_schemas : schemas_in known (entry_inputs e) ≡ ss) where
  whole-step : entry_step f x ≡ step
  whole-step = ap (entry_step f) is ∙ is_step

  whole-schemas : schemas_in known (entry_inputs x) ≡ ss
  whole-schemas = ap (λ e. schemas_in known (entry_inputs e)) is ∙ is_schemas

  pub arm-given : {P : Fields → Type 0} (r : Result Fields PolarsError) → IfOk r P → ((s : Fields) → P s → GivesSchema F step ss s) → IfOk r (λ s. GivesSchema F (entry_step f x) (schemas_in known (entry_inputs x)) s)
  arm-given r h p =
      if-ok (λ s. GivesSchema F (entry_step f x) (schemas_in known (entry_inputs x)) s) r h (λ s q. subst (λ st. GivesSchema F st (schemas_in known (entry_inputs x)) s) (sym whole-step) (subst (λ ts. GivesSchema F step ts s) (sym whole-schemas) (p s q)))

  pub arm-refused : {P : PolarsError → Type 0} (r : Result Fields PolarsError) → IfErr r P → ((s : PolarsError) → P s → IsNodeError F at step ss s) → IfErr r (λ s. IsNodeError F at (entry_step f x) (schemas_in known (entry_inputs x)) s)
  arm-refused r h p =
      if-error (λ s. IsNodeError F at (entry_step f x) (schemas_in known (entry_inputs x)) s) r h (λ s q. subst (λ st. IsNodeError F at st (schemas_in known (entry_inputs x)) s) (sym whole-step) (subst (λ ts. IsNodeError F at step ts s) (sym whole-schemas) (p s q)))

pub sizes-append : (xs ys : List Tree) → all_sizes (xs ++ ys) ≡ all_sizes xs + all_sizes ys
sizes-append [] ys = omega arith
sizes-append (x ∷ xs) ys = let e = sizes-append xs ys in omega arith
