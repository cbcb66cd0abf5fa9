-- A valid plan while its nodes are lowered: what it says of a node, and that it stays valid.
use Rattle.std.proofs.Common.{◌≡◌, ℕ, ◌<◌, List, [], ◌∷◌, ◌++◌, Result, Ok, Err, length, drop, subst, sym, ap, ◌∙◌}
use Rattle.std.proofs.lemmas.List.{take-append-drop}
use Rattle.std.specs.Prelude.{Contains, OnOk, Some, map, slice_get}
use Rattle.std.specs.List.{AllByRecursion}
use Rattle.pu_base.specs.declared.arena.Node.{Node}
use Rattle.ps_frame.specs.declared.expr.AExpr.{AExpr}
use Rattle.ps_fresh.specs.Known.{Remembers}
use Rattle.ps_fresh.specs.declared.lowering.Lowering.{Lowering}
use Rattle.ps_meaning.proofs.Containing.{contains-first, contains-later}
use Rattle.ps_meaning.specs.Schemas.{tree_schema}
use Rattle.ps_plan.proofs.CleanPlans.{own-complete}
use Rattle.ps_plan.proofs.ReachedSteps.{path-then}
use Rattle.ps_plan.proofs.ValidPlans.{reached-below}
use Rattle.ps_plan.specs.Entries.{entry_inputs}
use Rattle.ps_plan.specs.Graph.{named_by}
use Rattle.ps_plan.specs.Plans.{tree_of}
use Rattle.ps_plan.specs.declared.ir.IR.{IR}
use Rattle.valid_plans.proofs.Staying.{stays-with}
use Rattle.valid_plans.specs.Known.{IsKnown}
use Rattle.valid_plans.specs.Valid.{IsValidWith, ValidNodes, plan_with}
use Rattle.lowering_parts.specs.Gathered.{Begins}
use Rattle.lowering_trials.specs.Going.{HasWholeExprs, IsReached, Stands}

-- entries were added, and what is known of expressions is right
stands_on : (v : ValidNodes) (a b : List AExpr) (l m : Lowering) → Stands v a l → Begins a b → Remembers b m.cache → Stands v b m
stands_on v a b l m s begins cache =
    record {
      functions = s.functions;
      valid = subst (IsValidWith s.functions v) (ap (λ xs. xs ++ drop (length a) b) (sym begins) ∙ take-append-drop (length a) b) (stays-with s.functions v a (drop (length a) b) s.valid);
      cache = cache;
    }

-- the same where a call has succeeded
pub stands_after : {X E : Type 0} (r : Result X E) (v : ValidNodes) (a b : List AExpr) (l m : Lowering) → Stands v a l → OnOk r (Begins a b) → OnOk r (Remembers b m.cache) → OnOk r (Stands v b m)
stands_after (Ok x) v a b l m s begins cache = stands_on v a b l m s begins cache
stands_after (Err e) v a b l m s begins cache = tt

module _ (v : ValidNodes) (exprs : List AExpr) (low : Lowering) (s : Stands v exprs low) (n : Node) (reached : IsReached v n) where
  pub in_range : n.0 < length v.nodes
  in_range = reached-below s.functions (plan_with v exprs) s.valid.valid n.0 reached

  pub schema_known : IsKnown v.schemas n
  schema_known = (tree_schema s.functions (tree_of (plan_with v exprs) n.0), s.valid.schemas n.0 reached)

  pub exprs_whole : (e : IR) → slice_get v.nodes n.0 ≡ Some e → HasWholeExprs exprs e
  exprs_whole e is = own-complete s.functions (plan_with v exprs) s.valid.valid n.0 e reached is

-- the inputs of a reached node are reached
each_reached : (v : ValidNodes) (all : List ℕ) (ns : List Node) → ((m : Node) → Contains all m.0 → IsReached v m) → ((m : Node) → Contains (map (λ (x : Node). x.0) ns) m.0 → Contains all m.0) → AllByRecursion (IsReached v) ns
each_reached v all [] to among = tt
each_reached v all (n ∷ ns) to among = (to n (among n (contains-first n.0 _)), each_reached v all ns to (λ m k. among m (contains-later n.0 _ _ k)))

pub inputs_reached : (v : ValidNodes) (n : Node) (e : IR) (ns : List Node) → IsReached v n → slice_get v.nodes n.0 ≡ Some e → ns ≡ entry_inputs e → AllByRecursion (IsReached v) ns
inputs_reached v n e ns reached is same =
    let next : named_by entry_inputs (slice_get v.nodes n.0) ≡ map (λ (x : Node). x.0) ns = ap (named_by entry_inputs) is ∙ ap (map (λ (x : Node). x.0)) (sym same) in
    each_reached v (named_by entry_inputs (slice_get v.nodes n.0)) ns (λ m k. path-then reached k) (λ m k. subst (λ ks. Contains ks m.0) (sym next) k)

-- the entry of a node stands among the nodes that were handed out
pub entry_there : (nodes given : List IR) (n : ℕ) (e : IR) → given ≡ nodes → slice_get given n ≡ Some e → slice_get nodes n ≡ Some e
entry_there nodes given n e same is = ap (λ (es : List IR). slice_get es n) (sym same) ∙ is
