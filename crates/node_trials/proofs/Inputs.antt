-- The tables of a node's inputs, one after another.
use Rattle.std.proofs.Common.{◌≡◌, ℕ, zero, suc, ◌+◌, ◌<◌, ◌≤◌, List, [], ◌∷◌, ◌++◌, length, get_or, take, sym, subst, ap, ◌∙◌, arith}
use Rattle.std.specs.Prelude.{Contains, IfSome, Option, Some, map, slice_get}
use Rattle.std.proofs.lemmas.List.{map_push, take_all, take_more}
use Rattle.pu_base.specs.declared.arena.Node.{Node}
use Rattle.ps_frame.specs.Functions.{Functions}
use Rattle.ps_frame.specs.Tables.{Frame}
use Rattle.ps_meaning.proofs.Containing.{contains-first, contains-later}
use Rattle.ps_plan.proofs.ReachedSteps.{path-then}
use Rattle.ps_plan.specs.Graph.{Reached, named_by}
use Rattle.ps_plan.specs.Plans.{Plan}
use Rattle.ps_plan.specs.Entries.{entry_inputs}
use Rattle.ps_plan.specs.declared.ir.IR.{IR}
use Rattle.ps_walks.specs.Accepted.{NodeSchemas, schemas_at}
use Rattle.ps_walks.specs.Fit.{plan_schemas}
use Rattle.ps_node_eval.specs.Nodes.{FitInputs}
use Rattle.ready_steps.specs.Ready.{frame_schemas}

-- one of several nodes
abbrev pub node_at : List Node → ℕ → Node
node_at ns i = get_or ns i (record { 0 = 0 })

number-there : (ns : List Node) (i : ℕ) → i < length ns → Contains (map (λ (n : Node). n.0) ns) (node_at ns i).0
number-there [] i h = absurd (omega (arith, h))
number-there (n ∷ ns) zero h = contains-first n.0 _
number-there (n ∷ ns) (suc i) h = contains-later n.0 _ _ (number-there ns i (omega (arith, h)))

-- the entry of a node stands among the nodes that were handed out
pub entry-there : (nodes given : List IR) (n : ℕ) (e : IR) → given ≡ nodes → slice_get given n ≡ Some e → slice_get nodes n ≡ Some e
entry-there nodes given n e same is = ap (λ (es : List IR). slice_get es n) (sym same) ∙ is

-- the inputs of a reached node are reached
pub input-reached : (plan : Plan) (n : ℕ) (e : IR) (ns ms : List Node) (i : ℕ) → Reached plan n → slice_get plan.nodes n ≡ Some e → ns ≡ ms → ms ≡ entry_inputs e → i < length ns → Reached plan (node_at ns i).0
input-reached plan n e ns ms i reached is p q h =
    path-then reached (subst (λ (o : Option IR). Contains (named_by entry_inputs o) (node_at ns i).0) (sym is) (subst (λ es. Contains (map (λ (m : Node). m.0) es) (node_at ns i).0) (p ∙ q) (number-there ns i h)))

-- one more table
pub one-more : (S : NodeSchemas) (gs fs : List Frame) (f : Frame) (ns : List Node) (i : ℕ) → gs ≡ fs ++ f ∷ [] → i < length ns → frame_schemas fs ≡ schemas_at S (take i ns) → f.schema ≡ S (node_at ns i).0 → frame_schemas gs ≡ schemas_at S (take (i + 1) ns)
one-more S gs fs f ns i grown h so_far is =
    ap frame_schemas grown
    ∙ map_push (λ (g : Frame). g.schema) fs f
    ∙ (λ j. so_far j ++ is j ∷ [])
    ∙ sym (map_push (λ (m : Node). S m.0) (take i ns) (node_at ns i))
    ∙ ap (schemas_at S) (sym (take_more ns i (record { 0 = 0 }) h))

-- tables of all inputs fit the node
pub all-fit : (F : Functions) (plan : Plan) (n : ℕ) (e : IR) (gs fs : List Frame) (ns ms : List Node) (i : ℕ) → slice_get plan.nodes n ≡ Some e → gs ≡ fs → ns ≡ ms → ms ≡ entry_inputs e → length ns ≤ i → frame_schemas fs ≡ schemas_at (plan_schemas F plan) (take i ns) → FitInputs F plan n gs
all-fit F plan n e gs fs ns ms i is r p q end so_far =
    let all : frame_schemas gs ≡ schemas_at (plan_schemas F plan) (entry_inputs e) = ap frame_schemas r ∙ so_far ∙ ap (schemas_at (plan_schemas F plan)) (take_all i ns end ∙ p ∙ q) in
    subst (λ (o : Option IR). IfSome o (λ x. frame_schemas gs ≡ schemas_at (plan_schemas F plan) (entry_inputs x))) (sym is) all
