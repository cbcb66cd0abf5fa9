-- New nodes of a graph are made of what they were given.
use Rattle.std.proofs.Common.{◌≡◌, ℕ, ◌+◌, Bool, List, [], ◌∷◌, ◌++◌, drop, length, refl, ap, sym, subst, ◌∙◌, arith}
use Rattle.std.specs.Prelude.{IfSome, map}
use Rattle.pu_base.specs.declared.arena.Node.{Node}
use Rattle.ps_frame.specs.Tables.{Fields, Row}
use Rattle.ps_frame.specs.Trees.{Tree}
use Rattle.ps_meaning.specs.Schemas.{expr_names, names_of}
use Rattle.ps_meaning.specs.Shape.{PhysicalKind, in_memory_join, in_memory_map, zip_node}
use Rattle.ps_meaning.specs.Steps.{JoinStep, Name, Named, Step, exprs_of, named_trees}
use Rattle.ps_meaning.specs.declared.options.ExprIR.{ExprIR}
use Rattle.ps_meaning.specs.declared.options.JoinArgs.{JoinArgs}
use Rattle.plain_nodes.specs.Exprs.{ExprParts, expr_shown, join_shown}
use Rattle.plain_nodes.specs.Reductions.{reduced}
use Rattle.plain_nodes.specs.Seen.{IsNewZip}
use Rattle.ps_nodes.specs.Seen.{IsNew, IsNewJoin, IsNewKeeper}
use Rattle.ps_nodes.specs.declared.flow.FlowNode.{FlowNode}
use Rattle.ps_nodes.specs.declared.flow.FlowNode.TheVariants as flow
use Rattle.ps_nodes.specs.declared.in_memory_join.InMemoryJoinNode.{InMemoryJoinNode}
use Rattle.ps_nodes.specs.declared.in_memory_map.InMemoryMapNode.{InMemoryMapNode}
use Rattle.plain_nodes.specs.declared.reduction.Reduction.{Reduction}
use Rattle.plain_nodes.specs.declared.zip.ZipNode.{ZipNode}
use Rattle.ps_phys.specs.Shown.{join_of}
use Rattle.turn_laws.specs.Updating.{SeenNode}
use Rattle.plan_graphs.specs.Made.{IsMadeOf, IsNewOf, IsUntold, held_inputs, held_schema}
use Rattle.graph_parts.proofs.Lists.{map-length}
use Rattle.graph_parts.proofs.SoundNodes.{exprs-named, front-names}

-- a node that keeps nothing, of a kind that is told by an equation
pub is_made : (kind given : PhysicalKind) (s : Fields) (ss : List Fields) (n : FlowNode) → given ≡ kind → IsNew given n → (IsNew kind n → IsNewOf kind s ss n) → IfSome (held_schema n) (λ t. t ≡ s) → IfSome (held_inputs n) (λ ts. ts ≡ ss) → IsUntold n
    → IsMadeOf kind s ss n
is_made kind given s ss n e new of-kind schema inputs untold =
    let is = subst (λ (k : PhysicalKind). IsNew k n) e new in
    record { shows = ap (λ (x : SeenNode). x.node.kind) is; holds_schema = schema; holds_inputs = inputs; new = of-kind is; untold = untold }

-- one that keeps its inputs
pub is_keeper : (kind : PhysicalKind) (s : Fields) (ss schemas : List Fields) (stores : List (List (List Row))) (n : FlowNode) → IsNewKeeper kind schemas stores n → IsNewOf kind s ss n → IfSome (held_schema n) (λ t. t ≡ s) → IfSome (held_inputs n) (λ ts. ts ≡ ss) → IsUntold n
    → IsMadeOf kind s ss n
is_keeper kind s ss schemas stores n new of-kind schema inputs untold = record { shows = ap (λ (x : SeenNode). x.node.kind) new; holds_schema = schema; holds_inputs = inputs; new = of-kind; untold = untold }

-- a join over whole tables
pub join_made : (o given : JoinStep) (s asked left right l r : Fields) (n : InMemoryJoinNode) → given ≡ o → asked ≡ s → left ≡ l → right ≡ r → IsNewJoin given left right asked (flow.InMemoryJoin n) → IsUntold (flow.InMemoryJoin n)
    → IsMadeOf (in_memory_join o) s (l ∷ r ∷ []) (flow.InMemoryJoin n)
join_made o given s asked left right l r n e a first second new untold =
    record {
      shows = ap (λ (x : SeenNode). x.node.kind) is;
      holds_schema = ap (λ (x : SeenNode). x.node.schema) is;
      holds_inputs = ap (λ (x : SeenNode). x.schemas) is;
      new = is;
      untold = untold;
    }
  where
    is : IsNewJoin o l r s (flow.InMemoryJoin n)
    is =
        let of-step = subst (λ (k : JoinStep). IsNewJoin k left right asked (flow.InMemoryJoin n)) e new in
        let of-schema = subst (λ (t : Fields). IsNewJoin o left right t (flow.InMemoryJoin n)) a of-step in
        let of-left = subst (λ (t : Fields). IsNewJoin o t right s (flow.InMemoryJoin n)) first of-schema in
        subst (λ (t : Fields). IsNewJoin o l t s (flow.InMemoryJoin n)) second of-left

-- a map over a whole table, of a step and a schema that are told by equations
pub map_made : (step given : Step) (s t input : Fields) (n : InMemoryMapNode) → given ≡ step → input ≡ t → IsNewKeeper (in_memory_map given) (input ∷ []) (([] ∷ []) ∷ []) (flow.InMemoryMap n) → IsUntold (flow.InMemoryMap n)
    → IsMadeOf (in_memory_map step) s (t ∷ []) (flow.InMemoryMap n)
map_made step given s t input n e same new untold =
    let of-step = subst (λ (k : Step). IsNewKeeper (in_memory_map k) (input ∷ []) (([] ∷ []) ∷ []) (flow.InMemoryMap n)) e new in
    let is = subst (λ (u : Fields). IsNewKeeper (in_memory_map step) (u ∷ []) (([] ∷ []) ∷ []) (flow.InMemoryMap n)) same of-step in
    is_keeper (in_memory_map step) s (t ∷ []) (t ∷ []) (([] ∷ []) ∷ []) (flow.InMemoryMap n) is is tt (ap (λ (x : SeenNode). x.schemas) is) untold

pub zip_made : (extend : Bool) (s : Fields) (ss given : List Fields) (n : ZipNode) → given ≡ ss → IsNewZip extend (length given) n → n.schemas.items ≡ given → IsMadeOf (zip_node extend) s ss (flow.Zip n)
zip_made extend s ss given n e new schemas =
    record { shows = ap zip_node new.extends; holds_schema = tt; holds_inputs = schemas ∙ e; new = subst (λ (ts : List Fields). IsNewZip extend (length ts) n) e new; untold = tt }

-- the reductions behind the keys of a group-by get the names of their fields
drop-all : (xs ys : List Name) → drop (length xs) (xs ++ ys) ≡ ys
drop-all [] ys = refl
drop-all (x ∷ xs) ys = drop-all xs ys

drop-front : (xs ys : List Name) (k : ℕ) → k ≡ length xs → drop k (xs ++ ys) ≡ ys
drop-front xs ys k e = ap (λ n. drop n (xs ++ ys)) e ∙ drop-all xs ys

same-length : (f : Node → Tree) (es : List ExprIR) (copies : List ExprParts) → map expr_shown copies ≡ named_trees f es → length copies ≡ length (expr_names (named_trees f es))
same-length f es copies e = sym (map-length expr_shown copies) ∙ ap length e ∙ sym (map-length (λ (n : Named). n.0) (named_trees f es))

pub behind_keys : (f : Node → Tree) (ks as' : List ExprIR) (copies selectors : List ExprParts) (reductions : List Reduction) (s t : Fields) → map expr_shown copies ≡ named_trees f ks → names_of s ≡ expr_names (named_trees f ks ++ named_trees f as') → t ≡ s
    → reduced (expr_names (named_trees f as')) (map expr_shown selectors) reductions ≡ named_trees f as' → reduced (drop (length copies) (names_of t)) (map expr_shown selectors) reductions ≡ named_trees f as'
behind_keys f ks as' copies selectors reductions s t keys names same shown = ap (λ ns. reduced ns (map expr_shown selectors) reductions) behind ∙ shown
  where
    behind : drop (length copies) (names_of t) ≡ expr_names (named_trees f as')
    behind =
        ap (λ u. drop (length copies) (names_of u)) same ∙ ap (drop (length copies)) (names ∙ front-names (named_trees f ks) (named_trees f as'))
        ∙ drop-front (expr_names (named_trees f ks)) (expr_names (named_trees f as')) (length copies) (same-length f ks copies keys)

-- the step of a join whose keys were copied
pub copied_join : (f : Node → Tree) (left right : List ExprIR) (lefts rights : List ExprParts) (args given : JoinArgs) → map expr_shown lefts ≡ named_trees f left → map expr_shown rights ≡ named_trees f right → given ≡ args
    → join_shown lefts rights given ≡ join_of f left right args
copied_join f left right lefts rights args given l r a =
    let lefts' = ap exprs_of l ∙ exprs-named f left in
    let rights' = ap exprs_of r ∙ exprs-named f right in
    λ i. record { left_on = lefts' i; right_on = rights' i; args = a i }
