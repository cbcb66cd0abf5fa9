-- A group-by as the rules see it, and what its aggregates are taken apart into.
use Rattle.std.specs.Prelude.{◌≡◌, ℕ, Bool, true, false, List, [], ◌∷◌, ◌++◌, fold}
use Rattle.std.specs.List.{AllByRecursion}
use Rattle.pu_base.specs.declared.arena.Node.{Node}
use Rattle.ps_frame.specs.Trees.{IsComplete, IsExpression, Tree, tree_at}
use Rattle.ps_frame.specs.declared.expr.AExpr.{AExpr}
use Rattle.ps_meaning.specs.Schemas.{expr_names}
use Rattle.ps_meaning.specs.Shape.{PhysicalKind, group_by_node, in_memory_map}
use Rattle.ps_meaning.specs.Steps.{Cut, GroupStep, Named, exprs_of, group_by, key_trees, named_trees}
use Rattle.ps_meaning.specs.declared.options.ExprIR.{ExprIR}
use Rattle.ps_phys.specs.Shown.{stream_of}
use Rattle.ps_phys.specs.declared.phys.PhysStream.{PhysStream}
use Rattle.ps_rules.specs.Lowered.{lower_exprs}
use Rattle.ps_rules.specs.Names.{Names}
use Rattle.ps_rules.specs.Rules.{first_tree}
use Rattle.ps_rules.specs.Slots.{State, Stream, over_selected, under}
use Rattle.plan_rules.specs.Groups.{columns_over}
use Rattle.plan_rules.specs.Reductions.{Apart, Split, split_aggregates, taken_apart}
use Rattle.ps_fresh.specs.declared.lowering.Lowering.{Lowering}
use Rattle.lowering_parts.specs.Gathered.{GoesOn, Later, state_of, trees_at}
use Rattle.lowering_parts.specs.Operations.{operation_tree}
use Rattle.group_lowering.specs.declared.apart.ByCell.{ByCell}
use Rattle.group_lowering.specs.declared.apart.ByCell.TheVariants as by_cell
use Rattle.group_lowering.specs.declared.groups.Grouping.{Grouping}
use Rattle.group_lowering.specs.declared.groups.Grouping.TheVariants as grouping

abbrev pub group_of : (Node → Tree) → List ExprIR → List ExprIR → Bool → Cut → GroupStep
group_of f keys aggs maintain cut = record { keys = named_trees f keys; aggregates = named_trees f aggs; maintain_order = maintain; cut = cut }

-- an aggregate of a column, or the height
abbrev pub is_reduction : Tree → Bool
is_reduction (Tree.aggregate a e) = true
is_reduction Tree.len = true
is_reduction _ = false

-- what is done with operands, cell by cell
abbrev pub by_cell_tree : ByCell → List Tree → Tree
by_cell_tree (by_cell.Operator o) es = operation_tree o es
by_cell_tree (by_cell.Function g) es = Tree.function g (first_tree es)

-- several expressions over the columns of reductions
pub record AllApart : Type 0 where
  pub names : Names
  pub reductions : List Named
  pub exprs : List Tree

abbrev pub one_more_apart : AllApart → Tree → AllApart
one_more_apart all e = let x = taken_apart e all.names all.reductions in record { names = x.names; reductions = x.reductions; exprs = all.exprs ++ x.expr ∷ [] }

-- several expressions are taken apart, one after the other
abbrev pub all_apart : List Tree → Names → List Named → AllApart
all_apart es names found = fold one_more_apart (record { names = names; reductions = found; exprs = [] }) es

-- an operator over operands that are taken apart
abbrev pub operator_apart : (List Tree → Tree) → List Tree → Names → List Named → Apart
operator_apart operator es names found = let all = all_apart es names found in record { names = all.names; reductions = all.reductions; expr = operator all.exprs }

-- what an expression was taken apart into, as the rules see it
abbrev pub apart_of : (Node → Tree) → Lowering → List ExprIR → Node → Apart
apart_of f low found n = record { names = low.names; reductions = named_trees f found; expr = f n }

abbrev pub all_apart_of : (Node → Tree) → Lowering → List ExprIR → List Node → AllApart
all_apart_of f low found ns = record { names = low.names; reductions = named_trees f found; exprs = trees_at f ns }

abbrev pub split_of : (Node → Tree) → Lowering → (reductions above : List ExprIR) → Split
split_of f low reductions above = record { names = low.names; reductions = named_trees f reductions; above = named_trees f above }

-- an expression comes apart as a rule says; nothing but names and entries is added
pub record ComesApart (rule : Names → List Named → Apart) (arena arena' : List AExpr) (low low' : Lowering) (found found' : List ExprIR) (expr : Node) : Type 0 where
  pub by_rule : Later arena' (λ f. apart_of f low' found' expr ≡ rule low.names (named_trees f found))
  pub whole : IsExpression arena' expr
  pub reductions : AllByRecursion IsComplete (key_trees (tree_at arena') found')
  pub others : low' ≡ record low { names = low'.names }
  pub goes_on : GoesOn arena arena' low low'

-- several come apart
pub record ComeApart (es : List Tree) (arena arena' : List AExpr) (low low' : Lowering) (found found' : List ExprIR) (exprs : List Node) : Type 0 where
  pub by_rule : Later arena' (λ f. all_apart_of f low' found' exprs ≡ all_apart es low.names (named_trees f found))
  pub whole : AllByRecursion IsComplete (trees_at (tree_at arena') exprs)
  pub reductions : AllByRecursion IsComplete (key_trees (tree_at arena') found')
  pub others : low' ≡ record low { names = low'.names }
  pub goes_on : GoesOn arena arena' low low'

-- what some aggregates are split into, as a rule says
pub record IsSplit (rule : Names → Split) (arena arena' : List AExpr) (low low' : Lowering) (reductions above : List ExprIR) : Type 0 where
  pub by_rule : Later arena' (λ f. split_of f low' reductions above ≡ rule low.names)
  pub whole : AllByRecursion IsComplete (key_trees (tree_at arena') reductions)
  pub above_whole : AllByRecursion IsComplete (key_trees (tree_at arena') above)
  pub others : low' ≡ record low { names = low'.names }
  pub goes_on : GoesOn arena arena' low low'

-- how a node of groups computes them
abbrev pub grouping_kind : Grouping → List Named → List Named → PhysicalKind
grouping_kind grouping.Streamed keys aggs = group_by_node keys aggs
grouping_kind (grouping.Whole maintain cut) keys aggs = in_memory_map (group_by (record { keys = keys; aggregates = aggs; maintain_order = maintain; cut = cut }))

-- a stream that was made, named expressions over it, and what stands then
pub record Over : Type 0 where
  pub state : State
  pub stream : Stream
  pub exprs : List Named

abbrev pub over_of : (Node → Tree) → Lowering → PhysStream → List ExprIR → Over
over_of f low s es = record { state = state_of f low; stream = stream_of s; exprs = named_trees f es }

-- keys and all columns, lowered together: the keys over that
abbrev pub keys_below : (at : ℕ) → List Named → Stream → State → Over
keys_below at keys input s = let a = lower_exprs at input (exprs_of keys ++ columns_over input s) s in record { state = a.state; stream = a.stream; exprs = under (expr_names keys) a.exprs }

-- groups by these keys, with the reductions of the aggregates, and the aggregates over that
abbrev pub grouped_over : (at : ℕ) → Over → Split → Over
grouped_over at keys split =
    let g = over_selected at (group_by_node keys.exprs split.reductions) (keys.exprs ++ split.reductions) keys.stream (record keys.state { names = split.names }) in
    record { state = g.state; stream = g.stream; exprs = split.above }

abbrev pub groups_below : (at : ℕ) → (keys aggregates : List Named) → Stream → State → Over
groups_below at keys aggregates input s = let k = keys_below at keys input s in grouped_over at k (split_aggregates aggregates k.state.names)

-- a stream and expressions over it, as a rule says
pub record MakesOver (rule : State → Over) (arena arena' : List AExpr) (low low' : Lowering) (stream : PhysStream) (exprs : List ExprIR) : Type 0 where
  pub by_rule : Later arena' (λ f. over_of f low' stream exprs ≡ rule (state_of f low))
  pub whole : AllByRecursion IsComplete (key_trees (tree_at arena') exprs)
  pub goes_on : GoesOn arena arena' low low'
