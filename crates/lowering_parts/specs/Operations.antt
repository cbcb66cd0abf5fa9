-- Operators that stay over operands that are lowered together, and what computes named expressions.
use Rattle.std.specs.Prelude.{◌&&◌, ℕ, Bool, List, [], ◌∷◌, None, Option, Some, false, true}
use Rattle.ps_frame.specs.Trees.{Aggregation, Tree}
use Rattle.ps_frame.specs.declared.expr.IRAggExpr.{IRAggExpr}
use Rattle.ps_frame.specs.declared.expr.IRAggExpr.TheVariants as agg
use Rattle.ps_meaning.specs.Shape.{PhysicalKind, in_memory_map, reduce, select_node}
use Rattle.ps_meaning.specs.Steps.{Name, Named, select}
use Rattle.ps_phys.specs.declared.phys.PhysStream.{PhysStream}
use Rattle.ps_rules.specs.Calls.{Operand}
use Rattle.ps_rules.specs.Rules.{first_tree, is_own_column, second_tree, third_tree}
use Rattle.lowering_parts.specs.declared.operation.Operation.{Operation}
use Rattle.lowering_parts.specs.declared.operation.Operation.TheVariants as operation
use Rattle.lowering_parts.specs.declared.nodes.Selection.{Selection}
use Rattle.lowering_parts.specs.declared.nodes.Selection.TheVariants as selection

-- how many operands an operator takes
abbrev pub operand_count : Operation → ℕ
operand_count (operation.Binary op) = 2
operand_count (operation.Cast kind strict) = 1
operand_count operation.Ternary = 3

-- an operator over its operands
abbrev pub operation_tree : Operation → List Tree → Tree
operation_tree (operation.Binary op) es = Tree.binary op (first_tree es) (second_tree es)
operation_tree (operation.Cast kind strict) es = Tree.cast kind strict (first_tree es)
operation_tree operation.Ternary es = Tree.ternary (first_tree es) (second_tree es) (third_tree es)

-- the first of operands, and the others
abbrev pub first_operand : List Operand → Operand
first_operand [] = record { expr = Tree.missing; rule = λ c. c }
first_operand (o ∷ os) = o

abbrev pub other_operands : List Operand → List Operand
other_operands [] = []
other_operands (o ∷ os) = os

-- what an aggregate takes of a column
abbrev pub aggregation_of : IRAggExpr → Aggregation
aggregation_of (agg.Min n) = Aggregation.min
aggregation_of (agg.Max n) = Aggregation.max
aggregation_of (agg.First n) = Aggregation.first
aggregation_of (agg.Last n) = Aggregation.last
aggregation_of (agg.Sum n) = Aggregation.sum
aggregation_of (agg.NUnique n) = Aggregation.n_unique
aggregation_of (agg.Count n all) = Aggregation.count all

-- whether each expression is the column of its own name
abbrev pub are_own : List Name → List Tree → Bool
are_own (n ∷ ns) (e ∷ es) = is_own_column n e && are_own ns es
are_own _ _ = true

-- what computes named expressions over a stream
abbrev pub selection_kind : Selection → List Named → PhysicalKind
selection_kind selection.Select es = select_node es false
selection_kind selection.Reduce es = reduce es
selection_kind selection.Map es = in_memory_map (select es)

-- the stream of a list of one
abbrev pub only_stream : List PhysStream → Option PhysStream
only_stream (s ∷ []) = Some s
only_stream _ = None
