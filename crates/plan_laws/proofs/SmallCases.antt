-- Small steps and shapes at which the rules were told apart from wrong ones.
use Rattle.std.proofs.Common.{◌≡◌, ℕ, List, [], ◌∷◌, true, false, None, pos, refl, inl, inr, arith}
use Rattle.std.specs.Prelude.{codes, ◌-◌, ◌^◌}
use Rattle.ps_frame.specs.Causes.{Cause}
use Rattle.ps_frame.specs.Functions.{Functions}
use Rattle.ps_frame.specs.Tables.{Fields}
use Rattle.ps_frame.specs.Trees.{Aggregation, Tree}
use Rattle.ps_frame.specs.declared.expr.LiteralValue.TheVariants as lit
use Rattle.ps_frame.specs.declared.expr.Operator.TheVariants as op
use Rattle.ps_frame.specs.declared.expr.What.TheVariants as what
use Rattle.ps_frame.specs.declared.value.DataFault.TheVariants as fault
use Rattle.ps_frame.specs.declared.value.DataType.TheVariants as kind
use Rattle.ps_meaning.specs.Cases.{cut_table, lost_causes}
use Rattle.ps_plan.specs.Graph.{here}
use Rattle.ps_meaning.specs.PlanTrees.{node}
use Rattle.ps_plan.specs.Plans.{Plan}
use Rattle.ps_meaning.specs.StepRefusals.{Refusal, TypingRefused, column_not_found, duplicate, pairs_differ, unsupported}
use Rattle.ps_plan.specs.Refusals.{IsRefused, TreeRefused, node_left_out}
use Rattle.ps_plan.specs.declared.ir.IR.TheVariants as entry
use Rattle.ps_frame.specs.Parts.{tree_depth}
use Rattle.ps_meaning.specs.Schemas.{output_schema}
use Rattle.ps_meaning.specs.Shape.{zip_node}
use Rattle.ps_meaning.specs.Sound.{BreaksNoRule, rules_of}
use Rattle.ps_meaning.specs.Steps.{Step, group_by, select, union, user}
use Rattle.plan_laws.specs.Examples.{a_frame, a_table, numbers, one_input, scan_of, twice_x}

abbrev a_schema : Fields
a_schema = (codes "a", kind.Int64) ∷ []

abbrev col : List ℕ → Tree
col name = Tree.column name

-- a name repeats also where the other expression of it has no kind
pub name_repeats_without_kind : (F : Functions) → (output_schema F twice_x (a_schema ∷ []) ≡ None) × TypingRefused F twice_x (a_schema ∷ []) (duplicate (codes "x"))
name_repeats_without_kind F = (refl, inr refl)

-- a union without inputs has no schema, so not an empty one
pub no_union_schema : (F : Functions) → TypingRefused F (union None) [] (unsupported what.NoColumns) → ⊥
no_union_schema F e = cc

-- a zip of two inputs with a column of one name
pub zip_repeats : (F : Functions) → BreaksNoRule F (rules_of (zip_node false)) (a_schema ∷ a_schema ∷ []) → ⊥
zip_repeats F rules = rules.3 (duplicate (codes "a")) (inr refl)

-- a fault that is broadcast over no rows inside an aggregate
abbrev lossy : Tree
lossy = Tree.aggregate Aggregation.sum (Tree.binary op.Plus (Tree.filter (col (codes "a")) (Tree.binary op.Gt (col (codes "a")) (Tree.literal (lit.Int64 (pos 5)))))
    (Tree.cast kind.Int64 true (Tree.literal (lit.String (codes "x")))))

abbrev by_a : Step
by_a = group_by (record { keys = (codes "a", col (codes "a")) ∷ []; aggregates = (codes "s", lossy) ∷ []; maintain_order = true; cut = None })

abbrev cause : Cause
cause = record { fault = fault.Function; node = 0 }

pub lost_in_group : (F : Functions) → lost_causes F 1 by_a (a_table (1 ∷ []) ∷ []) [] ≡ record { fault = fault.StrictCast; node = 1 } ∷ []
lost_in_group F = refl

-- there are no groups where the input is broken
pub nothing_lost : (F : Functions) → lost_causes F 1 by_a (record { schema = a_schema; rows = numbers (1 ∷ []); broken = cause ∷ [] } ∷ []) [] ≡ []
nothing_lost F = refl

-- a slice of all rows from the second on: its end is the greatest number
pub cut_to_end : cut_table 1 (2 ^ 64 - 1) (a_table (1 ∷ 2 ∷ [])) ≡ a_table (2 ∷ [])
cut_to_end = refl

-- a column beside a left-out expression is looked up, and the left-out one counts
abbrev beside_left_out : Tree
beside_left_out = Tree.binary op.Plus (Tree.left_out what.Window) (col (codes "z"))

pub looked_up : (F : Functions) → TypingRefused F (select ((codes "x", beside_left_out) ∷ [])) (a_schema ∷ []) (column_not_found (codes "z"))
looked_up F = refl

pub counted : tree_depth beside_left_out ≡ 2
counted = refl

-- a left-out node is refused for whatever it names
abbrev left_out_root : Plan
left_out_root = record { nodes = entry.LeftOut what.NoColumns ∷ []; exprs = []; root = record { 0 = 0 } }

pub left_out_refused : (F : Functions) → IsRefused F left_out_root 0 (unsupported what.NoColumns)
left_out_refused F = record { reached = here; because = inl (inr (node_left_out refl)) }

-- keys of which one has no kind don't differ in kind
pub pair_without_kind : pairs_differ a_schema a_schema (col (codes "z") ∷ []) (col (codes "a") ∷ []) ≡ false
pair_without_kind = refl

-- a number of a function that isn't there decides no typing rule
pub no_function_no_rule : (F : Functions) (plan : Plan) (R : Refusal) → F.count ≡ 0 → TreeRefused F plan (node 1 (user 0) (one_input (scan_of 0 (a_frame [])))) R → ⊥
no_function_no_rule F plan R none r = r.1.1 (omega arith)
