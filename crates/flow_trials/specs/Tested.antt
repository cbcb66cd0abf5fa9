-- What the joins of the trials are made of.
use Rattle.std.specs.Prelude.{ℕ, false, true, List, [], ◌∷◌, None, codes}
use Rattle.ps_frame.specs.Tables.{Fields}
use Rattle.ps_frame.specs.Trees.{Tree}
use Rattle.ps_frame.specs.declared.expr.AExpr.{AExpr}
use Rattle.ps_frame.specs.declared.expr.AExpr.TheVariants as entry
use Rattle.ps_frame.specs.declared.value.DataType.TheVariants as kind
use Rattle.ps_meaning.specs.Steps.{Named}
use Rattle.ps_meaning.specs.declared.options.ExprIR.{ExprIR}
use Rattle.ps_meaning.specs.declared.options.JoinArgs.{JoinArgs}
use Rattle.ps_meaning.specs.declared.options.JoinType.{JoinType}
use Rattle.ps_meaning.specs.declared.options.JoinValidation.TheVariants as validation
use Rattle.ps_meaning.specs.declared.options.OutputName.TheVariants as output
use Rattle.ps_nodes.specs.Seen.{HasPorts}
use Rattle.ps_nodes.specs.declared.flow.FlowNode.{FlowNode}

-- one column of texts
abbrev pub texts : Fields
texts = (codes "a", kind.String) ∷ []

-- the column, and the number that is read off it
abbrev pub number_entries : List AExpr
number_entries = entry.Column (codes "a") ∷ entry.Cast (record { 0 = 0 }) kind.Int64 true ∷ []

abbrev pub number_named : ExprIR
number_named = record { node = record { 0 = 1 }; output_name = output.Alias (codes "a") }

-- as a tree
abbrev pub number_read : Named
number_read = (codes "a", Tree.cast kind.Int64 true (Tree.column (codes "a")))

-- A node with so many inputs, and one output. It is a record so that what it says isn't unfolded for each kind of node.
pub record HasInputs (inputs : ℕ) (n : FlowNode) : Type 0 where
  pub ports : HasPorts n inputs 1

-- a join without a slice, in which nulls match nothing
abbrev pub plain_join : JoinType → JoinArgs
plain_join how = record { how = how; suffix = None; join_nulls = false; validation = validation.ManyToMany; slice = None }
