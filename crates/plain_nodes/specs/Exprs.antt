-- The expressions of nodes.
use Rattle.std.specs.Prelude.{List, map}
use Rattle.ps_frame.specs.Trees.{tree_at}
use Rattle.ps_frame.specs.declared.expr.AExpr.{AExpr}
use Rattle.ps_meaning.specs.Steps.{JoinStep, Named, exprs_of, name_in}
use Rattle.ps_meaning.specs.declared.options.JoinArgs.{JoinArgs}
use Rattle.ps_meaning.specs.declared.options.OutputName.{OutputName}
use Rattle.pu_base.specs.declared.arena.Node.{Node}

-- an expression's number in an arena of its own, and the name of its column
pub record ExprParts : Type 0 where
  pub exprs : List AExpr
  pub root : Node
  pub name : OutputName

-- the name of its column, and its tree
abbrev pub expr_shown : ExprParts → Named
expr_shown e = (name_in e.name, tree_at e.exprs e.root)

-- the join of such keys
abbrev pub join_shown : (left_on right_on : List ExprParts) → JoinArgs → JoinStep
join_shown left_on right_on args = record { left_on = exprs_of (map expr_shown left_on); right_on = exprs_of (map expr_shown right_on); args = args }
