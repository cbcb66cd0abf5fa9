-- The arena of the trials: column a, 1, the height, and what is computed of them; and a list of named expressions.
use Rattle.std.specs.Prelude.{ℕ, List, [], ◌∷◌, codes, false, pos}
use Rattle.pu_base.specs.declared.arena.Node.{Node}
use Rattle.ps_frame.specs.Tables.{Fields}
use Rattle.ps_frame.specs.declared.expr.AExpr.{AExpr}
use Rattle.ps_frame.specs.declared.expr.AExpr.TheVariants as entry
use Rattle.ps_frame.specs.declared.expr.FunctionExpr.TheVariants as fun
use Rattle.ps_frame.specs.declared.expr.IRAggExpr.TheVariants as agg
use Rattle.ps_frame.specs.declared.expr.LiteralValue.TheVariants as lit
use Rattle.ps_frame.specs.declared.expr.Operator.TheVariants as op
use Rattle.ps_frame.specs.declared.value.DataType.TheVariants as kind
use Rattle.ps_meaning.specs.declared.options.ExprIR.{ExprIR}
use Rattle.ps_meaning.specs.declared.options.OutputName.TheVariants as output

abbrev pub at : ℕ → Node
at n = record { 0 = n }

abbrev pub trial_schema : Fields
trial_schema = (codes "a", kind.Int64) ∷ []

abbrev pub trial_entries : List AExpr
trial_entries =
    entry.Column (codes "a")
    ∷ entry.Literal (lit.Int64 (pos 1))
    ∷ entry.Len
    ∷ entry.Cast (at 1) kind.String false
    ∷ entry.BinaryExpr (at 1) op.Plus (at 1)
    ∷ entry.BinaryExpr (at 1) op.Eq (at 0)
    ∷ entry.Agg (agg.Sum (at 0))
    ∷ entry.Ternary (at 5) (at 1) (at 4)
    ∷ entry.Function (at 4) fun.Reverse
    ∷ entry.Agg (agg.NUnique (at 8))
    ∷ []

abbrev pub trial_exprs : List ExprIR
trial_exprs =
    record { node = at 6; output_name = output.Alias (codes "a") }
    ∷ record { node = at 2; output_name = output.Alias (codes "len") }
    ∷ record { node = at 0; output_name = output.Alias (codes "b") }
    ∷ record { node = at 3; output_name = output.Alias [] }
    ∷ record { node = at 5; output_name = output.ColumnLhs (codes "c") }
    ∷ []
