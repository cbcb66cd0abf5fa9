-- The arena of the trials: column a, what is computed of it, the strict cast of the text x, and the quotient of a by 0.
use Rattle.std.specs.Prelude.{List, [], ◌∷◌, codes, false, pos, true}
use Rattle.pu_base.specs.declared.arena.Node.{Node}
use Rattle.ps_frame.specs.Tables.{Fields}
use Rattle.ps_frame.specs.declared.expr.AExpr.{AExpr}
use Rattle.ps_frame.specs.declared.expr.AExpr.TheVariants as entry
use Rattle.ps_frame.specs.declared.expr.FunctionExpr.TheVariants as fun
use Rattle.ps_frame.specs.declared.expr.IRAggExpr.TheVariants as agg
use Rattle.ps_frame.specs.declared.expr.LiteralValue.TheVariants as lit
use Rattle.ps_frame.specs.declared.expr.Operator.TheVariants as op
use Rattle.ps_frame.specs.declared.value.DataType.TheVariants as kind

abbrev pub tested_schema : Fields
tested_schema = (codes "a", kind.Int64) ∷ []

abbrev pub first : Node
first = record { 0 = 0 }

abbrev pub text_entry : Node
text_entry = record { 0 = 6 }

abbrev pub zero_entry : Node
zero_entry = record { 0 = 9 }

abbrev pub tested_entries : List AExpr
tested_entries =
    entry.Column (codes "a")
    ∷ entry.Agg (agg.Sum first)
    ∷ entry.Agg (agg.NUnique first)
    ∷ entry.Agg (agg.Count first false)
    ∷ entry.Agg (agg.Count first true)
    ∷ entry.Function first fun.Reverse
    ∷ entry.Literal (lit.String (codes "x"))
    ∷ entry.Cast text_entry kind.Int64 true
    ∷ entry.Agg (agg.Min first)
    ∷ entry.Literal (lit.Int64 (pos 0))
    ∷ entry.BinaryExpr first op.FloorDivide zero_entry
    ∷ []
