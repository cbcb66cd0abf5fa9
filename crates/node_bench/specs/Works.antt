-- The table that is timed and the expressions over it.
use Rattle.std.specs.Prelude.{ℕ, List, [], ◌∷◌, codes, false, pos, true}
use Rattle.pu_base.specs.declared.arena.Node.{Node}
use Rattle.ps_frame.specs.Tables.{Fields}
use Rattle.ps_frame.specs.declared.expr.AExpr.{AExpr}
use Rattle.ps_frame.specs.declared.expr.AExpr.TheVariants as entry
use Rattle.ps_frame.specs.declared.expr.IRAggExpr.TheVariants as agg
use Rattle.ps_frame.specs.declared.expr.LiteralValue.TheVariants as lit
use Rattle.ps_frame.specs.declared.expr.Operator.TheVariants as op
use Rattle.ps_frame.specs.declared.value.DataType.TheVariants as kind

abbrev pub bench_schema : Fields
bench_schema =
    (codes "few", kind.Int64)
    ∷ (codes "many", kind.Int64)
    ∷ (codes "key", kind.Int64)
    ∷ (codes "value", kind.Int64)
    ∷ (codes "text", kind.String)
    ∷ []

abbrev pub node_of : ℕ → Node
node_of n = record { 0 = n }

-- the values, by few and then by many from the greatest
abbrev pub sorted_entry : AExpr
sorted_entry = entry.SortBy (node_of 3) (node_of 0 ∷ node_of 1 ∷ []) (false ∷ true ∷ []) (false ∷ [])

-- many * 2, value + many * 2, and whether that is above key; the numbers that the texts show; and so on
abbrev pub bench_entries : List AExpr
bench_entries =
    entry.Column (codes "few")
    ∷ entry.Column (codes "many")
    ∷ entry.Column (codes "key")
    ∷ entry.Column (codes "value")
    ∷ entry.Column (codes "text")
    ∷ entry.Literal (lit.Int64 (pos 2))
    ∷ entry.BinaryExpr (node_of 1) op.Multiply (node_of 5)
    ∷ entry.BinaryExpr (node_of 3) op.Plus (node_of 6)
    ∷ entry.BinaryExpr (node_of 7) op.Gt (node_of 2)
    ∷ entry.Cast (node_of 4) kind.Int64 false
    ∷ sorted_entry
    ∷ entry.Agg (agg.Sum (node_of 3))
    ∷ entry.Agg (agg.NUnique (node_of 1))
    ∷ []
