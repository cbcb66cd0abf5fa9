-- Plans as arenas, which unfold by computing to the plans of the other files.
use Rattle.std.proofs.Common.{◌≡◌, false, [], ◌∷◌, None, pos, refl}
use Rattle.std.specs.Prelude.{codes}
use Rattle.ps_frame.specs.Trees.{tree_within}
use Rattle.ps_frame.specs.declared.expr.AExpr.TheVariants as expr
use Rattle.ps_frame.specs.declared.expr.LiteralValue.TheVariants as lit
use Rattle.ps_frame.specs.declared.expr.Operator.TheVariants as op
use Rattle.ps_plan.specs.Plans.{IsPlan, Plan, plan_within, tree_of}
use Rattle.ps_plan.specs.declared.ir.IR.TheVariants as entry
use Rattle.ps_meaning.specs.declared.options.SinkType.TheVariants as sink_type
use Rattle.plan_laws.specs.Refused.{named, node_of}
use Rattle.plan_laws.specs.Examples.{a_frame, filter_plan, given, twice_plan}

abbrev filter_arenas : Plan
filter_arenas =
    record {
      nodes = entry.DataFrameScan (a_frame (1 ∷ 2 ∷ 3 ∷ [])) None ∷ entry.Filter (node_of 0) (named (codes "p") 2) ∷ entry.Sink (node_of 1) sink_type.Memory ∷ [];
      exprs = expr.Column (codes "a") ∷ expr.Literal (lit.Int64 (pos 1)) ∷ expr.BinaryExpr (node_of 0) op.Gt (node_of 1) ∷ [];
      root = node_of 2;
    }

filter_unfolds : tree_of filter_arenas 2 ≡ filter_plan
unfolding plan_within tree_within
filter_unfolds = refl

filter_is_plan : IsPlan filter_arenas.nodes filter_arenas.exprs (node_of 2)
unfolding plan_within tree_within
filter_is_plan = (tt, ((((tt, tt), tt), ((tt, tt), tt)), tt))

abbrev twice_arenas : Plan
twice_arenas =
    record {
      nodes = entry.DataFrameScan given None
          ∷ entry.GroupBy (node_of 0) (named (codes "k") 0 ∷ []) [] false (record { slice = None })
          ∷ entry.Cache (node_of 1) 0 0
          ∷ entry.Select (node_of 2) (named (codes "k1") 0 ∷ [])
          ∷ entry.Select (node_of 2) (named (codes "k2") 0 ∷ [])
          ∷ entry.HConcat (node_of 3 ∷ node_of 4 ∷ [])
          ∷ entry.Sink (node_of 5) sink_type.Memory ∷ [];
      exprs = expr.Column (codes "k") ∷ [];
      root = node_of 6;
    }

twice_unfolds : tree_of twice_arenas 6 ≡ twice_plan
unfolding plan_within tree_within
twice_unfolds = refl
