use Rattle.std.proofs.Common.{◌∙◌, sym, arith}
use Rattle.ps_frame.proofs.Rows.{kind_at, kinds-step}
use Rattle.ps_frame.proofs.frame.have_kinds.Goals as goal

pub returns-then-not-is_same_kind : goal.returns-then-not-is_same_kind
returns-then-not-is_same_kind c = (
  λ h. cc,
  λ kinds. sym c.if-not-is_same_kind.true
      ∙ c.is_same_kind.ensures.1
      (c.dtype.ensures ∙ kind_at c.args.schema.now c.args.columns.now c.loop-i.i c.index-columns-i.result c.kind.result kinds (omega arith) c.index-columns-i.is c.kind.ensures),
)

pub loop-i-preserved : goal.loop-i-preserved
loop-i-preserved c =
    kinds-step c.args.schema.now c.args.columns.now c.loop-i.i c.index-columns-i.result c.kind.result c.loop-i.invariant (omega arith) c.index-columns-i.is c.kind.ensures
    (sym c.dtype.ensures ∙ c.is_same_kind.ensures.0 c.if-not-is_same_kind.false)
