use Rattle.ps_tables.proofs.Stacked.{columns-push, kinds-in-all, kinds-push}
use Rattle.ps_tables.proofs.union.joined_columns.Goals as goal

pub joined_column-requires-clause-kind : goal.joined_column-requires-clause-kind
joined_column-requires-clause-kind c = kinds-in-all c.args.schema.now c.args.inputs.now c.loop-i.i c.kind.result c.requires.alike c.kind.ensures

pub loop-i-preserved : goal.loop-i-preserved
loop-i-preserved c =
    let column = c.in_ok-joined_column.field-0 in
    record {
      kinds = kinds-push c.args.schema.now c.loop-i.i column c.loop-i.columns.items c.push.new.self.items c.kind.result c.loop-i.invariant.kinds c.kind.ensures c.in_ok-joined_column.ensures.kind c.in_ok-push.ensures.items;
      values = columns-push _ c.loop-i.i column c.loop-i.columns.items c.push.new.self.items c.loop-i.invariant.values c.in_ok-joined_column.ensures.values c.in_ok-push.ensures.items;
    }
