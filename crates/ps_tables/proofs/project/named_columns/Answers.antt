use Rattle.std.proofs.Common.{arith, subst}
use Rattle.std.proofs.lemmas.List.{take_all}
use Rattle.ps_frame.specs.Frames.{HasKinds}
use Rattle.ps_frame.specs.Tables.{Fields}
use Rattle.ps_tables.proofs.Named.{kinds-step, named-kind, named-length}
use Rattle.ps_tables.proofs.Projected.{values-step}
use Rattle.ps_tables.proofs.project.named_columns.Goals as goal

pub column_of-requires : goal.column_of-requires
column_of-requires c = named-kind c.args.names.now c.args.df.now.schema c.args.schema.now c.loop-name.name-index c.name-item.result c.requires c.loop-name-test.true c.name-item.is

pub loop-name-preserved : goal.loop-name-preserved
loop-name-preserved c =
    let column = c.in_ok-column_of.field-0 in
    record {
      kinds = kinds-step c.args.names.now c.args.df.now.schema c.args.schema.now c.loop-name.name-index c.name-item.result column c.loop-name.columns.items c.push.new.self.items
          c.requires c.loop-name-test.true c.name-item.is c.in_ok-column_of.ensures.kind c.loop-name.invariant.kinds c.in_ok-push.ensures.items;
      values = values-step c.args.df.now.rows c.args.names.now c.args.df.now.schema c.loop-name.name-index c.name-item.result column c.loop-name.columns.items c.push.new.self.items
          c.loop-name-test.true c.name-item.is c.in_ok-column_of.ensures.values c.loop-name.invariant.values c.in_ok-push.ensures.items;
    }

pub returns-clause-kinds : goal.returns-clause-kinds
returns-clause-kinds c =
    let width = named-length c.args.names.now c.args.df.now.schema c.args.schema.now c.requires in
    let end = c.loop-name-test.false in
    subst (λ (s : Fields). HasKinds s c.loop-name.columns.items) (take_all c.loop-name.name-index c.args.schema.now (omega arith)) c.loop-name.invariant.kinds
