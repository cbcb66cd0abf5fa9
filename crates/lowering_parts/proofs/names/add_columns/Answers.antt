use Rattle.lowering_parts.proofs.Going.{begins_then}
use Rattle.lowering_parts.proofs.Grown.{kept-then}
use Rattle.lowering_parts.proofs.ColumnLemmas.{columns_step}
use Rattle.lowering_parts.proofs.names.add_columns.Goals as goal

pub loop-name-preserved : goal.loop-name-preserved
loop-name-preserved c =
    record {
      entries = begins_then c.args.arena.now.items c.loop-name.arena.items c.add_column.new.arena.items c.loop-name.invariant.entries c.add_column.ensures.entries;
      kept = kept-then c.args.arena.now.items c.loop-name.arena.items c.add_column.new.arena.items c.loop-name.invariant.kept c.add_column.ensures.kept;
      trees = columns_step c.loop-name.arena.items c.add_column.new.arena.items c.add_column.ensures.kept c.loop-name.columns.items c.push.new.self.items c.args.names.now c.loop-name.name-index c.in_ok-add_column.field-0 c.name-item.result
          c.loop-name-test.true c.name-item.is c.in_ok-push.ensures.items c.in_ok-add_column.ensures.tree c.loop-name.invariant.trees;
    }

pub returns-in_err-add_column-clause-kept : goal.returns-in_err-add_column-clause-kept
returns-in_err-add_column-clause-kept c = kept-then c.args.arena.now.items c.loop-name.arena.items c.add_column.new.arena.items c.loop-name.invariant.kept c.add_column.ensures.kept

pub returns-in_err-add_column-clause-entries : goal.returns-in_err-add_column-clause-entries
returns-in_err-add_column-clause-entries c = begins_then c.args.arena.now.items c.loop-name.arena.items c.add_column.new.arena.items c.loop-name.invariant.entries c.add_column.ensures.entries
