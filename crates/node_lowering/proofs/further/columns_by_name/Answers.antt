use Rattle.std.proofs.Common.{arith}
use Rattle.ps_frame.specs.Trees.{tree_at}
use Rattle.ps_meaning.specs.Schemas.{names_of}
use Rattle.ps_rules.specs.Slots.{under}
use Rattle.plan_rules.specs.Nodes.{expr_or_column}
use Rattle.lowering_parts.specs.Gathered.{trees_at}
use Rattle.lowering_parts.proofs.Going.{begins_then}
use Rattle.lowering_parts.proofs.Grown.{kept-then}
use Rattle.node_lowering.proofs.FurtherLemmas.{columns_end, columns_step}
use Rattle.node_lowering.proofs.further.columns_by_name.Goals as goal

pub loop-i-preserved : goal.loop-i-preserved
loop-i-preserved c =
    record {
      entries = begins_then c.args.arena.now.items c.loop-i.arena.items c.expr_or_column.new.arena.items c.loop-i.invariant.entries c.expr_or_column.ensures.entries;
      kept = kept-then c.args.arena.now.items c.loop-i.arena.items c.expr_or_column.new.arena.items c.loop-i.invariant.kept c.expr_or_column.ensures.kept;
      named = λ later k.
          columns_step (expr_or_column (under (names_of c.args.given.now) (trees_at (tree_at later) c.args.answers.now))) (tree_at later) c.args.schema.now c.loop-i.i c.name.result.now c.loop-i.columns.items c.push.new.self.items c.in_ok-column.column
          c.name.ensures c.in_ok-column.ensures.name (c.in_ok-column.ensures.tree later k) c.in_ok-push.ensures.items (c.loop-i.invariant.named later (kept-then c.loop-i.arena.items c.expr_or_column.new.arena.items later c.expr_or_column.ensures.kept k));
    }

pub returns-clause-named : goal.returns-clause-named
returns-clause-named c =
    λ later k.
    columns_end (expr_or_column (under (names_of c.args.given.now) (trees_at (tree_at later) c.args.answers.now))) (tree_at later) c.args.schema.now c.loop-i.i c.loop-i.columns.items (let past = c.loop-i-test.false in let count = c.len-i-end.ensures in omega arith) (c.loop-i.invariant.named later k)

pub returns-in_err-column-clause-kept : goal.returns-in_err-column-clause-kept
returns-in_err-column-clause-kept c = kept-then c.args.arena.now.items c.loop-i.arena.items c.expr_or_column.new.arena.items c.loop-i.invariant.kept c.expr_or_column.ensures.kept

pub returns-in_err-column-clause-entries : goal.returns-in_err-column-clause-entries
returns-in_err-column-clause-entries c = begins_then c.args.arena.now.items c.loop-i.arena.items c.expr_or_column.new.arena.items c.loop-i.invariant.entries c.expr_or_column.ensures.entries
