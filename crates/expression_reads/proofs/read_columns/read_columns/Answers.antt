use Rattle.std.proofs.Common.{◌≡◌, List, [], sym, subst, arith}
use Rattle.ps_expr_eval.proofs.Taking.{last-complete, last-size, shrinks}
use Rattle.ps_frame.specs.Tables.{Fields}
use Rattle.ps_frame.specs.Trees.{tree_at, tree_size, trees_of, trees_size}
use Rattle.pu_base.specs.declared.arena.Node.{Node}
use Rattle.expression_reads.specs.Reads.{HasNamesRead, HasOnlyRead}
use Rattle.expression_reads.specs.Walks.{Walks}
use Rattle.expression_reads.proofs.Found.{found-columns, found-frame}
use Rattle.expression_reads.proofs.Walking.{finds, no-items}
use Rattle.expression_reads.proofs.read_columns.read_columns.Goals as goal

pub look_at-requires-clause-expression : goal.look_at-requires-clause-expression
look_at-requires-clause-expression c = (last-complete (tree_at c.args.arena.now.items) c.loop-next.left.items c.pop.new.self.items c.in-Some.next c.in-Some.ensures.items c.loop-next.invariant.complete).1

pub look_at-requires-clause-complete : goal.look_at-requires-clause-complete
look_at-requires-clause-complete c = (last-complete (tree_at c.args.arena.now.items) c.loop-next.left.items c.pop.new.self.items c.in-Some.next c.in-Some.ensures.items c.loop-next.invariant.complete).0

pub loop-next-smaller : goal.loop-next-smaller
loop-next-smaller c =
    let tree = tree_at c.args.arena.now.items in
    shrinks (trees_size (trees_of tree c.look_at.new.left.items)) (trees_size (trees_of tree c.pop.new.self.items)) (trees_size (trees_of tree c.loop-next.left.items)) (tree_size (tree c.in-Some.next)) c.in_ok-look_at.ensures.smaller
    (last-size tree c.loop-next.left.items c.pop.new.self.items c.in-Some.next c.in-Some.ensures.items)

pub new_with_height-requires : goal.new_with_height-requires
new_with_height-requires c = found-frame c.args.df.now c.loop-next.found.fields c.loop-next.found.columns.items c.height.result c.height.ensures.rows c.height.ensures.counted c.loop-next.invariant.found

pub returns-clause-read : goal.returns-clause-read
returns-clause-read c =
    let all = c.args.df.now.schema in
    let fields = c.loop-next.found.fields in
    let w = c.loop-next.invariant.walks in
    let done : c.loop-next.left.items ≡ [] = no-items c.loop-next.left.items (omega (arith, c.in_default.ensures.cases.0)) in
    let walked : Walks c.args.arena.now.items all c.args.expr c.loop-next.seen [] fields = subst (λ (ns : List Node). Walks c.args.arena.now.items all c.args.expr c.loop-next.seen ns fields) done w in
    record {
      columns = found-columns c.args.df.now c.new_with_height.result fields c.loop-next.found.columns.items c.height.result c.height.ensures.rows c.loop-next.invariant.found c.new_with_height.ensures.schema c.new_with_height.ensures.rows;
      names = subst (λ (s : Fields). HasNamesRead all s (tree_at c.args.arena.now.items c.args.expr)) (sym c.new_with_height.ensures.schema) (finds c.args.arena.now.items all c.args.expr c.loop-next.seen fields walked);
    }

pub returns-clause-only : goal.returns-clause-only
returns-clause-only c = subst (λ (s : Fields). HasOnlyRead s (tree_at c.args.arena.now.items c.args.expr)) (sym c.new_with_height.ensures.schema) c.loop-next.invariant.walks.only
