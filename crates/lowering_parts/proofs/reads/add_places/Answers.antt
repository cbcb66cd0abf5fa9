use Rattle.std.proofs.Common.{◌++◌, ◌∷◌, [], ap, arith, sym, subst, ◌∙◌, List}
use Rattle.std.specs.Prelude.{◌||◌}
use Rattle.pu_base.specs.declared.arena.Node.{Node}
use Rattle.ps_frame.specs.Parts.{reads_column}
use Rattle.ps_frame.specs.Trees.{AreComplete, tree_at, trees_of}
use Rattle.lowering_parts.proofs.ReadLemmas.{left_complete, left_smaller, next_complete, walk_ends, walk_on, walk_starts}
use Rattle.lowering_parts.proofs.reads.add_places.Goals as goal

pub loop-next-init : goal.loop-next-init
loop-next-init c =
    let f = tree_at c.args.arena.now.items in
    let is = c.in_ok-push.ensures.items ∙ ap (λ (ns : List Node). ns ++ c.args.expr ∷ []) c.new-left.ensures.items in
    record {
      complete = subst (λ (ns : List Node). AreComplete (trees_of f ns)) (sym is) (c.requires, tt);
      found = λ test h. walk_starts c.args.schema.now test f c.args.expr c.push.new.self.items c.args.places.now is h;
    }

pub entry_of-entry-requires : goal.entry_of-entry-requires
entry_of-entry-requires c = (next_complete (tree_at c.args.arena.now.items) c.loop-next.left.items c.pop.new.self.items c.in-Some.next c.in-Some.ensures.items c.loop-next.invariant.complete).1

pub loop-next-preserved : goal.loop-next-preserved
loop-next-preserved c =
    let f = tree_at c.args.arena.now.items in
    let all = c.loop-next.left.items in
    let left = c.pop.new.self.items in
    let after = c.push_operands.new.waiting.items in
    let e = c.entry_of-entry.result.now in
    record {
      complete = left_complete f all left after c.in-Some.next e c.in-Some.ensures.items c.in_ok-push_operands.ensures.all c.loop-next.invariant.complete c.entry_of-entry.ensures.complete;
      found = λ test h. walk_on f all left after c.in-Some.next e c.in-Some.ensures.items c.args.schema.now (λ n. test n || reads_column n (f c.args.expr)) c.loop-next.places c.add_own.new.places c.in_ok-push_operands.ensures.all c.entry_of-entry.ensures.reads
          c.in_ok-add_own.ensures.added (c.loop-next.invariant.found test h);
    }

pub loop-next-smaller : goal.loop-next-smaller
loop-next-smaller c =
    left_smaller (tree_at c.args.arena.now.items) c.loop-next.left.items c.pop.new.self.items c.push_operands.new.waiting.items c.in-Some.next c.entry_of-entry.result.now c.in-Some.ensures.items c.in_ok-push_operands.ensures.all
    c.entry_of-entry.ensures.size

pub returns-clause-added : goal.returns-clause-added
returns-clause-added c test h =
    let f = tree_at c.args.arena.now.items in
    walk_ends c.args.schema.now (λ n. test n || reads_column n (f c.args.expr)) f c.loop-next.left.items c.loop-next.places (omega (arith, c.in_default.ensures.cases.0)) (c.loop-next.invariant.found test h)
