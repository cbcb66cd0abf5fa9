use Rattle.std.proofs.Common.{List, ◌<◌, subst, sym}
use Rattle.std.specs.Prelude.{reverse}
use Rattle.ps_expr_eval.specs.Walks.{Proceeds, steps_left}
use Rattle.ps_expr_eval.specs.declared.evaluate.Work.{Work}
use Rattle.ps_frame.specs.Trees.{tree_at}
use Rattle.ps_expr_eval.proofs.Walking.{first, next-first, typed-complete}
use Rattle.ps_expr_eval.proofs.evaluate.parts_of.Goals as goal

pub new-requires : goal.new-requires
new-requires c = typed-complete c.args.df.now.schema (tree_at c.args.arena.now.items) c.args.exprs.now c.requires

pub loop-next-init : goal.loop-next-init
loop-next-init c =
    first c.args.df.now c.args.arena.now.items c.args.exprs.now c.in_ok-from_slice.field-0.items c.new-left.result.items c.push_visits.new.left.items c.new-columns.result.items c.in_ok-shared.shared
    c.in_ok-push_visits.ensures c.new-left.ensures.items c.in_ok-from_slice.ensures.items c.new-columns.ensures.items c.requires (c.in_ok-shared.ensures c.args.df.now)

pub step-requires : goal.step-requires
step-requires c = (c.args.exprs.now, subst (λ (ws : List Work). Proceeds c.args.df.now c.args.arena.now.items c.args.exprs.now ws c.loop-next.columns.items c.loop-next.shared) (next-first c.loop-next.left.items c.pop.new.self.items c.in-Some.next c.in-Some.ensures.items) c.loop-next.invariant)

pub loop-next-preserved : goal.loop-next-preserved
loop-next-preserved c = c.in_ok-step.ensures.proceeds c.args.exprs.now (subst (λ (ws : List Work). Proceeds c.args.df.now c.args.arena.now.items c.args.exprs.now ws c.loop-next.columns.items c.loop-next.shared) (next-first c.loop-next.left.items c.pop.new.self.items c.in-Some.next c.in-Some.ensures.items) c.loop-next.invariant)

pub loop-next-smaller : goal.loop-next-smaller
loop-next-smaller c =
    let tree = tree_at c.args.arena.now.items in
    subst (λ (ws : List Work). steps_left tree (reverse c.step.new.left.items) < steps_left tree ws) (sym (next-first c.loop-next.left.items c.pop.new.self.items c.in-Some.next c.in-Some.ensures.items)) c.in_ok-step.ensures.smaller
