use Rattle.std.proofs.Common.{List, ap, ◌∙◌, subst, sym}
use Rattle.std.specs.Prelude.{reverse, IfSome, Option}
use Rattle.pu_base.specs.declared.arena.Node.{Node}
use Rattle.ps_expr_eval.specs.Evaluations.{AreTyped, Evaluates, operands_in, operands_of}
use Rattle.ps_expr_eval.specs.Walks.{Proceeds, operands_at}
use Rattle.ps_expr_eval.specs.declared.computed.ComputedColumn.{ComputedColumn}
use Rattle.ps_expr_eval.specs.declared.evaluate.Work.{Work}
use Rattle.ps_frame.specs.Trees.{tree_at, tree_size}
use Rattle.ps_expr_eval.proofs.Walking.{fewer-steps, found, put-down, visited}
use Rattle.ps_expr_eval.proofs.evaluate.visit.Goals as goal

pub returns-in_ok-push-in-Some-clause-proceeds : goal.returns-in_ok-push-in-Some-clause-proceeds
returns-in_ok-push-in-Some-clause-proceeds c = λ one h.
    let t = c.args.df.now in
    let a = c.args.arena.now.items in
    let column = subst (λ (x : Option ComputedColumn). IfSome x (Evaluates t (tree_at a c.args.expr))) c.in-Some.is (c.in_ok-kept.ensures.found t a h.remembered) in
    subst (λ (ps : List ComputedColumn). Proceeds t a one (reverse c.args.left.now.items) ps c.take.new.self) (sym c.in_ok-push-in-Some.ensures.items)
    (found t a one c.args.expr (reverse c.args.left.now.items) c.args.columns.now.items c.in-Some.column c.args.shared.now c.take.new.self column (c.in_ok-kept.ensures.kept t a h.remembered) h)

pub returns-in_ok-push_visits-in-None-clause-proceeds : goal.returns-in_ok-push_visits-in-None-clause-proceeds
returns-in_ok-push_visits-in-None-clause-proceeds c = λ one h.
    let t = c.args.df.now in
    let a = c.args.arena.now.items in
    let at = ap operands_in c.typed_entry-entry.ensures.entry in
    let down = put-down (operands_at a c.args.expr) c.in_ok-nodes-in-None.nodes.items c.args.expr c.args.left.now.items c.push-in-None.new.self.items c.push_visits.new.left.items c.in_ok-push_visits-in-None.ensures (c.in_ok-nodes-in-None.ensures ∙ sym at) c.in_ok-push-in-None.ensures.items in
    subst (λ (ws : List Work). Proceeds t a one ws c.args.columns.now.items c.take.new.self) (sym down)
    (visited t a one c.args.expr (reverse c.args.left.now.items) c.args.columns.now.items c.args.shared.now c.take.new.self (subst (λ (ns : List Node). AreTyped t.schema (tree_at a) ns) (sym at) c.typed_entry-entry.ensures.typed) (c.in_ok-kept.ensures.kept t a h.remembered) h)

pub returns-in_ok-push_visits-in-None-clause-smaller : goal.returns-in_ok-push_visits-in-None-clause-smaller
returns-in_ok-push_visits-in-None-clause-smaller c =
    let a = c.args.arena.now.items in
    let e = c.typed_entry-entry.result.now in
    let down = put-down (operands_of e) c.in_ok-nodes-in-None.nodes.items c.args.expr c.args.left.now.items c.push-in-None.new.self.items c.push_visits.new.left.items c.in_ok-push_visits-in-None.ensures c.in_ok-nodes-in-None.ensures c.in_ok-push-in-None.ensures.items in
    fewer-steps (tree_at a) (operands_of e) c.args.expr (reverse c.args.left.now.items) (reverse c.push_visits.new.left.items) (tree_size (tree_at a c.args.expr)) down c.typed_entry-entry.ensures.size
