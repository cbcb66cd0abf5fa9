use Rattle.std.proofs.Common.{◌∷◌, ◌<◌, subst, sym}
use Rattle.std.specs.Prelude.{OnOk, reverse}
use Rattle.ps_expr_eval.specs.Walks.{Proceeds, steps_left}
use Rattle.ps_expr_eval.specs.declared.evaluate.Work.{Work}
use Rattle.ps_frame.specs.Trees.{tree_at}
use Rattle.ps_expr_eval.proofs.Walking.{less-one, waiting-below, whatever}
use Rattle.ps_expr_eval.proofs.evaluate.step.Goals as goal

pub visit-requires : goal.visit-requires
visit-requires c = (subst (λ (w : Work). Proceeds c.args.df.now c.args.arena.now.items c.requires.0 (w ∷ reverse c.args.left.now.items) c.args.columns.now.items c.args.shared.now) c.in-Visit.is c.requires.1).typed.0

pub compute-requires-clause-typed : goal.compute-requires-clause-typed
compute-requires-clause-typed c = (subst (λ (w : Work). Proceeds c.args.df.now c.args.arena.now.items c.requires.0 (w ∷ reverse c.args.left.now.items) c.args.columns.now.items c.args.shared.now) c.in-Compute.is c.requires.1).typed.0

pub compute-requires-clause-waiting : goal.compute-requires-clause-waiting
compute-requires-clause-waiting c =
    waiting-below c.args.df.now c.args.arena.now.items c.requires.0 c.in-Compute.node (reverse c.args.left.now.items) c.args.columns.now.items c.args.shared.now
    (subst (λ (w : Work). Proceeds c.args.df.now c.args.arena.now.items c.requires.0 (w ∷ reverse c.args.left.now.items) c.args.columns.now.items c.args.shared.now) c.in-Compute.is c.requires.1)

pub returns-in-Visit-clause-proceeds : goal.returns-in-Visit-clause-proceeds
returns-in-Visit-clause-proceeds c = λ one h. c.visit.ensures.proceeds one (subst (λ (w : Work). Proceeds c.args.df.now c.args.arena.now.items one (w ∷ reverse c.args.left.now.items) c.args.columns.now.items c.args.shared.now) c.in-Visit.is h)

pub returns-in-Visit-clause-smaller : goal.returns-in-Visit-clause-smaller
returns-in-Visit-clause-smaller c =
    let tree = tree_at c.args.arena.now.items in
    subst (λ (w : Work). OnOk c.visit.result (steps_left tree (reverse c.visit.new.left.items) < steps_left tree (w ∷ reverse c.args.left.now.items))) (sym c.in-Visit.is) c.visit.ensures.smaller

pub returns-in-Compute-clause-proceeds : goal.returns-in-Compute-clause-proceeds
returns-in-Compute-clause-proceeds c = λ one h. c.compute.ensures one (reverse c.args.left.now.items) (subst (λ (w : Work). Proceeds c.args.df.now c.args.arena.now.items one (w ∷ reverse c.args.left.now.items) c.args.columns.now.items c.args.shared.now) c.in-Compute.is h)

pub returns-in-Compute-clause-smaller : goal.returns-in-Compute-clause-smaller
returns-in-Compute-clause-smaller c =
    let tree = tree_at c.args.arena.now.items in
    whatever c.compute.result (steps_left tree (reverse c.args.left.now.items) < steps_left tree (c.args.next ∷ reverse c.args.left.now.items)) (less-one tree c.args.next c.in-Compute.node (reverse c.args.left.now.items) c.in-Compute.is)
