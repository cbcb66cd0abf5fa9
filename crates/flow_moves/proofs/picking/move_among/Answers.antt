-- One node more, and in the end all.
use Rattle.std.proofs.Common.{rules, ◌≡◌, None, arith, inl, inr, subst, sym}
use Rattle.std.proofs.lemmas.Bool.{cases_eq}
use Rattle.flow_moves.proofs.picking.move_among.Goals as goal
use Rattle.flow_moves.specs.Moves.{HasNoMove, IsMoveOf}

pub loop-node-init : goal.loop-node-init
loop-node-init g c = λ F w n stands may open_phase runs low high. absurd (omega (arith, low, high))

pub loop-node-preserved : goal.loop-node-preserved
loop-node-preserved g c =
    let none : c.move_of.result ≡ None = search rules in
    λ F w n stands may open_phase runs low high. elim (cases_eq n c.loop-node.node) [
      | inl here ↦ subst (HasNoMove F w) (sym here) (subst (IsMoveOf F w c.loop-node.node) none (c.move_of.ensures F w stands may open_phase runs))
      | inr other ↦ c.loop-node.invariant F w n stands may open_phase runs low (omega (arith, high, other))
    ]

pub returns-in-Some-clause-some : goal.returns-in-Some-clause-some
returns-in-Some-clause-some g c = λ F w stands may open_phase runs. subst (IsMoveOf F w c.loop-node.node) c.in-Some.is (c.move_of.ensures F w stands may open_phase runs)

pub returns-clause-none : goal.returns-clause-none
returns-clause-none g c = λ F w n stands may open_phase runs low high.
    let over = c.loop-node-test.false in
    c.loop-node.invariant F w n stands may open_phase runs low (omega (arith, high, over))
