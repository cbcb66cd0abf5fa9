use Rattle.std.proofs.Common.{◌≡◌, ℕ, length, subst, arith}
use Rattle.ps_frame.specs.Trees.{tree_at}
use Rattle.ps_phys.specs.Underway.{numbers_in}
use Rattle.plan_graphs.specs.Underway.{IsUnderway}
use Rattle.graph_parts.specs.Orders.{ordered}
use Rattle.plan_graphs.proofs.graphs.add_all.Goals as goal

pub returns-clause-all : goal.returns-clause-all
returns-clause-all c =
    let f = tree_at c.args.expr_arena.now.items in
    let past = c.loop-place-test.false in
    let last : c.loop-place.place ≡ length c.args.order.now = omega (arith, past) in
    subst (λ (k : ℕ). IsUnderway (ordered f c.args.phys.now.slots c.args.order.now) (numbers_in c.args.order.now) k c.loop-place.graph c.loop-place.keys.slots) last c.loop-place.invariant
