use Rattle.kept_plans.proofs.Answered.{few_made, left_again, node_kept, steps_stay}
use Rattle.scanned_tables.proofs.Scans.{plan_holds}
use Rattle.valid_plans.specs.Valid.{plan_with}
use Rattle.kept_plans.proofs.plans.lower_ir.Goals as goal

pub returns-clause-keeps : goal.returns-clause-keeps
returns-clause-keeps g c =
    let laws = g.met.F.Functions g.world.𝓛 g.world.𝓜 g.world.𝓡 ((λ s x. x), (λ x. x), (λ x. x), λ x. x) in
    let F = g.F.Functions.told c.args.functions.now in
    let plan = plan_with c.args.valid.now c.args.expr_arena.now.items in
    let holds = plan_holds plan c.ir.result.now.items c.ir.ensures c.tables_fit.ensures in
    node_kept F c.args.valid.now c.args.expr_arena.now.items c.lower_ir.new.expr_arena.items c.args.node.0 c.args.low.now c.lower_ir.new.low c.args.cache_nodes.now c.lower_ir.new.cache_nodes c.in_ok-stream.stream c.in_ok-stream.ensures.lowers c.counter-counter.ensures.fits
    (λ p come small. c.calls_keep_nodes.ensures F plan c.args.node.0 p (laws.lawful c.args.functions.now) c.requires.valid.valid holds (steps_stay F) c.requires.reached come small)

pub returns-clause-left : goal.returns-clause-left
returns-clause-left g c =
    left_again (g.F.Functions.told c.args.functions.now) c.args.valid.now c.args.expr_arena.now.items c.lower_ir.new.expr_arena.items c.args.node.0 c.args.low.now c.lower_ir.new.low c.args.cache_nodes.now c.lower_ir.new.cache_nodes c.in_ok-stream.stream c.in_ok-stream.ensures.lowers
    c.counter-counter.ensures.fits c.requires.valid c.requires.reached

pub returns-clause-inserts : goal.returns-clause-inserts
returns-clause-inserts g c =
    few_made (g.F.Functions.told c.args.functions.now) c.args.valid.now c.args.expr_arena.now.items c.lower_ir.new.expr_arena.items c.args.node.0 c.args.low.now c.lower_ir.new.low c.args.cache_nodes.now c.lower_ir.new.cache_nodes c.in_ok-stream.stream c.in_ok-stream.ensures.lowers
