use Rattle.std.proofs.Common.{◌-◌, length}
use Rattle.ps_meaning.specs.Sound.{HasOneReaderEach, IsSound}
use Rattle.ps_phys.specs.Shown.{shown}
use Rattle.ps_plan.specs.Lowering.{IsLoweringOf}
use Rattle.valid_plans.specs.Valid.{plan_with}
use Rattle.within_arenas.specs.Lowering.{IsLoweringOrLarge}
use Rattle.physical_plans.specs.PhysicalPlans.{IsPhysicalPlan}
use Rattle.scanned_tables.proofs.Scans.{plan_holds}
use Rattle.kept_planning.proofs.Weaker.{later}
use Rattle.kept_planning.proofs.plans.build_physical_plan.Goals as goal

pub returns-clause-readers : goal.returns-clause-readers
returns-clause-readers g c =
    let F = g.F.Functions.told c.args.functions.now in
    let plan = plan_with c.args.valid.now c.args.expr_arena.now.items in
    later c.build_physical_plan.result c.build_physical_plan.new.expr_arena.items (λ r f. IsPhysicalPlan F plan (shown f r.0.slots r.1.0)) (λ r f. HasOneReaderEach (shown f r.0.slots r.1.0))
    (λ r f p. c.physical_plans_are_sound.ensures.readers F plan (shown f r.0.slots r.1.0) c.requires.valid p) c.build_physical_plan.ensures.plan

pub returns-clause-sound : goal.returns-clause-sound
returns-clause-sound g c =
    let F = g.F.Functions.told c.args.functions.now in
    let plan = plan_with c.args.valid.now c.args.expr_arena.now.items in
    let holds = plan_holds plan c.ir.result.now.items c.ir.ensures c.tables_fit.ensures in
    later c.build_physical_plan.result c.build_physical_plan.new.expr_arena.items (λ r f. IsPhysicalPlan F plan (shown f r.0.slots r.1.0)) (λ r f. IsSound F (shown f r.0.slots r.1.0))
    (λ r f p. c.physical_plans_are_sound.ensures.sound F plan (shown f r.0.slots r.1.0) c.requires.valid holds p) c.build_physical_plan.ensures.plan

pub returns-clause-means : goal.returns-clause-means
returns-clause-means g c =
    let laws = g.met.F.Functions g.world.𝓛 g.world.𝓜 g.world.𝓡 ((λ s x. x), (λ x. x), (λ x. x), λ x. x) in
    let F = g.F.Functions.told c.args.functions.now in
    let plan = plan_with c.args.valid.now c.args.expr_arena.now.items in
    let holds = plan_holds plan c.ir.result.now.items c.ir.ensures c.tables_fit.ensures in
    later c.build_physical_plan.result c.build_physical_plan.new.expr_arena.items (λ r f. IsPhysicalPlan F plan (shown f r.0.slots r.1.0)) (λ r f. IsLoweringOrLarge F plan (shown f r.0.slots r.1.0) (length (shown f r.0.slots r.1.0) - 1))
    (λ r f p. c.valid_plans_stay_within.ensures F plan (shown f r.0.slots r.1.0) (laws.lawful c.args.functions.now) c.requires.valid holds p) c.build_physical_plan.ensures.plan

pub returns-clause-lowering : goal.returns-clause-lowering
returns-clause-lowering g c kept =
    let laws = g.met.F.Functions g.world.𝓛 g.world.𝓜 g.world.𝓡 ((λ s x. x), (λ x. x), (λ x. x), λ x. x) in
    let F = g.F.Functions.told c.args.functions.now in
    let plan = plan_with c.args.valid.now c.args.expr_arena.now.items in
    let holds = plan_holds plan c.ir.result.now.items c.ir.ensures c.tables_fit.ensures in
    later c.build_physical_plan.result c.build_physical_plan.new.expr_arena.items (λ r f. IsPhysicalPlan F plan (shown f r.0.slots r.1.0)) (λ r f. IsLoweringOf F plan (shown f r.0.slots r.1.0) (length (shown f r.0.slots r.1.0) - 1))
    (λ r f p. c.physical_plans_are_lowerings.ensures.kept F plan (shown f r.0.slots r.1.0) (laws.lawful c.args.functions.now) c.requires.valid holds kept p) c.build_physical_plan.ensures.plan
