use Rattle.std.proofs.Common.{◌-◌, length, refl}
use Rattle.ps_frame.specs.Trees.{tree_at}
use Rattle.ps_meaning.specs.Sound.{HasOneReaderEach, IsSound}
use Rattle.ps_phys.specs.Shown.{shown}
use Rattle.ps_plan.specs.Lowering.{IsLoweringOf}
use Rattle.ps_plan.specs.Refusals.{IsValid}
use Rattle.ps_survey.specs.Flaws.{plan_of}
use Rattle.physical_plans.specs.PhysicalPlans.{IsPhysicalPlan}
use Rattle.within_arenas.specs.Lowering.{IsLoweringOrLarge}
use Rattle.scanned_tables.proofs.Scans.{plan_holds}
use Rattle.kept_planning.proofs.Weaker.{both}
use Rattle.kept_planning.proofs.plans.plan_query.Goals as goal

pub returns-clause-readers : goal.returns-clause-readers
returns-clause-readers g c =
    let F = g.F.Functions.told c.args.functions.now in
    let plan = plan_of c.args.node c.args.ir_arena.items c.args.expr_arena.now.items in
    let f = tree_at c.plan_query.new.expr_arena.items in
    both c.plan_query.result (IsValid F plan) (λ r. IsPhysicalPlan F plan (shown f r.0.slots r.1.0)) (λ r. HasOneReaderEach (shown f r.0.slots r.1.0))
    (λ r valid p. c.physical_plans_are_sound.ensures.readers F plan (shown f r.0.slots r.1.0) valid p) c.plan_query.ensures.valid c.plan_query.ensures.plan

pub returns-clause-sound : goal.returns-clause-sound
returns-clause-sound g c =
    let F = g.F.Functions.told c.args.functions.now in
    let plan = plan_of c.args.node c.args.ir_arena.items c.args.expr_arena.now.items in
    let holds = plan_holds plan c.args.ir_arena.items refl c.tables_fit.ensures in
    let f = tree_at c.plan_query.new.expr_arena.items in
    both c.plan_query.result (IsValid F plan) (λ r. IsPhysicalPlan F plan (shown f r.0.slots r.1.0)) (λ r. IsSound F (shown f r.0.slots r.1.0))
    (λ r valid p. c.physical_plans_are_sound.ensures.sound F plan (shown f r.0.slots r.1.0) valid holds p) c.plan_query.ensures.valid c.plan_query.ensures.plan

pub returns-clause-means : goal.returns-clause-means
returns-clause-means g c =
    let laws = g.met.F.Functions g.world.𝓛 g.world.𝓜 g.world.𝓡 ((λ s x. x), (λ x. x), (λ x. x), λ x. x) in
    let F = g.F.Functions.told c.args.functions.now in
    let plan = plan_of c.args.node c.args.ir_arena.items c.args.expr_arena.now.items in
    let holds = plan_holds plan c.args.ir_arena.items refl c.tables_fit.ensures in
    let f = tree_at c.plan_query.new.expr_arena.items in
    both c.plan_query.result (IsValid F plan) (λ r. IsPhysicalPlan F plan (shown f r.0.slots r.1.0)) (λ r. IsLoweringOrLarge F plan (shown f r.0.slots r.1.0) (length (shown f r.0.slots r.1.0) - 1))
    (λ r valid p. c.valid_plans_stay_within.ensures F plan (shown f r.0.slots r.1.0) (laws.lawful c.args.functions.now) valid holds p) c.plan_query.ensures.valid c.plan_query.ensures.plan

pub returns-clause-lowering : goal.returns-clause-lowering
returns-clause-lowering g c kept =
    let laws = g.met.F.Functions g.world.𝓛 g.world.𝓜 g.world.𝓡 ((λ s x. x), (λ x. x), (λ x. x), λ x. x) in
    let F = g.F.Functions.told c.args.functions.now in
    let plan = plan_of c.args.node c.args.ir_arena.items c.args.expr_arena.now.items in
    let holds = plan_holds plan c.args.ir_arena.items refl c.tables_fit.ensures in
    let f = tree_at c.plan_query.new.expr_arena.items in
    both c.plan_query.result (IsValid F plan) (λ r. IsPhysicalPlan F plan (shown f r.0.slots r.1.0)) (λ r. IsLoweringOf F plan (shown f r.0.slots r.1.0) (length (shown f r.0.slots r.1.0) - 1))
    (λ r valid p. c.physical_plans_are_lowerings.ensures.kept F plan (shown f r.0.slots r.1.0) (laws.lawful c.args.functions.now) valid holds kept p) c.plan_query.ensures.valid c.plan_query.ensures.plan
