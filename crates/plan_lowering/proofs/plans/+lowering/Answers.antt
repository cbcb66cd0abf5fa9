use Rattle.std.proofs.Common.{List, ◌+◌, ◌<◌, ◌≡◌, ◌∙◌, ap, arith, get_or, refl, rules, subst, sym}
use Rattle.pu_base.specs.declared.arena.Node.{Node}
use Rattle.ps_meaning.specs.PlanTrees.{plan_size, plans_size}
use Rattle.ps_plan.specs.Entries.{entry_inputs}
use Rattle.ps_plan.specs.Graph.{Reached}
use Rattle.ps_plan.specs.Plans.{plan_at, plan_trees_of}
use Rattle.valid_plans.specs.Valid.{plan_with}
use Rattle.plan_rules.specs.Plans.{lower_plans}
use Rattle.lowering_parts.proofs.Going.{goes_nowhere, goes_then}
use Rattle.plan_lowering.specs.Lowered.{LowerAs}
use Rattle.plan_lowering.proofs.Arenas.{is_fit, item_of, item_smaller, step_later, tree_later, valid_later}
use Rattle.plan_lowering.proofs.Caches.{cache_kept, cache_lowers, cache_made}
use Rattle.plan_lowering.proofs.Entries.{all_smaller, below_reached, cache_tree_is, input_reached, input_smaller, is_known, lent_plan, own_schema, stands, tree_is}
use Rattle.plan_lowering.proofs.Nodes.{node_lowers}
use Rattle.plan_lowering.proofs.Several.{all_lowered, next_lowered, none_lowered}
use Rattle.plan_lowering.proofs.plans.+lowering.Goals as goal

pub lower_ir-entry-ir-requires : goal.lower_ir-entry-ir-requires
lower_ir-entry-ir-requires g t c =
    lent_plan (g.F.Functions.told c.args.functions.now) c.args.valid.now c.args.expr_arena.now.items c.requires.valid c.args.node c.requires.reached c.ir.result.now.items c.ir.ensures

pub lower_ir-lower_cache-requires : goal.lower_ir-lower_cache-requires
lower_ir-lower_cache-requires g t c κs within =
    let less : plan_size (plan_at c.args.valid.now.nodes c.args.expr_arena.now.items c.in-Some.input) + 1 < plan_size (plan_at c.args.valid.now.nodes c.args.expr_arena.now.items c.args.node) = input_smaller (g.F.Functions.told c.args.functions.now) c.args.valid.now c.args.expr_arena.now.items c.requires.valid c.args.node c.requires.reached c.ir.result.now.items c.ir.ensures c.entry-ir.result.now c.entry-ir.ensures.entry c.entry-ir.ensures.tree c.in-Some.input c.in-Some.id (sym c.cache_of.ensures ∙ c.in-Some.is) in
    let falls : plan_size (plan_at c.args.valid.now.nodes c.args.expr_arena.now.items c.in-Some.input) + 1 < t = omega arith in
    (falls, (within, (search rules, (c.requires.valid, (input_reached (g.F.Functions.told c.args.functions.now) c.args.valid.now c.args.expr_arena.now.items c.requires.valid c.args.node c.requires.reached c.ir.result.now.items c.ir.ensures c.entry-ir.result.now c.entry-ir.ensures.entry c.in-Some.input c.in-Some.id (sym c.cache_of.ensures ∙ c.in-Some.is), c.requires.cache)))))

pub lower_ir-returns-in-Some-clause-lowers : goal.lower_ir-returns-in-Some-clause-lowers
lower_ir-returns-in-Some-clause-lowers g t c =
    cache_lowers (g.F.Functions.told c.args.functions.now) c.args.node.0 c.in-Some.id (plan_at c.args.valid.now.nodes c.args.expr_arena.now.items c.args.node) (plan_at c.args.valid.now.nodes c.args.expr_arena.now.items c.in-Some.input) c.lower_cache.result c.args.expr_arena.now.items c.lower_cache.new.expr_arena.items c.args.low.now c.lower_cache.new.low c.args.cache_nodes.now c.lower_cache.new.cache_nodes (cache_tree_is (g.F.Functions.told c.args.functions.now) c.args.valid.now c.args.expr_arena.now.items c.requires.valid c.args.node c.requires.reached c.ir.result.now.items c.ir.ensures c.entry-ir.result.now c.entry-ir.ensures.entry c.entry-ir.ensures.tree c.in-Some.input c.in-Some.id (sym c.cache_of.ensures ∙ c.in-Some.is)) c.lower_cache.ensures.lowers

pub lower_ir-lower_all-requires : goal.lower_ir-lower_all-requires
lower_ir-lower_all-requires g t c κs within =
    let less : plans_size (plan_trees_of (plan_at c.args.valid.now.nodes c.args.expr_arena.now.items) c.as_slice.result.now) < plan_size (plan_at c.args.valid.now.nodes c.args.expr_arena.now.items c.args.node) = all_smaller (g.F.Functions.told c.args.functions.now) c.args.valid.now c.args.expr_arena.now.items c.requires.valid c.args.node c.requires.reached c.ir.result.now.items c.ir.ensures c.entry-ir.result.now c.entry-ir.ensures.entry c.entry-ir.ensures.tree c.as_slice.result.now (c.as_slice.ensures.value ∙ c.in_ok-nodes.ensures ∙ c.inputs.ensures) in
    let falls : plans_size (plan_trees_of (plan_at c.args.valid.now.nodes c.args.expr_arena.now.items) c.as_slice.result.now) < t = omega arith in
    (falls, (within, (search rules, (c.requires.valid, (below_reached (g.F.Functions.told c.args.functions.now) c.args.valid.now c.args.expr_arena.now.items c.requires.valid c.args.node c.requires.reached c.ir.result.now.items c.ir.ensures c.entry-ir.result.now c.entry-ir.ensures.entry c.as_slice.result.now (c.as_slice.ensures.value ∙ c.in_ok-nodes.ensures ∙ c.inputs.ensures), c.requires.cache)))))

pub lower_ir-schema-schema-requires : goal.lower_ir-schema-schema-requires
lower_ir-schema-schema-requires g t c =
    is_known (g.F.Functions.told c.args.functions.now) c.args.valid.now c.args.expr_arena.now.items c.requires.valid c.args.node c.requires.reached c.ir.result.now.items c.ir.ensures

pub lower_ir-step_at-requires-clause-whole : goal.lower_ir-step_at-requires-clause-whole
lower_ir-step_at-requires-clause-whole g t c κs within =
    (is_fit (g.F.Functions.told c.args.functions.now) c.args.valid.now c.lower_all.new.expr_arena.items (valid_later (g.F.Functions.told c.args.functions.now) c.args.valid.now c.args.expr_arena.now.items c.lower_all.new.expr_arena.items c.lower_all.ensures.goes_on.entries c.requires.valid) c.args.node c.requires.reached c.entry-ir.result.now (stands (g.F.Functions.told c.args.functions.now) c.args.valid.now c.args.expr_arena.now.items c.requires.valid c.args.node c.requires.reached c.ir.result.now.items c.ir.ensures c.entry-ir.result.now c.entry-ir.ensures.entry)).complete

pub lower_ir-step_at-requires-clause-function : goal.lower_ir-step_at-requires-clause-function
lower_ir-step_at-requires-clause-function g t c κs within =
    (is_fit (g.F.Functions.told c.args.functions.now) c.args.valid.now c.lower_all.new.expr_arena.items (valid_later (g.F.Functions.told c.args.functions.now) c.args.valid.now c.args.expr_arena.now.items c.lower_all.new.expr_arena.items c.lower_all.ensures.goes_on.entries c.requires.valid) c.args.node c.requires.reached c.entry-ir.result.now (stands (g.F.Functions.told c.args.functions.now) c.args.valid.now c.args.expr_arena.now.items c.requires.valid c.args.node c.requires.reached c.ir.result.now.items c.ir.ensures c.entry-ir.result.now c.entry-ir.ensures.entry)).known

pub lower_ir-step_at-requires-clause-built : goal.lower_ir-step_at-requires-clause-built
lower_ir-step_at-requires-clause-built g t c κs within =
    (is_fit (g.F.Functions.told c.args.functions.now) c.args.valid.now c.lower_all.new.expr_arena.items (valid_later (g.F.Functions.told c.args.functions.now) c.args.valid.now c.args.expr_arena.now.items c.lower_all.new.expr_arena.items c.lower_all.ensures.goes_on.entries c.requires.valid) c.args.node c.requires.reached c.entry-ir.result.now (stands (g.F.Functions.told c.args.functions.now) c.args.valid.now c.args.expr_arena.now.items c.requires.valid c.args.node c.requires.reached c.ir.result.now.items c.ir.ensures c.entry-ir.result.now c.entry-ir.ensures.entry)).built

pub lower_ir-step_at-requires-clause-cache : goal.lower_ir-step_at-requires-clause-cache
lower_ir-step_at-requires-clause-cache g t c κs within =
    c.lower_all.ensures.goes_on.cache

pub lower_ir-returns-clause-lowers : goal.lower_ir-returns-clause-lowers
lower_ir-returns-clause-lowers g t c =
    let below : LowerAs (lower_plans (g.F.Functions.told c.args.functions.now) (plan_trees_of (plan_at c.args.valid.now.nodes c.args.expr_arena.now.items) (entry_inputs c.entry-ir.result.now))) c.args.expr_arena.now.items c.lower_all.new.expr_arena.items c.args.low.now c.lower_all.new.low c.args.cache_nodes.now c.lower_all.new.cache_nodes c.in_ok-inputs.inputs.items =
    subst (λ (ns : List Node). LowerAs (lower_plans (g.F.Functions.told c.args.functions.now) (plan_trees_of (plan_at c.args.valid.now.nodes c.args.expr_arena.now.items) ns)) c.args.expr_arena.now.items c.lower_all.new.expr_arena.items c.args.low.now c.lower_all.new.low c.args.cache_nodes.now c.lower_all.new.cache_nodes c.in_ok-inputs.inputs.items) (c.as_slice.ensures.value ∙ c.in_ok-nodes.ensures ∙ c.inputs.ensures) c.in_ok-inputs.ensures.lower in
    node_lowers (g.F.Functions.told c.args.functions.now) c.args.node c.entry-ir.result.now (plan_at c.args.valid.now.nodes c.args.expr_arena.now.items c.args.node) (plan_trees_of (plan_at c.args.valid.now.nodes c.args.expr_arena.now.items) (entry_inputs c.entry-ir.result.now)) c.schema-schema.result.now c.args.expr_arena.now.items c.lower_all.new.expr_arena.items c.step_at.new.arena.items c.args.low.now c.lower_all.new.low c.step_at.new.low c.args.cache_nodes.now c.lower_all.new.cache_nodes c.in_ok-inputs.inputs.items c.in_ok-stream.stream
    (tree_is (g.F.Functions.told c.args.functions.now) c.args.valid.now c.args.expr_arena.now.items c.requires.valid c.args.node c.requires.reached c.ir.result.now.items c.ir.ensures c.entry-ir.result.now c.entry-ir.ensures.entry c.entry-ir.ensures.tree) (sym c.cache_of.ensures ∙ c.in_default.is) (c.schema-schema.ensures ∙ own_schema (g.F.Functions.told c.args.functions.now) c.args.valid.now c.args.expr_arena.now.items c.requires.valid c.args.node c.requires.reached c.ir.result.now.items c.ir.ensures)
    (step_later c.args.expr_arena.now.items c.lower_all.new.expr_arena.items c.lower_all.ensures.goes_on.trees c.entry-ir.result.now (is_fit (g.F.Functions.told c.args.functions.now) c.args.valid.now c.args.expr_arena.now.items c.requires.valid c.args.node c.requires.reached c.entry-ir.result.now (stands (g.F.Functions.told c.args.functions.now) c.args.valid.now c.args.expr_arena.now.items c.requires.valid c.args.node c.requires.reached c.ir.result.now.items c.ir.ensures c.entry-ir.result.now c.entry-ir.ensures.entry)).complete) below c.in_ok-stream.ensures.makes

pub lower_ir-returns-in_err-nodes-clause-goes_on : goal.lower_ir-returns-in_err-nodes-clause-goes_on
lower_ir-returns-in_err-nodes-clause-goes_on g t c =
    goes_nowhere c.args.expr_arena.now.items c.args.low.now c.args.low.now c.requires.cache refl

pub lower_ir-returns-in_err-inputs-clause-goes_on : goal.lower_ir-returns-in_err-inputs-clause-goes_on
lower_ir-returns-in_err-inputs-clause-goes_on g t c =
    c.lower_all.ensures.goes_on

pub lower_ir-returns-in_err-stream-clause-goes_on : goal.lower_ir-returns-in_err-stream-clause-goes_on
lower_ir-returns-in_err-stream-clause-goes_on g t c =
    goes_then c.args.expr_arena.now.items c.lower_all.new.expr_arena.items c.step_at.new.arena.items c.args.low.now c.lower_all.new.low c.step_at.new.low c.lower_all.ensures.goes_on c.step_at.ensures.goes_on

pub lower_ir-returns-clause-goes_on : goal.lower_ir-returns-clause-goes_on
lower_ir-returns-clause-goes_on g t c =
    goes_then c.args.expr_arena.now.items c.lower_all.new.expr_arena.items c.step_at.new.arena.items c.args.low.now c.lower_all.new.low c.step_at.new.low c.lower_all.ensures.goes_on c.step_at.ensures.goes_on

pub lower_ir-returns-in-Some-clause-goes_on : goal.lower_ir-returns-in-Some-clause-goes_on
lower_ir-returns-in-Some-clause-goes_on g t c =
    c.lower_cache.ensures.goes_on

pub lower_all-loop-node-init : goal.lower_all-loop-node-init
lower_all-loop-node-init g t c =
    none_lowered (g.F.Functions.told c.args.functions.now) (plan_at c.args.valid.now.nodes c.args.expr_arena.now.items) c.args.nodes.now c.args.expr_arena.now.items c.args.low.now c.args.cache_nodes.now c.in_ok-streams.streams.items c.in_ok-streams.ensures.items c.requires.cache

pub lower_all-lower_ir-requires : goal.lower_all-lower_ir-requires
lower_all-lower_ir-requires g t c κs within =
    let less : plan_size (plan_at c.args.valid.now.nodes c.args.expr_arena.now.items (get_or c.args.nodes.now c.loop-node.node-index (record { 0 = 0 }))) < plans_size (plan_trees_of (plan_at c.args.valid.now.nodes c.args.expr_arena.now.items) c.args.nodes.now) = item_smaller (plan_at c.args.valid.now.nodes c.args.expr_arena.now.items) c.args.nodes.now c.loop-node.node-index (record { 0 = 0 }) c.loop-node-test.true in
    let same : plan_size (plan_at c.args.valid.now.nodes c.loop-node.expr_arena.items (get_or c.args.nodes.now c.loop-node.node-index (record { 0 = 0 }))) ≡ plan_size (plan_at c.args.valid.now.nodes c.args.expr_arena.now.items (get_or c.args.nodes.now c.loop-node.node-index (record { 0 = 0 }))) = ap plan_size (tree_later (g.F.Functions.told c.args.functions.now) c.args.valid.now c.args.expr_arena.now.items c.loop-node.expr_arena.items c.loop-node.invariant.goes_on.entries c.requires.valid (get_or c.args.nodes.now c.loop-node.node-index (record { 0 = 0 })).0 (item_of (λ (n : Node). Reached (plan_with c.args.valid.now c.args.expr_arena.now.items) n.0) c.args.nodes.now c.loop-node.node-index (record { 0 = 0 }) c.loop-node-test.true c.requires.reached)) in
    let falls : plan_size (plan_at c.args.valid.now.nodes c.loop-node.expr_arena.items (get_or c.args.nodes.now c.loop-node.node-index (record { 0 = 0 }))) < t = omega arith in
    (falls, (within, (search rules, (valid_later (g.F.Functions.told c.args.functions.now) c.args.valid.now c.args.expr_arena.now.items c.loop-node.expr_arena.items c.loop-node.invariant.goes_on.entries c.requires.valid, (item_of (λ (n : Node). Reached (plan_with c.args.valid.now c.args.expr_arena.now.items) n.0) c.args.nodes.now c.loop-node.node-index (record { 0 = 0 }) c.loop-node-test.true c.requires.reached, c.loop-node.invariant.goes_on.cache)))))

pub lower_all-loop-node-preserved : goal.lower_all-loop-node-preserved
lower_all-loop-node-preserved g t c =
    next_lowered (g.F.Functions.told c.args.functions.now) (plan_at c.args.valid.now.nodes c.args.expr_arena.now.items) c.args.nodes.now c.loop-node.node-index (record { 0 = 0 }) (plan_at c.args.valid.now.nodes c.loop-node.expr_arena.items (get_or c.args.nodes.now c.loop-node.node-index (record { 0 = 0 }))) c.args.expr_arena.now.items c.loop-node.expr_arena.items c.lower_ir.new.expr_arena.items c.args.low.now c.loop-node.low c.lower_ir.new.low c.args.cache_nodes.now c.loop-node.cache_nodes c.lower_ir.new.cache_nodes c.loop-node.streams.items c.push.new.self.items c.in_ok-stream.stream c.loop-node-test.true (tree_later (g.F.Functions.told c.args.functions.now) c.args.valid.now c.args.expr_arena.now.items c.loop-node.expr_arena.items c.loop-node.invariant.goes_on.entries c.requires.valid (get_or c.args.nodes.now c.loop-node.node-index (record { 0 = 0 })).0 (item_of (λ (n : Node). Reached (plan_with c.args.valid.now c.args.expr_arena.now.items) n.0) c.args.nodes.now c.loop-node.node-index (record { 0 = 0 }) c.loop-node-test.true c.requires.reached)) c.loop-node.invariant c.in_ok-stream.ensures.lowers c.in_ok-push.ensures.items

pub lower_all-returns-clause-lower : goal.lower_all-returns-clause-lower
lower_all-returns-clause-lower g t c =
    all_lowered (g.F.Functions.told c.args.functions.now) (plan_at c.args.valid.now.nodes c.args.expr_arena.now.items) c.args.nodes.now c.loop-node.node-index c.args.expr_arena.now.items c.loop-node.expr_arena.items c.args.low.now c.loop-node.low c.args.cache_nodes.now c.loop-node.cache_nodes c.loop-node.streams.items c.loop-node-test.false c.loop-node.invariant

pub lower_all-returns-in_err-streams-clause-goes_on : goal.lower_all-returns-in_err-streams-clause-goes_on
lower_all-returns-in_err-streams-clause-goes_on g t c =
    goes_nowhere c.args.expr_arena.now.items c.args.low.now c.args.low.now c.requires.cache refl

pub lower_all-returns-in_err-stream-clause-goes_on : goal.lower_all-returns-in_err-stream-clause-goes_on
lower_all-returns-in_err-stream-clause-goes_on g t c =
    goes_then c.args.expr_arena.now.items c.loop-node.expr_arena.items c.lower_ir.new.expr_arena.items c.args.low.now c.loop-node.low c.lower_ir.new.low c.loop-node.invariant.goes_on c.lower_ir.ensures.goes_on

pub lower_all-returns-in_err-push-clause-goes_on : goal.lower_all-returns-in_err-push-clause-goes_on
lower_all-returns-in_err-push-clause-goes_on g t c =
    goes_then c.args.expr_arena.now.items c.loop-node.expr_arena.items c.lower_ir.new.expr_arena.items c.args.low.now c.loop-node.low c.lower_ir.new.low c.loop-node.invariant.goes_on c.lower_ir.ensures.goes_on

pub lower_all-returns-clause-goes_on : goal.lower_all-returns-clause-goes_on
lower_all-returns-clause-goes_on g t c =
    c.loop-node.invariant.goes_on

pub lower_cache-lower_ir-requires : goal.lower_cache-lower_ir-requires
lower_cache-lower_ir-requires g t c κs within =
    let falls : plan_size (plan_at c.args.valid.now.nodes c.args.expr_arena.now.items c.args.input) < t = omega arith in
    (falls, (within, (search rules, (c.requires.valid, (c.requires.reached, c.requires.cache)))))

pub lower_cache-returns-in-Some-clause-lowers : goal.lower_cache-returns-in-Some-clause-lowers
lower_cache-returns-in-Some-clause-lowers g t c =
    cache_kept (g.F.Functions.told c.args.functions.now) c.args.id (plan_at c.args.valid.now.nodes c.args.expr_arena.now.items c.args.input) c.args.expr_arena.now.items c.args.low.now c.args.cache_nodes.now c.in-Some.stream c.requires.cache (sym c.noted.ensures ∙ c.in-Some.is)

pub lower_cache-returns-clause-lowers : goal.lower_cache-returns-clause-lowers
lower_cache-returns-clause-lowers g t c =
    cache_made (g.F.Functions.told c.args.functions.now) c.args.id (plan_at c.args.valid.now.nodes c.args.expr_arena.now.items c.args.input) c.args.expr_arena.now.items c.lower_ir.new.expr_arena.items c.args.low.now c.lower_ir.new.low c.args.cache_nodes.now c.lower_ir.new.cache_nodes c.note.new.cache_nodes c.in_ok-stream.stream c.first.result (sym c.noted.ensures ∙ c.in_default.is) c.in_ok-stream.ensures.lowers c.first.ensures.node c.first.ensures.port c.in_ok-note.ensures.noted c.in_ok-note.ensures.others

pub lower_cache-returns-in-Some-clause-goes_on : goal.lower_cache-returns-in-Some-clause-goes_on
lower_cache-returns-in-Some-clause-goes_on g t c =
    goes_nowhere c.args.expr_arena.now.items c.args.low.now c.args.low.now c.requires.cache refl

pub lower_cache-returns-in_err-stream-clause-goes_on : goal.lower_cache-returns-in_err-stream-clause-goes_on
lower_cache-returns-in_err-stream-clause-goes_on g t c =
    c.lower_ir.ensures.goes_on

pub lower_cache-returns-in_err-note-clause-goes_on : goal.lower_cache-returns-in_err-note-clause-goes_on
lower_cache-returns-in_err-note-clause-goes_on g t c =
    c.lower_ir.ensures.goes_on

pub lower_cache-returns-clause-goes_on : goal.lower_cache-returns-clause-goes_on
lower_cache-returns-clause-goes_on g t c =
    c.lower_ir.ensures.goes_on
