-- The graph of the run of a sound plan.
use Rattle.std.proofs.Common.{◌≡◌}
use Rattle.flow_runs.specs.Running.{IsNewNode}
use Rattle.ps_frame.specs.Functions.{Functions, IsLawful}
use Rattle.ps_frame.specs.Trees.{tree_at}
use Rattle.ps_meaning.specs.Sound.{IsSound}
use Rattle.ps_phys.specs.Shown.{shown}
use Rattle.flow_run_trials.proofs.Plans.{if_made, ready, schemas-count, schemas-made}
use Rattle.flow_run_trials.specs.Ready.{IsReady, IsRunOf}
use Rattle.flow_run_trials.proofs.planned.run_of_plan.Goals as goal

pub run_of-requires-clause-schemas : goal.run_of-requires-clause-schemas
run_of-requires-clause-schemas c =
    let f = tree_at c.args.exprs.now.items in
    let slots = c.args.phys.now.slots in
    let schemas =
    schemas-made f slots c.args.root.0 c.in_ok-order.order.items c.as_slice.result.now c.in_ok-schemas.schemas.items c.as_slice-2.result.now (c.in_ok-order.ensures.order f) c.as_slice.ensures.value c.in_ok-schemas.ensures.schemas
    c.as_slice-2.ensures.value in
    schemas-count (shown f slots c.args.root.0) c.as_slice-2.result.now c.in_ok-graph.graph c.in_ok-graph.ensures.linked c.in_ok-graph.ensures.built schemas

pub returns-clause-ready : goal.returns-clause-ready
returns-clause-ready c =
    let f = tree_at c.args.exprs.now.items in
    let slots = c.args.phys.now.slots in
    let shape = shown f slots c.args.root.0 in
    let schemas =
    schemas-made f slots c.args.root.0 c.in_ok-order.order.items c.as_slice.result.now c.in_ok-schemas.schemas.items c.as_slice-2.result.now (c.in_ok-order.ensures.order f) c.as_slice.ensures.value c.in_ok-schemas.ensures.schemas
    c.as_slice-2.ensures.value in
    if_made (IsRunOf c.in_ok-graph.graph c.as_slice-2.result.now) (λ g. (F : Functions) → IsLawful F → IsSound F shape → IsReady IsNewNode F g) c.run_of.result
    (λ run made F lawful sound. ready F shape c.in_ok-graph.graph c.as_slice-2.result.now run lawful sound c.in_ok-graph.ensures.linked c.in_ok-graph.ensures.built schemas made)
    c.run_of.ensures.run
