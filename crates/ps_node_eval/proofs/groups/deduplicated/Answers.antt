use Rattle.ps_meaning.specs.Steps.{distinct_step}
use Rattle.group_steps.proofs.GroupSteps.{distinct-stands}
use Rattle.ready_steps.proofs.OverInputs.{gives-at, memory-faults}
use Rattle.ps_node_eval.proofs.groups.deduplicated.Goals as goal

pub distinct-requires : goal.distinct-requires
distinct-requires c = distinct-stands c.args.options.now c.args.inputs.now _ c.requires.ready.0 c.only.ensures c.requires.ready.1

pub returns-clause-table : goal.returns-clause-table
returns-clause-table c = gives-at c.args.at.0 (distinct_step c.args.options.now) c.args.inputs.now _ c.distinct.result c.only.ensures c.distinct.ensures.table

pub returns-clause-fault : goal.returns-clause-fault
returns-clause-fault c = memory-faults c.args.at.0 (distinct_step c.args.options.now) c.args.inputs.now c.distinct.result c.distinct.ensures.memory
