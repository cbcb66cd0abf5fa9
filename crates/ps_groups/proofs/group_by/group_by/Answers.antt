use Rattle.ps_frame.specs.Trees.{tree_at}
use Rattle.ps_zip.proofs.Results.{if_ok}
use Rattle.ps_groups.proofs.GroupGives.{can-group, groups-fault, groups-give, memory-fault, zip-fault}
use Rattle.ps_groups.proofs.group_by.group_by.Goals as goal

pub groups_of-requires : goal.groups_of-requires
groups_of-requires c =
    can-group (tree_at c.args.arena.now.items) c.args.at.0 c.args.keys.now c.args.aggs.now c.args.df.now c.args.schema.now c.requires.schema c.in-Ok.keyed.table c.in-Ok.keyed.keys.items c.in-Ok.ensures.table c.requires.aggs.0

pub returns-in-Err : goal.returns-in-Err
returns-in-Err c = record {
  table = tt;
  fault = λ F maintained.
      zip-fault (tree_at c.args.arena.now.items) c.args.at.0 c.args.keys.now c.args.aggs.now c.args.df.now c.args.schema.now c.requires.schema F maintained c.args.slice c.in-Err.error c.in-Err.ensures.error;
}

pub returns-in-Ok-groups_of-clause-table : goal.returns-in-Ok-groups_of-clause-table
returns-in-Ok-groups_of-clause-table c =
    if_ok c.cut.result _ _
    (λ f part F maintained.
    groups-give (tree_at c.args.arena.now.items) c.args.at.0 c.args.keys.now c.args.aggs.now c.args.df.now c.args.schema.now c.requires.schema F maintained c.args.slice c.in-Ok.keyed.table c.in-Ok.keyed.keys.items c.in-Ok.ensures.table c.in-Ok-groups_of.groups f
    c.in-Ok-groups_of.ensures.schema c.in-Ok-groups_of.ensures.rows c.in-Ok-groups_of.ensures.clean part)
    c.cut.ensures.part

pub returns-in-Ok-groups_of-clause-fault : goal.returns-in-Ok-groups_of-clause-fault
returns-in-Ok-groups_of-clause-fault c = memory-fault (tree_at c.args.arena.now.items) c.args.at.0 c.args.keys.now c.args.aggs.now c.args.df.now c.args.slice c.cut.result c.cut.ensures.memory

pub returns-clause-table : goal.returns-clause-table
returns-clause-table c = tt

pub returns-clause-fault : goal.returns-clause-fault
returns-clause-fault c = λ F maintained.
    groups-fault (tree_at c.args.arena.now.items) c.args.at.0 c.args.keys.now c.args.aggs.now c.args.df.now c.args.schema.now c.requires.schema F maintained c.args.slice c.in-Ok.keyed.table c.in-Ok.keyed.keys.items c.in-Ok.ensures.table c.in-Err-groups_of.error c.in-Err-groups_of.ensures.fault
