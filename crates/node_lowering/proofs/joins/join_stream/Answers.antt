use Rattle.ps_frame.specs.Trees.{tree_at}
use Rattle.ps_phys.specs.Shown.{join_of, stream_of}
use Rattle.node_lowering.proofs.AnswerLemmas.{goes_with_nodes}
use Rattle.node_lowering.proofs.JoinLemmas.{join_by_keys, join_of_wholes}
use Rattle.node_lowering.proofs.joins.join_stream.Goals as goal

pub returns-then-by_keys-clause-makes : goal.returns-then-by_keys-clause-makes
returns-then-by_keys-clause-makes c =
    join_by_keys (stream_of c.args.left) (stream_of c.args.right) c.args.schema.now (join_of (tree_at c.args.arena.now.items) c.args.left_on.now c.args.right_on.now c.args.args.now) c.goes_by_keys-by_keys.result c.args.arena.now.items c.equi_join_stream.new.arena.items c.args.low.now c.equi_join_stream.new.low c.in_ok-keyed.keyed
    c.goes_by_keys-by_keys.ensures c.if-by_keys.true c.in_ok-keyed.ensures.makes

pub returns-clause-makes : goal.returns-clause-makes
returns-clause-makes c =
    join_of_wholes (stream_of c.args.left) (stream_of c.args.right) c.args.schema.now c.args.left_on.now c.args.right_on.now c.args.args.now c.goes_by_keys-by_keys.result c.args.arena.now.items c.args.low.now c.in_memory_join_stream.new.low c.in_ok-whole.whole
    c.goes_by_keys-by_keys.ensures c.if-by_keys.false c.requires.cache c.requires.left_whole c.requires.right_whole c.in_ok-whole.ensures.made c.in_memory_join_stream.ensures.nodes c.in_memory_join_stream.ensures.others

pub returns-in_err-keyed-clause-goes_on : goal.returns-in_err-keyed-clause-goes_on
returns-in_err-keyed-clause-goes_on c = c.equi_join_stream.ensures.goes_on

pub returns-then-by_keys-clause-goes_on : goal.returns-then-by_keys-clause-goes_on
returns-then-by_keys-clause-goes_on c = c.equi_join_stream.ensures.goes_on

pub returns-in_err-whole-clause-goes_on : goal.returns-in_err-whole-clause-goes_on
returns-in_err-whole-clause-goes_on c = goes_with_nodes c.args.arena.now.items c.args.low.now c.in_memory_join_stream.new.low c.requires.cache c.in_memory_join_stream.ensures.nodes c.in_memory_join_stream.ensures.others

pub returns-clause-goes_on : goal.returns-clause-goes_on
returns-clause-goes_on c = goes_with_nodes c.args.arena.now.items c.args.low.now c.in_memory_join_stream.new.low c.requires.cache c.in_memory_join_stream.ensures.nodes c.in_memory_join_stream.ensures.others
