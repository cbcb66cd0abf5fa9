use Rattle.std.proofs.Common.{ap, ◌∙◌}
use Rattle.ps_frame.specs.Parts.{reads_column}
use Rattle.ps_frame.specs.Trees.{tree_at}
use Rattle.lowering_parts.proofs.ReadLemmas.{entry_reads, operands_complete, operands_size}
use Rattle.lowering_parts.proofs.reads.entry_of.Goals as goal

pub returns-clause-reads : goal.returns-clause-reads
returns-clause-reads c n = ap (reads_column n) c.entry.ensures.tree ∙ entry_reads n (tree_at c.args.arena.now.items) c.entry.result.now

pub returns-clause-complete : goal.returns-clause-complete
returns-clause-complete c = operands_complete (tree_at c.args.arena.now.items) c.entry.result.now c.entry.ensures.complete

pub returns-clause-size : goal.returns-clause-size
returns-clause-size c = c.entry.ensures.size ∙ operands_size (tree_at c.args.arena.now.items) c.entry.result.now
