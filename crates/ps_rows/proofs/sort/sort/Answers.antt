use Rattle.ps_frame.specs.Trees.{tree_at}
use Rattle.ps_rows.proofs.Results.{if_ok}
use Rattle.ps_rows.proofs.Sorting.{sort-faults, sort-gives}
use Rattle.ps_rows.proofs.sort.sort.Goals as goal

pub returns-in-Ok-clause-table : goal.returns-in-Ok-clause-table
returns-in-Ok-clause-table c =
    if_ok c.sorted_part.result _ _
    (λ g p F. sort-gives (tree_at c.args.arena.now.items) c.args.at.0 c.args.by.now c.args.slice c.args.options.now c.args.df.now F c.in-Ok.keyed.table p.0 g c.in-Ok.keyed.keys.items c.in-Ok.ensures.table p.1 p.2 p.3)
    c.sorted_part.ensures.part

pub returns-in-Err-clause-fault : goal.returns-in-Err-clause-fault
returns-in-Err-clause-fault c = λ F. sort-faults (tree_at c.args.arena.now.items) c.args.at.0 c.args.by.now c.args.slice c.args.options.now c.args.df.now F c.in-Err.error c.in-Err.ensures.error
