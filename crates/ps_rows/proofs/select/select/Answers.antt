use Rattle.ps_frame.specs.Trees.{tree_at}
use Rattle.ps_rows.proofs.Results.{if_ok_both}
use Rattle.ps_rows.proofs.Selecting.{select-faults, select-frame, select-gives}
use Rattle.ps_rows.proofs.Steps.{fields-typed}
use Rattle.ps_rows.proofs.select.select.Goals as goal

pub zip_exprs-requires : goal.zip_exprs-requires
zip_exprs-requires c = fields-typed (tree_at c.args.arena.now.items) c.args.df.now.schema c.args.exprs.now c.args.schema.now c.requires.expressions c.requires.fields

pub frame_of_height-requires : goal.frame_of_height-requires
frame_of_height-requires c = select-frame (tree_at c.args.arena.now.items) c.args.at.0 c.args.exprs.now c.args.df.now c.args.schema.now c.requires.fields c.in-Ok.zip.columns.items c.in-Ok.zip.height c.in-Ok.ensures.rows

pub returns-in-Ok-clause-table : goal.returns-in-Ok-clause-table
returns-in-Ok-clause-table c =
    if_ok_both c.frame_of_height.result _ _ _
    (λ g schema rows F. select-gives (tree_at c.args.arena.now.items) c.args.at.0 c.args.exprs.now c.args.df.now c.args.schema.now c.requires.fields F g c.in-Ok.zip.columns.items c.in-Ok.zip.height c.in-Ok.ensures.rows schema rows)
    c.frame_of_height.ensures.schema c.frame_of_height.ensures.rows

pub returns-in-Err-clause-fault : goal.returns-in-Err-clause-fault
returns-in-Err-clause-fault c = λ F. select-faults (tree_at c.args.arena.now.items) c.args.at.0 c.args.exprs.now c.args.df.now c.args.schema.now c.requires.fields F c.in-Err.error c.in-Err.ensures.error
