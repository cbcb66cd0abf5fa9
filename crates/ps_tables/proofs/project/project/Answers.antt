use Rattle.ps_tables.proofs.Projected.{named-frame, project-gives, scan-gives}
use Rattle.ps_tables.proofs.Results.{ok-both}
use Rattle.ps_tables.proofs.project.project.Goals as goal

pub frame_of_height-requires : goal.frame_of_height-requires
frame_of_height-requires c =
    let height = c.height.ensures in
    let columns = c.in_ok-columns.ensures in
    named-frame c.args.df.now c.args.names.now c.args.schema.now c.in_ok-columns.columns.items c.requires columns.values c.height.result height.rows height.counted columns.kinds

pub returns-clause-scan : goal.returns-clause-scan
returns-clause-scan c =
    ok-both c.frame_of_height.result _ _ _ (scan-gives c.args.df.now c.args.names.now c.args.schema.now c.in_ok-columns.columns.items c.requires c.in_ok-columns.ensures.values c.height.result c.height.ensures.rows)
    c.frame_of_height.ensures.schema c.frame_of_height.ensures.rows

pub returns-clause-projection : goal.returns-clause-projection
returns-clause-projection c =
    ok-both c.frame_of_height.result _ _ _ (project-gives c.args.df.now c.args.names.now c.args.schema.now c.in_ok-columns.columns.items c.requires c.in_ok-columns.ensures.values c.height.result c.height.ensures.rows)
    c.frame_of_height.ensures.schema c.frame_of_height.ensures.rows
