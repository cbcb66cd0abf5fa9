use Rattle.ps_tables.proofs.Filled.{beside-frame, beside-gives}
use Rattle.ps_tables.proofs.Results.{ok-both}
use Rattle.ps_tables.proofs.hconcat.hconcat.Goals as goal

pub frame_of_height-requires : goal.frame_of_height-requires
frame_of_height-requires c =
    let height = c.greatest_height-height in
    let columns = c.in_ok-columns.ensures in
    beside-frame c.args.inputs.now c.args.schema.now c.in_ok-columns.columns.items height.result c.requires.columns c.requires.joined height.ensures.greatest columns.values height.ensures.few columns.kinds

pub returns-clause-table : goal.returns-clause-table
returns-clause-table c =
    let height = c.greatest_height-height in
    ok-both c.frame_of_height.result _ _ _ (λ f schema made F at.
    beside-gives c.args.inputs.now c.args.schema.now c.in_ok-columns.columns.items height.result c.requires.columns c.requires.joined height.ensures.greatest c.in_ok-columns.ensures.values F at f schema made)
    c.frame_of_height.ensures.schema c.frame_of_height.ensures.rows
