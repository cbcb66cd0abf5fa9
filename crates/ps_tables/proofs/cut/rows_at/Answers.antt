use Rattle.ps_tables.proofs.Cuts.{part-is-cut}
use Rattle.ps_tables.proofs.cut.rows_at.Goals as goal

pub returns-in-Ok-clause-part : goal.returns-in-Ok-clause-part
returns-in-Ok-clause-part c =
    part-is-cut c.args.df.now c.in-Ok.part c.args.offset.now c.args.len c.bounds-start.result.0 c.bounds-start.result.1 c.height.result c.height.ensures.rows c.height.ensures.counted c.bounds-start.ensures.from_start c.bounds-start.ensures.from_end c.in-Ok.ensures.schema
    c.in-Ok.ensures.rows
