use Rattle.std.proofs.Common.{length, take, drop, ap, ◌∙◌}
use Rattle.ps_frame.specs.Frames.{column_values}
use Rattle.ps_frame.specs.Tables.{Fields, rows_of, whole}
use Rattle.ps_frame.specs.Trees.{tree_at}
use Rattle.ps_meaning.specs.Cases.{keyed}
use Rattle.ps_meaning.specs.Steps.{key_trees}
use Rattle.ps_rows.proofs.Keys.{front-frame, with-keys}
use Rattle.ps_rows.proofs.Results.{if_ok_three}
use Rattle.ps_rows.proofs.keyed.keyed_table.Goals as goal

pub parted-requires-clause-fields : goal.parted-requires-clause-fields
parted-requires-clause-fields c =
    let ts = key_trees (tree_at c.args.arena.now.items) c.args.exprs.now in
    rw c.schema.ensures (front-frame (keyed c.args.at.0 ts (whole c.args.df.now)) c.args.df.now.schema ts c.in-Ok.zip.columns.items c.in-Ok.zip.height c.in-Ok.ensures.rows)

pub returns-in-Ok-clause-table : goal.returns-in-Ok-clause-table
returns-in-Ok-clause-table c =
    let ts = key_trees (tree_at c.args.arena.now.items) c.args.exprs.now in
    let cs = c.in-Ok.zip.columns.items in
    if_ok_three c.parted.result _ _ _ _
    (λ k schema rows keys. with-keys (keyed c.args.at.0 ts (whole c.args.df.now)) c.args.df.now.schema ts cs c.in-Ok.zip.height c.in-Ok.ensures.rows k.table k.keys.items
    (schema ∙ c.schema.ensures) (rows ∙ ap (λ (s : Fields). rows_of c.in-Ok.zip.height (column_values (take (length s) cs))) c.schema.ensures) (keys ∙ ap (λ (s : Fields). drop (length s) cs) c.schema.ensures))
    c.parted.ensures.schema c.parted.ensures.rows c.parted.ensures.keys
