use Rattle.std.proofs.Common.{◌≡◌, ◌<◌, length, subst, sym, take, ap, ◌∙◌}
use Rattle.std.specs.List.{All}
use Rattle.ps_frame.proofs.Rows.{length-rows_of}
use Rattle.ps_groups.proofs.KeyColumns.{gathered-are}
use Rattle.ps_groups.proofs.key_columns.gathered_columns.Goals as goal

pub gathered-requires-clause-there : goal.gathered-requires-clause-there
gathered-requires-clause-there c =
    let tall : length c.in_ok-table.table.rows ≡ c.args.height = ap length c.in_ok-table.ensures.rows ∙ length-rows_of c.args.height c.args.columns.now c.requires.fields.heights in
    subst (λ m. All (λ i. i < m) c.args.rows.now) (sym tall) c.requires.there

pub returns : goal.returns
returns c =
    gathered-are (take (length c.args.columns.now) c.args.schema.now) c.args.columns.now c.in_ok-out.out.items c.args.height c.args.rows.now c.in_ok-table.table c.in_ok-picked.picked c.requires.fields c.requires.there c.requires.few
    c.in_ok-table.ensures.schema c.in_ok-table.ensures.rows c.in_ok-picked.ensures.schema c.in_ok-picked.ensures.rows c.in_ok-out.ensures.fields c.in_ok-out.ensures.rows
