-- The rows of one table more.
use Rattle.std.proofs.Common.{◌≡◌, ◌<◌, ◌++◌, ap, arith, length, sym, take, ◌∙◌}
use Rattle.kept_tables.proofs.LastTables.{rows_more}
use Rattle.kept_tables.specs.Kept.{rows_of_each}
use Rattle.ps_turns.specs.Heads.{stored_rows}
use Rattle.kept_tables.proofs.last_tables.put_together.Goals as goal

pub loop-i-preserved : goal.loop-i-preserved
loop-i-preserved c =
    let fs = c.args.tables.now.items in
    let table = c.index.result.now in
    let long : c.args.tables.now.len ≡ length fs = c.args.tables.now.ok.0 in
    let there : c.loop-i.i < length fs = omega arith in
    ap (λ f. f.rows) c.in-Ok-with_table.ensures.added
    ∙ ap (λ rs. rs ++ table.rows) c.loop-i.invariant
    ∙ ap (λ f. stored_rows (rows_of_each (take c.loop-i.i fs)) ++ f.rows) c.index.ensures
    ∙ sym (rows_more fs c.loop-i.i table there)
