use Rattle.std.proofs.Common.{arith, rules, length, ap, ◌∙◌}
use Rattle.std.specs.Prelude.{is_some}
use Rattle.std.proofs.lemmas.Grind.{common_steps}
use Rattle.std.proofs.lemmas.Result.{IfOk-weaker}
use Rattle.ps_frame.specs.Trees.{tree_at}
use Rattle.ps_keys.specs.KeyRows.{places_of_each}
use Rattle.ps_zip.proofs.Results.{if_err}
use Rattle.ps_groups.specs.GroupTables.{IsByGroup}
use Rattle.ps_groups.proofs.ReadTables.{aggregate-read, error-read, fit-read, kind-read}
use Rattle.ps_groups.proofs.aggregates.grouped_column.Goals as goal

pub evaluated_column-requires-clause-kind : goal.evaluated_column-requires-clause-kind
evaluated_column-requires-clause-kind c =
    let t = tree_at c.args.arena.now.items c.args.expr in
    let n = c.args.numbering.now in
    let by : IsByGroup c.args.df.now (places_of_each (length n.firsts.items) n.keys.items) c.in_ok-table.table.now = first_of (search rules, grind (arith, common_steps)) in
    ap is_some (kind-read c.args.at.0 t c.args.df.now c.args.numbering.now c.requires.groups c.args.groups.now c.requires.together c.in_ok-table.table.now by c.in_ok-columns.columns c.in_ok-columns.ensures.read ∙ c.requires.kind)

pub evaluated_column-requires-clause-fit : goal.evaluated_column-requires-clause-fit
evaluated_column-requires-clause-fit c =
    let t = tree_at c.args.arena.now.items c.args.expr in
    let n = c.args.numbering.now in
    let by : IsByGroup c.args.df.now (places_of_each (length n.firsts.items) n.keys.items) c.in_ok-table.table.now = first_of (search rules, grind (arith, common_steps)) in
    fit-read c.args.at.0 t c.args.df.now c.args.numbering.now c.requires.groups c.args.groups.now c.requires.together c.in_ok-table.table.now by c.in_ok-columns.columns c.in_ok-columns.ensures.read c.args.dtype c.requires.fit c.requires.kind

pub returns-clause-column : goal.returns-clause-column
returns-clause-column c =
    let t = tree_at c.args.arena.now.items c.args.expr in
    let n = c.args.numbering.now in
    let by : IsByGroup c.args.df.now (places_of_each (length n.firsts.items) n.keys.items) c.in_ok-table.table.now = first_of (search rules, grind (arith, common_steps)) in
    IfOk-weaker c.evaluated_column.result _ _
    (λ column a. aggregate-read c.args.at.0 t c.args.df.now c.args.numbering.now c.requires.groups c.args.groups.now c.requires.together c.in_ok-table.table.now by c.in_ok-columns.columns c.in_ok-columns.ensures.read column a)
    c.evaluated_column.ensures.column

pub returns-clause-error : goal.returns-clause-error
returns-clause-error c =
    let t = tree_at c.args.arena.now.items c.args.expr in
    let n = c.args.numbering.now in
    let by : IsByGroup c.args.df.now (places_of_each (length n.firsts.items) n.keys.items) c.in_ok-table.table.now = first_of (search rules, grind (arith, common_steps)) in
    if_err c.evaluated_column.result _ _
    (λ e h. error-read c.args.at.0 t c.args.df.now c.args.numbering.now c.requires.groups c.args.groups.now c.requires.together c.in_ok-table.table.now by c.in_ok-columns.columns c.in_ok-columns.ensures.read e h)
    c.evaluated_column.ensures.error
