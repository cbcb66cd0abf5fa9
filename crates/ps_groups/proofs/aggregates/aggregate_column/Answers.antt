use Rattle.std.proofs.Common.{arith, ap, subst}
use Rattle.std.proofs.lemmas.Result.{IfOk-weaker}
use Rattle.ps_frame.specs.Tables.{Fields}
use Rattle.ps_frame.specs.Trees.{tree_at}
use Rattle.ps_frame.specs.Series.{Series}
use Rattle.ps_groups.specs.Reductions.{Reduces}
use Rattle.ps_groups.proofs.Reducing.{is-aggregate, reduced-fit}
use Rattle.ps_groups.proofs.aggregates.aggregate_column.Goals as goal

pub reduced_column-requires-clause-fit : goal.reduced_column-requires-clause-fit
reduced_column-requires-clause-fit c =
    let t = tree_at c.args.arena.now.items c.args.expr in
    let reduces = subst (λ (s : Fields). Reduces s t c.in-Some.reduction) c.schema.ensures c.in-Some.ensures.reduces in
    reduced-fit c.args.at.0 c.args.df.now c.args.numbering.now c.requires.groups t c.in-Some.reduction (omega (arith, c.height-height.ensures.rows, c.height-height.ensures.counted)) reduces c.args.dtype c.requires.fit c.requires.kind

pub returns-in-Some-clause-column : goal.returns-in-Some-clause-column
returns-in-Some-clause-column c =
    let t = tree_at c.args.arena.now.items c.args.expr in
    let reduces = subst (λ (s : Fields). Reduces s t c.in-Some.reduction) c.schema.ensures c.in-Some.ensures.reduces in
    IfOk-weaker c.reduced_column.result _ _
    (λ column made. is-aggregate c.args.at.0 c.args.df.now c.args.numbering.now c.requires.groups t c.in-Some.reduction (omega (arith, c.height-height.ensures.rows, c.height-height.ensures.counted)) reduces column (ap (λ (x : Series). x.values) made))
    c.reduced_column.ensures.made
