use Rattle.std.proofs.Common.{◌≡◌, ap, ◌∙◌}
use Rattle.std.proofs.lemmas.Result.{IfOk-weaker}
use Rattle.ps_frame.specs.Gathered.{rows_at}
use Rattle.ps_meaning.specs.Distinct.{kept_rows, subset_places}
use Rattle.ps_groups.proofs.Gives.{distinct-gives}
use Rattle.ps_groups.proofs.distinct.distinct.Goals as goal

pub returns-clause-table : goal.returns-clause-table
returns-clause-table c =
    let t = c.args.df.now in
    let o = c.args.options.now in
    let rows : c.in_ok-kept.kept.rows ≡ kept_rows o.keep_strategy (subset_places o.subset t.schema) t.rows =
    c.in_ok-kept.ensures.rows ∙ ap (λ ps. rows_at ps t.rows) c.as_slice.ensures.value ∙ c.in_ok-rows.ensures.kept in
    IfOk-weaker c.cut.result _ _ (λ f e. distinct-gives t o c.in_ok-kept.kept f c.in_ok-kept.ensures.schema rows e) c.cut.ensures.part
