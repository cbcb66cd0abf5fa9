use Rattle.std.proofs.Common.{◌<◌, ◌≤◌, List, [], ◌∷◌, ◌++◌, ℕ, arith, length, map, take, subst, sym, ap, ◌∙◌}
use Rattle.std.specs.List.{All}
use Rattle.std.proofs.lemmas.List.{map_more}
use Rattle.std.proofs.lemmas.Option.{get_or_from_slice_get}
use Rattle.ps_frame.specs.Aggregates.{max_rows}
use Rattle.ps_groups.specs.Statistics.{told, values_in}
use Rattle.ps_groups.proofs.statistics.statistics.Goals as goal

pub statistic_of-requires-clause-inside : goal.statistic_of-requires-clause-inside
statistic_of-requires-clause-inside c =
    let all = c.args.rows_of_keys.now in
    subst (All (λ i. i < length c.args.column.now.values)) (get_or_from_slice_get all c.loop-key.key c.rows.result.now [] c.rows.ensures) (c.requires.inside c.loop-key.key [] (omega arith))

pub statistic_of-requires-clause-few : goal.statistic_of-requires-clause-few
statistic_of-requires-clause-few c =
    let all = c.args.rows_of_keys.now in
    subst (λ (rows : List ℕ). length rows ≤ max_rows) (get_or_from_slice_get all c.loop-key.key c.rows.result.now [] c.rows.ensures) (c.requires.few c.loop-key.key [] (omega arith))

pub loop-key-preserved : goal.loop-key-preserved
loop-key-preserved c =
    let all = c.args.rows_of_keys.now in
    let key = c.loop-key.key in
    let f = λ (rows : List ℕ). told c.args.statistic (values_in c.args.column.now.values rows) in
    let row = get_or_from_slice_get all key c.rows.result.now [] c.rows.ensures in
    c.in_ok-push.ensures.items ∙ ap (λ vs. vs ++ c.in_ok-statistic_of.field-0 ∷ []) c.loop-key.invariant
    ∙ ap (λ v. map f (take key all) ++ v ∷ []) (c.in_ok-statistic_of.ensures ∙ ap f (sym row)) ∙ sym (map_more f all key [] (omega arith))
