use Rattle.std.proofs.Common.{◌≡◌, ◌<◌, ◌≤◌, ◌∙◌, List, ℕ, arith, ap, get_or, length, rules, subst, sym}
use Rattle.std.proofs.lemmas.Grind.{common_steps}
use Rattle.std.proofs.lemmas.List.{length-map}
use Rattle.std.proofs.lemmas.Result.{IfOk-weaker}
use Rattle.std.specs.List.{All}
use Rattle.ps_frame.specs.Aggregates.{max_rows}
use Rattle.ps_frame.specs.declared.value.Value.{Value}
use Rattle.ps_frame.specs.declared.value.Value.TheVariants as val
use Rattle.ps_keys.specs.KeyRows.{places_of_each}
use Rattle.ps_groups.proofs.Reducing.{counts-reduced, rows-few, rows-inside, sums-reduced, told-reduced}
use Rattle.ps_groups.proofs.reductions.reduced.Goals as goal

pub returns-in-Count-clause-values : goal.returns-in-Count-clause-values
returns-in-Count-clause-values c =
    IfOk-weaker c.value_counts.result _ _
    (λ values made. made ∙ counts-reduced c.args.df.now c.args.count c.args.keys.now c.in-Count.place c.args.reduction c.column.result.now.values c.column.ensures.values c.in-Count.is) c.value_counts.ensures

pub returns-in-Sum-clause-values : goal.returns-in-Sum-clause-values
returns-in-Sum-clause-values c =
    IfOk-weaker c.sums.result _ _
    (λ values made. made ∙ sums-reduced c.args.df.now c.args.count c.args.keys.now c.in-Sum.place c.args.reduction c.column-in-Sum.result.now c.column-in-Sum.ensures.kind c.column-in-Sum.ensures.values c.in-Sum.is) c.sums.ensures

pub statistics-requires-clause-inside : goal.statistics-requires-clause-inside
statistics-requires-clause-inside c =
    let values = c.column-in-Told.result.now.values in
    let together : c.in_ok-rows-in-Told.rows.now ≡ places_of_each c.args.count c.args.keys.now = first_of (search rules, grind (arith, common_steps)) in
    let long : length c.args.keys.now ≡ length values = omega (arith, c.requires.long, ap length c.column-in-Told.ensures.values, length-map c.args.df.now.rows (λ (row : List Value). get_or row c.in-Told.place val.Null)) in
    subst (All (λ (rows : List ℕ). All (λ i. i < length values) rows)) (sym together) (rows-inside c.args.count c.args.keys.now (length values) long)

pub statistics-requires-clause-few : goal.statistics-requires-clause-few
statistics-requires-clause-few c =
    let together : c.in_ok-rows-in-Told.rows.now ≡ places_of_each c.args.count c.args.keys.now = first_of (search rules, grind (arith, common_steps)) in
    subst (All (λ (rows : List ℕ). length rows ≤ max_rows)) (sym together)
    (rows-few c.args.count c.args.keys.now (omega (arith, c.requires.long, c.height-height.ensures.rows, c.height-height.ensures.counted)))

pub returns-in_ok-rows-in-Told-clause-values : goal.returns-in_ok-rows-in-Told-clause-values
returns-in_ok-rows-in-Told-clause-values c =
    let together : c.in_ok-rows-in-Told.rows.now ≡ places_of_each c.args.count c.args.keys.now = first_of (search rules, grind (arith, common_steps)) in
    IfOk-weaker c.statistics.result _ _
    (λ values made. made ∙ told-reduced c.args.df.now c.args.count c.args.keys.now c.in-Told.place c.args.reduction c.in-Told.statistic c.column-in-Told.result.now.values c.in_ok-rows-in-Told.rows.now c.column-in-Told.ensures.values together c.in-Told.is)
    c.statistics.ensures
