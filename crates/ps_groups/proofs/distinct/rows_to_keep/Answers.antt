use Rattle.std.proofs.Common.{◌≡◌, ◌<◌, length, map, arith, subst, sym, ap, ◌∙◌}
use Rattle.std.specs.List.{All}
use Rattle.std.proofs.lemmas.Result.{IfOk-weaker}
use Rattle.ps_frame.specs.Frames.{AllOfHeight, column_values}
use Rattle.ps_frame.specs.Gathered.{rows_at}
use Rattle.ps_frame.specs.Tables.{rows_of, values_at}
use Rattle.ps_keys.specs.Numbering.{Numbers}
use Rattle.ps_meaning.specs.Distinct.{kept_rows, picked, subset_places}
use Rattle.ps_frame.proofs.Rows.{length-rows_of}
use Rattle.ps_groups.specs.KeptRows.{kept_places}
use Rattle.ps_groups.proofs.Kept.{keys-below-firsts, kept_places-at, kept_places-below, kept_places-few, picked-heights, picked-rows}
use Rattle.ps_groups.proofs.distinct.rows_to_keep.Goals as goal

pub number_rows-requires : goal.number_rows-requires
number_rows-requires c =
    let places = c.in_ok-places.places.items in
    let rows = c.args.df.now.rows in
    let values : column_values c.as_slice-2.result.now ≡ map (λ i. values_at i rows) places =
    ap column_values c.as_slice-2.ensures.value ∙ c.in_ok-columns.ensures ∙ ap (map (λ i. values_at i rows)) c.as_slice.ensures.value in
    subst (λ h. AllOfHeight h c.as_slice-2.result.now) (sym c.height.ensures.rows) (picked-heights rows places c.as_slice-2.result.now values)

pub kept_by_numbers-requires : goal.kept_by_numbers-requires
kept_by_numbers-requires c = keys-below-firsts _ c.in_ok-numbering.numbering c.in_ok-numbering.ensures

pub returns-clause-kept : goal.returns-clause-kept
returns-clause-kept c =
    let places = c.in_ok-places.places.items in
    let rows = c.args.df.now.rows in
    let n = c.in_ok-numbering.numbering in
    let values : column_values c.as_slice-2.result.now ≡ map (λ i. values_at i rows) places =
    ap column_values c.as_slice-2.ensures.value ∙ c.in_ok-columns.ensures ∙ ap (map (λ i. values_at i rows)) c.as_slice.ensures.value in
    let is : rows_of c.height.result (column_values c.as_slice-2.result.now) ≡ map (picked places) rows =
    ap (λ h. rows_of h (column_values c.as_slice-2.result.now)) c.height.ensures.rows ∙ picked-rows rows places c.as_slice-2.result.now values in
    let numbers : Numbers (map (picked places) rows) n = subst (λ ks. Numbers ks n) is c.in_ok-numbering.ensures in
    let names : places ≡ subset_places c.args.options.now.subset c.args.df.now.schema = c.in_ok-places.ensures.places ∙ ap (subset_places c.args.options.now.subset) c.schema.ensures in
    let how = c.args.options.now.keep_strategy in
    IfOk-weaker c.kept_by_numbers.result _ _ (λ kept e. ap (λ ps. rows_at ps rows) e ∙ kept_places-at places how rows n numbers ∙ ap (λ ps. kept_rows how ps rows) names) c.kept_by_numbers.ensures

pub returns-clause-there : goal.returns-clause-there
returns-clause-there c =
    let n = c.in_ok-numbering.numbering in
    let places = c.in_ok-places.places.items in
    let rows = c.args.df.now.rows in
    let values : column_values c.as_slice-2.result.now ≡ map (λ i. values_at i rows) places =
    ap column_values c.as_slice-2.ensures.value ∙ c.in_ok-columns.ensures ∙ ap (map (λ i. values_at i rows)) c.as_slice.ensures.value in
    let heights : AllOfHeight c.height.result c.as_slice-2.result.now =
    subst (λ h. AllOfHeight h c.as_slice-2.result.now) (sym c.height.ensures.rows) (picked-heights rows places c.as_slice-2.result.now values) in
    let keys = rows_of c.height.result (column_values c.as_slice-2.result.now) in
    let height : length keys ≡ length c.args.df.now.rows = length-rows_of c.height.result c.as_slice-2.result.now heights ∙ c.height.ensures.rows in
    IfOk-weaker c.kept_by_numbers.result _ _ (λ kept e.
    subst (All (λ i. i < length c.args.df.now.rows)) (sym e)
    (subst (λ m. All (λ i. i < m) (kept_places c.args.options.now.keep_strategy n)) height (kept_places-below keys n c.in_ok-numbering.ensures c.args.options.now.keep_strategy)))
    c.kept_by_numbers.ensures

pub returns-clause-few : goal.returns-clause-few
returns-clause-few c =
    let n = c.in_ok-numbering.numbering in
    let places = c.in_ok-places.places.items in
    let rows = c.args.df.now.rows in
    let values : column_values c.as_slice-2.result.now ≡ map (λ i. values_at i rows) places =
    ap column_values c.as_slice-2.ensures.value ∙ c.in_ok-columns.ensures ∙ ap (map (λ i. values_at i rows)) c.as_slice.ensures.value in
    let heights : AllOfHeight c.height.result c.as_slice-2.result.now =
    subst (λ h. AllOfHeight h c.as_slice-2.result.now) (sym c.height.ensures.rows) (picked-heights rows places c.as_slice-2.result.now values) in
    let keys = rows_of c.height.result (column_values c.as_slice-2.result.now) in
    let height : length keys ≡ c.height.result = length-rows_of c.height.result c.as_slice-2.result.now heights in
    let few = kept_places-few keys n c.in_ok-numbering.ensures c.args.options.now.keep_strategy in
    let counted = c.height.ensures.counted in
    IfOk-weaker c.kept_by_numbers.result _ _ (λ kept e. omega (arith, ap length e, few, height, counted)) c.kept_by_numbers.ensures
