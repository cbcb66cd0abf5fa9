use Rattle.std.proofs.Common.{◌≡◌, ◌<◌, ℕ, ◌∙◌, ap, Bool, rules}
use Rattle.std.specs.Prelude.{map}
use Rattle.std.specs.Cmp.{IsStrictWeakOrder}
use Rattle.std.specs.Ordering.{is_lt}
use Rattle.std.specs.List.{range_with_len}
use Rattle.std.proofs.lemmas.Fn.{always_returns_same}
use Rattle.std.proofs.lemmas.List.Elements.{All-same}
use Rattle.std.proofs.lemmas.List.Sorted.{All-permutation, ranks_by}
use Rattle.ps_frame.proofs.Orders.{keys_total}
use Rattle.ps_frame.proofs.StableOrder.{stable_sort-is}
use Rattle.ps_frame.specs.Eval.{at}
use Rattle.ps_frame.specs.Sorting.{in_order, keys_cmp}
use Rattle.ps_compute.specs.Rows.{key_row}
use Rattle.ps_expr_eval.proofs.AtPlaces.{range-below}
use Rattle.ps_compute.proofs.KeyOrder.{items-in-order}
use Rattle.ps_expr_eval.specs.Lanes.{key_columns, seen_values}
use Rattle.ps_expr_eval.proofs.sort_by.sorted_rows.Goals as goal

in_rows : (c : goal.In_ok-sort_by)
    → c.sort_by.new.self.items ≡ in_order (λ a b. is_lt (keys_cmp c.args.directions.now (key_row (key_columns (map (λ key. seen_values key.items) c.args.keys.now)) a) (key_row (key_columns (map (λ key. seen_values key.items) c.args.keys.now)) b))) (range_with_len 0 c.args.count)
in_rows c =
    let keys = key_columns (map (λ key. seen_values key.items) c.args.keys.now) in
    let less : ℕ → ℕ → Bool = λ a b. is_lt (keys_cmp c.args.directions.now (key_row keys a) (key_row keys b)) in
    let order : IsStrictWeakOrder less = ranks_by (keys_total c.args.directions.now) (key_row keys) in
    let s = c.in_ok-sort_by.ensures.sorted less order (always_returns_same _ _ _ (λ a r f' k. (search rules, search rules))) in
    let t = c.in_ok-sort_by.ensures.stable less order (always_returns_same _ _ _ (λ a r f' k. (search rules, search rules))) in
    stable_sort-is less order _ _ s t ∙ ap (in_order less) c.in_ok-rows.ensures

pub returns-clause-there : goal.returns-clause-there
returns-clause-there c =
    All-permutation (λ i. i < c.args.count) c.in_ok-rows.rows.items c.sort_by.new.self.items c.sort_by.ensures.permutation
    (All-same (λ i. i < c.args.count) c.in_ok-rows.rows.items (range_with_len 0 c.args.count) c.in_ok-rows.ensures (range-below c.args.count))

pub returns-clause-order : goal.returns-clause-order
returns-clause-order c = λ values. items-in-order c.args.directions.now (key_columns (map (λ key. seen_values key.items) c.args.keys.now)) (λ i. at i values) c.args.count c.sort_by.new.self.items (in_rows c)
