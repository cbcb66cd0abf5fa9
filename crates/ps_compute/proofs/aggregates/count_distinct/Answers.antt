use Rattle.std.proofs.Common.{◌∙◌, ap, Bool, Bor, rules}
use Rattle.std.specs.Cmp.{IsStrictWeakOrder}
use Rattle.std.specs.Ordering.{is_lt}
use Rattle.std.proofs.lemmas.Fn.{always_returns_same}
use Rattle.std.proofs.lemmas.List.Sorted.{ranks_by}
use Rattle.ps_frame.proofs.Orders.{value_total}
use Rattle.ps_frame.specs.Values.{same_value, value_cmp}
use Rattle.ps_frame.specs.declared.value.Value.{Value}
use Rattle.ps_compute.specs.Runs.{runs}
use Rattle.ps_compute.proofs.Distinct.{runs-distinct}
use Rattle.ps_compute.proofs.aggregates.count_distinct.Goals as goal

pub returns-clause-count : goal.returns-clause-count
returns-clause-count g c =
    let less : Bor Value → Bor Value → Bool = λ a b. is_lt (value_cmp a.now b.now) in
    let order : IsStrictWeakOrder less = ranks_by value_total (λ v. v.now) in
    let s = c.in_ok-sort_by.ensures.sorted less order (always_returns_same _ _ _ (λ a r f' k. (search rules, search rules))) in
    let t = c.in_ok-sort_by.ensures.stable less order (always_returns_same _ _ _ (λ a r f' k. (search rules, search rules))) in
    runs-distinct (λ v. v.now) _ c.sort_by.new.self.items (g.L.ValueList.values c.args.values.now) c.count_runs.result c.in_ok-sorted.ensures.same s t
    (c.count_runs.ensures ∙ ap (λ l. runs l (λ a b. same_value a.now b.now)) c.as_slice.ensures.value)
