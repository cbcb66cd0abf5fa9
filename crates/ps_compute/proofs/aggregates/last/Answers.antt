use Rattle.std.proofs.Common.{◌-◌, sym, ◌∙◌, ap, Some}
use Rattle.std.specs.Prelude.{slice_get}
use Rattle.ps_compute.proofs.Aggregation.{last-is}
use Rattle.ps_compute.proofs.aggregates.last.Goals as goal

pub returns-else-count-eq0 : goal.returns-else-count-eq0
returns-else-count-eq0 g c =
    let values = g.L.ValueList.values c.args.values.now in
    last-is values (Some c.value.result.now) (sym c.value.ensures ∙ ap (λ n. slice_get values (n - 1)) c.len-count.ensures)
