use Rattle.std.proofs.Common.{IsTrue}
use Rattle.ps_frame.proofs.Lists.{list_all-append}
use Rattle.ps_frame.specs.Series.{all_fit}
use Rattle.ps_frame.specs.Values.{fits_kind}
use Rattle.ps_frame.proofs.builder.ColumnBuilder.with_clones.Goals as goal

pub invariant_of-result : goal.invariant_of-result
invariant_of-result c =
    let a = c.self.inside in
    let kinds = rw (← c.self.view_is) at c.requires in
    let more : IsTrue (all_fit a.packed.kind c.args.column.now.values) = rw kinds c.values_fit.ensures in
    (c.self.invariant.0, rw c.in_ok-push_clones.ensures.added (list_all-append (fits_kind a.packed.kind) a.rest.items c.args.column.now.values c.self.invariant.1 more))
