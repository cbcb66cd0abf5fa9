use Rattle.ps_frame.proofs.Lists.{list_all-at}
use Rattle.ps_frame.specs.Values.{fits_kind}
use Rattle.ps_frame.proofs.packed.push_or_null.Goals as goal

pub push-requires : goal.push-requires
push-requires c = rw c.requires.kinds (list_all-at (fits_kind c.args.column.now.kind) c.args.column.now.values c.in-Some.i c.value.result.now c.values_fit.ensures c.value.ensures)
