use Rattle.std.proofs.Common.{refl}
use Rattle.std.specs.Prelude.{Some}
use Rattle.ps_frame.proofs.Gathers.{list_all-picked}
use Rattle.ps_frame.specs.Values.{fits_kind}
use Rattle.ps_frame.proofs.packed.Packed.values_fit.Goals as goal

pub returns : goal.returns
returns c =
    let a = c.self.inside in
    rw (← c.self.view_is) (list_all-picked (fits_kind a.dtype) (Some a.places.items) a.few.items refl c.self.invariant.1)
