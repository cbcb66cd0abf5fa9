use Rattle.std.proofs.Common.{◌≡◌, subst, get_or, refl}
use Rattle.std.specs.Prelude.{IfOk, map}
use Rattle.ps_frame.proofs.Gathers.{column-gathered, column-within}
use Rattle.ps_frame.specs.Series.{Series}
use Rattle.ps_frame.proofs.column.Column.pick.Goals as goal

made : (c : goal.In_ok-new-in-Some) → c.in_ok-new-in-Some.field-0 ≡ map (λ i. get_or c.in-Some.places i 0) c.args.rows.now
made c = rw (c.in_ok-new-in-Some.ensures.made, c.in_ok-places-in-Some.ensures.picked, c.as_slice.ensures, c.as_slice-in-Some.ensures) refl

pub of_places-requires-clause-there : goal.of_places-requires-clause-there
of_places-requires-clause-there c =
    let a = c.self.inside in
    column-within a.dtype a.run a.places c.in-Some.places c.args.self.now c.args.rows.now c.in_ok-new-in-Some.field-0 c.self.view_is c.in-Some.is (made c) c.self.invariant.0 c.requires

pub returns-in_ok-new-in-Some-clause-picked : goal.returns-in_ok-new-in-Some-clause-picked
returns-in_ok-new-in-Some-clause-picked c =
    let a = c.self.inside in
    let same = column-gathered a.dtype a.run a.places c.in-Some.places c.args.self.now c.args.rows.now c.in_ok-new-in-Some.field-0 c.self.view_is c.in-Some.is (rw (c.in_ok-new-in-Some.ensures.made, c.in_ok-places-in-Some.ensures.picked, c.as_slice.ensures, c.as_slice-in-Some.ensures) refl) c.requires in
    subst (λ (t : Series). IfOk c.of_places.result (λ part. part ≡ t)) same c.of_places.ensures.made
