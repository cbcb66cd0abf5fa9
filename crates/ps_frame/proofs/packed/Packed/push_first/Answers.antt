use Rattle.std.proofs.Common.{◌≡◌, ◌++◌, List, take, subst}
use Rattle.std.specs.Prelude.{IfOk}
use Rattle.ps_frame.specs.Series.{Series}
use Rattle.ps_frame.specs.declared.value.Value.{Value}
use Rattle.ps_frame.proofs.packed.Packed.push_first.Goals as goal

pub push_shown-requires : goal.push_shown-requires
push_shown-requires c = rw (c.in-Some.ensures, c.requires) c.values_fit.ensures

pub push_each-requires : goal.push_each-requires
push_each-requires c = rw c.requires c.values_fit.ensures

pub returns-in-Some-clause-added : goal.returns-in-Some-clause-added
returns-in-Some-clause-added c =
    let start = c.args.self.now in
    subst (λ (vs : List Value). IfOk c.push_shown.result (λ count. c.push_shown.new.self ≡ (let t : Series = record { kind = start.kind; values = start.values ++ take count vs } in t))) c.in-Some.ensures c.push_shown.ensures.added
