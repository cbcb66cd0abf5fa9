use Rattle.std.proofs.Common.{◌++◌, [], List, ap, ◌∙◌, arith}
use Rattle.std.proofs.lemmas.List.{take_all}
use Rattle.ps_frame.proofs.Packing.{above-both}
use Rattle.ps_frame.specs.Series.{Series}
use Rattle.ps_frame.specs.declared.value.DataType.{DataType}
use Rattle.ps_frame.specs.declared.value.Value.{Value}
use Rattle.ps_frame.proofs.packed.pack_above.Goals as goal

pub returns-clause-same : goal.returns-clause-same
returns-clause-same c =
    let upper = c.args.upper.now in
    let lower = c.args.lower.now in
    let none = c.new-packed.ensures ∙ ap (λ (k : DataType). let t : Series = record { kind = k; values = [] } in t) c.dtype.ensures in
    let one = c.new-packed.result in
    let two = c.push_first.new.self in
    above-both upper lower one two c.push_first-2.new.self none
    (c.in_ok-upper_count.ensures.added ∙ ap (λ (vs : List Value). let t : Series = record { kind = one.kind; values = one.values ++ vs } in t) (take_all c.in_ok-upper_count.upper_count upper.values (omega arith)))
    (c.in_ok-lower_count.ensures.added ∙ ap (λ (vs : List Value). let t : Series = record { kind = two.kind; values = two.values ++ vs } in t) (take_all c.in_ok-lower_count.lower_count lower.values (omega arith)))
