use Rattle.std.proofs.Common.{◌≡◌, ◌++◌, List, ap, subst, ◌∙◌, arith}
use Rattle.std.specs.Prelude.{IfOk}
use Rattle.std.proofs.lemmas.List.{take_all}
use Rattle.ps_frame.proofs.Packing.{above-parts}
use Rattle.ps_frame.specs.Series.{Series}
use Rattle.ps_frame.specs.declared.value.Value.{Value}
use Rattle.ps_frame.proofs.builder.ColumnBuilder.followed_by.Goals as goal

pub with_clones-requires : goal.with_clones-requires
with_clones-requires c = rw (c.unpack.ensures.same, c.in_ok-count.ensures.added, c.in_ok-rest.ensures.part) c.requires

pub returns-then-count-height : goal.returns-then-count-height
returns-then-count-height c =
    let start = c.args.self in
    record { added = c.in_ok-count.ensures.added ∙ ap (λ (vs : List Value). let t : Series = record { kind = start.kind; values = start.values ++ vs } in t) (take_all c.in_ok-count.count c.args.column.now.values (omega arith)) }

pub returns : goal.returns
returns c =
    let whole = above-parts c.args.self c.args.column.now c.unpack.new.self c.in_ok-rest.rest c.in_ok-count.count c.len-height.result (c.unpack.ensures.same ∙ c.in_ok-count.ensures.added) c.in_ok-rest.ensures.part c.len-height.ensures in
    record { added = subst (λ (t : Series). IfOk c.with_clones.result (λ built. built ≡ t)) whole c.with_clones.ensures.added }
