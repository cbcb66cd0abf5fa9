use Rattle.std.proofs.Common.{ap, sym, ◌∙◌}
use Rattle.ps_meaning.specs.declared.map.MapKind.TheVariants as kind
use Rattle.sound_plans.proofs.Naming.{map-groups, map-select}
use Rattle.sound_plans.proofs.named.map_names_below.Goals as goal

pub returns-in-Select : goal.returns-in-Select
returns-in-Select c = λ yes.
    map-select c.args.number c.args.map.now c.as_slice.result.now (c.in-Select.is ∙ ap (λ xs. kind.Select xs) (sym c.as_slice.ensures)) (c.are_there.ensures yes)

pub returns-in-GroupBy : goal.returns-in-GroupBy
returns-in-GroupBy c = λ yes.
    map-groups c.args.number c.args.map.now c.as_slice-in-GroupBy.result.now c.as_slice-in-GroupBy-2.result.now c.in-GroupBy.maintain_order c.in-GroupBy.slice
    (c.in-GroupBy.is ∙ ap (λ xs. kind.GroupBy xs c.in-GroupBy.aggs c.in-GroupBy.maintain_order c.in-GroupBy.slice) (sym c.as_slice-in-GroupBy.ensures) ∙ ap (λ xs. kind.GroupBy c.as_slice-in-GroupBy.result.now xs c.in-GroupBy.maintain_order c.in-GroupBy.slice) (sym c.as_slice-in-GroupBy-2.ensures)) (c.both_there.ensures yes)
