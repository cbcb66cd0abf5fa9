use Rattle.std.proofs.Common.{ap, sym, ◌∙◌}
use Rattle.ps_phys.specs.declared.phys.PhysNodeKind.TheVariants as phys
use Rattle.sound_plans.proofs.Naming.{node-groups, node-independent, node-reduce, node-select}
use Rattle.sound_plans.proofs.named.node_names_below.Goals as goal

pub returns-in-Select : goal.returns-in-Select
returns-in-Select c = λ yes.
    node-select c.args.number c.args.kind.now c.in-Select.input c.as_slice.result.now c.in-Select.extend_original (c.in-Select.is ∙ ap (λ xs. phys.Select c.in-Select.input xs c.in-Select.extend_original) (sym c.as_slice.ensures)) (c.are_there.ensures yes)

pub returns-in-InputIndependentSelect : goal.returns-in-InputIndependentSelect
returns-in-InputIndependentSelect c = λ yes.
    node-independent c.args.number c.args.kind.now c.as_slice-in-InputIndependentSelect.result.now (c.in-InputIndependentSelect.is ∙ ap (λ xs. phys.InputIndependentSelect xs) (sym c.as_slice-in-InputIndependentSelect.ensures)) (c.are_there-in-InputIndependentSelect.ensures yes)

pub returns-in-Reduce : goal.returns-in-Reduce
returns-in-Reduce c = λ yes.
    node-reduce c.args.number c.args.kind.now c.in-Reduce.input c.as_slice-in-Reduce.result.now (c.in-Reduce.is ∙ ap (λ xs. phys.Reduce c.in-Reduce.input xs) (sym c.as_slice-in-Reduce.ensures)) (c.are_there-in-Reduce.ensures yes)

pub returns-in-GroupBy : goal.returns-in-GroupBy
returns-in-GroupBy c = λ yes.
    node-groups c.args.number c.args.kind.now c.in-GroupBy.input c.as_slice-in-GroupBy.result.now c.as_slice-in-GroupBy-2.result.now
    (c.in-GroupBy.is ∙ ap (λ xs. phys.GroupBy c.in-GroupBy.input xs c.in-GroupBy.aggs) (sym c.as_slice-in-GroupBy.ensures) ∙ ap (λ xs. phys.GroupBy c.in-GroupBy.input c.as_slice-in-GroupBy.result.now xs) (sym c.as_slice-in-GroupBy-2.ensures)) (c.both_there.ensures yes)
