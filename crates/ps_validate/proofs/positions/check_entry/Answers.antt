use Rattle.std.proofs.Common.{◌≡◌, ℕ, List, ap, subst, sym, ◌∙◌}
use Rattle.pu_base.specs.declared.arena.Node.{Node}
use Rattle.ps_frame.specs.Trees.{Tree}
use Rattle.ps_frame.specs.declared.refusal.PolarsError.{PolarsError}
use Rattle.ps_meaning.specs.Steps.{Step, group_step, join, key_trees, sort_step}
use Rattle.ps_plan.specs.Entries.{entry_inputs, entry_step}
use Rattle.ps_meaning.specs.declared.options.ExprIR.{ExprIR}
use Rattle.ps_plan.specs.declared.ir.IR.{IR}
use Rattle.ps_meaning.specs.declared.options.JoinArgs.{JoinArgs}
use Rattle.ps_validate.proofs.Arms.{if-error}
use Rattle.ps_validate.proofs.Fitting.{step-error}
use Rattle.ps_validate.proofs.positions.check_entry.Goals as goal
use Rattle.ps_validate.specs.Entries.{IsStepError}
use Rattle.ps_validate.specs.Fit.{IsEntryError}

-- an error of the step is one of the entry
by-step : (count : ℕ) (at : Node) (f : Node → Tree) (x : IR) (step : Step) (e : PolarsError) → entry_step f x ≡ step → IsStepError at step e → IsEntryError count at (entry_step f x) (entry_inputs x) e
by-step count at f x step e is h = subst (λ s. IsEntryError count at s (entry_inputs x) e) (sym is) (step-error count at step (entry_inputs x) e h)

abbrev join-by : (Node → Tree) → JoinArgs → List ExprIR → List ExprIR → Step
join-by f args right left = join (record { left_on = key_trees f left; right_on = key_trees f right; args = args })

pub returns-in-Sort-clause-refused : goal.returns-in-Sort-clause-refused
returns-in-Sort-clause-refused c =
    if-error (λ e. (f : Node → Tree) → IsEntryError c.args.count c.args.at (entry_step f c.args.entry.now) (entry_inputs c.args.entry.now) e) c.check_sort.result c.check_sort.ensures.refused
    (λ e h f. by-step c.args.count c.args.at f c.args.entry.now (sort_step f c.as_slice.result.now c.in-Sort.slice c.in-Sort.sort_options) e (ap (entry_step f) c.in-Sort.is ∙ ap (λ es. sort_step f es c.in-Sort.slice c.in-Sort.sort_options) (sym c.as_slice.ensures)) (h f c.in-Sort.slice))

pub returns-in-GroupBy-clause-refused : goal.returns-in-GroupBy-clause-refused
returns-in-GroupBy-clause-refused c =
    if-error (λ e. (f : Node → Tree) → IsEntryError c.args.count c.args.at (entry_step f c.args.entry.now) (entry_inputs c.args.entry.now) e) c.check_group_by.result c.check_group_by.ensures.refused
    (λ e h f. by-step c.args.count c.args.at f c.args.entry.now (group_step f c.as_slice-in-GroupBy.result.now c.in-GroupBy.aggs c.in-GroupBy.maintain_order c.in-GroupBy.options.slice) e
    (ap (entry_step f) c.in-GroupBy.is ∙ ap (λ es. group_step f es c.in-GroupBy.aggs c.in-GroupBy.maintain_order c.in-GroupBy.options.slice) (sym c.as_slice-in-GroupBy.ensures)) (h f c.in-GroupBy.aggs c.in-GroupBy.maintain_order c.in-GroupBy.options.slice))

pub returns-in-Join-clause-refused : goal.returns-in-Join-clause-refused
returns-in-Join-clause-refused c =
    if-error (λ e. (f : Node → Tree) → IsEntryError c.args.count c.args.at (entry_step f c.args.entry.now) (entry_inputs c.args.entry.now) e) c.check_join.result c.check_join.ensures.refused
    (λ e h f. by-step c.args.count c.args.at f c.args.entry.now (join-by f c.in-Join.options c.as_slice-in-Join-2.result.now c.as_slice-in-Join.result.now) e
    (ap (entry_step f) c.in-Join.is ∙ ap (join-by f c.in-Join.options c.in-Join.right_on) (sym c.as_slice-in-Join.ensures) ∙ ap (λ rs. join-by f c.in-Join.options rs c.as_slice-in-Join.result.now) (sym c.as_slice-in-Join-2.ensures)) (h f))
