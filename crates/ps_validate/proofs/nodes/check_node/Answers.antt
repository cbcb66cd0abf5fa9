use Rattle.std.proofs.Common.{inl, inr, subst}
use Rattle.ps_frame.specs.Trees.{tree_at}
use Rattle.ps_frame.specs.declared.refusal.PolarsError.{PolarsError}
use Rattle.ps_plan.specs.Entries.{entry_inputs, entry_step}
use Rattle.ps_validate.proofs.Typed.{passed-on}
use Rattle.ps_validate.proofs.nodes.check_node.Goals as goal
use Rattle.ps_validate.specs.Checks.{IsCheckError}
use Rattle.ps_validate.specs.Fit.{IsEntryError}
use Rattle.valid_plans.specs.Known.{schemas_in}

pub returns-in_err-check_place-clause-refused : goal.returns-in_err-check_place-clause-refused
returns-in_err-check_place-clause-refused g c =
    passed-on (λ (e : PolarsError). IsCheckError (g.F.Functions.told c.args.functions.now) c.args.root c.args.at (entry_step (tree_at c.args.exprs.now.items) c.args.entry.now) (entry_inputs c.args.entry.now) (schemas_in c.args.schemas.now (entry_inputs c.args.entry.now)) e)
    c.in_err-check_place.field-0.0 c.from_residual.result c.from_residual.ensures.1 (inl (c.in_err-check_place.ensures.refused (tree_at c.args.exprs.now.items)))

pub returns-in_err-check_entry-clause-refused : goal.returns-in_err-check_entry-clause-refused
returns-in_err-check_entry-clause-refused g c =
    passed-on (λ (e : PolarsError). IsCheckError (g.F.Functions.told c.args.functions.now) c.args.root c.args.at (entry_step (tree_at c.args.exprs.now.items) c.args.entry.now) (entry_inputs c.args.entry.now) (schemas_in c.args.schemas.now (entry_inputs c.args.entry.now)) e)
    c.in_err-check_entry.field-0.0 c.from_residual-in_err-check_entry.result c.from_residual-in_err-check_entry.ensures.1
    (inr (inl (subst (λ n. IsEntryError n c.args.at (entry_step (tree_at c.args.exprs.now.items) c.args.entry.now) (entry_inputs c.args.entry.now) c.in_err-check_entry.field-0.0) c.count.ensures (c.in_err-check_entry.ensures.refused (tree_at c.args.exprs.now.items)))))
