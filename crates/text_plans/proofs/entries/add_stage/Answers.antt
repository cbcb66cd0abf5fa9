use Rattle.std.proofs.Common.{◌≡◌, ◌∙◌, ap, sym}
use Rattle.std.proofs.lemmas.Result.{err_from_is_err_and}
use Rattle.std.specs.Prelude.{Err, Some, length}
use Rattle.ps_plan.specs.Plans.{plan_at}
use Rattle.text_plans.proofs.Planned.{added-plan}
use Rattle.text_plans.proofs.Wholes.{stage-whole}
use Rattle.text_plans.specs.FoundTables.{tables_in}
use Rattle.text_queries.specs.Views.{stage_of}
use Rattle.text_tokens.specs.declared.error.TextError.TheVariants as refusal
use Rattle.text_plans.proofs.entries.add_stage.Goals as goal

pub returns-in_err-entry-clause-unknown : goal.returns-in_err-entry-clause-unknown
returns-in_err-entry-clause-unknown c = λ missing e.
    let p = err_from_is_err_and c.from_residual.result c.from_residual.ensures.1 in
    let same : c.in_err-entry.field-0.0 ≡ refusal.UnknownTable missing = cc in
    c.in_err-entry.ensures.unknown missing (ap (λ x. Err x) same)

pub returns-clause-tree : goal.returns-clause-tree
returns-clause-tree c =
    let whole = stage-whole (tables_in c.args.tables.now) (length c.args.nodes.now.items) (plan_at c.args.nodes.now.items c.args.exprs.now.items c.args.input) (stage_of c.args.stage.now) _ c.requires c.in_ok-entry.ensures.tree in
    c.in_ok-entry.ensures.tree
    ∙ ap (λ t. Some t) (sym (added-plan c.stage_entry.new.nodes.items c.in_ok-entry.entry c.args.exprs.now.items c.stage_entry.new.exprs.items c.in_ok-entry.ensures.kept c.add.new.self.items c.in_ok-node.ensures.added c.in_ok-node.node c.in_ok-node.ensures.number whole.1))

pub returns-clause-whole : goal.returns-clause-whole
returns-clause-whole c =
    let whole = stage-whole (tables_in c.args.tables.now) (length c.args.nodes.now.items) (plan_at c.args.nodes.now.items c.args.exprs.now.items c.args.input) (stage_of c.args.stage.now) in
    whole _ c.requires (returns-clause-tree c)
