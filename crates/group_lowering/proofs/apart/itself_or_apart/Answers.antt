use Rattle.std.proofs.Common.{List, ap, refl, subst, sym, ◌∙◌}
use Rattle.std.specs.Prelude.{IfOk}
use Rattle.ps_frame.specs.Trees.{Tree, tree_at}
use Rattle.ps_meaning.specs.Steps.{Named, name_in}
use Rattle.ps_meaning.specs.declared.options.ExprIR.{ExprIR}
use Rattle.ps_rules.specs.Names.{Names}
use Rattle.plan_rules.specs.Reductions.{Apart}
use Rattle.lowering_parts.proofs.Going.{goes_added, goes_nowhere}
use Rattle.group_lowering.specs.Groups.{ComesApart}
use Rattle.group_lowering.proofs.ApartLemmas.{apart_is, itself_comes}
use Rattle.group_lowering.proofs.apart.itself_or_apart.Goals as goal

pub returns-then-not-is_reduction-clause-apart : goal.returns-then-not-is_reduction-clause-apart
returns-then-not-is_reduction-clause-apart c =
    let P : (Names → List Named → Apart) → Type 0 = λ rule. IfOk c.taken_apart.result (ComesApart rule c.args.arena.now.items c.taken_apart.new.arena.items c.args.low.now c.taken_apart.new.low c.args.found.now.items c.taken_apart.new.found.items) in
    subst P (sym (apart_is (name_in c.args.aggregate.now.output_name) (tree_at c.args.arena.now.items c.args.aggregate.now.node) (sym c.is_reduction.ensures ∙ c.if-not-is_reduction.true))) c.taken_apart.ensures.apart

pub returns-clause-apart : goal.returns-clause-apart
returns-clause-apart c =
    itself_comes c.args.arena.now.items c.add_column.new.arena.items c.args.low.now c.args.found.now.items c.push.new.self.items c.args.aggregate.now.node c.in_ok-column.column (name_in c.args.aggregate.now.output_name) c.in_ok-reduction.reduction c.requires.aggregate c.requires.cache c.requires.found c.add_column.ensures.entries c.add_column.ensures.kept
    (c.in_ok-column.ensures.tree ∙ ap Tree.column c.name_of.ensures) c.in_ok-push.ensures.items (ap (λ (e : ExprIR). name_in e.output_name) c.in_ok-reduction.ensures.same) (ap (λ (e : ExprIR). e.node) c.in_ok-reduction.ensures.same) (sym c.is_reduction.ensures ∙ c.if-not-is_reduction.false)

pub returns-in_err-column-clause-goes_on : goal.returns-in_err-column-clause-goes_on
returns-in_err-column-clause-goes_on c = goes_added c.args.arena.now.items c.args.arena.now.items c.add_column.new.arena.items c.args.low.now c.args.low.now (goes_nowhere c.args.arena.now.items c.args.low.now c.args.low.now c.requires.cache refl) c.add_column.ensures.entries c.add_column.ensures.kept

pub returns-in_err-reduction-clause-goes_on : goal.returns-in_err-reduction-clause-goes_on
returns-in_err-reduction-clause-goes_on c = goes_added c.args.arena.now.items c.args.arena.now.items c.add_column.new.arena.items c.args.low.now c.args.low.now (goes_nowhere c.args.arena.now.items c.args.low.now c.args.low.now c.requires.cache refl) c.add_column.ensures.entries c.add_column.ensures.kept

pub returns-in_err-push-clause-goes_on : goal.returns-in_err-push-clause-goes_on
returns-in_err-push-clause-goes_on c = goes_added c.args.arena.now.items c.args.arena.now.items c.add_column.new.arena.items c.args.low.now c.args.low.now (goes_nowhere c.args.arena.now.items c.args.low.now c.args.low.now c.requires.cache refl) c.add_column.ensures.entries c.add_column.ensures.kept

pub returns-clause-goes_on : goal.returns-clause-goes_on
returns-clause-goes_on c = goes_added c.args.arena.now.items c.args.arena.now.items c.add_column.new.arena.items c.args.low.now c.args.low.now (goes_nowhere c.args.arena.now.items c.args.low.now c.args.low.now c.requires.cache refl) c.add_column.ensures.entries c.add_column.ensures.kept
