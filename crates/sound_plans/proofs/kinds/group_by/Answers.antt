use Rattle.std.proofs.Common.{false, None, sym, ◌∙◌}
use Rattle.ps_frame.specs.Trees.{tree_at}
use Rattle.ps_frame.specs.Typing.{is_elementwise}
use Rattle.ps_meaning.specs.Steps.{named_trees}
use Rattle.sound_plans.specs.Tested.{is_reduction}
use Rattle.sound_plans.proofs.Fits.{carried, group-fit, named}
use Rattle.sound_plans.proofs.kinds.group_by.Goals as goal

pub returns-clause-fit : goal.returns-clause-fit
returns-clause-fit g c =
    let f = tree_at c.args.arena.now.items in
    carried c.grouped.result c.grouped.ensures.fit
    (λ p F. group-fit F c.args.input.now c.args.schema.now (named_trees f c.args.keys.now) (named_trees f c.args.aggs.now) (p F false None) (named (is_elementwise) f c.args.keys.now (sym c.in_ok-elementwise.ensures.pass ∙ c.if-not-elementwise.false)) (named (is_reduction) f c.args.aggs.now (sym c.in_ok-reductions.ensures.pass ∙ c.if-not-reductions.false)))
