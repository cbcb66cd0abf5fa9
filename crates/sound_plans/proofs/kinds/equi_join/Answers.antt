use Rattle.std.proofs.Common.{sym, ◌∙◌}
use Rattle.ps_frame.specs.Trees.{tree_at}
use Rattle.ps_phys.specs.Shown.{join_of}
use Rattle.sound_plans.proofs.Fits.{carried, equi-fit}
use Rattle.sound_plans.proofs.kinds.equi_join.Goals as goal

pub returns-clause-fit : goal.returns-clause-fit
returns-clause-fit g c =
    let f = tree_at c.args.arena.now.items in
    carried c.join.result c.join.ensures.fit
    (λ p F. equi-fit F (join_of f c.args.left_on.now c.args.right_on.now c.args.args.now) c.args.left.now c.args.right.now c.args.schema.now (p F) (sym c.in_ok-elementwise.ensures.pass ∙ c.if-not-elementwise.false) (sym c.in_ok-also.ensures.pass ∙ c.if-not-also.false) (sym c.goes_by_left-goes.ensures ∙ c.if-not-goes.false) (c.is_uncut-uncut.ensures c.if-not-uncut.false))
