use Rattle.std.proofs.Common.{arith, ◌∙◌}
use Rattle.lowering_parts.proofs.NameLemmas.{same_item, under_end, under_step}
use Rattle.lowering_parts.proofs.names.under_names.Goals as goal

pub loop-i-preserved : goal.loop-i-preserved
loop-i-preserved c f =
    let m = c.min-count.ensures in
    let lt = c.loop-i-test.true in
    under_step f c.args.names.now c.args.exprs.now c.loop-i.i (record { 0 = 0 }) c.loop-i.named.items c.push.new.self.items c.under_name.result (omega arith) (omega arith) c.in_ok-push.ensures.items (c.under_name.ensures.name ∙ c.in_ok-copied.ensures.same ∙ c.index-names-i.is ∙ same_item c.args.names.now c.loop-i.i c.index-names-i.result (omega arith))
    c.under_name.ensures.node (c.loop-i.invariant f)

pub returns-clause-named : goal.returns-clause-named
returns-clause-named c f = under_end f c.args.names.now c.args.exprs.now c.loop-i.i c.min-count.result _ c.min-count.ensures c.loop-i-test.false c.loop-i.auto.i-end (c.loop-i.invariant f)
