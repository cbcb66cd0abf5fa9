use Rattle.node_lowering.proofs.NameLemmas.{keys_step, trees_end}
use Rattle.node_lowering.proofs.joins.keys_of.Goals as goal

pub loop-i-preserved : goal.loop-i-preserved
loop-i-preserved c =
    λ f. keys_step f c.loop-i.keys.items c.push.new.self.items c.in_ok-under_name_of.field-0 c.args.answers.now c.loop-i.i (record { 0 = 0 }) c.loop-i-test.true c.in_ok-under_name_of.ensures.node c.in_ok-push.ensures.items (c.loop-i.invariant f)

pub returns-clause-keys : goal.returns-clause-keys
returns-clause-keys c = λ f. trees_end f c.args.answers.now c.loop-i.i _ c.loop-i-test.false (c.loop-i.invariant f)
