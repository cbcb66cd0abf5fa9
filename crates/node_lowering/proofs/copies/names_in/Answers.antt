use Rattle.std.proofs.Common.{arith}
use Rattle.node_lowering.proofs.NameLemmas.{names_end, names_step}
use Rattle.node_lowering.proofs.copies.names_in.Goals as goal

pub loop-i-preserved : goal.loop-i-preserved
loop-i-preserved c = names_step c.args.schema.now c.loop-i.i c.name.result.now c.in_ok-copied.field-0 c.loop-i.names.items c.push.new.self.items c.name.ensures c.in_ok-copied.ensures.same c.in_ok-push.ensures.items c.loop-i.invariant

pub returns-clause-names : goal.returns-clause-names
returns-clause-names c = names_end c.args.schema.now c.loop-i.i c.loop-i.names.items (let past = c.loop-i-test.false in let count = c.len-i-end.ensures in omega arith) c.loop-i.invariant
