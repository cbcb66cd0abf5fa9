use Rattle.std.proofs.Common.{arith}
use Rattle.lowering_parts.proofs.ReadLemmas.{name_pushed, names_end}
use Rattle.lowering_parts.proofs.reads.names_at.Goals as goal

pub loop-place-preserved : goal.loop-place-preserved
loop-place-preserved c test h =
    name_pushed c.args.schema.now test c.args.places.now c.loop-place.place-counter c.name.result.now c.name.ensures h c.contains.result c.loop-place.names.items c.push_if.new.names.items c.contains.ensures c.in_ok-push_if.ensures.pushed
    (c.loop-place.invariant test h)

pub returns-clause-names : goal.returns-clause-names
returns-clause-names c test h = names_end c.args.schema.now test c.loop-place.place-counter c.loop-place.names.items (omega arith) (c.loop-place.invariant test h)
