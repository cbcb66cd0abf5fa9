use Rattle.lowering_parts.proofs.ReadLemmas.{itself_column}
use Rattle.lowering_parts.proofs.reads.add_own.Goals as goal

pub returns-in-Column-clause-added : goal.returns-in-Column-clause-added
returns-in-Column-clause-added c test h =
    itself_column c.add_place.result c.args.schema.now test c.add_place.new.places c.args.entry.now c.in-Column.name c.in-Column.is (c.add_place.ensures.added test h)
