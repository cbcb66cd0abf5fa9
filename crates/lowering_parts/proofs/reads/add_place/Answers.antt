use Rattle.std.proofs.Common.{ap, sym, ◌∙◌}
use Rattle.ps_frame.specs.Tables.{field_index}
use Rattle.lowering_parts.proofs.ReadLemmas.{place_added, place_missing}
use Rattle.lowering_parts.proofs.reads.add_place.Goals as goal

pub returns-in_default-clause-added : goal.returns-in_default-clause-added
returns-in_default-clause-added c test h =
    place_missing c.args.name.now c.args.schema.now test c.args.places.now (ap (λ n. field_index n c.args.schema.now) (sym c.as_str.ensures) ∙ sym c.index_of.ensures ∙ c.in_default.is) h

pub returns-clause-added : goal.returns-clause-added
returns-clause-added c test h =
    place_added c.args.name.now c.args.schema.now c.in-Some.place test c.args.places.now c.insert.new.self c.names_differ.ensures
    (ap (λ n. field_index n c.args.schema.now) (sym c.as_str.ensures) ∙ sym c.index_of.ensures ∙ c.in-Some.is) c.in_ok-_added.ensures.updates h
