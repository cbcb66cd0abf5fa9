use Rattle.std.proofs.Common.{ap, refl, sym, ◌∙◌}
use Rattle.std.specs.Prelude.{flat_map, false}
use Rattle.pu_base.specs.declared.arena.Node.{Node}
use Rattle.ps_frame.specs.Trees.{Tree}
use Rattle.ps_meaning.specs.Shape.{zip_node}
use Rattle.ps_phys.specs.Shown.{streams_of}
use Rattle.ps_rules.specs.Slots.{schema_at}
use Rattle.lowering_parts.specs.Gathered.{made_of, state_of}
use Rattle.lowering_parts.specs.Operations.{only_stream}
use Rattle.lowering_parts.proofs.NodeLemmas.{node_later, several}
use Rattle.lowering_parts.proofs.nodes.one_of_all.Goals as goal

pub returns-clause-made : goal.returns-clause-made
returns-clause-made c f input =
    let apart = ap only_stream (sym c.as_slice.ensures.value) ∙ sym c.only_one.ensures ∙ c.in_default.is in
    let s = state_of f c.args.low.now in
    node_later (zip_node false) (zip_node false) c.in_ok-schema.schema (flat_map (schema_at s.nodes) (streams_of c.args.streams.items)) c.args.low.now.origin.0 (streams_of c.new-inputs.result) (streams_of c.args.streams.items)
    (made_of f c.insert.new.low c.in_ok-stream.stream) s refl (c.in_ok-schema.ensures.schema f ∙ ap (λ ss. flat_map (schema_at s.nodes) (streams_of ss)) c.as_slice-2.ensures.value) (ap streams_of c.new-inputs.ensures) (c.in_ok-stream.ensures.made f)
    ∙ sym (several c.args.low.now.origin.0 input c.args.streams.items s apart)
