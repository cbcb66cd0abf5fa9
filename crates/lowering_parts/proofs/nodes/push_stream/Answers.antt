use Rattle.std.proofs.Common.{ap, sym, ◌∙◌, ◌++◌}
use Rattle.std.specs.Option.{option_copied}
use Rattle.std.proofs.lemmas.List.{append-nil}
use Rattle.lowering_parts.proofs.NodeLemmas.{pushed_there, schema_nowhere}
use Rattle.lowering_parts.proofs.nodes.push_stream.Goals as goal

pub returns-in-Some-clause-added : goal.returns-in-Some-clause-added
returns-in-Some-clause-added c f =
    pushed_there c.push_all.result f c.args.low.now.phys_sm.slots c.args.stream.node.0 c.args.stream.port c.in-Some.node.now c.args.schema.now c.push_all.new.schema (sym c.get.ensures ∙ ap option_copied c.in-Some.is) c.push_all.ensures.added

pub returns-in-None-clause-added : goal.returns-in-None-clause-added
returns-in-None-clause-added c f =
    sym (append-nil c.args.schema.now) ∙ ap (λ fs. c.args.schema.now ++ fs) (schema_nowhere f c.args.low.now.phys_sm.slots c.args.stream.node.0 c.args.stream.port (sym c.get.ensures ∙ ap option_copied c.in-None.is))
