use Rattle.std.proofs.Common.{ap, sym, ◌∙◌}
use Rattle.std.specs.Option.{option_copied}
use Rattle.lowering_parts.proofs.NodeLemmas.{same_there, schema_nowhere}
use Rattle.lowering_parts.proofs.nodes.schema_of.Goals as goal

pub returns-in-Some-clause-schema : goal.returns-in-Some-clause-schema
returns-in-Some-clause-schema c f =
    same_there c.cloned.result f c.args.low.now.phys_sm.slots c.args.stream.node.0 c.args.stream.port c.in-Some.node.now (sym c.get.ensures ∙ ap option_copied c.in-Some.is) c.cloned.ensures.same

pub returns-in-None-clause-schema : goal.returns-in-None-clause-schema
returns-in-None-clause-schema c f = c.new.ensures ∙ schema_nowhere f c.args.low.now.phys_sm.slots c.args.stream.node.0 c.args.stream.port (sym c.get.ensures ∙ ap option_copied c.in-None.is)
