use Rattle.std.proofs.Common.{refl}
use Rattle.graph_parts.proofs.PortKeys.{key_known, key_new}
use Rattle.graph_parts.proofs.keys.note.Goals as goal

pub returns-then-contains_key-clause-keyed : goal.returns-then-contains_key-clause-keyed
returns-then-contains_key-clause-keyed c = λ before size keyed. key_known before c.args.keys.now.slots c.args.node.0 keyed (c.if-contains_key.ensures.0 refl)

pub returns-clause-keyed : goal.returns-clause-keyed
returns-clause-keyed c = λ before size keyed.
    key_new before c.args.keys.now.slots c.insert.new.self.slots c.args.node.0 c.args.key keyed c.if-contains_key.ensures.1 size c.in_ok-insert.ensures.updates
