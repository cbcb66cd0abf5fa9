use Rattle.std.proofs.Common.{◌≡◌, [], ◌∷◌}
use Rattle.std.specs.Prelude.{Some}
use Rattle.lowering_parts.proofs.Going.{begins_equal, begins_more, on_err}
use Rattle.lowering_parts.proofs.nodes.insert.Goals as goal

pub returns-clause-nodes : goal.returns-clause-nodes
returns-clause-nodes c = begins_more c.args.low.now.phys_sm.slots c.insert.new.self.slots (Some c.new-node.result ∷ []) c.in_ok-key.ensures.added

pub returns-in_err-key-clause-nodes : goal.returns-in_err-key-clause-nodes
returns-in_err-key-clause-nodes c = begins_equal c.args.low.now.phys_sm.slots c.insert.new.self.slots (λ i. (c.in_err-key.ensures.unchanged i).slots)

pub returns-in_err-key-clause-same : goal.returns-in_err-key-clause-same
returns-in_err-key-clause-same c =
    let same : record c.args.low.now { phys_sm = c.insert.new.self } ≡ c.args.low.now = λ i. record c.args.low.now { phys_sm = c.in_err-key.ensures.unchanged i } in
    on_err c.from_residual.result same
