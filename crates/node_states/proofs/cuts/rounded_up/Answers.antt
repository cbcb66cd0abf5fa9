-- Both round a quotient up.
use Rattle.std.proofs.Common.{◌*◌, ◌∙◌, ap}
use Rattle.node_states.proofs.Ceilings.{ceiling}
use Rattle.node_states.proofs.cuts.rounded_up.Goals as goal

pub returns-clause-rounded : goal.returns-clause-rounded
returns-clause-rounded c = ap (λ q. q * c.args.unit) (c.div_ceil.ensures ∙ ceiling c.args.n c.args.unit c.requires.some)
