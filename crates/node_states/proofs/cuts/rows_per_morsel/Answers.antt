-- Both round a quotient up.
use Rattle.std.proofs.Common.{◌+◌, ◌-◌, ◌/◌, ◌∙◌, ap, max}
use Rattle.node_states.proofs.Ceilings.{ceiling}
use Rattle.node_states.proofs.cuts.rows_per_morsel.Goals as goal

pub returns : goal.returns
returns c = c.max.ensures ∙ ap (λ q. max q 1) (c.div_ceil.ensures ∙ ceiling c.args.rows c.cuts.result c.cuts.ensures.some ∙ ap (λ k. (c.args.rows + (k - 1)) / k) c.cuts.ensures.cuts)
