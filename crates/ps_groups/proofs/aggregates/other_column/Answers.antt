use Rattle.std.proofs.Common.{arith, rules}
use Rattle.std.proofs.lemmas.Grind.{common_steps}
use Rattle.ps_groups.proofs.aggregates.other_column.Goals as goal

pub grouped_column-requires-clause-together : goal.grouped_column-requires-clause-together
grouped_column-requires-clause-together c = first_of (search rules, grind (arith, common_steps))
