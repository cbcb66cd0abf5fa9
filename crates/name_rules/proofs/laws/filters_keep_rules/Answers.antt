use Rattle.name_rules.proofs.Ruling.{filters_keep_rules}
use Rattle.name_rules.proofs.laws.filters_keep_rules.Goals as goal

pub returns : goal.returns
returns c = filters_keep_rules
