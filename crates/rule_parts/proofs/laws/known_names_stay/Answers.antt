use Rattle.rule_parts.proofs.Growing.{known_names_stay}
use Rattle.rule_parts.proofs.laws.known_names_stay.Goals as goal

pub returns : goal.returns
returns c = known_names_stay
