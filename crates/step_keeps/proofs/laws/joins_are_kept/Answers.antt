use Rattle.step_keeps.proofs.CellSteps.{keyed_joins_keep}
use Rattle.step_keeps.proofs.WholeJoins.{whole_joins_keep}
use Rattle.step_keeps.proofs.laws.joins_are_kept.Goals as goal

pub returns-clause-whole : goal.returns-clause-whole
returns-clause-whole c = λ F at schema s l r o has whole. whole_joins_keep F at o schema l r s has.fields has.distinct_names whole

pub returns-clause-keyed : goal.returns-clause-keyed
returns-clause-keyed c = λ F at schema s l r o has keyed cl cr sl sr. keyed_joins_keep F at o schema l r s keyed cl cr sl sr has.fields has.distinct_names
