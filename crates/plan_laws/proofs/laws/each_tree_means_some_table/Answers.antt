use Rattle.plan_laws.proofs.SomeMeaning.{some-meaning}
use Rattle.plan_laws.proofs.laws.each_tree_means_some_table.Goals as goal

pub returns : goal.returns
returns c = λ F stored t lawful built over. some-meaning F lawful stored t built over
