use Rattle.std.specs.Fmt.{digits}
use Rattle.std.specs.Prelude.{refl}
use Rattle.node_lowering.proofs.examples.beside_columns.Goals as goal

pub returns-clause-behind : goal.returns-clause-behind
returns-clause-behind c names = refl

pub returns-clause-before : goal.returns-clause-before
returns-clause-before c names = refl

pub returns-clause-over_the_input : goal.returns-clause-over_the_input
returns-clause-over_the_input c names = refl

pub returns-clause-an_aggregate : goal.returns-clause-an_aggregate
unfolding digits
returns-clause-an_aggregate c = refl

pub returns-clause-over_a_zip : goal.returns-clause-over_a_zip
unfolding digits
returns-clause-over_a_zip c = refl
