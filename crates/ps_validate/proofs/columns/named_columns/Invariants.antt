use Rattle.ps_validate.proofs.Naming.{Naming}
use Rattle.ps_validate.proofs.columns.named_columns.Given as goal

abbrev pub invariant-loop-name : goal.invariant-loop-name
invariant-loop-name l = Naming l.input l.names l.name-index l.schema
