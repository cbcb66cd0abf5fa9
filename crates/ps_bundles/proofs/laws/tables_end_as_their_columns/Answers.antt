use Rattle.ps_bundles.proofs.ZipEnds.{inputs_end, selects_end, zips_end}
use Rattle.ps_bundles.proofs.laws.tables_end_as_their_columns.Goals as goal

pub returns-clause-inputs : goal.returns-clause-inputs
returns-clause-inputs c = inputs_end

pub returns-clause-selects : goal.returns-clause-selects
returns-clause-selects c = selects_end

pub returns-clause-zips : goal.returns-clause-zips
returns-clause-zips c = zips_end
