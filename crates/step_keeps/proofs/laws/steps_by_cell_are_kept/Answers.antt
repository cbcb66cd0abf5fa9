use Rattle.step_keeps.proofs.CellSteps.{filters_by_cell_keep}
use Rattle.step_keeps.proofs.Mapped.{columns_by_cell_keep}
use Rattle.step_keeps.proofs.Selected.{selects_by_cell_keep}
use Rattle.step_keeps.proofs.laws.steps_by_cell_are_kept.Goals as goal

pub returns-clause-selects : goal.returns-clause-selects
returns-clause-selects c = λ F at schema s i es. selects_by_cell_keep F at schema i s es

pub returns-clause-columns : goal.returns-clause-columns
returns-clause-columns c = λ F at schema s i es. columns_by_cell_keep F at schema i s es

pub returns-clause-filters : goal.returns-clause-filters
returns-clause-filters c = λ F at schema s i predicate. filters_by_cell_keep F at i s schema predicate
