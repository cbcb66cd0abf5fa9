use Rattle.std.specs.Prelude.{refl}
use Rattle.plan_rules.proofs.groups.made_of_reductions.Goals as goal

pub returns-clause-height : goal.returns-clause-height
returns-clause-height c = refl

pub returns-clause-literal : goal.returns-clause-literal
returns-clause-literal c = refl

pub returns-clause-reduction : goal.returns-clause-reduction
returns-clause-reduction c = refl

pub returns-clause-operators : goal.returns-clause-operators
returns-clause-operators c = refl

pub returns-clause-function_of_cells : goal.returns-clause-function_of_cells
returns-clause-function_of_cells c = refl

pub returns-clause-function_of_columns : goal.returns-clause-function_of_columns
returns-clause-function_of_columns c = refl

pub returns-clause-column : goal.returns-clause-column
returns-clause-column c = refl

pub returns-clause-distinct_counts : goal.returns-clause-distinct_counts
returns-clause-distinct_counts c = refl

pub returns-clause-count : goal.returns-clause-count
returns-clause-count c = refl

pub returns-clause-reduction_of_a_whole_column : goal.returns-clause-reduction_of_a_whole_column
returns-clause-reduction_of_a_whole_column c = refl
