use Rattle.std.specs.Prelude.{refl}
use Rattle.std.specs.Fmt.{digits}
use Rattle.plan_rules.proofs.groups.streamed_groups.Goals as goal

pub returns-clause-a_reduction : goal.returns-clause-a_reduction
unfolding digits
returns-clause-a_reduction c F = refl

pub returns-clause-keys_alone : goal.returns-clause-keys_alone
unfolding digits
returns-clause-keys_alone c F = refl

pub returns-clause-literal_key : goal.returns-clause-literal_key
unfolding digits
returns-clause-literal_key c F = refl

pub returns-clause-key_of_a_whole_column : goal.returns-clause-key_of_a_whole_column
unfolding digits
returns-clause-key_of_a_whole_column c F = refl
