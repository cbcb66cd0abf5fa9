use Rattle.std.specs.Prelude.{refl}
use Rattle.group_lowering.proofs.examples.groups_and_keys.Goals as goal

pub returns-clause-streamed : goal.returns-clause-streamed
returns-clause-streamed c = refl

pub returns-clause-whole : goal.returns-clause-whole
returns-clause-whole c = refl

pub returns-clause-literal_key : goal.returns-clause-literal_key
returns-clause-literal_key c = refl
