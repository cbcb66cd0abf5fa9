use Rattle.world_families.proofs.KeeperExamples.{not_in_two, one_list_each}
use Rattle.world_families.proofs.examples.lists_split_keys.Goals as goal

pub returns-clause-one_list_each : goal.returns-clause-one_list_each
returns-clause-one_list_each c = one_list_each

pub returns-clause-not_in_two : goal.returns-clause-not_in_two
returns-clause-not_in_two c = λ h. not_in_two h
