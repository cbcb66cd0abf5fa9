use Rattle.world_rest.proofs.Rest.{rest_from_facts, rest_from_known}
use Rattle.world_rest.proofs.resting.updates_come_to_rest.Goals as goal

pub returns-clause-facts : goal.returns-clause-facts
returns-clause-facts c = rest_from_facts

pub returns-clause-known : goal.returns-clause-known
returns-clause-known c = rest_from_known
