use Rattle.world_facts.proofs.EndStores.{gives_case, holds_after_pull}
use Rattle.world_facts.proofs.StoresFew.{stores_few}
use Rattle.world_facts.proofs.promises.ends_are_enough.Goals as goal

pub returns-clause-few : goal.returns-clause-few
returns-clause-few c = λ F shape o w r. stores_few F shape o w r

pub returns-clause-pulled : goal.returns-clause-pulled
returns-clause-pulled c = λ back came m count store h. holds_after_pull back came m count store h

pub returns-clause-made : goal.returns-clause-made
returns-clause-made c = λ back n came count store h. gives_case back n came count store h
