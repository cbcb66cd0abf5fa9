use Rattle.multiplexer_laws.proofs.Meaning.{all_stand, the_root_stands}
use Rattle.multiplexer_laws.proofs.laws.each_node_stands_for_one.Goals as goal

pub returns-clause-each : goal.returns-clause-each
returns-clause-each c = λ F nodes root low each sound. all_stand F nodes root low each sound

pub returns-clause-root : goal.returns-clause-root
returns-clause-root c = λ F nodes root low each sound. the_root_stands F nodes root low each sound
