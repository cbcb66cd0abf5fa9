use Rattle.multiplexer_laws.proofs.Fit.{shared_soundly}
use Rattle.multiplexer_laws.proofs.laws.sound_nodes_are_shared_soundly.Goals as goal

pub returns : goal.returns
returns c = λ F nodes root low each sink sound. shared_soundly c.no_stream_is_taken_twice.ensures F nodes root low each sink sound
