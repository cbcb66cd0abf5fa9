use Rattle.ps_multiplexers.proofs.Once.{once}
use Rattle.ps_multiplexers.proofs.laws.no_stream_is_taken_twice.Goals as goal

pub returns : goal.returns
returns c = λ nodes root low reads s. once nodes root low reads s
