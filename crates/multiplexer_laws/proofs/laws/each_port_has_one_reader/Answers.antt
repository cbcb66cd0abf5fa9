use Rattle.multiplexer_laws.proofs.Readers.{each_port}
use Rattle.multiplexer_laws.proofs.laws.each_port_has_one_reader.Goals as goal

pub returns : goal.returns
returns c = λ nodes root low each sink. each_port c.no_stream_is_taken_twice.ensures nodes root low each sink
