use Rattle.multiplexer_laws.proofs.Meaning.{still_lowered}
use Rattle.multiplexer_laws.proofs.laws.shared_lowerings_are_lowerings.Goals as goal

pub returns : goal.returns
returns c = λ F plan nodes root low each sound l. still_lowered F nodes root low each sound plan l
