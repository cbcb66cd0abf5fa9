use Rattle.text_laws.proofs.OneQuery as queries
use Rattle.text_laws.proofs.one_reading.Goals as goal

pub returns : goal.returns
returns c = queries.one_reading
