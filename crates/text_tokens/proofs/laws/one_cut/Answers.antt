use Rattle.text_tokens.proofs.OneCut as cuts
use Rattle.text_tokens.proofs.laws.one_cut.Goals as goal

pub returns : goal.returns
returns c = cuts.one_cut
