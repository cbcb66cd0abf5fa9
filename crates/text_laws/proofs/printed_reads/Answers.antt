use Rattle.text_laws.proofs.ReadStages as stages
use Rattle.text_laws.proofs.printed_reads.Goals as goal

pub returns : goal.returns
returns c = stages.printed_reads
