use Rattle.within_arenas.proofs.Lowered.{still_lowered}
use Rattle.within_arenas.proofs.laws.valid_plans_are_lowered_or_large.Goals as goal

pub returns : goal.returns
returns c = λ F plan names lawful valid within sound there reads. still_lowered F lawful plan valid names within sound there reads
