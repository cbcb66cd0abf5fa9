use Rattle.plans_keep.proofs.examples.other_kinds.Goals as goal

pub returns : goal.returns
returns c = λ h. cc
