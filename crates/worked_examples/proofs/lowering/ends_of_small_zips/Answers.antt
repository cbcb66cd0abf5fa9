use Rattle.std.proofs.Common.{inl, inr, refl, sym}
use Rattle.worked_examples.proofs.lowering.ends_of_small_zips.Goals as goal
use Rattle.ps_bundles.proofs.ZipEnds.{differ}

pub returns-clause-whole : goal.returns-clause-whole
returns-clause-whole c = inl (refl, refl)

pub returns-clause-lost : goal.returns-clause-lost
returns-clause-lost c = inr (refl, (λ e. cc), (λ e. cc))

pub returns-clause-broken : goal.returns-clause-broken
returns-clause-broken c = inl (refl, refl)

pub returns-clause-not_whole : goal.returns-clause-not_whole
returns-clause-not_whole c = λ h. elim h [ inl k ↦ differ k.1 | inr k ↦ k.1 refl ]

pub returns-clause-of_one : goal.returns-clause-of_one
returns-clause-of_one c = inl (refl, refl)

pub returns-clause-not_broken : goal.returns-clause-not_broken
returns-clause-not_broken c = λ h. elim h [ inl k ↦ differ (sym k.1) | inr k ↦ k.2 refl ]
