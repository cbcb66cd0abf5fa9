use Rattle.std.specs.Prelude.{refl}
use Rattle.plan_lowering.proofs.examples.cache_ids.Goals as goal

pub returns-clause-kept : goal.returns-clause-kept
returns-clause-kept c F names = refl

pub returns-clause-nothing_made : goal.returns-clause-nothing_made
returns-clause-nothing_made c F names = refl

pub returns-clause-another : goal.returns-clause-another
returns-clause-another c F names = refl

pub returns-clause-noted : goal.returns-clause-noted
returns-clause-noted c F names = refl
