use Rattle.source_keeps.proofs.SourceOpens.{sources_keep, sources_keep_updating}
use Rattle.source_keeps.proofs.keeping.sources_keep.Goals as goal

pub returns-clause-steps : goal.returns-clause-steps
returns-clause-steps c = λ F w v r n p known e source s h. sources_keep F w v r n p known e source s h

pub returns-clause-updates : goal.returns-clause-updates
returns-clause-updates c = λ F w s n p known e source shut u h. sources_keep_updating F w s n p known e source shut u h
