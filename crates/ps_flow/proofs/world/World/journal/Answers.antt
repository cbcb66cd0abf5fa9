-- What the world shows.
use Rattle.std.proofs.Common.{◌∙◌, ap}
use Rattle.ps_flow.proofs.world.World.journal.Goals as goal
use Rattle.world_records.specs.Shown.{journal_shown}

pub returns-clause-stands : goal.returns-clause-stands
returns-clause-stands g c = λ w stands. ap journal_shown c.records.ensures ∙ stands.journal

pub returns-clause-told : goal.returns-clause-told
returns-clause-told g c = λ w told. ap journal_shown c.records.ensures ∙ told.journal
