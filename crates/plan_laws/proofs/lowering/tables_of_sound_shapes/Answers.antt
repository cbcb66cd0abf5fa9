use Rattle.plan_laws.proofs.SoundTables.{sound-tables}
use Rattle.plan_laws.proofs.lowering.tables_of_sound_shapes.Goals as goal

pub returns : goal.returns
returns c = λ F shape tables lawful sound chosen. sound-tables F lawful shape sound tables chosen
