use Rattle.join_laws.proofs.SoundJoins.{sound-join}
use Rattle.join_laws.proofs.joining.sound_joins_join.Goals as goal

pub returns : goal.returns
returns c = λ F shape n p j l r sound there is reads. sound-join F shape sound n p there j l r is reads
