use Rattle.part_laws.proofs.SoundInputs.{sound-reduces-show}
use Rattle.part_laws.proofs.reduces.reduces_show_parts.Goals as goal

pub returns : goal.returns
returns c = λ F shape n p s es sound there is reads. sound-reduces-show F shape n p s sound there reads es is
