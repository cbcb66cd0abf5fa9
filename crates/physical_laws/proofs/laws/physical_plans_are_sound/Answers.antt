use Rattle.physical_laws.proofs.Joined.{is_sound, one_reader}
use Rattle.physical_laws.proofs.laws.physical_plans_are_sound.Goals as goal

pub returns-clause-readers : goal.returns-clause-readers
returns-clause-readers c = λ F plan shape valid p. one_reader F plan shape valid p c.each_port_has_one_reader.ensures

pub returns-clause-sound : goal.returns-clause-sound
returns-clause-sound c = λ F plan shape valid holds p. is_sound F plan shape valid p c.sound_nodes_are_shared_soundly.ensures holds
