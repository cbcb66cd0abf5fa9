use Rattle.plan_laws.proofs.ShapeRows.{backward-sound, forward-unsound, join-sound, literals-unsound, select-sound, sliced-unsound, twice-fit, twice-sound, twice-unsound}
use Rattle.plan_laws.proofs.shapes.sound_and_unsound.Goals as goal

pub returns-clause-each_port_once : goal.returns-clause-each_port_once
returns-clause-each_port_once c = twice-sound

pub returns-clause-a_port_twice : goal.returns-clause-a_port_twice
returns-clause-a_port_twice c = twice-unsound

pub returns-clause-but_for_readers : goal.returns-clause-but_for_readers
returns-clause-but_for_readers c = λ F. twice-fit F 0

pub returns-clause-literal_beside_a_column : goal.returns-clause-literal_beside_a_column
returns-clause-literal_beside_a_column c = select-sound

pub returns-clause-literals_alone : goal.returns-clause-literals_alone
returns-clause-literals_alone c = literals-unsound

pub returns-clause-join : goal.returns-clause-join
returns-clause-join c = join-sound

pub returns-clause-join_with_a_slice : goal.returns-clause-join_with_a_slice
returns-clause-join_with_a_slice c = sliced-unsound

pub returns-clause-backward : goal.returns-clause-backward
returns-clause-backward c = backward-sound

pub returns-clause-forward : goal.returns-clause-forward
returns-clause-forward c = forward-unsound
