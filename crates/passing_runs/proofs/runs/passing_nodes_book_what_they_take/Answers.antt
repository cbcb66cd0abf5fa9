use Rattle.passing_laws.proofs.SoundPieces.{sound-goes-on}
use Rattle.passing_runs.proofs.Reached.{reached_passing}
use Rattle.passing_runs.proofs.runs.passing_nodes_book_what_they_take.Goals as goal

pub returns : goal.returns
returns c = λ F shape o w n node p s from to sound r there kind reads at cf rf ct st. (reached_passing F shape n p s there kind reads (sound-goes-on F shape n p s sound there kind reads) o w sound r node from to at cf rf ct st).booked
