use Rattle.passing_laws.proofs.SoundPieces.{sound-goes-on}
use Rattle.passing_runs.proofs.Reached.{reached_answers}
use Rattle.passing_runs.proofs.runs.passing_nodes_answer_in_order.Goals as goal

pub returns : goal.returns
returns c = λ F shape o w n p s from to sound r there kind reads cf rf ct st d. reached_answers F shape n p s there kind reads (sound-goes-on F shape n p s sound there kind reads) o w sound r from to cf rf ct st d
