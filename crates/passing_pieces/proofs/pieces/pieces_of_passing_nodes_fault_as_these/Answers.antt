use Rattle.passing_pieces.proofs.LargeAnswers.{lawful-for}
use Rattle.passing_pieces.proofs.Faults.{reached_faults, short_computes, short_lawful}
use Rattle.passing_pieces.proofs.pieces.pieces_of_passing_nodes_fault_as_these.Goals as goal

pub returns-clause-short : goal.returns-clause-short
returns-clause-short k = λ F shape o w n p s from to input number worker handed c sound r there short reads cf rf ct st m. reached_faults F shape n p s sound there (short_computes p.kind short) reads (short_lawful F p.kind short) o w r from to cf rf ct st m.1 m.2 m.3 c m.4

pub returns-clause-lawful : goal.returns-clause-lawful
returns-clause-lawful k = λ F shape o w n p s from to input number worker handed c laws sound r there computes reads cf rf ct st m. reached_faults F shape n p s sound there computes reads (lawful-for F p.kind computes laws) o w r from to cf rf ct st m.1 m.2 m.3 c m.4
