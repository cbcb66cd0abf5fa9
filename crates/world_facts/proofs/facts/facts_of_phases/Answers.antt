use Rattle.world_facts.proofs.FromFacts.{forward, full_reader, piece_nodes, pieces_open, starved_sender}
use Rattle.world_facts.proofs.Wiring.{wires_forward, wires_inside}
use Rattle.world_facts.proofs.facts.facts_of_phases.Goals as goal

pub returns-clause-forward : goal.returns-clause-forward
returns-clause-forward c = λ F w f. forward F w f

pub returns-clause-wires : goal.returns-clause-wires
returns-clause-wires c = λ F w f p there. (wires_forward F w f p there, wires_inside F w f p there)

pub returns-clause-pieces : goal.returns-clause-pieces
returns-clause-pieces c = λ F w f q there. (pieces_open F w f q there, piece_nodes F w f q there)

pub returns-clause-starved : goal.returns-clause-starved
returns-clause-starved c = λ F w f runs p starved. starved_sender F w f runs p starved

pub returns-clause-full : goal.returns-clause-full
returns-clause-full c = λ F w f runs p full none. full_reader F w f runs p full none
