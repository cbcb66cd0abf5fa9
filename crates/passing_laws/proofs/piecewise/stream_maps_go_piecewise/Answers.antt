use Rattle.passing_laws.proofs.MapPieces.{map-goes}
use Rattle.passing_laws.proofs.piecewise.stream_maps_go_piecewise.Goals as goal

pub returns : goal.returns
returns c = λ F p s n kind same streams. map-goes F p s n kind same streams
