-- Streaming nodes but maps: of these alone nothing is asked of the functions.
use Rattle.std.specs.Prelude.{Bool, true, false, IsFalse}
use Rattle.ps_meaning.specs.Shape.{PhysicalKind, stream_map}
use Rattle.world_families.specs.Kinds.{IsStreaming}

abbrev pub is_stream_map : PhysicalKind → Bool
is_stream_map (stream_map step) = true
is_stream_map _ = false

abbrev pub StreamsNoMap : PhysicalKind → Type 0
StreamsNoMap kind = IsStreaming kind × IsFalse (is_stream_map kind)
