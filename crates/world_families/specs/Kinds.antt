-- The kinds of nodes that hand on what comes: passing nodes, unions and sinks; and with what needs no input, those of a graph that computes nothing over whole tables.
use Rattle.std.specs.Prelude.{⊤}
use Rattle.ps_meaning.specs.Shape.{PhysicalKind, in_memory_sink, in_memory_source, independent_select, ordered_union}
use Rattle.ps_world.specs.Booking.{IsPassing}

abbrev pub HandsOn : PhysicalKind → Type 0
HandsOn in_memory_sink = ⊤
HandsOn ordered_union = ⊤
HandsOn kind = IsPassing kind

abbrev pub IsStreaming : PhysicalKind → Type 0
IsStreaming (in_memory_source t) = ⊤
IsStreaming (independent_select es) = ⊤
IsStreaming kind = HandsOn kind
