use Rattle.std.proofs.Common.{◌≡◌, take}
use Rattle.ps_phys.specs.Shown.{streams_of}
use Rattle.ps_rules.specs.Slots.{all_added}
use Rattle.lowering_parts.proofs.streams.Streams.add_all.Given as goal

abbrev pub invariant-loop-stream : goal.invariant-loop-stream
invariant-loop-stream l = streams_of l.self ≡ all_added (streams_of (take l.stream-index l.streams)) (streams_of l.initial.self)
