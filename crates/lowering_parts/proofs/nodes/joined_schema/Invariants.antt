use Rattle.std.proofs.Common.{◌≡◌, take}
use Rattle.std.specs.Prelude.{flat_map}
use Rattle.pu_base.specs.declared.arena.Node.{Node}
use Rattle.ps_frame.specs.Trees.{Tree}
use Rattle.ps_phys.specs.Shown.{streams_of}
use Rattle.ps_rules.specs.Slots.{schema_at}
use Rattle.lowering_parts.specs.Gathered.{state_of}
use Rattle.lowering_parts.proofs.nodes.joined_schema.Given as goal

abbrev pub invariant-loop-stream : goal.invariant-loop-stream
invariant-loop-stream l = (f : Node → Tree) → l.schema ≡ flat_map (schema_at (state_of f l.low).nodes) (streams_of (take l.stream-index l.streams))
