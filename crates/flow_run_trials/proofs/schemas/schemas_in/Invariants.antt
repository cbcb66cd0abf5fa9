use Rattle.std.proofs.Common.{◌≡◌, map, take}
use Rattle.graph_parts.specs.Read.{slot_schema}
use Rattle.keyed_slots.specs.Slots.{value_at}
use Rattle.ps_phys.specs.declared.phys.PhysNodeKey.{PhysNodeKey}
use Rattle.flow_run_trials.proofs.schemas.schemas_in.Given as goal

abbrev pub invariant-loop-key : goal.invariant-loop-key
invariant-loop-key l = l.schemas.items ≡ map (λ (k : PhysNodeKey). slot_schema (value_at l.phys.slots k.0)) (take l.key-index l.order)
