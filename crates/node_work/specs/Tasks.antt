-- What is to be done for the pieces that nodes give out.
use Rattle.std.specs.Prelude.{◌≡◌, ℕ}
use Rattle.node_states.specs.declared.streaming_slice.SliceState.{SliceState}
use Rattle.plain_nodes.specs.declared.source.InMemorySourceNode.{InMemorySourceNode}
use Rattle.ps_frame.specs.Tables.{Frame}
use Rattle.ps_pieces.specs.declared.parameters.Parameters.{Parameters}
use Rattle.ps_pieces.specs.declared.piece.Task.{Task}
use Rattle.ps_pieces.specs.declared.piece.Task.TheVariants as task
use Rattle.ps_turns.specs.Claims.{sliced}
use Rattle.ps_turns.specs.Cuts.{cut_of_source}

-- a source hands on the next cut of its table
abbrev pub next_cut : InMemorySourceNode → Task
next_cut s = task.HandsOn (record { schema = s.source.schema; rows = cut_of_source s.options s.source.rows s.sent })

-- a slice hands on what it keeps of a morsel
abbrev pub kept_part : SliceState → Frame → Task
kept_part s m = task.HandsOn (record { schema = m.schema; rows = sliced s.offset s.length s.booked m.rows })

-- these parameters are computed over this table, which comes behind so many rows
abbrev pub ComputesOver : Parameters → (before : ℕ) → Frame → Task → Type 0
ComputesOver q k m (task.Computes p before t) = (p.value ≡ q) × (before ≡ k) × (t ≡ m)
ComputesOver q k m _ = ⊥
