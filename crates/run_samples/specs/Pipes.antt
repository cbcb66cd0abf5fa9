-- Three pipes of which two leave one node, their keys, and marks of nodes.
use Rattle.std.specs.Prelude.{ℕ, Bool, true, false, List, [], ◌∷◌, nat_eq}
use Rattle.ps_flow.specs.declared.marks.Mark.{Mark}
use Rattle.ps_graph.specs.declared.key.LogicalPipeKey.{LogicalPipeKey}
use Rattle.ps_world.specs.Opening.{fresh_pipe}
use Rattle.ps_world.specs.World.{Pipe}

abbrev pub in_phase : Pipe → Pipe
in_phase p = record p { in_phase = true }

-- two ports of node 0 and one of node 1; the second pipe isn't in the phase
abbrev pub three : List Pipe
three = in_phase (fresh_pipe 0 0 1 0) ∷ fresh_pipe 1 0 2 0 ∷ in_phase (fresh_pipe 0 1 2 1) ∷ []

abbrev pub leaves : ℕ → Pipe → Bool
leaves n p = nat_eq p.wire.sender n

abbrev pub key : ℕ → LogicalPipeKey
key n = record { 0 = n }

abbrev pub mark : (in_phase is_closed : Bool) → Mark
mark p c = record { in_phase = p; is_closed = c }

-- two nodes in the phase, and one that isn't
abbrev pub marks : List Mark
marks = mark true false ∷ mark false false ∷ mark true false ∷ []
