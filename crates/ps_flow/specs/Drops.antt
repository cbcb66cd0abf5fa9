-- Which pipes are dropped where at most one pipe leaves each node, and no node has heads to lose.
use Rattle.std.specs.Prelude.{ℕ, zero, suc, cond, ◌&&◌, Bool, List, nat_eq}
use Rattle.std.specs.List.{list_any}
use Rattle.ps_world.specs.Pipes.{change_pipes, dropped_pipe}
use Rattle.ps_world.specs.World.{Pipe}

-- what leaves the node in the phase is dropped
abbrev pub is_cut : ℕ → List Pipe → Bool
is_cut n ps = list_any (λ (p : Pipe). nat_eq p.wire.sender n && (p.in_phase && p.is_dropped)) ps

-- then so are its inputs
abbrev pub lost_inputs : ℕ → List Pipe → List Pipe
lost_inputs n ps = change_pipes (λ p. nat_eq p.wire.receiver n && p.in_phase) dropped_pipe ps

abbrev pub cut_at : ℕ → List Pipe → List Pipe
cut_at n ps = cond (is_cut n ps) (lost_inputs n ps) ps

-- from the last of so many nodes to the first
abbrev pub cut_below : ℕ → List Pipe → List Pipe
cut_below zero ps = ps
cut_below (suc n) ps = cut_below n (cut_at n ps)
