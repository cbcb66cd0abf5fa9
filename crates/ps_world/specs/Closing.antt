-- When a node has finished, and the world after it is closed and after a phase ends.
use Rattle.std.specs.Prelude.{◌≡◌, ℕ, ◌⊎◌, Bool, true, false, not, ◌&&◌, ◌||◌, [], ◌∷◌, ◌++◌, map, None, nat_eq, slice_set, IsTrue}
use Rattle.std.specs.List.{list_all}
use Rattle.ps_world.specs.World.{Pipe, Node, closed, ended, World, is_over, pipes_in, is_cut_off}
use Rattle.ps_world.specs.Pipes.{change_pipes}
use Rattle.ps_world.specs.Claims.{claim_at}

-- the inputs that are in the phase are closed and empty
abbrev pub inputs_over : World → ℕ → Bool
inputs_over w n = list_all (λ (p : Pipe). not p.in_phase || is_over p) (pipes_in w n)

-- Nothing is left to take or to claim, or all that leaves the node is dropped, and its inputs of the phase with it.
abbrev pub HasFinished : World → ℕ → Node → Type 0
HasFinished w n node = (IsTrue (inputs_over w n) × ((i : ℕ) → claim_at w n i node ≡ None)) ⊎ IsTrue (is_cut_off w n)

abbrev pub after_close : World → ℕ → Node → World
after_close w n node =
    record w {
      nodes = slice_set w.nodes n (record node { is_closed = true });
      pipes = change_pipes (λ p. nat_eq p.wire.sender n && p.in_phase) (λ p. record p { is_closed = true }) w.pipes;
      journal = w.journal ++ closed n ∷ [];
    }

abbrev pub after_end : World → World
after_end w =
    record w {
      nodes = map (λ (n : Node). record n { in_phase = false; is_closed = false }) w.nodes;
      pipes = map (λ (p : Pipe). record p { in_phase = false; is_closed = false }) w.pipes;
      is_open = false;
      journal = w.journal ++ ended w.phase ∷ [];
    }
