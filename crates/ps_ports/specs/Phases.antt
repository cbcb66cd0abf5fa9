-- The next phase: blockers, and all that feed them.
use Rattle.std.specs.Prelude.{ℕ, zero, suc, Bool, not, cond, ◌&&◌, ◌||◌, List, [], ◌∷◌, ◌++◌, Option, Some, None, option_to_list, nat_eq, nat_lt}
use Rattle.std.specs.List.{list_any, list_all, count_by, filter as kept}
use Rattle.ps_frame.specs.Zip.{below}
use Rattle.ps_ports.specs.Ports.{is_blocked, is_ready}
use Rattle.ps_ports.specs.Wires.{Wire, both_ready, wires_in, wires_out}

abbrev pub is_one_of : ℕ → List ℕ → Bool
is_one_of n ns = list_any (nat_eq n) ns

-- A blocker has all its outputs blocked and an input that is ready on both ends.
abbrev pub is_blocker : List Wire → ℕ → Bool
is_blocker ws n = list_all (λ (p : Wire). is_blocked p.send_state) (wires_out n ws) && list_any both_ready (wires_in n ws)

-- how many outputs of a node have a reader that is ready
abbrev pub ready_readers : List Wire → ℕ → ℕ
ready_readers ws n = count_by (λ (p : Wire). is_ready p.receive_state) (wires_out n ws)

-- the node with the most such outputs, and on a tie the last
abbrev pub most_ready : List Wire → List ℕ → Option ℕ
most_ready ws [] = None
most_ready ws (n ∷ ns) = elim (most_ready ws ns) [ None ↦ Some n | Some m ↦ cond (nat_lt (ready_readers ws m) (ready_readers ws n)) (Some n) (Some m) ]

-- these nodes, and those that feed one of them over a wire that is ready on both ends
abbrev pub with_feeders : (nodes : ℕ) → List Wire → List ℕ → List ℕ
with_feeders k ws ns = kept (λ m. is_one_of m ns || list_any (λ (p : Wire). nat_eq p.sender m && (both_ready p && is_one_of p.receiver ns)) ws) (below k)

abbrev pub all_feeders : (turns nodes : ℕ) → List Wire → List ℕ → List ℕ
all_feeders zero k ws ns = ns
all_feeders (suc t) k ws ns = all_feeders t k ws (with_feeders k ws ns)

-- A graph of so many nodes, of which these are memory intensive.
module _ (nodes : ℕ) (intensive : ℕ → Bool) (ws : List Wire) where
  -- the blockers of the next phase: all that aren't memory intensive, and at most one that is
  abbrev pub blockers_of : List ℕ
  blockers_of =
      let bs = kept (is_blocker ws) (below nodes) in
      kept (λ n. not (intensive n)) bs ++ option_to_list (most_ready ws (kept intensive bs))

  -- the blockers with all that feed them: no way through the graph has more wires than it has nodes
  abbrev pub phase_nodes : List ℕ
  phase_nodes = all_feeders nodes nodes ws blockers_of

  abbrev pub is_in_phase : Wire → Bool
  is_in_phase p = both_ready p && is_one_of p.receiver phase_nodes
