-- A claim in a world, and the world after it.
use Rattle.std.specs.Prelude.{◌≢◌, ℕ, ◌<◌, cond, ◌&&◌, List, [], ◌∷◌, ◌++◌, Option, None, option_map, slice_set}
use Rattle.std.specs.List.{AllByRecursion, filter as kept}
use Rattle.ps_turns.specs.Claims.{Claim, Next, claim_of}
use Rattle.ps_turns.specs.Tasks.{Piece}
use Rattle.ps_world.specs.World.{Node, Pipe, World, bounded_out, claimed, has_next, heads_of, inputs_done, morsel_at, schemas_for}
use Rattle.ps_world.specs.Pipes.{change_pipes, dropped_pipe, is_input, taken, with_drops, with_place}

-- the next morsel that the first of these pipes has
abbrev pub next_morsel : List Pipe → Next
next_morsel [] = None
next_morsel (p ∷ ps) = cond (has_next p) (option_map (λ rs. (p.next, rs)) (morsel_at p.next p.got)) (next_morsel ps)

abbrev pub inputs_in_phase : World → ℕ → ℕ → List Pipe
inputs_in_phase w n i = kept (λ (p : Pipe). is_input n i p && p.in_phase) w.pipes

abbrev pub claim_at : World → ℕ → ℕ → Node → Option Claim
claim_at w n i node = claim_of w.options node.node (schemas_for w node) node.progress (heads_of w n node) (inputs_done w n) i (next_morsel (inputs_in_phase w n i))

abbrev pub piece_of : ℕ → ℕ → ℕ → Claim → Piece
piece_of n i worker c = record { node = n; input = i; number = c.number; worker = worker; gives = c.gives; task = c.task; schemas = c.schemas; tables = c.tables }

abbrev pub before_drops : World → ℕ → ℕ → ℕ → Node → Claim → World
before_drops w n i worker node c =
    let taken_pipes = cond c.takes_morsel (change_pipes (is_input n i) taken w.pipes) w.pipes in
    let reserved = change_pipes (bounded_out w n) with_place taken_pipes in
    let pipes' = cond c.drops_input (change_pipes (is_input n i) dropped_pipe reserved) reserved in
    record w {
      nodes = slice_set w.nodes n (record node { progress = c.progress });
      pipes = pipes';
      outs = piece_of n i worker c ∷ w.outs;
      journal = w.journal ++ claimed n i c.number worker ∷ [];
    }

abbrev pub after_claim : World → ℕ → ℕ → ℕ → Node → Claim → World
after_claim w n i worker node c = with_drops (before_drops w n i worker node c)

-- the worker has no piece out
abbrev pub IsFree : World → ℕ → Type 0
IsFree w worker = (worker < w.options.workers) × AllByRecursion (λ (p : Piece). p.worker ≢ worker) w.outs
