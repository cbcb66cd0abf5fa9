-- The world after an answer was handed in.
use Rattle.std.specs.Prelude.{not, ◌&&◌, List, [], ◌∷◌, ◌++◌, Option, Some, None, nat_eq, get_or, slice_get}
use Rattle.std.specs.List.{filter as kept}
use Rattle.ps_turns.specs.Claims.{filled_slot}
use Rattle.ps_turns.specs.Tasks.{Answer, Piece, bad, good, handed_of, partial}
use Rattle.ps_world.specs.World.{Node, World, counts_for_sender, faulty, handed_in}
use Rattle.ps_world.specs.Pipes.{change_pipes, with_answer, with_progress}

abbrev pub without_piece : Piece → List Piece → List Piece
without_piece q ps = kept (λ (p : Piece). not (nat_eq p.worker q.worker)) ps

-- the rows of the piece's morsel stand in the node's progress, as the partial that they have
abbrev pub with_partial : Piece → Option Node → World → World
with_partial q None w = w
with_partial q (Some node) w = with_progress q.node (record node.progress { taken = filled_slot q.input q.number (get_or q.tables 0 []) node.progress.taken }) w

abbrev pub put_in : Piece → Answer → World → World
put_in q (good rs) w = record w { pipes = change_pipes (λ p. nat_eq p.wire.sender q.node && counts_for_sender w p) (with_answer q.gives rs) w.pipes }
put_in q (partial n) w = with_partial q (slice_get w.nodes q.node) w
put_in q (bad c) w = record w { ending = faulty c }

abbrev pub answered : World → Piece → Answer → World
answered w q a = record (put_in q a w) { outs = without_piece q w.outs; journal = w.journal ++ handed_in q.node q.input q.number q.worker (handed_of a) ∷ [] }
