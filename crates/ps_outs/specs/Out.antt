-- Which pieces of a run's world are out with which workers.
use Rattle.std.specs.Prelude.{◌≡◌, ℕ, ◌+◌, Bool, false, List, [], ◌∷◌, Option, Some, None, count_by, length}
use Rattle.ps_turns.specs.Tasks.{Piece}
use Rattle.ps_outs.specs.declared.outs.Out.{Out}
use Rattle.ps_outs.specs.declared.outs.Outs.{Outs}

-- of which node a piece is, for which of its inputs, and who has it
pub record Place : Type 0 where
  pub worker : ℕ
  pub node : ℕ
  pub input : ℕ

abbrev pub place_of : Piece → Place
place_of q = record { worker = q.worker; node = q.node; input = q.input }

-- the places of what the workers from k on have out
abbrev pub places_out : ℕ → List (Option Out) → List Place
places_out k [] = []
places_out k (None ∷ slots) = places_out (k + 1) slots
places_out k (Some out ∷ slots) = record { worker = k; node = out.node; input = out.input } ∷ places_out (k + 1) slots

-- The pieces are those that the workers have out, in whatever order: each test passes as many.
pub record AreOut (workers : ℕ) (outs : List Piece) (h : Outs) : Type 0 where
  pub seats : length h.by_worker.items ≡ workers
  pub alike : (test : Place → Bool) → count_by (λ q. test (place_of q)) outs ≡ count_by test (places_out 0 h.by_worker.items)

-- it is a piece of this node and input, with this worker
pub record IsOf (worker : ℕ) (out : Out) (q : Piece) : Type 0 where
  pub worker_is : q.worker ≡ worker
  pub node_is : q.node ≡ out.node
  pub input_is : q.input ≡ out.input

-- a piece is out, and its node and its input pass a test
abbrev pub passes : (ℕ → ℕ → Bool) → Option Out → Bool
passes test None = false
passes test (Some out) = test out.node out.input
