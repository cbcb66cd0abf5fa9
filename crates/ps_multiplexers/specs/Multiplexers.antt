-- Multiplexers: a node that several readers take gets one, with a port for each of them.
use Rattle.std.specs.Prelude.{ℕ, zero, suc, ◌+◌, ◌==◌, List, [], ◌∷◌, ◌++◌, map, flat_map, fold, length, Option, Some, None, if◌then◌else◌}
use Rattle.ps_meaning.specs.Shape.{PhysicalNode, Shape, multiplexer}
use Rattle.ps_phys.specs.Walks.{Stream, is_one_of, node_at, numbers_of, numbers_read}

-- the nodes that wait, the last pushed first, and all that were ever pushed
pub record Waiting : Type 0 where
  pub stack : List ℕ
  pub pushed : List ℕ

abbrev pub push_if_new : Waiting → ℕ → Waiting
push_if_new w n = if is_one_of n w.pushed then w else record { stack = n ∷ w.stack; pushed = n ∷ w.pushed }

module _ (reads : ℕ → List ℕ) where
  -- The walk from a stack: the last node is taken from it, and those that it reads are pushed where they are new, in order. No more are taken than the number.
  abbrev pub walked : ℕ → Waiting → List ℕ
  walked zero w = []
  walked (suc k) w =
      elim w.stack [
        | [] ↦ []
        | n ∷ stack ↦ n ∷ walked k (fold push_if_new (record { stack = stack; pushed = w.pushed }) (reads n))
      ]

  -- the nodes that a root reaches, of so many nodes, as the walk takes them
  abbrev pub walk_from : ℕ → ℕ → List ℕ
  walk_from count root = walked count (record { stack = root ∷ []; pushed = root ∷ [] })

-- how often a number stands in a list
abbrev pub times : ℕ → List ℕ → ℕ
times n [] = 0
times n (m ∷ ms) = (if m == n then 1 else 0) + times n ms

-- a node that was read once before is read for the second time
abbrev pub again : List ℕ → ℕ → List ℕ
again before n = if times n before == 1 then n ∷ [] else []

-- the nodes that several readers take, in the order in which each is read for the second time, after what was read before
abbrev pub read_again : List ℕ → List ℕ → List ℕ
read_again before [] = []
read_again before (n ∷ ns) = again before n ++ read_again (before ++ n ∷ []) ns

-- the number of a node's multiplexer, where these nodes have one each, numbered from k on
abbrev pub multiplexer_number : ℕ → List ℕ → ℕ → Option ℕ
multiplexer_number k [] n = None
multiplexer_number k (m ∷ ms) n = if m == n then Some k else multiplexer_number (k + 1) ms n

-- a multiplexer has the schema and the origin of the node that it reads
abbrev pub multiplexer_of : Shape → ℕ → PhysicalNode
multiplexer_of nodes n = record { kind = multiplexer; schema = (node_at nodes n).schema; origin = (node_at nodes n).origin; inputs = (n, 0) ∷ [] }

-- what a reader takes after so many others: the next port of the multiplexer, where there is one
abbrev pub port_or_stream : Stream → Option ℕ → ℕ → Stream
port_or_stream s None others = s
port_or_stream s (Some m) others = (m, others)

-- the inputs of a reader, after what was read before
abbrev pub inputs_through : (ℕ → Option ℕ) → List ℕ → List Stream → List Stream
inputs_through number before [] = []
inputs_through number before (s ∷ ss) = port_or_stream s (number s.0) (times s.0 before) ∷ inputs_through number (before ++ s.0 ∷ []) ss

abbrev pub with_inputs : List Stream → PhysicalNode → PhysicalNode
with_inputs inputs p = record p { inputs = inputs }

-- a node changed in its place
abbrev pub changed : ℕ → (PhysicalNode → PhysicalNode) → Shape → Shape
changed n f [] = []
changed zero f (p ∷ ps) = f p ∷ ps
changed (suc n) f (p ∷ ps) = p ∷ changed n f ps

-- the readers, in the order of the walk, each after what was read before
abbrev pub rewired : (ℕ → Option ℕ) → List ℕ → List ℕ → Shape → Shape
rewired number before [] nodes = nodes
rewired number before (n ∷ ns) nodes =
    let inputs = (node_at nodes n).inputs in
    rewired number (before ++ numbers_of inputs) ns (changed n (with_inputs (inputs_through number before inputs)) nodes)

abbrev pub walk_of : Shape → ℕ → List ℕ
walk_of nodes root = walk_from (numbers_read nodes) (length nodes) root

-- the nodes that get a multiplexer
abbrev pub shared : Shape → ℕ → List ℕ
shared nodes root = read_again [] (flat_map (numbers_read nodes) (walk_of nodes root))

-- Each node that several readers take has a multiplexer, behind all nodes that were there. The readers' ports are numbered from 0 in the order in which the walk comes to the readers.
abbrev pub with_multiplexers : ℕ → Shape → Shape
with_multiplexers root nodes = rewired (multiplexer_number (length nodes) (shared nodes root)) [] (walk_of nodes root) (nodes ++ map (multiplexer_of nodes) (shared nodes root))
