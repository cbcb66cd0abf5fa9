-- A walk over numbered nodes, from one to all that it reads, and what a list of nodes becomes when they are numbered as the walk leaves them.
use Rattle.std.specs.Prelude.{ℕ, zero, suc, ◌==◌, Bool, true, false, List, [], ◌∷◌, ◌++◌, map, fold, length, unwrap_or, Option, slice_get}
use Rattle.std.specs.List.{list_any, position_or_len}
use Rattle.ps_meaning.specs.Shape.{PhysicalNode, Shape, independent_select}

-- a node's number and one of its ports
abbrev pub Stream : Type 0
Stream = ℕ × ℕ

-- the nodes that a walk has met, and those that it has left, in order
pub record Walk : Type 0 where
  pub met : List ℕ
  pub left : List ℕ

abbrev pub is_one_of : ℕ → List ℕ → Bool
is_one_of n ns = list_any (λ m. m == n) ns

abbrev pub meets : ℕ → Walk → Walk
meets n w = record { met = n ∷ w.met; left = w.left }

abbrev pub leaves : ℕ → Walk → Walk
leaves n w = record { met = w.met; left = w.left ++ n ∷ [] }

module _ (reads : ℕ → List ℕ) where
  -- A walk goes to a node: unless it was met before it is met, then the walk goes to all that it reads, in order, and then it is left. No more nodes are met one below the other than the number.
  abbrev pub goes_to : ℕ → Walk → ℕ → Walk
  goes_to zero w n = w
  goes_to (suc k) w n =
      elim (is_one_of n w.met) [
        | true ↦ w
        | false ↦ leaves n (fold (goes_to k) (meets n w) (reads n))
      ]

  -- the nodes that a root reaches, of so many nodes, in the order in which a walk from there leaves them: what a node reads before it, and each node once
  abbrev pub leaving_order : ℕ → ℕ → List ℕ
  leaving_order count root = (goes_to count (record { met = []; left = [] }) root).left

-- what stands where no node is: a node that nothing can read
abbrev pub no_node : PhysicalNode
no_node = record { kind = independent_select []; schema = []; origin = 0; inputs = [] }

abbrev pub node_or_none : Option PhysicalNode → PhysicalNode
node_or_none p = unwrap_or p no_node

-- the node of a number
abbrev pub node_at : Shape → ℕ → PhysicalNode
node_at nodes n = node_or_none (slice_get nodes n)

-- the numbers of the nodes that a node reads, in order
abbrev pub numbers_of : List Stream → List ℕ
numbers_of inputs = map (λ (i : Stream). i.0) inputs

abbrev pub numbers_read : Shape → ℕ → List ℕ
numbers_read nodes n = numbers_of (node_at nodes n).inputs

-- the nodes that a root reaches, in the order in which the walk leaves them
abbrev pub order_from : Shape → ℕ → List ℕ
order_from nodes root = leaving_order (numbers_read nodes) (length nodes) root

-- the first place of a number
abbrev pub place_in : List ℕ → ℕ → ℕ
place_in order n = position_or_len (λ m. m == n) order

abbrev pub renumbered_input : List ℕ → Stream → Stream
renumbered_input order i = (place_in order i.0, i.1)

-- a node whose inputs are numbered by their places
abbrev pub renumbered : List ℕ → PhysicalNode → PhysicalNode
renumbered order p = record p { inputs = map (renumbered_input order) p.inputs }

-- these nodes, numbered by their places
abbrev pub shape_in : List ℕ → Shape → Shape
shape_in order nodes = map (λ n. renumbered order (node_at nodes n)) order

-- the nodes that a root reaches, numbered as a walk from there leaves them; the root is the last one
abbrev pub shape_from : Shape → ℕ → Shape
shape_from nodes root = shape_in (order_from nodes root) nodes
