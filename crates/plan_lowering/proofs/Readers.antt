-- Each stream has one reader, where each node reads first ports of nodes that are there.
use Rattle.std.proofs.Common.{◌≡◌, ℕ, zero, suc, ◌+◌, ◌<◌, ◌≤◌, List, [], ◌∷◌, Ok, Err, Result, add-one, length, refl, sym, subst, take, arith}
use Rattle.std.proofs.lemmas.Option.{same_Some}
use Rattle.std.specs.Prelude.{IsSome, None, OnOk, Option, Some, slice_get}
use Rattle.std.specs.List.{AllByRecursion}
use Rattle.keyed_slots.specs.Slots.{value_at}
use Rattle.pu_base.specs.declared.arena.Node.{Node}
use Rattle.ps_frame.specs.Trees.{Tree}
use Rattle.ps_frame.specs.declared.refusal.PolarsError.{PolarsError}
use Rattle.ps_meaning.specs.Shape.{Shape}
use Rattle.ps_multiplexers.specs.Multiplexers.{with_multiplexers}
use Rattle.ps_multiplexers.specs.Taken.{ReadsFirstPorts, streams_after, takes}
use Rattle.ps_phys.specs.Shown.{ReadsWhatIsThere, inputs_of, node_of_slot, nodes_of}
use Rattle.ps_phys.specs.Walks.{Stream, node_at}
use Rattle.ps_phys.specs.declared.phys.PhysNode.{PhysNode}
use Rattle.plan_lowering.specs.There.{AreFirstPorts, IsReadOnce, ReadsFirst}

-- one more input, and all of them
more : (slots : List (Option PhysNode)) (inputs : List Stream) (i : ℕ) (x : Stream) → AreFirstPorts slots (take i inputs) → Some x ≡ slice_get inputs i → IsSome (value_at slots x.0) → x.1 ≡ 0 → AreFirstPorts slots (take (suc i) inputs)
more slots [] i x h e there port = cc
more slots (y ∷ inputs) zero x h e there port = (subst (λ (s : Stream). IsSome (value_at slots s.0) × (s.1 ≡ 0)) (same_Some x y e) (there, port), tt)
more slots (y ∷ inputs) (suc i) x h e there port = (h.0, more slots inputs i x h.1 e there port)

pub one_more : (slots : List (Option PhysNode)) (inputs : List Stream) (i : ℕ) (x : Stream) → AreFirstPorts slots (take i inputs) → Some x ≡ slice_get inputs i → IsSome (value_at slots x.0) → x.1 ≡ 0 → AreFirstPorts slots (take (i + 1) inputs)
one_more slots inputs i x h e there port = rw add-one (more slots inputs i x h e there port)

pub all_inputs : (slots : List (Option PhysNode)) (inputs : List Stream) (i : ℕ) → AreFirstPorts slots (take i inputs) → None ≡ slice_get inputs i → AreFirstPorts slots inputs
all_inputs slots [] i h e = tt
all_inputs slots (y ∷ inputs) zero h e = cc
all_inputs slots (y ∷ inputs) (suc i) h e = (h.0, all_inputs slots inputs i h.1 e)

-- a node of the list, by its slot
node_is : (f : Node → Tree) (slots : List (Option PhysNode)) (n : ℕ) → node_at (nodes_of f slots) n ≡ node_of_slot f (value_at slots n)
node_is f [] n = refl
node_is f (x ∷ slots) zero = refl
node_is f (x ∷ slots) (suc n) = node_is f slots n

within : (f : Node → Tree) (slots : List (Option PhysNode)) (n : ℕ) → IsSome (value_at slots n) → n < length (nodes_of f slots)
within f [] n h = cc
within f (x ∷ slots) zero h = omega arith
within f (x ∷ slots) (suc n) h = let lt = within f slots n h in omega arith

module _ (slots : List (Option PhysNode)) where
  inputs_there : (is : List Stream) → AreFirstPorts slots is → AllByRecursion (λ (i : Stream). IsSome (value_at slots i.0)) is
  inputs_there [] h = tt
  inputs_there (i ∷ is) h = (h.0.0, inputs_there is h.1)

  pub all_there : ((n : ℕ) → ReadsFirst slots n) → ReadsWhatIsThere slots
  all_there reads n p e = inputs_there (inputs_of p.kind) (reads n p e)

  module _ (f : Node → Tree) where
    first_inputs : (is : List Stream) → AreFirstPorts slots is → AllByRecursion (λ (i : Stream). (i.0 < length (nodes_of f slots)) × (i.1 ≡ 0)) is
    first_inputs [] h = tt
    first_inputs (i ∷ is) h = ((within f slots i.0 h.0.0, h.0.1), first_inputs is h.1)

    of_slot : (o : Option PhysNode) → ((p : PhysNode) → o ≡ Some p → AreFirstPorts slots (inputs_of p.kind)) → AllByRecursion (λ (i : Stream). (i.0 < length (nodes_of f slots)) × (i.1 ≡ 0)) (node_of_slot f o).inputs
    of_slot None reads = tt
    of_slot (Some p) reads = first_inputs (inputs_of p.kind) (reads p refl)

    first_ports : ((n : ℕ) → ReadsFirst slots n) → ReadsFirstPorts (nodes_of f slots)
    first_ports reads n = subst (λ p. AllByRecursion (λ (i : Stream). (i.0 < length (nodes_of f slots)) × (i.1 ≡ 0)) p.inputs) (sym (node_is f slots n)) (of_slot (value_at slots n) (reads n))

    -- by the law of multiplexers
    pub read_once : (new : List (Option PhysNode)) (root : ℕ) (r : Result (Unit {0}) PolarsError) → IsSome (value_at slots root) → ((n : ℕ) → ReadsFirst slots n)
        → ((nodes : Shape) (k : ℕ) → k < length nodes → ReadsFirstPorts nodes → (s : Stream) → takes s (streams_after k nodes) ≤ 1)
        → OnOk r (nodes_of f new ≡ with_multiplexers root (nodes_of f slots)) → OnOk r (IsReadOnce root (nodes_of f new))
    read_once new root (Ok x) there reads law shared = record { before = nodes_of f slots; shared = shared; once = law (nodes_of f slots) root (within f slots root there) (first_ports reads) }
    read_once new root (Err e) there reads law shared = tt
