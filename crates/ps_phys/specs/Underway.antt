-- What a walk over a slot map knows while it is under way.
use Rattle.std.specs.Prelude.{◌≡◌, ℕ, zero, suc, ◌+◌, ◌≤◌, List, [], ◌∷◌, map, fold, drop, length, Option, Some, None, is_some, IsSome, if◌then◌else◌}
use Rattle.std.specs.List.{AllByRecursion}
use Rattle.keyed_slots.specs.Slots.{value_at}
use Rattle.ps_phys.specs.Shown.{inputs_of}
use Rattle.ps_phys.specs.Walks.{Stream, Walk, goes_to, is_one_of, leaves, leaving_order, numbers_of}
use Rattle.ps_phys.specs.declared.order.Open.{Open}
use Rattle.ps_phys.specs.declared.phys.PhysNode.{PhysNode}
use Rattle.ps_phys.specs.declared.phys.PhysNodeKey.{PhysNodeKey}

-- the streams that the node of a slot reads; none where no node is
abbrev pub inputs_or_none : Option PhysNode → List Stream
inputs_or_none None = []
inputs_or_none (Some p) = inputs_of p.kind

abbrev pub slot_inputs : List (Option PhysNode) → ℕ → List Stream
slot_inputs slots n = inputs_or_none (value_at slots n)

abbrev pub slot_reads : List (Option PhysNode) → ℕ → List ℕ
slot_reads slots n = numbers_of (slot_inputs slots n)

abbrev pub numbers_in : List PhysNodeKey → List ℕ
numbers_in keys = map (λ (k : PhysNodeKey). k.0) keys

-- where a walk stands: what it has done, and how many nodes more may be met one below the other
pub record Standing : Type 0 where
  pub walk : Walk
  pub room : ℕ

module _ (reads : ℕ → List ℕ) where
  -- back from a node on the way: the walk goes to what it reads from the place on, and leaves it
  abbrev pub goes_back : Open → Standing → Standing
  goes_back o s = record { walk = leaves o.node.0 (fold (goes_to reads s.room) s.walk (drop o.place (reads o.node.0))); room = suc s.room }

  -- back from all nodes on the way, the last one first
  abbrev pub goes_all_back : List Open → Standing → Standing
  goes_all_back [] s = s
  goes_all_back (o ∷ os) s = goes_back o (goes_all_back os s)

-- the weights of the numbers below the first one that aren't met, together
abbrev pub unmet : (ℕ → ℕ) → ℕ → List (Option Unit) → ℕ
unmet weight zero met = 0
unmet weight (suc c) met = (if is_some (value_at met c) then 0 else weight c) + unmet weight c met

-- the nodes of these keys are there
abbrev pub AreThere : List (Option PhysNode) → List PhysNodeKey → Type 0
AreThere slots keys = AllByRecursion (λ (k : PhysNodeKey). IsSome (value_at slots k.0)) keys

-- The walk from the root stands at a node: where it has gone all the way back, it has left the nodes in their order. All of them are there.
pub record IsUnderway (slots : List (Option PhysNode)) (root : ℕ) (met : List (Option Unit)) (way : List Open) (left : List PhysNodeKey) (at : Open) : Type 0 where
  pub numbers : List ℕ
  pub marked : (n : ℕ) → is_some (value_at met n) ≡ is_one_of n numbers
  pub room : ℕ
  pub enough : unmet (λ n. 1) (length slots) met ≤ room
  pub goes : (goes_all_back (slot_reads slots) way (goes_back (slot_reads slots) at (record { walk = record { met = numbers; left = numbers_in left }; room = room }))).walk.left ≡ leaving_order (slot_reads slots) (length slots) root
  pub here : IsSome (value_at slots at.node.0)
  pub on_way : AllByRecursion (λ (o : Open). IsSome (value_at slots o.node.0)) way
  pub gone : AreThere slots left

-- these are the nodes in their order, and they are there
pub record AreLeft (slots : List (Option PhysNode)) (root : ℕ) (left : List PhysNodeKey) : Type 0 where
  pub order : numbers_in left ≡ leaving_order (slot_reads slots) (length slots) root
  pub there : AreThere slots left

-- the looks that nodes on the way still need: one at each input from the place on, and one more
abbrev pub looks_at : (ℕ → List ℕ) → Open → ℕ
looks_at reads o = suc (length (drop o.place (reads o.node.0)))

abbrev pub looks_on_way : (ℕ → List ℕ) → List Open → ℕ
looks_on_way reads [] = 0
looks_on_way reads (o ∷ os) = looks_at reads o + looks_on_way reads os

-- the looks that the whole walk still needs
abbrev pub looks_left : (ℕ → List ℕ) → ℕ → List (Option Unit) → List Open → Open → ℕ
looks_left reads count met way at = unmet (λ n. suc (length (reads n))) count met + (looks_on_way reads way + looks_at reads at)
