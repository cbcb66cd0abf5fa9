-- What the walk over a slot map knows while it is under way.
use Rattle.std.specs.Prelude.{◌≡◌, ℕ, zero, suc, ◌+◌, List, ◌++◌, flat_map, length, reverse, Option, is_some, if◌then◌else◌}
use Rattle.keyed_slots.specs.Slots.{value_at}
use Rattle.ps_multiplexers.specs.Multiplexers.{Waiting, walk_from, walked}
use Rattle.ps_phys.specs.Underway.{AreThere, numbers_in, slot_reads}
use Rattle.ps_phys.specs.Walks.{is_one_of}
use Rattle.ps_phys.specs.declared.phys.PhysNode.{PhysNode}
use Rattle.ps_phys.specs.declared.phys.PhysNodeKey.{PhysNodeKey}

-- how many numbers below the first one weren't pushed
abbrev pub unpushed : ℕ → List (Option Unit) → ℕ
unpushed zero pushed = 0
unpushed (suc c) pushed = (if is_some (value_at pushed c) then 0 else 1) + unpushed c pushed

-- the nodes that are still to be taken: at most those that wait, and those that weren't pushed
abbrev pub left_to_take : ℕ → List (Option Unit) → List PhysNodeKey → ℕ
left_to_take count pushed waiting = unpushed count pushed + length waiting

-- these marks and keys show the nodes that wait; the last key is on top
pub record Waits (pushed : List (Option Unit)) (waiting : List PhysNodeKey) (w : Waiting) : Type 0 where
  pub stack : w.stack ≡ reverse (numbers_in waiting)
  pub marked : (n : ℕ) → is_some (value_at pushed n) ≡ is_one_of n w.pushed

-- The walk from the root has taken these nodes, which read those; it goes on with the nodes that wait. All of them are there.
pub record IsVisiting (slots : List (Option PhysNode)) (root : ℕ) (pushed : List (Option Unit)) (waiting taken read : List PhysNodeKey) : Type 0 where
  pub w : Waiting
  pub waits : Waits pushed waiting w
  pub goes : numbers_in taken ++ walked (slot_reads slots) (left_to_take (length slots) pushed waiting) w ≡ walk_from (slot_reads slots) (length slots) root
  pub reads : numbers_in read ≡ flat_map (slot_reads slots) (numbers_in taken)
  pub there : AreThere slots waiting
  pub gone : AreThere slots taken

-- the walk is over: these are its nodes, which are there, and those that they read
pub record IsVisited (slots : List (Option PhysNode)) (root : ℕ) (taken read : List PhysNodeKey) : Type 0 where
  pub walk : numbers_in taken ≡ walk_from (slot_reads slots) (length slots) root
  pub reads : numbers_in read ≡ flat_map (slot_reads slots) (numbers_in taken)
  pub gone : AreThere slots taken
