-- Unions: the morsels of the inputs, one input after the other.
use Rattle.std.specs.Prelude.{◌≡◌, ℕ, ◌<◌, ◌⊎◌, List, [], ◌∷◌, flat_map, length, take, Option, Some, slice_get, IsTrue}
use Rattle.ps_frame.specs.Functions.{Functions}
use Rattle.ps_frame.specs.Tables.{Row}
use Rattle.ps_turns.specs.Tasks.{hands_on}
use Rattle.ps_world.specs.World.{Node, Pipe, World, pipes_in, schemas_for}
use Rattle.world_families.specs.Sources.{KeepsNone}
use Rattle.world_families.specs.Work.{AllComplete, Enters, Gives, IsComplete}

-- the morsels that were read, one input after the other
abbrev pub morsels_read : List Pipe → List (Option (List Row))
morsels_read qs = flat_map (λ (q : Pipe). take q.next q.got) qs

-- Each number stands for the next of these morsels, and an input has its turn once those before it are complete.
pub record HoldsUnion (F : Functions) (w : World) (n : ℕ) (node : Node) : Type 0 where
  pub in_turn : (q r : Pipe) → Enters w n q → Enters w n r → q.wire.input < r.wire.input → (0 < r.next) ⊎ IsTrue r.in_phase → IsComplete q
  pub counted : node.progress.sent ≡ length (morsels_read (pipes_in w n))
  pub gives : Gives F w n (λ k x. (rs : List Row) × (slice_get (morsels_read (pipes_in w n)) k ≡ Some (Some rs)) × (x ≡ record { task = hands_on; schemas = schemas_for w node; tables = rs ∷ [] })) KeepsNone (AllComplete w n)
