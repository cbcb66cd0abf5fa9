-- Zips: each number stands for a cut through all inputs, and each cut begins where the one before ends.
use Rattle.std.specs.Prelude.{◌≡◌, ℕ, ◌+◌, ◌-◌, ◌<◌, ◌≤◌, ◌⊎◌, ◌||◌, Bool, List, cond, map, length, take, drop, get_or, [], IsTrue}
use Rattle.ps_frame.specs.Functions.{Functions}
use Rattle.ps_frame.specs.Tables.{Row}
use Rattle.ps_ports.specs.Ports.{is_done}
use Rattle.ps_turns.specs.Heads.{is_single, stored_rows}
use Rattle.ps_turns.specs.Tasks.{computes}
use Rattle.ps_world.specs.Laws.{sent_by}
use Rattle.ps_world.specs.World.{Node, Pipe, World, pipes_in, schemas_for, IsWorking}
use Rattle.world_families.specs.Sources.{KeepsNone}
use Rattle.world_families.specs.Work.{AllComplete, Enters, Gives, IsComplete, Leaves, rows_read}

-- without extension an input that is complete and had one row broadcasts it
abbrev pub broadcasts : (extend : Bool) → Pipe → Bool
broadcasts extend q = is_single extend (record { rows = rows_read q; is_over = (sent_by q).is_complete })

-- an input's rows in the cut from one number of rows up to another
abbrev pub rows_in_cut : (extend : Bool) (start end : ℕ) → Pipe → List Row
rows_in_cut extend a b q = cond (broadcasts extend q) (rows_read q) (take (b - a) (drop a (rows_read q)))

-- it broadcasts, or has a row for each of the cut's; with extension it may have ended before the cut
abbrev pub ServesCut : (extend : Bool) (start end : ℕ) → Pipe → Type 0
ServesCut extend a b q = IsTrue (broadcasts extend q) ⊎ (b ≤ length (rows_read q)) ⊎ IsTrue extend × IsComplete q × (length (rows_read q) ≤ a)

-- a cut of one row at least, which each input serves, and of which one has all rows
pub record IsCut (w : World) (n : ℕ) (extend : Bool) (start end : ℕ) : Type 0 where
  pub some_rows : start < end
  pub served : (q : Pipe) → Enters w n q → ServesCut extend start end q
  pub reached : (q : Pipe) × Enters w n q × (end ≤ length (rows_read q))

-- all inputs are complete, and so many rows are all of each that doesn't broadcast, and all of one
pub record AllCut (w : World) (n : ℕ) (extend : Bool) (end : ℕ) : Type 0 where
  pub complete : AllComplete w n
  pub no_more : (q : Pipe) → Enters w n q → IsTrue (broadcasts extend q) ⊎ (length (rows_read q) ≤ end)
  pub reached : (q : Pipe) × Enters w n q × (length (rows_read q) ≤ end)

pub record HoldsZip (F : Functions) (w : World) (n : ℕ) (node : Node) (extend : Bool) : Type 0 where
  -- how many rows stand before the cut of each number; all cuts together are what is booked
  pub before : ℕ → ℕ
  pub from_none : before 0 ≡ 0
  pub up_to_booked : before node.progress.sent ≡ node.progress.booked
  pub cuts : (k : ℕ) → k < node.progress.sent → IsCut w n extend (before k) (before (k + 1))
  pub gives : Gives F w n (λ k x. (k < node.progress.sent) × (x ≡ record { task = computes node.node; schemas = schemas_for w node; tables = map (rows_in_cut extend (before k) (before (k + 1))) (pipes_in w n) })) KeepsNone (AllCut w n extend node.progress.booked)
  -- it stores what it read, until its output is dropped; then it stores nothing
  pub stores : (q : Pipe) → Enters w n q → (stored_rows (get_or node.progress.stores q.wire.input []) ≡ rows_read q) ⊎ (p : Pipe) × Leaves w n p × IsTrue p.is_dropped
  pub lets_go : (p : Pipe) → Leaves w n p → IsTrue p.is_dropped → (i : ℕ) → stored_rows (get_or node.progress.stores i []) ≡ []
  -- in a phase it reads all inputs that aren't done
  pub beside : IsWorking w n → (q : Pipe) → Enters w n q → IsTrue (q.in_phase || is_done q.wire.send_state)
