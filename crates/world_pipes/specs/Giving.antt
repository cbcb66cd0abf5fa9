-- How what is given to pipes of a run changes them, and what comes next out of them.
use Rattle.std.specs.Prelude.{◌≡◌, ℕ, ◌≤◌, false, cond, Option, Some, None, IsTrue, slice_get}
use Rattle.ps_frame.specs.Tables.{Fields, Frame}
use Rattle.ps_pipes.specs.Shown.{Shows, next_table}
use Rattle.ps_pipes.specs.declared.pipe.Pipe.{Pipe as Held}
use Rattle.ps_world.specs.World.{Pipe}

-- where it isn't dropped
abbrev pub if_kept : (Pipe → Pipe) → Pipe → Pipe
if_kept f p = cond p.is_dropped p (f p)

-- a place for this number is in the pipe, and its answer hasn't come, unless it isn't in the phase or is dropped
abbrev pub IsAwaitedIn : ℕ → Pipe → Type 0
IsAwaitedIn number p = IsTrue p.in_phase → p.is_dropped ≡ false → (p.next ≤ number) × (slice_get p.got number ≡ Some None)

-- the table of the next morsel, if it is there and the pipe is in the phase
abbrev pub next_in_phase : Fields → Pipe → Option Frame
next_in_phase s p = cond p.in_phase (next_table s p) None

-- whichever pipe of a world with rows of this schema it showed, it shows that pipe changed
pub record BecomesOf (s : Fields) (f : Pipe → Pipe) (h h' : Held) : Type 0 where
  pub shows : (p : Pipe) → Shows s p h → Shows s (f p) h'
  pub bounded : h'.is_bounded ≡ h.is_bounded
  pub room : h'.room ≡ h.room
