-- How a step changes the pipes of a run that stand at some places.
use Rattle.std.specs.Prelude.{◌≡◌, ℕ, Bool, false, cond, List, Some, length, slice_get}
use Rattle.ps_frame.specs.Tables.{Fields}
use Rattle.ps_pipes.specs.Shown.{Shows}
use Rattle.ps_pipes.specs.declared.pipe.Pipe.{Pipe as Held}
use Rattle.ps_ports.specs.Phases.{is_one_of}
use Rattle.ps_world.specs.World.{Pipe}

-- whichever pipe of a world it showed, it shows that pipe changed
pub record Becomes (f : Pipe → Pipe) (h h' : Held) : Type 0 where
  pub shows : (s : Fields) (p : Pipe) → Shows s p h → Shows s (f p) h'
  pub bounded : h'.is_bounded ≡ h.is_bounded
  pub room : h'.room ≡ h.room

-- those at these places do, and the others stay
pub record Changed (f : Pipe → Pipe) (ks : List ℕ) (old new : List Held) : Type 0 where
  pub long : length new ≡ length old
  pub here : (k : ℕ) (h h' : Held) → is_one_of k ks ≡ Bool.true → slice_get old k ≡ Some h → slice_get new k ≡ Some h' → Becomes f h h'
  pub others : (k : ℕ) → is_one_of k ks ≡ false → slice_get new k ≡ slice_get old k

-- where it is in the phase
abbrev pub if_in_phase : (Pipe → Pipe) → Pipe → Pipe
if_in_phase f p = cond p.in_phase (f p) p
