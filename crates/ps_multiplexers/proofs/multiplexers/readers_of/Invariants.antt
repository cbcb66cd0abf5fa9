use Rattle.std.proofs.Common.{◌≡◌, [], ◌++◌, length, map, take}
use Rattle.pu_base.specs.declared.arena.Node.{Node}
use Rattle.ps_frame.specs.Trees.{Tree}
use Rattle.ps_multiplexers.specs.Multiplexers.{multiplexer_of, read_again}
use Rattle.ps_multiplexers.specs.Readers.{AreNoted, Grows, IsFilledFrom}
use Rattle.ps_phys.specs.Shown.{nodes_of}
use Rattle.ps_phys.specs.Underway.{numbers_in}
use Rattle.ps_multiplexers.proofs.multiplexers.readers_of.Given as goal

abbrev pub invariant-loop-place : goal.invariant-loop-place
invariant-loop-place l =
    AreNoted (length l.fn.phys.slots) (numbers_in (take l.place l.read)) (read_again [] (numbers_in (take l.place l.read))) l.readers.slots
    × ((f : Node → Tree) → nodes_of f l.phys.slots ≡ nodes_of f l.fn.phys.slots ++ map (multiplexer_of (nodes_of f l.fn.phys.slots)) (read_again [] (numbers_in (take l.place l.read))))
    × Grows l.fn.phys.slots l.phys.slots
    × IsFilledFrom (length l.fn.phys.slots) l.phys.slots
