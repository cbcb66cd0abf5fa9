-- Entries of a plan whose steps are of kinds that the rules keep.
use Rattle.pu_base.specs.declared.arena.Node.{Node}
use Rattle.ps_frame.specs.Trees.{Tree}
use Rattle.ps_plan.specs.Entries.{entry_step}
use Rattle.ps_plan.specs.declared.ir.IR.{IR}
use Rattle.plans_keep.specs.Kinds.{IsOfKeptKind}

-- whatever its expressions are
abbrev pub IsAlwaysKept : IR → Type 0
IsAlwaysKept e = (f : Node → Tree) → IsOfKeptKind (entry_step f e)
