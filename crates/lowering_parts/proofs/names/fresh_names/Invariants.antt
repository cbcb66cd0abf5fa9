use Rattle.std.proofs.Common.{◌≡◌, take}
use Rattle.pu_base.specs.declared.arena.Node.{Node}
use Rattle.ps_frame.specs.Trees.{Tree}
use Rattle.ps_rules.specs.Slots.{after_names, new_names}
use Rattle.lowering_parts.specs.Gathered.{KeepsNames, state_of}
use Rattle.lowering_parts.proofs.names.fresh_names.Given as goal

abbrev pub invariant-loop-item : goal.invariant-loop-item
invariant-loop-item g l =
    record {
      names : (f : Node → Tree) → l.names.items ≡ new_names (take l.item-index l.items) (state_of f l.initial.low);
      next : (f : Node → Tree) → state_of f l.low ≡ after_names (take l.item-index l.items) (state_of f l.initial.low);
      others : l.low ≡ record l.initial.low { names = l.low.names };
      known : KeepsNames l.initial.low.names l.low.names;
    }
