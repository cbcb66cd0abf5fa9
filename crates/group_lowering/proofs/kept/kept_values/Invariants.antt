use Rattle.std.proofs.Common.{◌≡◌, take}
use Rattle.ps_copies.specs.Copies.{KeepsTrees}
use Rattle.ps_frame.specs.Trees.{tree_at}
use Rattle.ps_meaning.specs.Steps.{named_trees}
use Rattle.plan_rules.specs.Distinct.{kept_values}
use Rattle.lowering_parts.specs.Gathered.{Begins}
use Rattle.group_lowering.proofs.kept.kept_values.Given as goal

abbrev pub invariant-loop-name : goal.invariant-loop-name
invariant-loop-name l =
    record {
      entries : Begins l.initial.arena.items l.arena.items;
      kept : KeepsTrees l.initial.arena.items l.arena.items;
      named : named_trees (tree_at l.arena.items) l.values.items ≡ kept_values l.keep (take l.name-index l.names);
    }
