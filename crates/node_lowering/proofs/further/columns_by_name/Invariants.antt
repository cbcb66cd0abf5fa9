use Rattle.std.proofs.Common.{◌≡◌, take}
use Rattle.ps_copies.specs.Copies.{KeepsTrees}
use Rattle.ps_meaning.specs.Schemas.{names_of}
use Rattle.ps_meaning.specs.Steps.{named_trees}
use Rattle.ps_rules.specs.Slots.{under}
use Rattle.plan_rules.specs.Nodes.{expr_or_column}
use Rattle.lowering_parts.specs.Gathered.{Begins, Later, trees_at}
use Rattle.node_lowering.proofs.FurtherLemmas.{pairs}
use Rattle.node_lowering.proofs.further.columns_by_name.Given as goal

abbrev pub invariant-loop-i : goal.invariant-loop-i
invariant-loop-i l =
    record {
      entries : Begins l.initial.arena.items l.arena.items;
      kept : KeepsTrees l.initial.arena.items l.arena.items;
      named : Later l.arena.items (λ f. named_trees f l.columns.items ≡ pairs (expr_or_column (under (names_of l.given) (trees_at f l.answers))) (names_of (take l.i l.schema)));
    }
