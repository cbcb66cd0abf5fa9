use Rattle.std.proofs.Common.{◌≡◌, List, ◌++◌, subst, sym}
use Rattle.std.specs.Prelude.{IfOk}
use Rattle.std.specs.List.{AllByRecursion}
use Rattle.ps_frame.specs.Trees.{IsComplete, tree_at}
use Rattle.ps_meaning.specs.Steps.{key_trees, named_trees}
use Rattle.ps_meaning.specs.declared.options.ExprIR.{ExprIR}
use Rattle.ps_phys.specs.Shown.{stream_of}
use Rattle.ps_rules.specs.Slots.{over_selected}
use Rattle.lowering_parts.specs.Gathered.{made_of, state_of}
use Rattle.group_lowering.specs.Groups.{grouping_kind}
use Rattle.group_lowering.specs.declared.groups.Grouping.TheVariants as grouping
use Rattle.group_lowering.proofs.groups.mapped.Goals as goal

pub over_groups-requires-clause-keys : goal.over_groups-requires-clause-keys
over_groups-requires-clause-keys c = subst (λ (es : List ExprIR). AllByRecursion IsComplete (key_trees (tree_at c.args.arena.now.items) es)) (sym c.in_ok-keys.ensures.same) c.requires.keys

pub over_groups-requires-clause-aggs : goal.over_groups-requires-clause-aggs
over_groups-requires-clause-aggs c = subst (λ (es : List ExprIR). AllByRecursion IsComplete (key_trees (tree_at c.args.arena.now.items) es)) (sym c.in_ok-aggs.ensures.same) c.requires.aggs

pub returns-clause-made : goal.returns-clause-made
returns-clause-made c later keeps =
    let f = tree_at later in
    let P : List ExprIR → List ExprIR → Type 0 = λ ks gs. IfOk c.over_groups.result (λ s. made_of f c.over_groups.new.low s ≡ over_selected c.args.low.now.origin.0 (grouping_kind (grouping.Whole c.args.maintain_order c.args.slice) (named_trees f ks) (named_trees f gs)) (named_trees f ks ++ named_trees f gs) (stream_of c.args.input) (state_of f c.args.low.now)) in
    subst (λ (ks : List ExprIR). P ks c.args.aggs.now) c.in_ok-keys.ensures.same (subst (λ (gs : List ExprIR). P c.in_ok-keys.keys.items gs) c.in_ok-aggs.ensures.same (c.over_groups.ensures.made later keeps))
