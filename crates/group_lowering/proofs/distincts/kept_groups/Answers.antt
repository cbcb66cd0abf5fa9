use Rattle.std.proofs.Common.{List, subst, sym}
use Rattle.std.specs.List.{AllByRecursion}
use Rattle.ps_frame.specs.Trees.{IsComplete, tree_at}
use Rattle.ps_meaning.specs.Steps.{key_trees}
use Rattle.ps_meaning.specs.declared.options.ExprIR.{ExprIR}
use Rattle.ps_phys.specs.Shown.{stream_of}
use Rattle.group_lowering.specs.Distincts.{distinct_of}
use Rattle.group_lowering.proofs.DistinctLemmas.{kept_any, kept_single}
use Rattle.group_lowering.proofs.distincts.kept_groups.Goals as goal

pub groups_with-requires-clause-more : goal.groups_with-requires-clause-more
groups_with-requires-clause-more c = subst (λ (es : List ExprIR). AllByRecursion IsComplete (key_trees (tree_at c.args.arena.now.items) es)) (sym c.new-more.ensures.items) tt

pub returns-then-single-clause-makes : goal.returns-then-single-clause-makes
returns-then-single-clause-makes c =
    kept_single (stream_of c.args.input) (distinct_of c.args.options.now) c.single_rows.result c.args.arena.now.items c.single_rows.new.arena.items c.args.low.now c.single_rows.new.low c.keeps_none-single.result c.keeps_none-single.ensures c.if-single.true c.single_rows.ensures.makes

pub returns-clause-makes : goal.returns-clause-makes
returns-clause-makes c =
    kept_any (stream_of c.args.input) (distinct_of c.args.options.now) c.new-more.result.items c.groups_with.result c.args.arena.now.items c.groups_with.new.arena.items c.args.low.now c.groups_with.new.low c.keeps_none-single.result c.keeps_none-single.ensures c.if-single.false c.new-more.ensures.items c.groups_with.ensures.makes
