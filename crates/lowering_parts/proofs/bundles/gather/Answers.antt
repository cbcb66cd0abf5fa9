use Rattle.std.proofs.Common.{ℕ, List, ap, sym, subst, ◌∙◌}
use Rattle.std.specs.Prelude.{nat_eq}
use Rattle.std.specs.List.{AllByRecursion}
use Rattle.ps_frame.specs.Trees.{IsComplete, tree_at}
use Rattle.ps_meaning.specs.Steps.{key_trees}
use Rattle.ps_meaning.specs.declared.options.ExprIR.{ExprIR}
use Rattle.ps_phys.specs.Shown.{stream_of}
use Rattle.lowering_parts.proofs.BundleLemmas.{gathered_map, gathered_none, whole_named}
use Rattle.lowering_parts.proofs.bundles.gather.Goals as goal

pub returns-then-is_empty-clause-gathered : goal.returns-then-is_empty-clause-gathered
returns-then-is_empty-clause-gathered c later keeps =
    gathered_none c.args.low.now.origin.0 (stream_of c.args.input) (tree_at later) c.args.low.now c.args.call c.is_empty.result (c.is_empty.ensures ∙ ap (λ (n : ℕ). nat_eq n 0) c.args.call.mapped.ok.0) c.if-is_empty.true

pub map_over-requires : goal.map_over-requires
map_over-requires c = record { whole = whole_named (tree_at c.args.arena.now.items) c.args.call.mapped.items c.requires.whole.mapped }

pub returns-clause-gathered : goal.returns-clause-gathered
returns-clause-gathered c later keeps =
    gathered_map c.args.low.now.origin.0 (stream_of c.args.input) (tree_at later) c.args.low.now c.args.call c.is_empty.result (c.is_empty.ensures ∙ ap (λ (n : ℕ). nat_eq n 0) c.args.call.mapped.ok.0) c.if-is_empty.false c.map_over.new.low c.in_ok-map.map c.add.new.self
    (c.in_ok-map.ensures.made later keeps) c.in_ok-add.ensures.added

pub returns-clause-whole : goal.returns-clause-whole
returns-clause-whole c = record {
  reduced = c.requires.whole.reduced;
  exprs = c.requires.whole.exprs;
  mapped = subst (λ (es : List ExprIR). AllByRecursion IsComplete (key_trees (tree_at c.args.arena.now.items) es)) (sym c.new.ensures.items) tt;
}
