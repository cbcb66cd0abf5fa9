use Rattle.std.proofs.Common.{[], ap, sym, ◌∙◌}
use Rattle.ps_frame.specs.Trees.{tree_at}
use Rattle.ps_phys.specs.declared.phys.PhysNodeKind.TheVariants as phys
use Rattle.sound_plans.proofs.Arms.{fits-all, independent-whole}
use Rattle.sound_plans.proofs.nodes.over_none.Goals as goal

pub returns-in-InMemorySource-clause-fit : goal.returns-in-InMemorySource-clause-fit
returns-in-InMemorySource-clause-fit g c = fits-all (tree_at c.args.arena.now.items) c.args.schema.now [] c.args.kind.now (phys.InMemorySource c.in-InMemorySource.df) c.in-InMemorySource.is c.source.result c.source.ensures.fit

pub independent-requires-clause-selectors : goal.independent-requires-clause-selectors
independent-requires-clause-selectors g c = independent-whole (tree_at c.args.arena.now.items) c.args.kind.now c.requires.complete c.as_slice.result.now (c.in-InputIndependentSelect.is ∙ ap (λ xs. phys.InputIndependentSelect xs) (sym c.as_slice.ensures))

pub returns-in-InputIndependentSelect-clause-fit : goal.returns-in-InputIndependentSelect-clause-fit
returns-in-InputIndependentSelect-clause-fit g c = fits-all (tree_at c.args.arena.now.items) c.args.schema.now [] c.args.kind.now (phys.InputIndependentSelect c.as_slice.result.now) (c.in-InputIndependentSelect.is ∙ ap (λ xs. phys.InputIndependentSelect xs) (sym c.as_slice.ensures)) c.independent.result c.independent.ensures.fit
