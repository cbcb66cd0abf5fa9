use Rattle.std.proofs.Common.{sym, ap, ◌∙◌}
use Rattle.ps_frame.specs.Trees.{tree_at}
use Rattle.ps_phys.specs.declared.phys.PhysNodeKind.TheVariants as phys
use Rattle.sound_plans.proofs.Arms.{union-at, zip-at}
use Rattle.sound_plans.proofs.nodes.is_fit.Goals as goal

pub returns-in-OrderedUnion-clause-fit : goal.returns-in-OrderedUnion-clause-fit
returns-in-OrderedUnion-clause-fit g c =
    union-at (tree_at c.args.arena.now.items) (g.F.Functions.told c.args.functions.now) c.args.schema.now c.args.phys.now.slots c.args.kind.now c.as_slice.result.now (c.in-OrderedUnion.is ∙ ap (λ xs. phys.OrderedUnion xs) (sym c.as_slice.ensures)) c.union.result c.union.ensures

pub returns-in-Zip-clause-fit : goal.returns-in-Zip-clause-fit
returns-in-Zip-clause-fit g c =
    zip-at (tree_at c.args.arena.now.items) (g.F.Functions.told c.args.functions.now) c.args.schema.now c.args.phys.now.slots c.args.kind.now c.as_slice-in-Zip.result.now c.in-Zip.null_extend
    (c.in-Zip.is ∙ ap (λ xs. phys.Zip xs c.in-Zip.null_extend) (sym c.as_slice-in-Zip.ensures)) c.zip.result c.zip.ensures.fit
