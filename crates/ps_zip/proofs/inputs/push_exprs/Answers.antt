use Rattle.std.proofs.Common.{◌∙◌}
use Rattle.ps_frame.specs.Trees.{tree_at}
use Rattle.ps_zip.proofs.Steps.{adds-parts, typed-nodes}
use Rattle.ps_zip.proofs.inputs.push_exprs.Goals as goal

pub parts_of-requires : goal.parts_of-requires
parts_of-requires c = typed-nodes c.args.df.now.schema (tree_at c.args.arena.now.items) c.args.exprs.now c.as_slice.result.now (c.as_slice.ensures.value ∙ c.in_ok-nodes.ensures) c.requires

pub returns : goal.returns
returns c =
    adds-parts c.args.df.now (tree_at c.args.arena.now.items) c.args.exprs.now c.as_slice.result.now c.args.inputs.now.items c.push_parts.new.inputs.items c.in_ok-parts.parts.items (c.as_slice.ensures.value ∙ c.in_ok-nodes.ensures) c.table_fits.ensures c.in_ok-parts.ensures c.in_ok-push_parts.ensures
