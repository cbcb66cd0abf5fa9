use Rattle.std.proofs.Common.{refl, ap, sym, ◌∙◌, arith}
use Rattle.ps_frame.proofs.Rows.{length-rows_of}
use Rattle.ps_frame.proofs.Stacks.{frame-below, rows-below}
use Rattle.ps_frame.specs.Frames.{kinds_of}
use Rattle.ps_frame.specs.Lawful.{stacked}
use Rattle.ps_frame.proofs.frame_builder.FrameBuilder.followed_by.Goals as goal

pub with_columns-requires : goal.with_columns-requires
with_columns-requires c =
    let schemas = rw (← c.self.view_is) at c.requires.schemas in
    c.self.invariant.kinds ∙ ap kinds_of schemas ∙ sym c.get_columns.ensures.fields.kinds

pub invariant_of-result : goal.invariant_of-result
invariant_of-result c =
    let a = c.self.inside in
    let table = c.args.table.now in
    let schemas = rw (← c.self.view_is) at c.requires.schemas in
    let small = rw (← c.self.view_is) at c.requires.small in
    let upper = length-rows_of a.height a.columns.items c.self.invariant.heights in
    frame-below a.schema table.schema a.columns.items c.get_columns.result.now c.in_ok-columns.columns.items table.rows a.height c.height.result _ c.self.invariant c.get_columns.ensures.fields schemas
    c.get_columns.ensures.rows c.in_ok-columns.ensures.added c.height.ensures.rows refl (omega arith)

pub returns : goal.returns
returns c =
    let a = c.self.inside in
    let table = c.args.table.now in
    let schemas = rw (← c.self.view_is) at c.requires.schemas in
    let rows = rows-below a.schema table.schema a.columns.items c.get_columns.result.now c.in_ok-columns.columns.items table.rows a.height c.height.result _ c.self.invariant c.get_columns.ensures.fields schemas
    c.get_columns.ensures.rows c.in_ok-columns.ensures.added c.height.ensures.rows refl in
    record { added = (λ t. record { schema = a.schema; rows = rows t }) ∙ (λ t. stacked (c.self.view_is t) table) }
