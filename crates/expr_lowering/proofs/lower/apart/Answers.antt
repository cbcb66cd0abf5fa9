use Rattle.std.proofs.Common.{List, ap, ◌∙◌}
use Rattle.ps_frame.specs.Trees.{tree_at}
use Rattle.ps_meaning.specs.Steps.{Name}
use Rattle.ps_phys.specs.Shown.{stream_of, streams_of}
use Rattle.ps_phys.specs.declared.phys.PhysStream.{PhysStream}
use Rattle.ps_rules.specs.Slots.{added, columns_named, under}
use Rattle.lowering_parts.specs.Gathered.{trees_at}
use Rattle.lowering_parts.proofs.Going.{goes_added, goes_built}
use Rattle.expr_lowering.proofs.Following.{goes_renamed}
use Rattle.expr_lowering.proofs.Selections.{apart_gathers, under_whole}
use Rattle.expr_lowering.proofs.lower.apart.Goals as goal

pub independent-requires : goal.independent-requires
independent-requires c = record { whole = under_whole (tree_at c.args.arena.now.items) c.as_slice.result.now c.args.exprs.now c.in_ok-named.named.items (c.in_ok-named.ensures.named (tree_at c.args.arena.now.items)) c.requires.exprs }

pub returns-clause-gathers : goal.returns-clause-gathers
returns-clause-gathers c input =
    apart_gathers input c.args.exprs.now c.args.arena.now.items c.add_columns.new.arena.items c.args.low.now c.fresh_names.new.low c.independent.new.low
    (record { streams = c.add.new.self; reduced = c.new-bundle.result.reduced; exprs = c.in_ok-bundle.field-0; mapped = c.new-bundle.result.mapped }) c.in_ok-names.names.items c.in_ok-named.named.items c.in_ok-stream.stream c.requires.exprs c.requires.cache
    c.in_ok-names.ensures.names c.in_ok-names.ensures.next c.fresh_names.ensures.known c.fresh_names.ensures.others (λ f. c.in_ok-named.ensures.named f ∙ ap (λ (ns : List Name). under ns (trees_at f c.args.exprs.now)) c.as_slice.ensures.value) c.in_ok-stream.ensures.made c.independent.ensures.nodes c.independent.ensures.others
    c.add_columns.ensures.entries c.add_columns.ensures.kept (c.in_ok-bundle.ensures.trees ∙ ap columns_named c.as_slice-2.ensures.value) (c.in_ok-add.ensures.added ∙ ap (λ (ss : List PhysStream). added (stream_of c.in_ok-stream.stream) (streams_of ss)) c.new-bundle.ensures.streams) c.new-bundle.ensures.reduced c.new-bundle.ensures.mapped

pub returns-in_err-names-clause-goes_on : goal.returns-in_err-names-clause-goes_on
returns-in_err-names-clause-goes_on c = goes_renamed c.args.arena.now.items c.args.low.now c.fresh_names.new.low c.requires.cache c.fresh_names.ensures.known c.fresh_names.ensures.others

pub returns-in_err-named-clause-goes_on : goal.returns-in_err-named-clause-goes_on
returns-in_err-named-clause-goes_on c = goes_renamed c.args.arena.now.items c.args.low.now c.fresh_names.new.low c.requires.cache c.fresh_names.ensures.known c.fresh_names.ensures.others

pub returns-in_err-stream-clause-goes_on : goal.returns-in_err-stream-clause-goes_on
returns-in_err-stream-clause-goes_on c = goes_built c.args.arena.now.items c.args.arena.now.items c.args.low.now c.fresh_names.new.low c.independent.new.low (goes_renamed c.args.arena.now.items c.args.low.now c.fresh_names.new.low c.requires.cache c.fresh_names.ensures.known c.fresh_names.ensures.others) c.independent.ensures.nodes c.independent.ensures.others

pub returns-in_err-add-clause-goes_on : goal.returns-in_err-add-clause-goes_on
returns-in_err-add-clause-goes_on c = goes_built c.args.arena.now.items c.args.arena.now.items c.args.low.now c.fresh_names.new.low c.independent.new.low (goes_renamed c.args.arena.now.items c.args.low.now c.fresh_names.new.low c.requires.cache c.fresh_names.ensures.known c.fresh_names.ensures.others) c.independent.ensures.nodes c.independent.ensures.others

pub returns-in_err-bundle-clause-goes_on : goal.returns-in_err-bundle-clause-goes_on
returns-in_err-bundle-clause-goes_on c = goes_added c.args.arena.now.items c.args.arena.now.items c.add_columns.new.arena.items c.args.low.now c.independent.new.low (goes_built c.args.arena.now.items c.args.arena.now.items c.args.low.now c.fresh_names.new.low c.independent.new.low (goes_renamed c.args.arena.now.items c.args.low.now c.fresh_names.new.low c.requires.cache c.fresh_names.ensures.known c.fresh_names.ensures.others) c.independent.ensures.nodes c.independent.ensures.others) c.add_columns.ensures.entries c.add_columns.ensures.kept

pub returns-clause-goes_on : goal.returns-clause-goes_on
returns-clause-goes_on c = goes_added c.args.arena.now.items c.args.arena.now.items c.add_columns.new.arena.items c.args.low.now c.independent.new.low (goes_built c.args.arena.now.items c.args.arena.now.items c.args.low.now c.fresh_names.new.low c.independent.new.low (goes_renamed c.args.arena.now.items c.args.low.now c.fresh_names.new.low c.requires.cache c.fresh_names.ensures.known c.fresh_names.ensures.others) c.independent.ensures.nodes c.independent.ensures.others) c.add_columns.ensures.entries c.add_columns.ensures.kept
