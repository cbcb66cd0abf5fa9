use Rattle.std.proofs.Common.{List, ap, refl, subst, sym, ◌∙◌}
use Rattle.std.specs.List.{AllByRecursion}
use Rattle.ps_frame.specs.Trees.{IsComplete, tree_at}
use Rattle.ps_meaning.specs.Steps.{key_trees, named_trees}
use Rattle.ps_meaning.specs.declared.options.ExprIR.{ExprIR}
use Rattle.ps_phys.specs.Shown.{stream_of}
use Rattle.lowering_parts.proofs.Going.{goes_added, goes_nowhere, goes_then}
use Rattle.lowering_parts.proofs.LaterLemmas.{remembers_later}
use Rattle.group_lowering.proofs.GroupLemmas.{keys_made}
use Rattle.group_lowering.proofs.groups.lowered_keys.Goals as goal

pub lower_exprs-requires-clause-whole : goal.lower_exprs-requires-clause-whole
lower_exprs-requires-clause-whole c = subst (λ (es : List ExprIR). AllByRecursion IsComplete (key_trees (tree_at c.keys_and_columns.new.arena.items) es)) (sym c.as_slice.ensures.value) c.in_ok-asked.ensures.whole

pub lower_exprs-requires-clause-cache : goal.lower_exprs-requires-clause-cache
lower_exprs-requires-clause-cache c = remembers_later c.args.arena.now.items c.keys_and_columns.new.arena.items c.keys_and_columns.ensures.kept c.args.low.now c.requires.cache

pub returns-clause-keys : goal.returns-clause-keys
returns-clause-keys c =
    keys_made (stream_of c.args.input) c.args.keys.now c.as_slice.result.now c.in_ok-stream.answered.items c.first_of-lowered.result.items c.args.arena.now.items c.keys_and_columns.new.arena.items c.lower_exprs.new.expr_arena.items c.args.low.now c.lower_exprs.new.low c.in_ok-stream.stream
    (λ f. ap (named_trees (tree_at c.keys_and_columns.new.arena.items)) c.as_slice.ensures.value ∙ c.in_ok-asked.ensures.named f) c.keys_and_columns.ensures.entries c.keys_and_columns.ensures.kept c.lower_exprs.ensures.grows
    c.in_ok-stream.ensures.nodes c.in_ok-stream.ensures.stream c.in_ok-stream.ensures.exprs c.in_ok-stream.ensures.new_exprs c.first_of-lowered.ensures
    (goes_nowhere c.args.arena.now.items c.args.low.now c.args.low.now c.requires.cache refl)

pub returns-in_err-asked-clause-goes_on : goal.returns-in_err-asked-clause-goes_on
returns-in_err-asked-clause-goes_on c = goes_added c.args.arena.now.items c.args.arena.now.items c.keys_and_columns.new.arena.items c.args.low.now c.args.low.now (goes_nowhere c.args.arena.now.items c.args.low.now c.args.low.now c.requires.cache refl) c.keys_and_columns.ensures.entries c.keys_and_columns.ensures.kept

pub returns-in_err-stream-clause-goes_on : goal.returns-in_err-stream-clause-goes_on
returns-in_err-stream-clause-goes_on c =
    goes_then c.args.arena.now.items c.keys_and_columns.new.arena.items c.lower_exprs.new.expr_arena.items c.args.low.now c.args.low.now c.lower_exprs.new.low
    (goes_added c.args.arena.now.items c.args.arena.now.items c.keys_and_columns.new.arena.items c.args.low.now c.args.low.now (goes_nowhere c.args.arena.now.items c.args.low.now c.args.low.now c.requires.cache refl) c.keys_and_columns.ensures.entries c.keys_and_columns.ensures.kept) c.lower_exprs.ensures.grows

pub returns-clause-goes_on : goal.returns-clause-goes_on
returns-clause-goes_on c =
    goes_then c.args.arena.now.items c.keys_and_columns.new.arena.items c.lower_exprs.new.expr_arena.items c.args.low.now c.args.low.now c.lower_exprs.new.low
    (goes_added c.args.arena.now.items c.args.arena.now.items c.keys_and_columns.new.arena.items c.args.low.now c.args.low.now (goes_nowhere c.args.arena.now.items c.args.low.now c.args.low.now c.requires.cache refl) c.keys_and_columns.ensures.entries c.keys_and_columns.ensures.kept) c.lower_exprs.ensures.grows
