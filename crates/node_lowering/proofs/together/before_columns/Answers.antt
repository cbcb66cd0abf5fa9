use Rattle.std.proofs.Common.{◌++◌, ap, refl, ◌∙◌}
use Rattle.ps_meaning.specs.Schemas.{names_of}
use Rattle.ps_phys.specs.Shown.{stream_of}
use Rattle.ps_rules.specs.Slots.{columns_named}
use Rattle.lowering_parts.proofs.Going.{goes_nowhere, goes_then}
use Rattle.lowering_parts.proofs.LaterLemmas.{remembers_later}
use Rattle.node_lowering.proofs.AnswerLemmas.{before_answers, before_whole, goes_with_entries}
use Rattle.node_lowering.proofs.together.before_columns.Goals as goal

pub lower_together-requires-clause-whole : goal.lower_together-requires-clause-whole
lower_together-requires-clause-whole c =
    before_whole c.args.arena.now.items c.add_columns.new.arena.items c.add_columns.ensures.kept c.in_ok-names.names.items c.in_ok-columns.columns.items c.args.exprs.now c.as_slice-3.result.now c.requires.whole
    (c.in_ok-columns.ensures.trees ∙ ap columns_named c.as_slice.ensures.value) (c.as_slice-3.ensures.value ∙ c.in_ok-extend_from_slice-2.ensures.items ∙ (λ i. (c.in_ok-extend_from_slice.ensures.items ∙ ap (λ ns. ns ++ c.args.exprs.now) c.new-asked.ensures.items) i ++ c.as_slice-2.ensures.value i))

pub lower_together-requires-clause-cache : goal.lower_together-requires-clause-cache
lower_together-requires-clause-cache c = remembers_later c.args.arena.now.items c.add_columns.new.arena.items c.add_columns.ensures.kept c.args.low.now c.requires.cache

pub returns-clause-answers : goal.returns-clause-answers
returns-clause-answers c =
    before_answers c.args.arena.now.items c.add_columns.new.arena.items c.add_columns.ensures.kept c.in_ok-names.names.items c.in_ok-columns.columns.items c.args.exprs.now c.as_slice-3.result.now c.requires.whole
    (c.in_ok-columns.ensures.trees ∙ ap columns_named c.as_slice.ensures.value) (stream_of c.args.input) c.lower_together.new.arena.items c.args.low.now c.lower_together.new.low c.in_ok-stream.stream _ _
    (c.as_slice-3.ensures.value ∙ c.in_ok-extend_from_slice-2.ensures.items ∙ (λ i. (c.in_ok-extend_from_slice.ensures.items ∙ ap (λ ns. ns ++ c.args.exprs.now) c.new-asked.ensures.items) i ++ c.as_slice-2.ensures.value i)) c.requires.cache c.add_columns.ensures.entries (λ f. c.in_ok-names.ensures.names ∙ ap names_of (c.in_ok-schema.ensures.schema f))
    c.in_ok-stream.ensures.answers c.truncate.ensures.items

pub returns-in_err-schema-clause-goes_on : goal.returns-in_err-schema-clause-goes_on
returns-in_err-schema-clause-goes_on c = goes_nowhere c.args.arena.now.items c.args.low.now c.args.low.now c.requires.cache refl

pub returns-in_err-names-clause-goes_on : goal.returns-in_err-names-clause-goes_on
returns-in_err-names-clause-goes_on c = goes_nowhere c.args.arena.now.items c.args.low.now c.args.low.now c.requires.cache refl

pub returns-in_err-columns-clause-goes_on : goal.returns-in_err-columns-clause-goes_on
returns-in_err-columns-clause-goes_on c = goes_with_entries c.args.arena.now.items c.add_columns.new.arena.items c.args.low.now c.requires.cache c.add_columns.ensures.entries c.add_columns.ensures.kept

pub returns-in_err-extend_from_slice-clause-goes_on : goal.returns-in_err-extend_from_slice-clause-goes_on
returns-in_err-extend_from_slice-clause-goes_on c = goes_with_entries c.args.arena.now.items c.add_columns.new.arena.items c.args.low.now c.requires.cache c.add_columns.ensures.entries c.add_columns.ensures.kept

pub returns-in_err-extend_from_slice-2-clause-goes_on : goal.returns-in_err-extend_from_slice-2-clause-goes_on
returns-in_err-extend_from_slice-2-clause-goes_on c = goes_with_entries c.args.arena.now.items c.add_columns.new.arena.items c.args.low.now c.requires.cache c.add_columns.ensures.entries c.add_columns.ensures.kept

pub returns-in_err-stream-clause-goes_on : goal.returns-in_err-stream-clause-goes_on
returns-in_err-stream-clause-goes_on c =
    goes_then c.args.arena.now.items c.add_columns.new.arena.items c.lower_together.new.arena.items c.args.low.now c.args.low.now c.lower_together.new.low
    (goes_with_entries c.args.arena.now.items c.add_columns.new.arena.items c.args.low.now c.requires.cache c.add_columns.ensures.entries c.add_columns.ensures.kept) c.lower_together.ensures.goes_on

pub returns-clause-goes_on : goal.returns-clause-goes_on
returns-clause-goes_on c =
    goes_then c.args.arena.now.items c.add_columns.new.arena.items c.lower_together.new.arena.items c.args.low.now c.args.low.now c.lower_together.new.low
    (goes_with_entries c.args.arena.now.items c.add_columns.new.arena.items c.args.low.now c.requires.cache c.add_columns.ensures.entries c.add_columns.ensures.kept) c.lower_together.ensures.goes_on
