use Rattle.std.proofs.Common.{◌≡◌, ap, arith, drop, length, refl, ◌∙◌}
use Rattle.ps_meaning.specs.Schemas.{names_of}
use Rattle.ps_phys.specs.Shown.{stream_of}
use Rattle.ps_rules.specs.Slots.{columns_named}
use Rattle.lowering_parts.proofs.Going.{goes_nowhere, goes_then}
use Rattle.lowering_parts.proofs.LaterLemmas.{remembers_later}
use Rattle.node_lowering.proofs.AnswerLemmas.{behind_answers, behind_whole, goes_with_entries}
use Rattle.node_lowering.proofs.together.behind_columns.Goals as goal

pub lower_together-requires-clause-whole : goal.lower_together-requires-clause-whole
lower_together-requires-clause-whole c =
    behind_whole c.args.arena.now.items c.add_columns.new.arena.items c.add_columns.ensures.kept c.in_ok-names.names.items c.in_ok-asked.asked.items c.args.exprs.now c.as_slice-2.result.now c.requires.whole
    (c.in_ok-asked.ensures.trees ∙ ap columns_named c.as_slice.ensures.value) (c.as_slice-2.ensures.value ∙ c.in_ok-extend_from_slice.ensures.items)

pub lower_together-requires-clause-cache : goal.lower_together-requires-clause-cache
lower_together-requires-clause-cache c = remembers_later c.args.arena.now.items c.add_columns.new.arena.items c.add_columns.ensures.kept c.args.low.now c.requires.cache

pub returns-clause-answers : goal.returns-clause-answers
returns-clause-answers c =
    behind_answers c.args.arena.now.items c.add_columns.new.arena.items c.add_columns.ensures.kept c.in_ok-names.names.items c.in_ok-asked.asked.items c.args.exprs.now c.as_slice-2.result.now c.requires.whole
    (c.in_ok-asked.ensures.trees ∙ ap columns_named c.as_slice.ensures.value) (stream_of c.args.input) c.lower_together.new.arena.items c.args.low.now c.lower_together.new.low c.in_ok-stream.stream _ _
    (c.as_slice-2.ensures.value ∙ c.in_ok-extend_from_slice.ensures.items) c.requires.cache c.add_columns.ensures.entries (λ f. c.in_ok-names.ensures.names ∙ ap names_of (c.in_ok-schema.ensures.schema f))
    c.in_ok-stream.ensures.answers (let count : c.len.result ≡ length c.in_ok-names.names.items = omega arith in c.in_ok-others.ensures.others ∙ (λ i. drop (count i) (c.as_slice-3.ensures.value i)))

pub returns-in_err-schema-clause-goes_on : goal.returns-in_err-schema-clause-goes_on
returns-in_err-schema-clause-goes_on c = goes_nowhere c.args.arena.now.items c.args.low.now c.args.low.now c.requires.cache refl

pub returns-in_err-names-clause-goes_on : goal.returns-in_err-names-clause-goes_on
returns-in_err-names-clause-goes_on c = goes_nowhere c.args.arena.now.items c.args.low.now c.args.low.now c.requires.cache refl

pub returns-in_err-asked-clause-goes_on : goal.returns-in_err-asked-clause-goes_on
returns-in_err-asked-clause-goes_on c = goes_with_entries c.args.arena.now.items c.add_columns.new.arena.items c.args.low.now c.requires.cache c.add_columns.ensures.entries c.add_columns.ensures.kept

pub returns-in_err-extend_from_slice-clause-goes_on : goal.returns-in_err-extend_from_slice-clause-goes_on
returns-in_err-extend_from_slice-clause-goes_on c = goes_with_entries c.args.arena.now.items c.add_columns.new.arena.items c.args.low.now c.requires.cache c.add_columns.ensures.entries c.add_columns.ensures.kept

pub returns-in_err-stream-clause-goes_on : goal.returns-in_err-stream-clause-goes_on
returns-in_err-stream-clause-goes_on c =
    goes_then c.args.arena.now.items c.add_columns.new.arena.items c.lower_together.new.arena.items c.args.low.now c.args.low.now c.lower_together.new.low
    (goes_with_entries c.args.arena.now.items c.add_columns.new.arena.items c.args.low.now c.requires.cache c.add_columns.ensures.entries c.add_columns.ensures.kept) c.lower_together.ensures.goes_on

pub returns-in_err-others-clause-goes_on : goal.returns-in_err-others-clause-goes_on
returns-in_err-others-clause-goes_on c =
    goes_then c.args.arena.now.items c.add_columns.new.arena.items c.lower_together.new.arena.items c.args.low.now c.args.low.now c.lower_together.new.low
    (goes_with_entries c.args.arena.now.items c.add_columns.new.arena.items c.args.low.now c.requires.cache c.add_columns.ensures.entries c.add_columns.ensures.kept) c.lower_together.ensures.goes_on

pub returns-clause-goes_on : goal.returns-clause-goes_on
returns-clause-goes_on c =
    goes_then c.args.arena.now.items c.add_columns.new.arena.items c.lower_together.new.arena.items c.args.low.now c.args.low.now c.lower_together.new.low
    (goes_with_entries c.args.arena.now.items c.add_columns.new.arena.items c.args.low.now c.requires.cache c.add_columns.ensures.entries c.add_columns.ensures.kept) c.lower_together.ensures.goes_on
