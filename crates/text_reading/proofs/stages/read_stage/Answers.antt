use Rattle.std.proofs.Common.{sym, ap, ◌∙◌}
use Rattle.std.specs.Prelude.{codes}
use Rattle.std.proofs.lemmas.Result.{IfOk-weaker}
use Rattle.text_queries.specs.Views.{stage_of}
use Rattle.text_reading.specs.Reading.{EndsStage, Gives, IsShallowStage}
use Rattle.text_reading.proofs.LeafForms.{reads_behind}
use Rattle.text_reading.proofs.StageForms.{stage_found, stage_some}
use Rattle.text_reading.proofs.stages.read_stage.Goals as goal
use Rattle.text_tokens.specs.declared.token.Token.TheVariants as token

pub returns-in-filter-clause-found : goal.returns-in-filter-clause-found
returns-in-filter-clause-found c =
    IfOk-weaker c.read_filter.result _ _ (λ x h. stage_found c.args.tokens.now c.in-Some.word.now (codes "filter") c.in-Some.rest.now x.1.now (stage_of x.0) c.in-Some.ensures.some (sym c.as_str.ensures ∙ c.in-filter.is) h) c.read_filter.ensures.found

pub returns-in-filter-clause-reads : goal.returns-in-filter-clause-reads
returns-in-filter-clause-reads c =
    reads_behind IsShallowStage (Gives stage_of c.read_filter.result) EndsStage c.args.tokens.now (token.Word c.in-Some.word.now) (token.Word (codes "filter")) c.in-Some.rest.now c.in-Some.ensures.some (ap token.Word (sym c.as_str.ensures ∙ c.in-filter.is))
    (λ ts y h. stage_some ts y h.0) c.read_filter.ensures.reads

pub returns-in-select-clause-found : goal.returns-in-select-clause-found
returns-in-select-clause-found c =
    IfOk-weaker c.read_select.result _ _ (λ x h. stage_found c.args.tokens.now c.in-Some.word.now (codes "select") c.in-Some.rest.now x.1.now (stage_of x.0) c.in-Some.ensures.some (sym c.as_str.ensures ∙ c.in-select.is) h) c.read_select.ensures.found

pub returns-in-select-clause-reads : goal.returns-in-select-clause-reads
returns-in-select-clause-reads c =
    reads_behind IsShallowStage (Gives stage_of c.read_select.result) EndsStage c.args.tokens.now (token.Word c.in-Some.word.now) (token.Word (codes "select")) c.in-Some.rest.now c.in-Some.ensures.some (ap token.Word (sym c.as_str.ensures ∙ c.in-select.is))
    (λ ts y h. stage_some ts y h.0) c.read_select.ensures.reads

pub returns-in-with-clause-found : goal.returns-in-with-clause-found
returns-in-with-clause-found c =
    IfOk-weaker c.read_with.result _ _ (λ x h. stage_found c.args.tokens.now c.in-Some.word.now (codes "with") c.in-Some.rest.now x.1.now (stage_of x.0) c.in-Some.ensures.some (sym c.as_str.ensures ∙ c.in-with.is) h) c.read_with.ensures.found

pub returns-in-with-clause-reads : goal.returns-in-with-clause-reads
returns-in-with-clause-reads c =
    reads_behind IsShallowStage (Gives stage_of c.read_with.result) EndsStage c.args.tokens.now (token.Word c.in-Some.word.now) (token.Word (codes "with")) c.in-Some.rest.now c.in-Some.ensures.some (ap token.Word (sym c.as_str.ensures ∙ c.in-with.is))
    (λ ts y h. stage_some ts y h.0) c.read_with.ensures.reads

pub returns-in-group-clause-found : goal.returns-in-group-clause-found
returns-in-group-clause-found c =
    IfOk-weaker c.read_group.result _ _ (λ x h. stage_found c.args.tokens.now c.in-Some.word.now (codes "group") c.in-Some.rest.now x.1.now (stage_of x.0) c.in-Some.ensures.some (sym c.as_str.ensures ∙ c.in-group.is) h) c.read_group.ensures.found

pub returns-in-group-clause-reads : goal.returns-in-group-clause-reads
returns-in-group-clause-reads c =
    reads_behind IsShallowStage (Gives stage_of c.read_group.result) EndsStage c.args.tokens.now (token.Word c.in-Some.word.now) (token.Word (codes "group")) c.in-Some.rest.now c.in-Some.ensures.some (ap token.Word (sym c.as_str.ensures ∙ c.in-group.is))
    (λ ts y h. stage_some ts y h.0) c.read_group.ensures.reads

pub returns-in-sort-clause-found : goal.returns-in-sort-clause-found
returns-in-sort-clause-found c =
    IfOk-weaker c.read_sort.result _ _ (λ x h. stage_found c.args.tokens.now c.in-Some.word.now (codes "sort") c.in-Some.rest.now x.1.now (stage_of x.0) c.in-Some.ensures.some (sym c.as_str.ensures ∙ c.in-sort.is) h) c.read_sort.ensures.found

pub returns-in-sort-clause-reads : goal.returns-in-sort-clause-reads
returns-in-sort-clause-reads c =
    reads_behind IsShallowStage (Gives stage_of c.read_sort.result) EndsStage c.args.tokens.now (token.Word c.in-Some.word.now) (token.Word (codes "sort")) c.in-Some.rest.now c.in-Some.ensures.some (ap token.Word (sym c.as_str.ensures ∙ c.in-sort.is))
    (λ ts y h. stage_some ts y h.0) c.read_sort.ensures.reads

pub returns-in-slice-clause-found : goal.returns-in-slice-clause-found
returns-in-slice-clause-found c =
    IfOk-weaker c.read_slice.result _ _ (λ x h. stage_found c.args.tokens.now c.in-Some.word.now (codes "slice") c.in-Some.rest.now x.1.now (stage_of x.0) c.in-Some.ensures.some (sym c.as_str.ensures ∙ c.in-slice.is) h) c.read_slice.ensures.found

pub returns-in-slice-clause-reads : goal.returns-in-slice-clause-reads
returns-in-slice-clause-reads c =
    reads_behind IsShallowStage (Gives stage_of c.read_slice.result) EndsStage c.args.tokens.now (token.Word c.in-Some.word.now) (token.Word (codes "slice")) c.in-Some.rest.now c.in-Some.ensures.some (ap token.Word (sym c.as_str.ensures ∙ c.in-slice.is))
    (λ ts y h. stage_some ts y h.0) c.read_slice.ensures.reads

pub returns-in-join-clause-found : goal.returns-in-join-clause-found
returns-in-join-clause-found c =
    IfOk-weaker c.read_join.result _ _ (λ x h. stage_found c.args.tokens.now c.in-Some.word.now (codes "join") c.in-Some.rest.now x.1.now (stage_of x.0) c.in-Some.ensures.some (sym c.as_str.ensures ∙ c.in-join.is) h) c.read_join.ensures.found

pub returns-in-join-clause-reads : goal.returns-in-join-clause-reads
returns-in-join-clause-reads c =
    reads_behind IsShallowStage (Gives stage_of c.read_join.result) EndsStage c.args.tokens.now (token.Word c.in-Some.word.now) (token.Word (codes "join")) c.in-Some.rest.now c.in-Some.ensures.some (ap token.Word (sym c.as_str.ensures ∙ c.in-join.is))
    (λ ts y h. stage_some ts y h.0) c.read_join.ensures.reads
