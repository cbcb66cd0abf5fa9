-- What is found of a node is its claim, by its kind.
use Rattle.std.proofs.Common.{subst, sym}
use Rattle.std.proofs.lemmas.Result.{IfOk-weaker}
use Rattle.std.specs.Prelude.{option_copied}
use Rattle.ps_nodes.specs.Seen.{kind_of}
use Rattle.ps_nodes.specs.declared.flow.FlowNode.{FlowNode}
use Rattle.flow_runs.proofs.Counted.{no_claim, none_of}
use Rattle.flow_runs.proofs.MorselClaims.{IsPlain, of_index, of_plain, of_slice, of_union}
use Rattle.flow_runs.proofs.OwnClaims.{select_claim, source_claim}
use Rattle.flow_runs.proofs.claims.RunningNodeClaimNode.prepare.Goals as goal

pub returns-in-InMemorySource-clause-claim : goal.returns-in-InMemorySource-clause-claim
returns-in-InMemorySource-clause-claim c =
    source_claim c.args.self.now c.in-InMemorySource.source c.in-InMemorySource.is c.args.seat c.args.number c.rows_in.result (option_copied c.args.morsel) c.rows_in.ensures c.from_source.result c.from_source.ensures.some c.from_source.ensures.none

pub returns-in-InputIndependentSelect-clause-claim : goal.returns-in-InputIndependentSelect-clause-claim
returns-in-InputIndependentSelect-clause-claim c =
    select_claim c.args.self.now c.in-InputIndependentSelect.select c.in-InputIndependentSelect.is c.args.seat c.args.number c.rows_in-in-InputIndependentSelect.result (option_copied c.args.morsel) c.rows_in-in-InputIndependentSelect.ensures c.from_select.result c.from_select.ensures.left
    c.from_select.ensures.none

pub returns-in-StreamingSlice-clause-claim : goal.returns-in-StreamingSlice-clause-claim
returns-in-StreamingSlice-clause-claim c = IfOk-weaker c.from_slice.result _ _ (of_slice c.args.self.now c.in-StreamingSlice.slice c.in-StreamingSlice.is c.args.seat c.args.number (option_copied c.args.morsel)) c.from_slice.ensures.piece

pub returns-in-OrderedUnion-clause-claim : goal.returns-in-OrderedUnion-clause-claim
returns-in-OrderedUnion-clause-claim c = IfOk-weaker c.from_union.result _ _ (of_union c.args.self.now c.in-OrderedUnion.field-0 c.in-OrderedUnion.is c.args.seat c.args.number (option_copied c.args.morsel)) c.from_union.ensures.found

pub returns-in-WithRowIndex-clause-claim : goal.returns-in-WithRowIndex-clause-claim
returns-in-WithRowIndex-clause-claim c = IfOk-weaker c.from_index.result _ _ (of_index c.args.self.now c.in-WithRowIndex.index c.in-WithRowIndex.is c.args.seat c.args.number (option_copied c.args.morsel)) c.from_index.ensures.found

pub returns-in-Select-clause-claim : goal.returns-in-Select-clause-claim
returns-in-Select-clause-claim c =
    IfOk-weaker c.over_morsel.result _ _ (of_plain c.args.self.now (subst (λ (n : FlowNode). IsPlain (kind_of n)) (sym c.in-Select.is) tt) c.args.seat c.args.number (option_copied c.args.morsel)) c.over_morsel.ensures.found

pub returns-in-Filter-clause-claim : goal.returns-in-Filter-clause-claim
returns-in-Filter-clause-claim c =
    IfOk-weaker c.over_morsel-in-Filter.result _ _ (of_plain c.args.self.now (subst (λ (n : FlowNode). IsPlain (kind_of n)) (sym c.in-Filter.is) tt) c.args.seat c.args.number (option_copied c.args.morsel)) c.over_morsel-in-Filter.ensures.found

pub returns-in-SimpleProjection-clause-claim : goal.returns-in-SimpleProjection-clause-claim
returns-in-SimpleProjection-clause-claim c =
    IfOk-weaker c.over_morsel-in-SimpleProjection.result _ _ (of_plain c.args.self.now (subst (λ (n : FlowNode). IsPlain (kind_of n)) (sym c.in-SimpleProjection.is) tt) c.args.seat c.args.number (option_copied c.args.morsel)) c.over_morsel-in-SimpleProjection.ensures.found

pub returns-in-Map-clause-claim : goal.returns-in-Map-clause-claim
returns-in-Map-clause-claim c =
    IfOk-weaker c.over_morsel-in-Map.result _ _ (of_plain c.args.self.now (subst (λ (n : FlowNode). IsPlain (kind_of n)) (sym c.in-Map.is) tt) c.args.seat c.args.number (option_copied c.args.morsel)) c.over_morsel-in-Map.ensures.found

pub returns-in_default-clause-claim : goal.returns-in_default-clause-claim
returns-in_default-clause-claim c =
    no_claim c.args.self.now.flow
    (none_of c.args.self.now.flow c.in_default.not-Filter c.in_default.not-Select c.in_default.not-InputIndependentSelect c.in_default.not-SimpleProjection c.in_default.not-WithRowIndex c.in_default.not-Map c.in_default.not-StreamingSlice c.in_default.not-InMemorySource c.in_default.not-OrderedUnion)
    c.args.self.now.work c.args.seat c.args.number (option_copied c.args.morsel)
