use Rattle.std.proofs.Common.{◌≡◌, [], ◌∷◌, length, map, sym, ap, ◌∙◌, subst, arith, false-eqb}
use Rattle.std.proofs.lemmas.Bool.{eqb-true}
use Rattle.std.proofs.lemmas.List.{map-append}
use Rattle.text_queries.specs.Views.{stage_of}
use Rattle.text_reading.proofs.QueryForms.{StagesRead, nothing_left, stages_all, stages_more, stages_none, stages_refused, stages_stuck}
use Rattle.text_reading.proofs.queries.read_stages.Goals as goal
use Rattle.text_tokens.specs.declared.error.TextError.TheVariants as refusal

pub loop-rest-init : goal.loop-rest-init
loop-rest-init c = subst (λ xs. StagesRead c.args.tokens.now (map stage_of xs) c.args.tokens.now) (sym c.new-stages.ensures.items) (stages_none c.args.tokens.now)

pub loop-rest-preserved : goal.loop-rest-preserved
loop-rest-preserved c =
    subst (λ xs. StagesRead c.args.tokens.now xs c.in-Ok.after.now)
    (sym (ap (map stage_of) c.in_ok-push-in-Ok.ensures.items ∙ map-append stage_of c.loop-rest.stages.items (c.in-Ok.stage ∷ [])))
    (stages_more c.args.tokens.now (map stage_of c.loop-rest.stages.items) c.loop-rest.rest.now c.in-Some.behind.now (stage_of c.in-Ok.stage) c.in-Ok.after.now c.loop-rest.invariant c.in-Some.ensures.some c.in-Ok.ensures.found c.in-Ok.ensures.reads)

pub returns-in_default-clause-reads : goal.returns-in_default-clause-reads
returns-in_default-clause-reads c stages h =
    let some = false-eqb (length c.loop-rest.rest.now) 0 c.loop-rest-test.ensures in
    absurd (stages_stuck c.args.tokens.now (map stage_of c.loop-rest.stages.items) c.loop-rest.rest.now c.loop-rest.invariant (λ none. omega (arith, some, ap length none)) c.in_default.ensures.none stages h)

pub returns-in-Err-clause-reads : goal.returns-in-Err-clause-reads
returns-in-Err-clause-reads c stages h =
    stages_refused (c.in-Err.error ≡ refusal.OutOfMemory) c.args.tokens.now (map stage_of c.loop-rest.stages.items) c.loop-rest.rest.now c.in-Some.behind.now c.loop-rest.invariant c.in-Some.ensures.some c.in-Err.ensures.reads stages h

pub returns-clause-found : goal.returns-clause-found
returns-clause-found c =
    rw c.new.ensures
    (stages_all c.args.tokens.now (map stage_of c.loop-rest.stages.items) c.loop-rest.rest.now c.loop-rest.invariant (nothing_left c.loop-rest.rest.now (eqb-true (length c.loop-rest.rest.now) 0 (sym c.loop-rest-test.ensures)))).0

pub returns-clause-reads : goal.returns-clause-reads
returns-clause-reads c stages h =
    ap (map stage_of) c.new.ensures
    ∙ (stages_all c.args.tokens.now (map stage_of c.loop-rest.stages.items) c.loop-rest.rest.now c.loop-rest.invariant (nothing_left c.loop-rest.rest.now (eqb-true (length c.loop-rest.rest.now) 0 (sym c.loop-rest-test.ensures)))).1 stages h
