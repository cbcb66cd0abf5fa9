use Rattle.std.proofs.Common.{◌≡◌, Option, Bool, List, [], ◌∷◌, None, Some, ap, sym, subst, ◌∙◌}
use Rattle.ps_frame.specs.Functions.{Functions}
use Rattle.ps_frame.specs.Tables.{Fields}
use Rattle.ps_meaning.specs.declared.options.UniqueKeepStrategy.{UniqueKeepStrategy}
use Rattle.ps_meaning.specs.Steps.{Cut, Name, Step, distinct, distinct_step}
use Rattle.ps_validate.specs.Nodes.{GivesSchema}
use Rattle.sound_plans.proofs.Fits.{distinct-fit, distinct-of, taken}
use Rattle.sound_plans.proofs.kinds.distinct.Goals as goal

pub returns-in-None-clause-fit : goal.returns-in-None-clause-fit
returns-in-None-clause-fit c =
    let same : distinct_step c.args.options.now ≡ distinct (record { subset = None; maintain_order = c.args.options.now.maintain_order; keep = c.args.options.now.keep_strategy; cut = c.args.options.now.slice }) = ap (λ (o : Option (List Name)). distinct (record { subset = o; maintain_order = c.args.options.now.maintain_order; keep = c.args.options.now.keep_strategy; cut = c.args.options.now.slice })) c.in-None.is in
    taken (λ (s : Fields). (F : Functions) (maintain : Bool) (keep : UniqueKeepStrategy) (cut : Cut) → GivesSchema F (distinct (record { subset = None; maintain_order = maintain; keep = keep; cut = cut })) (c.args.input.now ∷ []) s) c.distinct_schema-given.result c.args.schema.now c.is_given.result c.is_given.ensures.given c.distinct_schema-given.ensures.given
    (λ p F. distinct-fit F c.args.input.now c.args.schema.now (distinct-of c.args.options.now) (c.has_key-keyed.ensures c.if-not-keyed.false) (subst (λ (t : Step). GivesSchema F t (c.args.input.now ∷ []) c.args.schema.now) (sym same) (p F c.args.options.now.maintain_order c.args.options.now.keep_strategy c.args.options.now.slice)))

pub returns-in-Some-clause-fit : goal.returns-in-Some-clause-fit
returns-in-Some-clause-fit c =
    let same : distinct_step c.args.options.now ≡ distinct (record { subset = (Some c.as_slice.result.now); maintain_order = c.args.options.now.maintain_order; keep = c.args.options.now.keep_strategy; cut = c.args.options.now.slice }) = ap (λ (o : Option (List Name)). distinct (record { subset = o; maintain_order = c.args.options.now.maintain_order; keep = c.args.options.now.keep_strategy; cut = c.args.options.now.slice })) (c.in-Some.is ∙ ap Some (sym c.as_slice.ensures)) in
    taken (λ (s : Fields). (F : Functions) (maintain : Bool) (keep : UniqueKeepStrategy) (cut : Cut) → GivesSchema F (distinct (record { subset = (Some c.as_slice.result.now); maintain_order = maintain; keep = keep; cut = cut })) (c.args.input.now ∷ []) s) c.named_distinct_schema-given.result c.args.schema.now c.is_given-in-Some.result c.is_given-in-Some.ensures.given c.named_distinct_schema-given.ensures.given
    (λ p F. distinct-fit F c.args.input.now c.args.schema.now (distinct-of c.args.options.now) (c.has_key-keyed.ensures c.if-not-keyed.false) (subst (λ (t : Step). GivesSchema F t (c.args.input.now ∷ []) c.args.schema.now) (sym same) (p F c.args.options.now.maintain_order c.args.options.now.keep_strategy c.args.options.now.slice)))
