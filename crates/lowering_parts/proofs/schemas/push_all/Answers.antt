use Rattle.std.proofs.Common.{ap, ◌∙◌, ◌++◌, ◌∷◌, []}
use Rattle.lowering_parts.proofs.SchemaLemmas.{pushed_step}
use Rattle.lowering_parts.proofs.schemas.push_all.Goals as goal

pub loop-i-preserved : goal.loop-i-preserved
loop-i-preserved c =
    pushed_step c.args.schema.now c.loop-i.schema c.push_new.new.schema c.args.other.now c.loop-i.i c.name.result.now c.kind.result c.name.ensures c.kind.ensures
    (c.in_ok-push_new.ensures.added ∙ ap (λ n. c.loop-i.schema ++ (n, c.kind.result) ∷ []) c.in_ok-copied.ensures.same) c.loop-i.invariant
