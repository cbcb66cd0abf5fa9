-- One name more.
use Rattle.std.proofs.Common.{◌∙◌}
use Rattle.std.proofs.Common.{◌++◌, [], ◌∷◌, ap}
use Rattle.made_tables.proofs.Narrow.{more_names}
use Rattle.made_tables.proofs.narrowed.names_of.Goals as goal

pub loop-i-preserved : goal.loop-i-preserved
loop-i-preserved c =
    c.in_ok-push.ensures.items ∙ ap (λ n. c.loop-i.names.items ++ n ∷ []) c.in-Ok.ensures.same ∙ more_names c.loop-i.names.items c.args.schema.now c.loop-i.i c.name.result.now c.name.ensures c.loop-i.invariant
