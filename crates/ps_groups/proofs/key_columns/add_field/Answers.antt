use Rattle.std.proofs.Common.{◌≡◌, ◌++◌, ◌∷◌, [], ◌∙◌}
use Rattle.ps_groups.proofs.KeyColumns.{field-more}
use Rattle.ps_groups.proofs.key_columns.add_field.Goals as goal

pub returns : goal.returns
returns c =
    let same : c.in-Ok.name ≡ c.name.result.now = c.in-Ok.ensures.same in
    c.in-Ok-push.ensures.added ∙ (λ j. c.requires.before j ++ (same j, c.kind.result) ∷ []) ∙ field-more c.args.schema.now c.args.i c.name.result.now c.kind.result c.name.ensures c.kind.ensures
