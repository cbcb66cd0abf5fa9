use Rattle.std.proofs.Common.{◌+◌, add-one, sym, ◌∙◌, ap, ◌++◌, ◌∷◌, []}
use Rattle.ps_frame.specs.declared.value.Value.TheVariants as val
use Rattle.ps_tables.proofs.Numbered.{numbers-more}
use Rattle.ps_tables.proofs.row_index.number_values.Goals as goal

pub loop-i-preserved : goal.loop-i-preserved
loop-i-preserved c = rw add-one (c.in_ok-push.ensures.items ∙ ap (λ vs. vs ++ val.IdxSize (c.args.first + c.loop-i.i) ∷ []) c.loop-i.invariant ∙ sym (numbers-more c.args.first c.loop-i.i))
