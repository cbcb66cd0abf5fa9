use Rattle.std.proofs.Common.{◌≡◌, ◌∙◌, arith}
use Rattle.std.proofs.lemmas.List.{with_items_is}
use Rattle.ps_multiplexers.proofs.Through.{lent-through}
use Rattle.ps_multiplexers.proofs.readers.go_through_all.Goals as goal

pub returns : goal.returns
returns c = record {
  through = λ number before ports fits.
      let same : c.as_mut_slice.result.now ≡ c.args.inputs.now = c.as_mut_slice.ensures.value ∙ c.into_vec-streams.ensures ∙ c.replace.ensures.value in
      let kept = c.go_through_each.auto.inputs in
      let size = c.as_mut_slice.ensures.len in
      lent-through number before c.args.inputs.now c.as_mut_slice.result.now c.go_through_each.new.inputs c.new-3.result c.go_through_each.new.readers.slots same
      (c.new-3.ensures ∙ with_items_is c.into_vec-streams.result c.go_through_each.new.inputs (omega (arith, kept, size))) fits (c.go_through_each.ensures.through number before ports);
}
