use Rattle.ps_validate.proofs.Stacked.{input-known}
use Rattle.ps_validate.proofs.stacks.are_alike.Goals as goal

pub get-requires : goal.get-requires
get-requires c = input-known c.args.schemas.now c.args.inputs.now c.loop-input.input-index c.loop-input-test.true c.loop-input.invariant.known
