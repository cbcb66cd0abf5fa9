-- By the worker's place.
use Rattle.std.proofs.Common.{◌≡◌, ◌≢◌, Some, slice_get, subst}
use Rattle.std.specs.Prelude.{IfNone, IfSome, option_copied}
use Rattle.flow_driver.proofs.run.Run+N+N+Piece.piece.Goals as goal

pub returns-clause-some : goal.returns-clause-some
returns-clause-some g c = subst (λ l. IfSome (option_copied c.piece_of.result) (λ piece. slice_get l c.args.worker ≡ Some (Some piece))) c.as_slice.ensures.value c.piece_of.ensures.some

pub returns-clause-none : goal.returns-clause-none
returns-clause-none g c = subst (λ l. IfNone (option_copied c.piece_of.result) ((piece : _) → slice_get l c.args.worker ≢ Some (Some piece))) c.as_slice.ensures.value c.piece_of.ensures.none
