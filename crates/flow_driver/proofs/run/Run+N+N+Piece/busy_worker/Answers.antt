-- By the workers' places, of which there are few.
use Rattle.std.proofs.Common.{Some, arith}
use Rattle.std.proofs.lemmas.Option.{slice_get_within}
use Rattle.worker_pieces.proofs.Choices.{held_in, none_in}
use Rattle.flow_driver.proofs.run.Run+N+N+Piece.busy_worker.Goals as goal

pub overflow_cast-result : goal.overflow_cast-result
overflow_cast-result g c =
    let r = c.requires in
    let found = held_in _ c.args.self.now.pieces.items c.in-Some.worker c.as_slice.ensures.value c.in-Some.ensures.some in
    let within = slice_get_within c.args.self.now.pieces.items c.in-Some.worker (Some found.0) found.1 in
    let seats = r.4.seats in
    let few = r.2.few_workers in
    omega (arith, within, seats, few)

pub returns-in-Some-clause-some : goal.returns-in-Some-clause-some
returns-in-Some-clause-some g c = held_in _ c.args.self.now.pieces.items c.in-Some.worker c.as_slice.ensures.value c.in-Some.ensures.some

pub returns-in-None-clause-none : goal.returns-in-None-clause-none
returns-in-None-clause-none g c = none_in _ c.args.self.now.pieces.items c.as_slice.ensures.value c.in-None.ensures.none
