-- What is dropped stays, and what isn't gets a place.
use Rattle.std.proofs.Common.{ap}
use Rattle.ps_pipes.specs.declared.pipe.Pipe.{Pipe as Held}
use Rattle.ps_world.specs.Pipes.{with_place}
use Rattle.world_pipes.proofs.Given.{dropped_stays, kept_changes, on_ok}
use Rattle.world_pipes.proofs.giving.reserve_kept.Goals as goal

pub returns-then-is_dropped-clause-placed : goal.returns-then-is_dropped-clause-placed
returns-then-is_dropped-clause-placed c = dropped_stays c.args.pipe.now with_place c.is_dropped.result c.is_dropped.ensures c.if-is_dropped.true

pub returns-clause-placed : goal.returns-clause-placed
returns-clause-placed c =
    on_ok c.reserve.result
    (λ shows. kept_changes c.args.pipe.now with_place c.is_dropped.result c.is_dropped.ensures c.reserve.new.self c.if-is_dropped.false shows (ap (λ (x : Held). x.is_bounded) c.reserve.ensures.others) (ap (λ (x : Held). x.room) c.reserve.ensures.others))
    c.reserve.ensures.shows
