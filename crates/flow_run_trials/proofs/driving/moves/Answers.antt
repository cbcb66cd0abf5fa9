-- A move that may be made was made.
use Rattle.flow_run_trials.proofs.Tried.{may_make, moved_on}
use Rattle.flow_run_trials.proofs.driving.moves.Goals as goal

pub make-requires-after_bounds : goal.make-requires-after_bounds
make-requires-after_bounds g c κs within =
    let F = c.requires.0 in
    let u = c.requires.1 in
    let may =
    may_make g.N.RunNode.Has g.N.PieceNode.Shows g.N.ClaimNode.IsFor F c.args.run.now c.args.run.now u c.args.worker c.in-Some.found c.in-Some.ensures.unmarked (c.is_idle.ensures.0 c.if-not-is_idle.false)
    (c.in-Some.ensures.some F u.shape u.options u.world u.at) in
    (F, u.shape, u.options, u.world, may)

pub returns-in-Ok : goal.returns-in-Ok
returns-in-Ok g c = λ F u.
    let may =
    may_make g.N.RunNode.Has g.N.PieceNode.Shows g.N.ClaimNode.IsFor F c.args.run.now c.args.run.now u c.args.worker c.in-Some.found c.in-Some.ensures.unmarked (c.is_idle.ensures.0 c.if-not-is_idle.false)
    (c.in-Some.ensures.some F u.shape u.options u.world u.at) in
    moved_on g.N.RunNode.Has g.N.PieceNode.Shows g.N.ClaimNode.IsFor F c.args.run.now c.make.new.self u c.in-Some.found (c.in-Ok.ensures.made F u.shape u.options u.world may)
