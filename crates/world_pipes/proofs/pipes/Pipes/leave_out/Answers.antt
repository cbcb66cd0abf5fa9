-- One place more, and in the end all.
use Rattle.std.proofs.Common.{◌≡◌, add-one, arith, false, length, subst}
use Rattle.ps_frame.specs.Zip.{below}
use Rattle.world_pipes.proofs.Phased.{all_put, puts_twice}
use Rattle.world_pipes.proofs.Placed.{more_changed}
use Rattle.world_pipes.proofs.pipes.Pipes.leave_out.Goals as goal
use Rattle.world_pipes.specs.Changed.{Changed}
use Rattle.world_pipes.specs.Shown.{phase_pipe}

pub loop-place-preserved : goal.loop-place-preserved
loop-place-preserved c =
    let i = c.loop-place.place in
    rw add-one (more_changed (phase_pipe false) (puts_twice false) (below i) i c.args.self.now.list.items c.loop-place.self.list.items c.put_at.new.self.list.items c.loop-place.invariant c.put_at.ensures)

pub returns : goal.returns
returns c = λ s ps shown.
    let over = c.loop-place-test.false in
    let within = c.loop-place.auto.place-end in
    let len = c.len-place-end.ensures in
    let at_end : c.loop-place.place ≡ length c.args.self.now.list.items = omega (arith, over, within, len) in
    all_put s ps c.args.self.now _ shown false (subst (λ n. Changed (phase_pipe false) (below n) c.args.self.now.list.items c.loop-place.self.list.items) at_end c.loop-place.invariant)
