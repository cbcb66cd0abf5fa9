use Rattle.std.proofs.Common.{[], arith, length, refl, take}
use Rattle.ps_frame.specs.Trees.{Tree}
use Rattle.ps_multiplexers.proofs.Finished.{filled-past, grown-length, nodes-next, noted-next, room-for, started-noted, there-within-at}
use Rattle.ps_multiplexers.proofs.Rewiring.{grows-none, grows-on, nothing-more}
use Rattle.ps_multiplexers.specs.Multiplexers.{read_again}
use Rattle.ps_phys.specs.Shown.{nodes_of}
use Rattle.ps_phys.specs.Underway.{numbers_in}
use Rattle.ps_multiplexers.proofs.multiplexers.readers_of.Goals as goal

pub loop-place-init : goal.loop-place-init
loop-place-init c = (started-noted (length c.args.phys.now.slots) c.new-readers.result.slots c.new-readers.ensures, λ f. nothing-more (nodes_of f c.args.phys.now.slots), grows-none c.args.phys.now.slots c.args.phys.now.slots refl, filled-past c.args.phys.now.slots)

pub note_reader-requires-clause-room : goal.note_reader-requires-clause-room
note_reader-requires-clause-room c =
    let room = c.requires.room in
    let few = room-for c.args.phys.now.slots c.args.read.now c.loop-place.place c.loop-place.phys.slots c.requires.there c.loop-place.invariant.1 in
    omega (arith, room, few)

pub loop-place-preserved : goal.loop-place-preserved
loop-place-preserved c =
    let inside = c.loop-place-test.true in
    let v = c.loop-place.invariant in
    let e = c.in_ok-note_reader.ensures in
    let size = grown-length (λ n. Tree.missing) c.args.phys.now.slots c.loop-place.phys.slots (read_again [] (numbers_in (take c.loop-place.place c.args.read.now))) (v.1 (λ n. Tree.missing)) in (
      noted-next c.args.read.now c.loop-place.place _ inside (length c.args.phys.now.slots) c.note_reader.new.readers.slots
          (e.noted (length c.args.phys.now.slots) (numbers_in (take c.loop-place.place c.args.read.now)) (read_again [] (numbers_in (take c.loop-place.place c.args.read.now))) v.0 size),
      λ f. nodes-next c.args.read.now c.loop-place.place _ inside f c.args.phys.now.slots c.loop-place.phys.slots c.note_reader.new.phys.slots (there-within-at c.args.phys.now.slots c.args.read.now c.loop-place.place _ c.requires.there inside) (v.1 f)
          (e.nodes f (length c.args.phys.now.slots) (numbers_in (take c.loop-place.place c.args.read.now)) (read_again [] (numbers_in (take c.loop-place.place c.args.read.now))) v.0),
      grows-on c.args.phys.now.slots c.loop-place.phys.slots c.note_reader.new.phys.slots v.2 e.grown,
      e.filled (length c.args.phys.now.slots) v.3,
    )

pub returns-clause-inserts : goal.returns-clause-inserts
returns-clause-inserts c = room-for c.args.phys.now.slots c.args.read.now c.loop-place.place c.loop-place.phys.slots c.requires.there c.loop-place.invariant.1

pub returns-clause-filled : goal.returns-clause-filled
returns-clause-filled c = c.loop-place.invariant.3
