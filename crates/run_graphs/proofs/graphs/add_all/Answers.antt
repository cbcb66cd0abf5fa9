-- One node more.
use Rattle.std.proofs.Common.{◌∙◌, arith, refl, sym}
use Rattle.std.specs.Prelude.{slice_get}
use Rattle.keyed_slots.specs.Slots.{value_at}
use Rattle.run_graphs.proofs.Becoming.{next_by}
use Rattle.run_graphs.proofs.graphs.add_all.Goals as goal

pub loop-place-preserved : goal.loop-place-preserved
loop-place-preserved c =
    let place = c.loop-place.place in
    record {
      running =
          next_by place c.args.nodes.now.slots c.args.schemas.now c.loop-place.made.slots c.add_next.new.made.slots (value_at c.loop-place.nodes.slots place) (slice_get c.args.schemas.now place) (sym (c.loop-place.invariant.others place (omega arith))) refl c.loop-place.invariant.running
          c.in_ok-add_next.ensures.next;
      others = λ k h. c.add_next.ensures.others k h ∙ c.loop-place.invariant.others k (omega (arith, h));
    }
