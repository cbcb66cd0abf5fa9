use Rattle.ps_frame.proofs.Stacks.{all-more, index-more, lower-within, one-above}
use Rattle.ps_frame.proofs.frame_builder.with_columns.Goals as goal

pub bounds-columns-i : goal.bounds-columns-i
bounds-columns-i c =
    let i = c.loop-builder.invariant in
    lower-within c.args.builders.items c.args.columns.now c.loop-builder.yielded c.loop-builder.builder-iterator.rest.items c.next.new.self.rest.items c.in-Some.builder c.loop-builder.i
    i.all c.in-Some.ensures.steps.0 i.index c.requires

pub loop-builder-preserved : goal.loop-builder-preserved
loop-builder-preserved c =
    let i = c.loop-builder.invariant in
    let cs = c.args.builders.items in
    let ds = c.args.columns.now in
    let before = c.loop-builder.yielded in
    let left = c.loop-builder.builder-iterator.rest.items in
    let rest = c.next.new.self.rest.items in
    let next = c.in-Some.ensures.steps.0 in
    record {
      index = index-more cs ds before left rest c.in-Some.builder c.loop-builder.i i.all next i.index c.requires;
      joined = one-above cs ds before left rest c.in-Some.builder c.loop-builder.i i.all next i.index c.requires
          c.index-columns-i.result c.in_ok-with_column.field-0 c.loop-builder.added.items c.push.new.self.items i.joined c.index-columns-i.is c.in_ok-with_column.ensures.added c.in_ok-push.ensures.items;
      all = all-more cs ds before left rest c.in-Some.builder c.loop-builder.i i.all next i.index c.requires;
    }
