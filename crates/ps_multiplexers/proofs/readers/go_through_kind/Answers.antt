use Rattle.std.proofs.Common.{[], ◌∷◌, ap}
use Rattle.ps_multiplexers.proofs.Through.{arm-through, list-fits}
use Rattle.ps_phys.specs.Shown.{inputs_of, stream_of, streams_of}
use Rattle.ps_multiplexers.proofs.readers.go_through_kind.Goals as goal

pub returns-in-Select-clause-through : goal.returns-in-Select-clause-through
returns-in-Select-clause-through c = λ number before.
    arm-through number before (inputs_of c.args.kind.now) (stream_of c.in-Select.input ∷ []) (stream_of c.go_through_one.new.input ∷ []) c.args.readers.now.slots c.go_through_one.new.readers.slots (ap inputs_of c.in-Select.is) (c.go_through_one.ensures.through number before)

pub returns-in-WithRowIndex-clause-through : goal.returns-in-WithRowIndex-clause-through
returns-in-WithRowIndex-clause-through c = λ number before.
    arm-through number before (inputs_of c.args.kind.now) (stream_of c.in-WithRowIndex.input ∷ []) (stream_of c.go_through_one-in-WithRowIndex.new.input ∷ []) c.args.readers.now.slots c.go_through_one-in-WithRowIndex.new.readers.slots (ap inputs_of c.in-WithRowIndex.is) (c.go_through_one-in-WithRowIndex.ensures.through number before)

pub returns-in-Reduce-clause-through : goal.returns-in-Reduce-clause-through
returns-in-Reduce-clause-through c = λ number before.
    arm-through number before (inputs_of c.args.kind.now) (stream_of c.in-Reduce.input ∷ []) (stream_of c.go_through_one-in-Reduce.new.input ∷ []) c.args.readers.now.slots c.go_through_one-in-Reduce.new.readers.slots (ap inputs_of c.in-Reduce.is) (c.go_through_one-in-Reduce.ensures.through number before)

pub returns-in-StreamingSlice-clause-through : goal.returns-in-StreamingSlice-clause-through
returns-in-StreamingSlice-clause-through c = λ number before.
    arm-through number before (inputs_of c.args.kind.now) (stream_of c.in-StreamingSlice.input ∷ []) (stream_of c.go_through_one-in-StreamingSlice.new.input ∷ []) c.args.readers.now.slots c.go_through_one-in-StreamingSlice.new.readers.slots (ap inputs_of c.in-StreamingSlice.is) (c.go_through_one-in-StreamingSlice.ensures.through number before)

pub returns-in-NegativeSlice-clause-through : goal.returns-in-NegativeSlice-clause-through
returns-in-NegativeSlice-clause-through c = λ number before.
    arm-through number before (inputs_of c.args.kind.now) (stream_of c.in-NegativeSlice.input ∷ []) (stream_of c.go_through_one-in-NegativeSlice.new.input ∷ []) c.args.readers.now.slots c.go_through_one-in-NegativeSlice.new.readers.slots (ap inputs_of c.in-NegativeSlice.is) (c.go_through_one-in-NegativeSlice.ensures.through number before)

pub returns-in-Filter-clause-through : goal.returns-in-Filter-clause-through
returns-in-Filter-clause-through c = λ number before.
    arm-through number before (inputs_of c.args.kind.now) (stream_of c.in-Filter.input ∷ []) (stream_of c.go_through_one-in-Filter.new.input ∷ []) c.args.readers.now.slots c.go_through_one-in-Filter.new.readers.slots (ap inputs_of c.in-Filter.is) (c.go_through_one-in-Filter.ensures.through number before)

pub returns-in-SimpleProjection-clause-through : goal.returns-in-SimpleProjection-clause-through
returns-in-SimpleProjection-clause-through c = λ number before.
    arm-through number before (inputs_of c.args.kind.now) (stream_of c.in-SimpleProjection.input ∷ []) (stream_of c.go_through_one-in-SimpleProjection.new.input ∷ []) c.args.readers.now.slots c.go_through_one-in-SimpleProjection.new.readers.slots (ap inputs_of c.in-SimpleProjection.is) (c.go_through_one-in-SimpleProjection.ensures.through number before)

pub returns-in-InMemorySink-clause-through : goal.returns-in-InMemorySink-clause-through
returns-in-InMemorySink-clause-through c = λ number before.
    arm-through number before (inputs_of c.args.kind.now) (stream_of c.in-InMemorySink.input ∷ []) (stream_of c.go_through_one-in-InMemorySink.new.input ∷ []) c.args.readers.now.slots c.go_through_one-in-InMemorySink.new.readers.slots (ap inputs_of c.in-InMemorySink.is) (c.go_through_one-in-InMemorySink.ensures.through number before)

pub returns-in-InMemoryMap-clause-through : goal.returns-in-InMemoryMap-clause-through
returns-in-InMemoryMap-clause-through c = λ number before.
    arm-through number before (inputs_of c.args.kind.now) (stream_of c.in-InMemoryMap.input ∷ []) (stream_of c.go_through_one-in-InMemoryMap.new.input ∷ []) c.args.readers.now.slots c.go_through_one-in-InMemoryMap.new.readers.slots (ap inputs_of c.in-InMemoryMap.is) (c.go_through_one-in-InMemoryMap.ensures.through number before)

pub returns-in-Map-clause-through : goal.returns-in-Map-clause-through
returns-in-Map-clause-through c = λ number before.
    arm-through number before (inputs_of c.args.kind.now) (stream_of c.in-Map.input ∷ []) (stream_of c.go_through_one-in-Map.new.input ∷ []) c.args.readers.now.slots c.go_through_one-in-Map.new.readers.slots (ap inputs_of c.in-Map.is) (c.go_through_one-in-Map.ensures.through number before)

pub returns-in-Sort-clause-through : goal.returns-in-Sort-clause-through
returns-in-Sort-clause-through c = λ number before.
    arm-through number before (inputs_of c.args.kind.now) (stream_of c.in-Sort.input ∷ []) (stream_of c.go_through_one-in-Sort.new.input ∷ []) c.args.readers.now.slots c.go_through_one-in-Sort.new.readers.slots (ap inputs_of c.in-Sort.is) (c.go_through_one-in-Sort.ensures.through number before)

pub returns-in-Multiplexer-clause-through : goal.returns-in-Multiplexer-clause-through
returns-in-Multiplexer-clause-through c = λ number before.
    arm-through number before (inputs_of c.args.kind.now) (stream_of c.in-Multiplexer.input ∷ []) (stream_of c.go_through_one-in-Multiplexer.new.input ∷ []) c.args.readers.now.slots c.go_through_one-in-Multiplexer.new.readers.slots (ap inputs_of c.in-Multiplexer.is) (c.go_through_one-in-Multiplexer.ensures.through number before)

pub returns-in-GroupBy-clause-through : goal.returns-in-GroupBy-clause-through
returns-in-GroupBy-clause-through c = λ number before.
    arm-through number before (inputs_of c.args.kind.now) (stream_of c.in-GroupBy.input ∷ []) (stream_of c.go_through_one-in-GroupBy.new.input ∷ []) c.args.readers.now.slots c.go_through_one-in-GroupBy.new.readers.slots (ap inputs_of c.in-GroupBy.is) (c.go_through_one-in-GroupBy.ensures.through number before)

pub returns-in-OrderedUnion-clause-through : goal.returns-in-OrderedUnion-clause-through
returns-in-OrderedUnion-clause-through c = λ number before.
    arm-through number before (inputs_of c.args.kind.now) (streams_of c.in-OrderedUnion.inputs) (streams_of c.go_through_all.new.inputs) c.args.readers.now.slots c.go_through_all.new.readers.slots (ap inputs_of c.in-OrderedUnion.is)
    (λ ports fits. c.go_through_all.ensures.through number before ports (list-fits before c.in-OrderedUnion.inputs fits))

pub returns-in-Zip-clause-through : goal.returns-in-Zip-clause-through
returns-in-Zip-clause-through c = λ number before.
    arm-through number before (inputs_of c.args.kind.now) (streams_of c.in-Zip.inputs) (streams_of c.go_through_all-in-Zip.new.inputs) c.args.readers.now.slots c.go_through_all-in-Zip.new.readers.slots (ap inputs_of c.in-Zip.is)
    (λ ports fits. c.go_through_all-in-Zip.ensures.through number before ports (list-fits before c.in-Zip.inputs fits))

pub returns-in-EquiJoin-clause-through : goal.returns-in-EquiJoin-clause-through
returns-in-EquiJoin-clause-through c = λ number before.
    arm-through number before (inputs_of c.args.kind.now) (stream_of c.in-EquiJoin.input_left ∷ stream_of c.in-EquiJoin.input_right ∷ []) (stream_of c.go_through_two.new.left ∷ stream_of c.go_through_two.new.right ∷ []) c.args.readers.now.slots c.go_through_two.new.readers.slots (ap inputs_of c.in-EquiJoin.is)
    (c.go_through_two.ensures.through number before)

pub returns-in-InMemoryJoin-clause-through : goal.returns-in-InMemoryJoin-clause-through
returns-in-InMemoryJoin-clause-through c = λ number before.
    arm-through number before (inputs_of c.args.kind.now) (stream_of c.in-InMemoryJoin.input_left ∷ stream_of c.in-InMemoryJoin.input_right ∷ []) (stream_of c.go_through_two-in-InMemoryJoin.new.left ∷ stream_of c.go_through_two-in-InMemoryJoin.new.right ∷ []) c.args.readers.now.slots c.go_through_two-in-InMemoryJoin.new.readers.slots (ap inputs_of c.in-InMemoryJoin.is)
    (c.go_through_two-in-InMemoryJoin.ensures.through number before)
