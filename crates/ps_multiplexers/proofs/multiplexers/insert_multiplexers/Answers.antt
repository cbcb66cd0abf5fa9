use Rattle.std.specs.Prelude.{◌≡◌, ◌↔◌}
use Rattle.ps_meaning.specs.Shape.{PhysicalMeans}
use Rattle.ps_multiplexers.proofs.Finished.{kept-after, missing_trees, on-ok, on-three, read-there, visited-lent, whole-after}
use Rattle.ps_multiplexers.specs.Multiplexers.{with_multiplexers}
use Rattle.ps_phys.specs.Shown.{nodes_of}
use Rattle.ps_multiplexers.proofs.multiplexers.insert_multiplexers.Goals as goal

pub insert_for-requires-clause-there : goal.insert_for-requires-clause-there
insert_for-requires-clause-there c =
    let slots = c.args.phys_sm.now.slots in
    read-there slots c.requires.whole c.args.root.0 c.as_slice.result.now c.as_slice-2.result.now
    (visited-lent slots c.args.root.0 c.in_ok-visits.visits.taken.items c.in_ok-visits.visits.read.items c.as_slice.result.now c.as_slice-2.result.now c.as_slice.ensures.value c.as_slice-2.ensures.value c.in_ok-visits.ensures.visited)

pub returns-clause-nodes : goal.returns-clause-nodes
returns-clause-nodes c = λ f.
    c.insert_for.ensures.nodes f c.args.root.0
    (visited-lent c.args.phys_sm.now.slots c.args.root.0 c.in_ok-visits.visits.taken.items c.in_ok-visits.visits.read.items c.as_slice.result.now c.as_slice-2.result.now c.as_slice.ensures.value c.as_slice-2.ensures.value c.in_ok-visits.ensures.visited)

pub returns-clause-keeps : goal.returns-clause-keeps
returns-clause-keeps c = λ F f n T within.
    let slots = c.args.phys_sm.now.slots in
    let v = visited-lent slots c.args.root.0 c.in_ok-visits.visits.taken.items c.in_ok-visits.visits.read.items c.as_slice.result.now c.as_slice-2.result.now c.as_slice.ensures.value c.as_slice-2.ensures.value c.in_ok-visits.ensures.visited in
    on-ok c.insert_for.result (nodes_of f c.insert_for.new.phys.slots ≡ with_multiplexers c.args.root.0 (nodes_of f slots)) (PhysicalMeans F (nodes_of f slots) n T ↔ PhysicalMeans F (nodes_of f c.insert_for.new.phys.slots) n T)
    (λ is. kept-after F f slots c.insert_for.new.phys.slots c.requires.whole c.args.root.0 c.as_slice.result.now c.as_slice-2.result.now n T v within is) (c.insert_for.ensures.nodes f c.args.root.0 v)

pub returns-clause-whole : goal.returns-clause-whole
returns-clause-whole c =
    let slots = c.args.phys_sm.now.slots in
    let v = visited-lent slots c.args.root.0 c.in_ok-visits.visits.taken.items c.in_ok-visits.visits.read.items c.as_slice.result.now c.as_slice-2.result.now c.as_slice.ensures.value c.as_slice-2.ensures.value c.in_ok-visits.ensures.visited in
    on-three c.insert_for.result _ _ _ _ (λ there filled is. whole-after slots c.insert_for.new.phys.slots c.requires.whole c.args.root.0 c.as_slice.result.now c.as_slice-2.result.now v there filled is) c.insert_for.ensures.there c.insert_for.ensures.filled
    (c.insert_for.ensures.nodes missing_trees c.args.root.0 v)
