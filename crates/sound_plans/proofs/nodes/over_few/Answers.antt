use Rattle.std.proofs.Common.{[], ◌∷◌, sym}
use Rattle.ps_frame.specs.Trees.{tree_at}
use Rattle.ps_phys.specs.Shown.{inputs_of, stream_of}
use Rattle.sound_plans.specs.Read.{schemas_read}
use Rattle.sound_plans.proofs.Arms.{for-one, none-read, one-read, read-as, two-read}
use Rattle.sound_plans.proofs.nodes.over_few.Goals as goal

pub returns-in_default-clause-fit : goal.returns-in_default-clause-fit
returns-in_default-clause-fit g c =
    let f = tree_at c.args.arena.now.items in
    let F = g.F.Functions.told c.args.functions.now in
    let slots = c.args.phys.now.slots in
    let streams = inputs_of c.args.kind.now in
    read-as f F c.args.schema.now [] (schemas_read slots streams) c.args.kind.now c.over_none.result (none-read slots streams (sym c.in_default.ensures.stream)) (for-one f F c.args.schema.now [] c.args.kind.now c.over_none.result c.over_none.ensures.fit)

pub returns-in_default-input-clause-fit : goal.returns-in_default-input-clause-fit
returns-in_default-input-clause-fit g c =
    let f = tree_at c.args.arena.now.items in
    let F = g.F.Functions.told c.args.functions.now in
    let slots = c.args.phys.now.slots in
    let streams = inputs_of c.args.kind.now in
    let left = c.in-Some-schema_of.left.now in
    read-as f F c.args.schema.now (left ∷ []) (schemas_read slots streams) c.args.kind.now c.over_one.result
    (one-read slots streams (stream_of c.in-Some.first) left (sym c.in-Some.ensures.stream) (sym c.in_default-input.ensures.stream) c.in-Some-schema_of.ensures) c.over_one.ensures.fit

pub returns-in_default-input-2-clause-fit : goal.returns-in_default-input-2-clause-fit
returns-in_default-input-2-clause-fit g c =
    let f = tree_at c.args.arena.now.items in
    let F = g.F.Functions.told c.args.functions.now in
    let slots = c.args.phys.now.slots in
    let streams = inputs_of c.args.kind.now in
    let left = c.in-Some-schema_of.left.now in
    let right = c.in-Some-schema_of-2.right.now in
    read-as f F c.args.schema.now (left ∷ right ∷ []) (schemas_read slots streams) c.args.kind.now c.over_two.result
    (two-read slots streams (stream_of c.in-Some.first) (stream_of c.in-Some-input.second) left right (sym c.in-Some.ensures.stream) (sym c.in-Some-input.ensures.stream) (sym c.in_default-input-2.ensures.stream) c.in-Some-schema_of.ensures c.in-Some-schema_of-2.ensures)
    (for-one f F c.args.schema.now (left ∷ right ∷ []) c.args.kind.now c.over_two.result c.over_two.ensures.fit)
