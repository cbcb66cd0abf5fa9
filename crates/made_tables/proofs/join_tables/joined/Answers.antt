-- The join is fit, and gives or fails by what its node does.
use Rattle.std.proofs.Common.{◌≡◌, ◌≤◌, [], ◌∷◌, arith, length, subst}
use Rattle.made_tables.proofs.Joins.{as_many, as_many_keys, asked_of, left_typed, paired, right_typed}
use Rattle.made_tables.proofs.Mapped.{broken_by_join, made_by_join}
use Rattle.bare_nodes.specs.Bare.{nowhere}
use Rattle.bare_nodes.specs.Uncalled.{no_functions}
use Rattle.ps_frame.specs.Aggregates.{max_rows}
use Rattle.ps_frame.specs.Trees.{tree_at}
use Rattle.ps_joins.specs.JoinOf.{join_of}
use Rattle.ps_meaning.specs.Nodes.{GivesFrame, MayFault}
use Rattle.ps_meaning.specs.Steps.{join}
use Rattle.std.proofs.Common.{refl}
use Rattle.made_tables.proofs.join_tables.joined.Goals as goal

pub schema_of_join-requires-clause-left_keys : goal.schema_of_join-requires-clause-left_keys
schema_of_join-requires-clause-left_keys c =
    (left_typed (join_of (tree_at c.args.arena.now.items) c.args.left_on.now c.args.right_on.now c.args.args.now) c.args.left.now.schema c.args.right.now.schema c.args.schema.now c.requires.fit).0

pub schema_of_join-requires-clause-right_keys : goal.schema_of_join-requires-clause-right_keys
schema_of_join-requires-clause-right_keys c =
    (right_typed (join_of (tree_at c.args.arena.now.items) c.args.left_on.now c.args.right_on.now c.args.args.now) c.args.left.now.schema c.args.right.now.schema c.args.schema.now c.requires.fit).0

pub schema_of_join-requires-clause-paired : goal.schema_of_join-requires-clause-paired
schema_of_join-requires-clause-paired c =
    as_many_keys (tree_at c.args.arena.now.items) c.args.left_on.now c.args.right_on.now
    (as_many (join_of (tree_at c.args.arena.now.items) c.args.left_on.now c.args.right_on.now c.args.args.now) c.args.left.now.schema c.args.right.now.schema c.args.schema.now c.requires.fit)

pub join-requires-clause-left_keys : goal.join-requires-clause-left_keys
join-requires-clause-left_keys c =
    left_typed (join_of (tree_at c.args.arena.now.items) c.args.left_on.now c.args.right_on.now c.args.args.now) c.args.left.now.schema c.args.right.now.schema c.args.schema.now c.requires.fit

pub join-requires-clause-right_keys : goal.join-requires-clause-right_keys
join-requires-clause-right_keys c =
    right_typed (join_of (tree_at c.args.arena.now.items) c.args.left_on.now c.args.right_on.now c.args.args.now) c.args.left.now.schema c.args.right.now.schema c.args.schema.now c.requires.fit

pub join-requires-clause-paired : goal.join-requires-clause-paired
join-requires-clause-paired c =
    paired (join_of (tree_at c.args.arena.now.items) c.args.left_on.now c.args.right_on.now c.args.args.now) c.args.left.now.schema c.args.right.now.schema c.args.schema.now c.requires.fit

pub narrowed-requires : goal.narrowed-requires
narrowed-requires c =
    let j = join_of (tree_at c.args.arena.now.items) c.args.left_on.now c.args.right_on.now c.args.args.now in
    let at : c.default.result.0 ≡ nowhere = omega arith in
    asked_of j c.args.left.now.schema c.args.right.now.schema c.args.schema.now c.requires.fit c.args.left.now c.args.right.now c.in-Ok-join.table refl refl
    (subst (λ n. GivesFrame no_functions n (join j) (c.args.left.now ∷ c.args.right.now ∷ []) c.in-Ok-join.table) at (c.in-Ok-join.ensures.table no_functions))

pub returns-in-Ok-narrowed-clause-table : goal.returns-in-Ok-narrowed-clause-table
returns-in-Ok-narrowed-clause-table c =
    let j = join_of (tree_at c.args.arena.now.items) c.args.left_on.now c.args.right_on.now c.args.args.now in
    let at : c.default.result.0 ≡ nowhere = omega arith in
    let few : length c.in-Ok-narrowed.narrow.rows ≤ max_rows = omega arith in
    made_by_join no_functions j c.args.left.now c.args.right.now c.args.schema.now c.in-Ok-join.table c.in-Ok-narrowed.narrow
    (subst (λ n. GivesFrame no_functions n (join j) (c.args.left.now ∷ c.args.right.now ∷ []) c.in-Ok-join.table) at (c.in-Ok-join.ensures.table no_functions)) c.in-Ok-narrowed.ensures.columns few

pub returns-in-Err-join-clause-fault : goal.returns-in-Err-join-clause-fault
returns-in-Err-join-clause-fault c =
    let j = join_of (tree_at c.args.arena.now.items) c.args.left_on.now c.args.right_on.now c.args.args.now in
    let at : c.default.result.0 ≡ nowhere = omega arith in
    broken_by_join no_functions j c.args.left.now c.args.right.now c.args.schema.now c.in-Err-join.error
    (subst (λ n. MayFault no_functions n (join j) (c.args.left.now ∷ c.args.right.now ∷ []) c.in-Err-join.error) at (c.in-Err-join.ensures.fault no_functions))
