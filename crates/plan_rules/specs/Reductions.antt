-- The reductions that the aggregates of a group-by are put together from. Each of them can be computed over parts of a group, and then over what it gave there.
use Rattle.std.specs.Prelude.{◌&&◌, Bool, true, false, List, [], ◌∷◌, ◌++◌, fold}
use Rattle.ps_frame.specs.Trees.{Aggregation, Tree}
use Rattle.ps_frame.specs.Typing.{goes_by_cell, is_elementwise}
use Rattle.ps_meaning.specs.Steps.{Name, Named}
use Rattle.ps_rules.specs.Names.{Names, after_fresh, fresh_name}

abbrev pub is_mergeable : Aggregation → Bool
is_mergeable Aggregation.n_unique = false
is_mergeable (Aggregation.count all) = false
is_mergeable _ = true

-- put together, cell by cell, from literals, heights and mergeable aggregates of what is elementwise
abbrev pub is_made_of_reductions : Tree → Bool
is_made_of_reductions (Tree.literal l) = true
is_made_of_reductions Tree.len = true
is_made_of_reductions (Tree.aggregate a e) = is_mergeable a && is_elementwise e
is_made_of_reductions (Tree.binary o l r) = is_made_of_reductions l && is_made_of_reductions r
is_made_of_reductions (Tree.cast k strict e) = is_made_of_reductions e
is_made_of_reductions (Tree.ternary p a b) = is_made_of_reductions p && is_made_of_reductions a && is_made_of_reductions b
is_made_of_reductions (Tree.function g e) = goes_by_cell g && is_made_of_reductions e
is_made_of_reductions _ = false

-- An expression over the columns of reductions: these, and the names that are in use then.
pub record Apart : Type 0 where
  pub names : Names
  pub reductions : List Named
  pub expr : Tree

-- a reduction behind those that were found, and its column in its place
abbrev pub under_name : Name → Tree → Names → List Named → Apart
under_name name e names found = record { names = names; reductions = found ++ (name, e) ∷ []; expr = Tree.column name }

abbrev pub under_fresh_name : Tree → Names → List Named → Apart
under_fresh_name e names = under_name (fresh_name names) e (after_fresh names)

-- each reduction in an expression gives place to a column under a fresh name, from left to right
abbrev pub taken_apart : Tree → Names → List Named → Apart
taken_apart (Tree.aggregate a e) names found = under_fresh_name (Tree.aggregate a e) names found
taken_apart Tree.len names found = under_fresh_name Tree.len names found
taken_apart (Tree.binary o l r) names found =
    let x = taken_apart l names found in
    let y = taken_apart r x.names x.reductions in
    record y { expr = Tree.binary o x.expr y.expr }
taken_apart (Tree.cast k strict e) names found = let x = taken_apart e names found in record x { expr = Tree.cast k strict x.expr }
taken_apart (Tree.ternary p a b) names found =
    let x = taken_apart p names found in
    let y = taken_apart a x.names x.reductions in
    let z = taken_apart b y.names y.reductions in
    record z { expr = Tree.ternary x.expr y.expr z.expr }
taken_apart (Tree.function g e) names found = let x = taken_apart e names found in record x { expr = Tree.function g x.expr }
taken_apart e names found = record { names = names; reductions = found; expr = e }

-- an aggregate that is itself a reduction keeps its name
abbrev pub aggregate_apart : Name → Tree → Names → List Named → Apart
aggregate_apart name (Tree.aggregate a e) names found = under_name name (Tree.aggregate a e) names found
aggregate_apart name Tree.len names found = under_name name Tree.len names found
aggregate_apart name e names found = taken_apart e names found

-- the reductions of several aggregates, and these over the columns of the reductions
pub record Split : Type 0 where
  pub names : Names
  pub reductions : List Named
  pub above : List Named

abbrev pub with_aggregate : Split → Named → Split
with_aggregate split aggregate =
    let x = aggregate_apart aggregate.0 aggregate.1 split.names split.reductions in
    record { names = x.names; reductions = x.reductions; above = split.above ++ (aggregate.0, x.expr) ∷ [] }

abbrev pub split_aggregates : List Named → Names → Split
split_aggregates aggregates names = fold with_aggregate (record { names = names; reductions = []; above = [] }) aggregates
