-- What has a kind lacks nothing.
use Rattle.std.proofs.Common.{◌≡◌, ◌⊎◌, ℕ, Bool, true, false, not, List, [], ◌∷◌, ◌++◌, Option, Some, None, refl, inl, inr, ap, sym, subst, ◌∙◌}
use Rattle.std.specs.Prelude.{◌&&◌, ◌||◌, ◌==◌, IsTrue, is_some, if◌then◌else◌}
use Rattle.std.specs.List.{AllByRecursion}
use Rattle.ps_frame.specs.Tables.{Fields}
use Rattle.ps_frame.specs.Trees.{Aggregation, AreComplete, IsComplete, Tree, Trees}
use Rattle.ps_frame.specs.Typing.{aggregate_kind, binary_kind, branch_kind, cast_kind, fits_keys, function_kind, have_kinds, is_kind, is_scalar, kind_if, kind_over, sum_kind, tree_count}
use Rattle.ps_frame.specs.declared.expr.FunctionExpr.{FunctionExpr}
use Rattle.ps_frame.specs.declared.expr.FunctionExpr.TheVariants as fun
use Rattle.ps_frame.specs.declared.expr.Operator.{Operator}
use Rattle.ps_frame.specs.declared.value.DataType.{DataType}
use Rattle.ps_frame.specs.declared.value.DataType.TheVariants as kind
use Rattle.ps_meaning.specs.Schemas.{first_schema, second_schema}
use Rattle.ps_meaning.specs.Sound.{have_all_kinds, have_kinds_over}
use Rattle.ps_meaning.specs.Steps.{Step, cache, distinct, filter, group_by, hconcat, hstack, join, left_out, project, row_index, scan, select, sink, slice, sort, step_exprs, union, user}

pub and-parts : (a b : Bool) → (a && b) ≡ true → (a ≡ true) × (b ≡ true)
and-parts true b e = (refl, e)
and-parts false b e = cc

or-parts : (a b : Bool) → (a || b) ≡ true → (a ≡ true) ⊎ (b ≡ true)
or-parts true b e = inl refl
or-parts false b e = inr e

binary-some : (o : Operator) (a b : Option DataType) → is_some (binary_kind o a b) ≡ true → (is_some a ≡ true) × (is_some b ≡ true)
binary-some o None b e = cc
binary-some o (Some a) None e = cc
binary-some o (Some a) (Some b) e = (refl, refl)

cast-some : (to : DataType) (o : Option DataType) → is_some (cast_kind to o) ≡ true → is_some o ≡ true
cast-some to None e = e
cast-some to (Some k) e = refl

if-some : (b : Bool) (o : Option DataType) → is_some (kind_if b o) ≡ true → (b ≡ true) × (is_some o ≡ true)
if-some true o e = (refl, e)
if-some false o e = cc

kind-some : (k : DataType) (o : Option DataType) → is_kind k o ≡ true → is_some o ≡ true
kind-some k None e = e
kind-some k (Some j) e = refl

sum-some : (o : Option DataType) → is_some (sum_kind o) ≡ true → is_some o ≡ true
sum-some None e = e
sum-some (Some k) e = refl

aggregate-some : (a : Aggregation) (o : Option DataType) → is_some (aggregate_kind a o) ≡ true → is_some o ≡ true
aggregate-some Aggregation.min o e = e
aggregate-some Aggregation.max o e = e
aggregate-some Aggregation.first o e = e
aggregate-some Aggregation.last o e = e
aggregate-some Aggregation.sum o e = sum-some o e
aggregate-some Aggregation.n_unique o e = (if-some (is_some o) (Some kind.IdxSize) e).0
aggregate-some (Aggregation.count all) o e = (if-some (is_some o) (Some kind.IdxSize) e).0

function-some : (g : FunctionExpr) (o : Option DataType) → is_some (function_kind g o) ≡ true → is_some o ≡ true
function-some fun.Not o e = kind-some kind.Boolean o (if-some (is_kind kind.Boolean o) (Some kind.Boolean) e).0
function-some fun.IsNull o e = (if-some (is_some o) (Some kind.Boolean) e).0
function-some fun.IsNotNull o e = (if-some (is_some o) (Some kind.Boolean) e).0
function-some fun.Reverse o e = e

branch-some : (a b : Option DataType) → is_some (branch_kind a b) ≡ true → (is_some a ≡ true) × (is_some b ≡ true)
branch-some None b e = cc
branch-some (Some a) None e = cc
branch-some (Some a) (Some b) e = (refl, refl)

either-some : (o : Option DataType) → (is_kind kind.Int64 o || is_kind kind.IdxSize o) ≡ true → is_some o ≡ true
either-some None e = e
either-some (Some k) e = refl

mutual
  pub kind-complete : (s : Fields) (t : Tree) → is_some (kind_over s t) ≡ true → IsComplete t
  kind-complete s (Tree.column name) e = tt
  kind-complete s (Tree.literal l) e = tt
  kind-complete s (Tree.binary o l r) e = let both = binary-some o (kind_over s l) (kind_over s r) e in (kind-complete s l both.0, kind-complete s r both.1)
  kind-complete s (Tree.cast k b t) e = kind-complete s t (cast-some k (kind_over s t) e)
  kind-complete s (Tree.sort d n t) e = kind-complete s t e
  kind-complete s (Tree.sort_by d n t by) e =
      let parts = if-some (have_kinds s by && not (tree_count by == 0) && fits_keys d (tree_count by) && fits_keys n (tree_count by)) (kind_over s t) e in
      let third = and-parts (have_kinds s by && not (tree_count by == 0) && fits_keys d (tree_count by)) (fits_keys n (tree_count by)) parts.0 in
      let second = and-parts (have_kinds s by && not (tree_count by == 0)) (fits_keys d (tree_count by)) third.0 in
      let first = and-parts (have_kinds s by) (not (tree_count by == 0)) second.0 in
      (kind-complete s t parts.1, kinds-complete s by first.0)
  kind-complete s (Tree.gather b t i) e =
      let parts = if-some ((is_kind kind.Int64 (kind_over s i) || is_kind kind.IdxSize (kind_over s i)) && (not b || is_scalar i)) (kind_over s t) e in
      let index = and-parts (is_kind kind.Int64 (kind_over s i) || is_kind kind.IdxSize (kind_over s i)) (not b || is_scalar i) parts.0 in
      (kind-complete s t parts.1, kind-complete s i (either-some (kind_over s i) index.0))
  kind-complete s (Tree.filter t by) e =
      let parts = if-some (is_kind kind.Boolean (kind_over s by)) (kind_over s t) e in
      (kind-complete s t parts.1, kind-complete s by (kind-some kind.Boolean (kind_over s by) parts.0))
  kind-complete s (Tree.aggregate a t) e = kind-complete s t (aggregate-some a (kind_over s t) e)
  kind-complete s (Tree.ternary p a b) e =
      let parts = if-some (is_kind kind.Boolean (kind_over s p)) (branch_kind (kind_over s a) (kind_over s b)) e in
      let branches = branch-some (kind_over s a) (kind_over s b) parts.1 in
      (kind-complete s p (kind-some kind.Boolean (kind_over s p) parts.0), kind-complete s a branches.0, kind-complete s b branches.1)
  kind-complete s (Tree.function g t) e = kind-complete s t (function-some g (kind_over s t) e)
  kind-complete s (Tree.slice t o l) e =
      let parts = if-some (is_scalar o && is_scalar l && is_kind kind.Int64 (kind_over s o) && is_kind kind.Int64 (kind_over s l)) (kind_over s t) e in
      let third = and-parts (is_scalar o && is_scalar l && is_kind kind.Int64 (kind_over s o)) (is_kind kind.Int64 (kind_over s l)) parts.0 in
      let second = and-parts (is_scalar o && is_scalar l) (is_kind kind.Int64 (kind_over s o)) third.0 in
      (kind-complete s t parts.1, kind-complete s o (kind-some kind.Int64 (kind_over s o) second.1), kind-complete s l (kind-some kind.Int64 (kind_over s l) third.1))
  kind-complete s Tree.len e = tt
  kind-complete s (Tree.left_out w) e = cc
  kind-complete s Tree.missing e = cc

  kinds-complete : (s : Fields) (ts : Trees) → have_kinds s ts ≡ true → AreComplete ts
  kinds-complete s Trees.no_trees e = tt
  kinds-complete s (Trees.tree t ts) e = let both = and-parts (is_some (kind_over s t)) (have_kinds s ts) e in (kind-complete s t both.0, kinds-complete s ts both.1)

pub all-complete : (s : Fields) (ts : List Tree) → have_all_kinds s ts ≡ true → AllByRecursion IsComplete ts
all-complete s [] e = tt
all-complete s (t ∷ ts) e = let both = and-parts (is_some (kind_over s t)) (have_all_kinds s ts) e in (kind-complete s t both.0, all-complete s ts both.1)

all-append : (xs ys : List Tree) → AllByRecursion IsComplete xs → AllByRecursion IsComplete ys → AllByRecursion IsComplete (xs ++ ys)
all-append [] ys a b = b
all-append (x ∷ xs) ys a b = (a.0, all-append xs ys a.1 b)

-- each expression of a step is whole where each has a kind
pub step-complete : (ss : List Fields) (step : Step) → have_kinds_over ss step ≡ true → AllByRecursion IsComplete (step_exprs step)
step-complete ss (scan t ns) e = tt
step-complete ss (project ns) e = tt
step-complete ss (select es) e = all-complete (first_schema ss) (step_exprs (select es)) e
step-complete ss (hstack es) e = all-complete (first_schema ss) (step_exprs (hstack es)) e
step-complete ss (filter t) e = all-complete (first_schema ss) (t ∷ []) e
step-complete ss (slice offset n) e = tt
step-complete ss (sink payload) e = tt
step-complete ss (row_index name offset) e = tt
step-complete ss (user n) e = tt
step-complete ss (sort o) e = all-complete (first_schema ss) o.keys e
step-complete ss (union cut) e = tt
step-complete ss hconcat e = tt
step-complete ss (cache id) e = tt
step-complete ss (group_by o) e = all-complete (first_schema ss) (step_exprs (group_by o)) e
step-complete ss (join o) e =
    let both = and-parts (have_all_kinds (first_schema ss) o.left_on) (have_all_kinds (second_schema ss) o.right_on) e in
    all-append o.left_on o.right_on (all-complete (first_schema ss) o.left_on both.0) (all-complete (second_schema ss) o.right_on both.1)
step-complete ss (distinct o) e = tt
step-complete ss (left_out what) e = tt
