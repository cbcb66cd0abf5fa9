-- Where an expression has a kind, so has what it takes.
use Rattle.std.proofs.Common.{◌≡◌, ℕ, zero, suc, ◌+◌, ◌<◌, ◌≤◌, List, [], ◌∷◌, ◌++◌, length, get_or, take, Bool, true, false, refl, subst, sym, ◌∙◌, ap, arith}
use Rattle.std.specs.Prelude.{⊤, not, ◌&&◌, ◌||◌, ◌==◌, is_some, IsSome, IsTrue, Option, Some, None}
use Rattle.std.proofs.lemmas.List.{take_more}
use Rattle.ps_expr_eval.specs.Evaluations.{AreTyped, operands_of}
use Rattle.ps_expr_eval.specs.Wholes.{aggregated_of, aggregation_of}
use Rattle.ps_frame.proofs.Lists.{both}
use Rattle.ps_frame.specs.Tables.{Fields, field_kind}
use Rattle.ps_frame.specs.Trees.{Aggregation, AreComplete, IsComplete, Tree, aggregate_tree, entry_tree, tree_size, trees_of, trees_size}
use Rattle.ps_frame.specs.Typing.{aggregate_kind, binary_kind, branch_kind, cast_kind, fits_keys, function_kind, have_kinds, is_kind, is_scalar, kind_if, kind_over, sum_kind, tree_count}
use Rattle.ps_frame.specs.declared.expr.AExpr.{AExpr}
use Rattle.ps_frame.specs.declared.expr.AExpr.TheVariants as entry
use Rattle.ps_frame.specs.declared.expr.FunctionExpr.{FunctionExpr}
use Rattle.ps_frame.specs.declared.expr.FunctionExpr.TheVariants as fun
use Rattle.ps_frame.specs.declared.expr.IRAggExpr.{IRAggExpr}
use Rattle.ps_frame.specs.declared.expr.IRAggExpr.TheVariants as agg
use Rattle.ps_frame.specs.declared.expr.Operator.{Operator}
use Rattle.ps_frame.specs.declared.value.DataType.{DataType}
use Rattle.ps_frame.specs.declared.value.DataType.TheVariants as kind
use Rattle.pu_base.specs.declared.arena.Node.{Node}

-- what an entry takes has a kind
abbrev TakesKinds : Fields → (Node → Tree) → AExpr → Type 0
TakesKinds schema f (entry.Column name) = IsSome (field_kind name schema)
TakesKinds schema f (entry.Literal l) = ⊤
TakesKinds schema f (entry.BinaryExpr l o r) = IsSome (kind_over schema (f l)) × IsSome (kind_over schema (f r))
TakesKinds schema f (entry.Cast e k strict) = IsSome (kind_over schema (f e))
TakesKinds schema f (entry.Sort e d n) = IsSome (kind_over schema (f e))
TakesKinds schema f (entry.SortBy e by d n) = IsSome (kind_over schema (f e)) × IsTrue (have_kinds schema (trees_of f by))
TakesKinds schema f (entry.Gather e i s) = IsSome (kind_over schema (f e)) × IsSome (kind_over schema (f i))
TakesKinds schema f (entry.Filter e by) = IsSome (kind_over schema (f e)) × IsSome (kind_over schema (f by))
TakesKinds schema f (entry.Agg a) = IsSome (kind_over schema (f (aggregated_of a)))
TakesKinds schema f (entry.Ternary p a b) = IsSome (kind_over schema (f p)) × IsSome (kind_over schema (f a)) × IsSome (kind_over schema (f b))
TakesKinds schema f (entry.Function e g) = IsSome (kind_over schema (f e))
TakesKinds schema f (entry.Slice e o l) = IsSome (kind_over schema (f e)) × IsSome (kind_over schema (f o)) × IsSome (kind_over schema (f l))
TakesKinds schema f entry.Len = ⊤
TakesKinds schema f (entry.LeftOut w) = ⊥

binary-takes : (o : Operator) (k l : Option DataType) → IsSome (binary_kind o k l) → IsSome k × IsSome l
binary-takes o (Some a) (Some b) h = (refl, refl)
binary-takes o (Some a) None h = cc
binary-takes o None l h = cc

cast-takes : (to : DataType) (k : Option DataType) → IsSome (cast_kind to k) → IsSome k
cast-takes to (Some a) h = refl
cast-takes to None h = cc

if-takes : (b : Bool) (k : Option DataType) → IsSome (kind_if b k) → IsTrue b × IsSome k
if-takes true k h = (refl, h)
if-takes false k h = cc

is-takes : (j : DataType) (k : Option DataType) → IsTrue (is_kind j k) → IsSome k
is-takes j (Some a) h = refl
is-takes j None h = cc

either-takes : (i j : DataType) (k : Option DataType) → IsTrue (is_kind i k || is_kind j k) → IsSome k
either-takes i j (Some a) h = refl
either-takes i j None h = cc

branch-takes : (k l : Option DataType) → IsSome (branch_kind k l) → IsSome k × IsSome l
branch-takes (Some a) (Some b) h = (refl, refl)
branch-takes (Some a) None h = cc
branch-takes None l h = cc

sum-takes : (k : Option DataType) → IsSome (sum_kind k) → IsSome k
sum-takes (Some a) h = refl
sum-takes None h = cc

aggregate-takes : (a : Aggregation) (k : Option DataType) → IsSome (aggregate_kind a k) → IsSome k
aggregate-takes Aggregation.sum k h = sum-takes k h
aggregate-takes Aggregation.n_unique k h = (if-takes (is_some k) _ h).0
aggregate-takes (Aggregation.count all) k h = (if-takes (is_some k) _ h).0
aggregate-takes Aggregation.min k h = h
aggregate-takes Aggregation.max k h = h
aggregate-takes Aggregation.first k h = h
aggregate-takes Aggregation.last k h = h

function-takes : (g : FunctionExpr) (k : Option DataType) → IsSome (function_kind g k) → IsSome k
function-takes fun.Not k h = is-takes kind.Boolean k (if-takes (is_kind kind.Boolean k) _ h).0
function-takes fun.IsNull k h = (if-takes (is_some k) _ h).0
function-takes fun.IsNotNull k h = (if-takes (is_some k) _ h).0
function-takes fun.Reverse k h = h

-- the tree of an aggregate
pub aggregate-tree : (f : Node → Tree) (a : IRAggExpr) → aggregate_tree f a ≡ Tree.aggregate (aggregation_of a) (f (aggregated_of a))
aggregate-tree f (agg.Min n) = refl
aggregate-tree f (agg.Max n) = refl
aggregate-tree f (agg.First n) = refl
aggregate-tree f (agg.Last n) = refl
aggregate-tree f (agg.Sum n) = refl
aggregate-tree f (agg.NUnique n) = refl
aggregate-tree f (agg.Count n all) = refl

takes-kinds : (s : Fields) (f : Node → Tree) (e : AExpr) → IsSome (kind_over s (entry_tree f (Some e))) → TakesKinds s f e
takes-kinds s f (entry.Column name) h = h
takes-kinds s f (entry.Literal l) h = tt
takes-kinds s f (entry.BinaryExpr l o r) h = binary-takes o (kind_over s (f l)) (kind_over s (f r)) h
takes-kinds s f (entry.Cast e k strict) h = cast-takes k (kind_over s (f e)) h
takes-kinds s f (entry.Sort e d n) h = h
takes-kinds s f (entry.SortBy e by d n) h =
    let n_keys = tree_count (trees_of f by) in
    let parts = if-takes (have_kinds s (trees_of f by) && not (n_keys == 0) && fits_keys d n_keys && fits_keys n n_keys) (kind_over s (f e)) h in
    let two = both (have_kinds s (trees_of f by) && not (n_keys == 0) && fits_keys d n_keys) (fits_keys n n_keys) parts.0 in
    let three = both (have_kinds s (trees_of f by) && not (n_keys == 0)) (fits_keys d n_keys) two.0 in
    let four = both (have_kinds s (trees_of f by)) (not (n_keys == 0)) three.0 in
    (parts.1, four.0)
takes-kinds s f (entry.Gather e i scalar) h =
    let k = kind_over s (f i) in
    let parts = if-takes ((is_kind kind.Int64 k || is_kind kind.IdxSize k) && (not scalar || is_scalar (f i))) (kind_over s (f e)) h in
    let two = both (is_kind kind.Int64 k || is_kind kind.IdxSize k) (not scalar || is_scalar (f i)) parts.0 in
    (parts.1, either-takes kind.Int64 kind.IdxSize k two.0)
takes-kinds s f (entry.Filter e by) h =
    let parts = if-takes (is_kind kind.Boolean (kind_over s (f by))) (kind_over s (f e)) h in
    (parts.1, is-takes kind.Boolean (kind_over s (f by)) parts.0)
takes-kinds s f (entry.Agg a) h = aggregate-takes (aggregation_of a) (kind_over s (f (aggregated_of a))) (subst (λ (t : Tree). IsSome (kind_over s t)) (aggregate-tree f a) h)
takes-kinds s f (entry.Ternary p a b) h =
    let parts = if-takes (is_kind kind.Boolean (kind_over s (f p))) (branch_kind (kind_over s (f a)) (kind_over s (f b))) h in
    let two = branch-takes (kind_over s (f a)) (kind_over s (f b)) parts.1 in
    (is-takes kind.Boolean (kind_over s (f p)) parts.0, two.0, two.1)
takes-kinds s f (entry.Function e g) h = function-takes g (kind_over s (f e)) h
takes-kinds s f (entry.Slice e o l) h =
    let ko = kind_over s (f o) in
    let kl = kind_over s (f l) in
    let parts = if-takes (is_scalar (f o) && is_scalar (f l) && is_kind kind.Int64 ko && is_kind kind.Int64 kl) (kind_over s (f e)) h in
    let two = both (is_scalar (f o) && is_scalar (f l) && is_kind kind.Int64 ko) (is_kind kind.Int64 kl) parts.0 in
    let three = both (is_scalar (f o) && is_scalar (f l)) (is_kind kind.Int64 ko) two.0 in
    (parts.1, is-takes kind.Int64 ko three.1, is-takes kind.Int64 kl two.1)
takes-kinds s f entry.Len h = tt
takes-kinds s f (entry.LeftOut w) h = let no : false ≡ true = h in cc

-- each of several expressions
keys-typed : (s : Fields) (f : Node → Tree) (ns : List Node) → AreComplete (trees_of f ns) → IsTrue (have_kinds s (trees_of f ns)) → AreTyped s f ns
keys-typed s f [] c k = tt
keys-typed s f (n ∷ ns) c k =
    let h = both (is_some (kind_over s (f n))) (have_kinds s (trees_of f ns)) k in
    (record { complete = c.0; kind = h.0 }, keys-typed s f ns c.1 h.1)

typed-operands : (s : Fields) (f : Node → Tree) (e : AExpr) → IsComplete (entry_tree f (Some e)) → TakesKinds s f e → AreTyped s f (operands_of e)
typed-operands s f (entry.Column name) c k = tt
typed-operands s f (entry.Literal l) c k = tt
typed-operands s f (entry.BinaryExpr l o r) c k = (record { complete = c.0; kind = k.0 }, (record { complete = c.1; kind = k.1 }, tt))
typed-operands s f (entry.Cast e d strict) c k = (record { complete = c; kind = k }, tt)
typed-operands s f (entry.Sort e d n) c k = (record { complete = c; kind = k }, tt)
typed-operands s f (entry.SortBy e by d n) c k = (record { complete = c.0; kind = k.0 }, keys-typed s f by c.1 k.1)
typed-operands s f (entry.Gather e i scalar) c k = (record { complete = c.0; kind = k.0 }, (record { complete = c.1; kind = k.1 }, tt))
typed-operands s f (entry.Filter e by) c k = (record { complete = c.0; kind = k.0 }, (record { complete = c.1; kind = k.1 }, tt))
typed-operands s f (entry.Agg a) c k = (record { complete = subst IsComplete (aggregate-tree f a) c; kind = k }, tt)
typed-operands s f (entry.Ternary p a b) c k = (record { complete = c.0; kind = k.0 }, (record { complete = c.1; kind = k.1 }, (record { complete = c.2; kind = k.2 }, tt)))
typed-operands s f (entry.Function e g) c k = (record { complete = c; kind = k }, tt)
typed-operands s f (entry.Slice e o l) c k = (record { complete = c.0; kind = k.0 }, (record { complete = c.1; kind = k.1 }, (record { complete = c.2; kind = k.2 }, tt)))
typed-operands s f entry.Len c k = tt
typed-operands s f (entry.LeftOut w) c k = absurd k

pub operands-typed : (s : Fields) (f : Node → Tree) (e : AExpr) → IsComplete (entry_tree f (Some e)) → IsSome (kind_over s (entry_tree f (Some e))) → AreTyped s f (operands_of e)
operands-typed s f e c k = typed-operands s f e c (takes-kinds s f e k)

aggregated-size : (n : ℕ) → suc n ≡ suc (n + 0)
aggregated-size n = omega arith

-- nothing is missing in what an entry takes
pub operands-complete : (f : Node → Tree) (e : AExpr) → IsComplete (entry_tree f (Some e)) → AreComplete (trees_of f (operands_of e))
operands-complete f (entry.Column name) c = tt
operands-complete f (entry.Literal l) c = tt
operands-complete f (entry.BinaryExpr l o r) c = (c.0, (c.1, tt))
operands-complete f (entry.Cast e d strict) c = (c, tt)
operands-complete f (entry.Sort e d n) c = (c, tt)
operands-complete f (entry.SortBy e by d n) c = (c.0, c.1)
operands-complete f (entry.Gather e i scalar) c = (c.0, (c.1, tt))
operands-complete f (entry.Filter e by) c = (c.0, (c.1, tt))
operands-complete f (entry.Agg a) c = (subst IsComplete (aggregate-tree f a) c, tt)
operands-complete f (entry.Ternary p a b) c = (c.0, (c.1, (c.2, tt)))
operands-complete f (entry.Function e g) c = (c, tt)
operands-complete f (entry.Slice e o l) c = (c.0, (c.1, (c.2, tt)))
operands-complete f entry.Len c = tt
operands-complete f (entry.LeftOut w) c = tt

-- a tree is larger by one than those that it takes
pub operands-size : (f : Node → Tree) (e : AExpr) → tree_size (entry_tree f (Some e)) ≡ suc (trees_size (trees_of f (operands_of e)))
operands-size f (entry.Column name) = refl
operands-size f (entry.Literal l) = refl
operands-size f (entry.BinaryExpr l o r) = omega arith
operands-size f (entry.Cast e k strict) = omega arith
operands-size f (entry.Sort e d n) = omega arith
operands-size f (entry.SortBy e by d n) = refl
operands-size f (entry.Gather e i s) = omega arith
operands-size f (entry.Filter e by) = omega arith
operands-size f (entry.Agg a) = ap tree_size (aggregate-tree f a) ∙ aggregated-size (tree_size (f (aggregated_of a)))
operands-size f (entry.Ternary p a b) = omega arith
operands-size f (entry.Function e g) = omega arith
operands-size f (entry.Slice e o l) = omega arith
operands-size f entry.Len = refl
operands-size f (entry.LeftOut w) = refl

-- each of several expressions is complete
pub complete-at : (f : Node → Tree) (ns : List Node) (i : ℕ) (d : Node) → i < length ns → AreComplete (trees_of f ns) → IsComplete (f (get_or ns i d))
complete-at f [] i d h c = absurd (omega arith)
complete-at f (m ∷ ns) zero d h c = c.0
complete-at f (m ∷ ns) (suc i) d h c = complete-at f ns i d (omega arith) c.1

complete-push : (f : Node → Tree) (ns : List Node) (n : Node) → AreComplete (trees_of f ns) → IsComplete (f n) → AreComplete (trees_of f (ns ++ n ∷ []))
complete-push f [] n c h = (h, tt)
complete-push f (m ∷ ns) n c h = (c.0, complete-push f ns n c.1 h)

pub push-size : (f : Node → Tree) (ns : List Node) (n : Node) → trees_size (trees_of f (ns ++ n ∷ [])) ≡ trees_size (trees_of f ns) + tree_size (f n)
push-size f [] n = omega arith
push-size f (m ∷ ns) n = let rest = push-size f ns n in omega (arith, rest)

pub last-complete : (f : Node → Tree) (all ns : List Node) (n : Node) → all ≡ ns ++ n ∷ [] → AreComplete (trees_of f all) → AreComplete (trees_of f ns) × IsComplete (f n)
last-complete f all ns n is c = by ns (subst (λ (xs : List Node). AreComplete (trees_of f xs)) is c)
  where
    by : (ns : List Node) → AreComplete (trees_of f (ns ++ n ∷ [])) → AreComplete (trees_of f ns) × IsComplete (f n)
    by [] c = (tt, c.0)
    by (m ∷ ns) c = let rest = by ns c.1 in ((c.0, rest.0), rest.1)

pub last-size : (f : Node → Tree) (all ns : List Node) (n : Node) → all ≡ ns ++ n ∷ [] → trees_size (trees_of f all) ≡ trees_size (trees_of f ns) + tree_size (f n)
last-size f all ns n is = ap (λ (xs : List Node). trees_size (trees_of f xs)) is ∙ push-size f ns n

pub shrinks : (now before all size : ℕ) → now < before + size → all ≡ before + size → now < all
shrinks now before all size h is = omega arith

take-size : (f : Node → Tree) (ns : List Node) (i : ℕ) → trees_size (trees_of f (take i ns)) ≤ trees_size (trees_of f ns)
take-size f ns zero = omega arith
take-size f [] (suc i) = omega arith
take-size f (n ∷ ns) (suc i) = let rest = take-size f ns i in omega (arith, rest)

-- what is left to look at, once some entries were seen
pub record Noting (f : Node → Tree) (before left seen : List Node) : Type 0 where
  pub complete : AreComplete (trees_of f left)
  pub size : trees_size (trees_of f left) ≤ trees_size (trees_of f before) + trees_size (trees_of f seen)

seen-size : (f : Node → Tree) (ns : List Node) (i : ℕ) (d : Node) → i < length ns → trees_size (trees_of f (take (i + 1) ns)) ≡ trees_size (trees_of f (take i ns)) + tree_size (f (get_or ns i d))
seen-size f ns i d h = ap (λ (xs : List Node). trees_size (trees_of f xs)) (take_more ns i d h) ∙ push-size f (take i ns) (get_or ns i d)

pub noted : (f : Node → Tree) (ns : List Node) (i : ℕ) (d : Node) (before left now : List Node) → i < length ns → AreComplete (trees_of f ns) → now ≡ left ++ get_or ns i d ∷ [] → Noting f before left (take i ns) → Noting f before now (take (i + 1) ns)
noted f ns i d before left now h c is n =
    let s = seen-size f ns i d h in
    let p = last-size f now left (get_or ns i d) is in
    record {
      complete = subst (λ (xs : List Node). AreComplete (trees_of f xs)) (sym is) (complete-push f left (get_or ns i d) n.complete (complete-at f ns i d h c));
      size = let k = n.size in omega (arith, s, p, k);
    }

pub passed : (f : Node → Tree) (ns : List Node) (i : ℕ) (d : Node) (before left now : List Node) → i < length ns → now ≡ left → Noting f before left (take i ns) → Noting f before now (take (i + 1) ns)
passed f ns i d before left now h is n =
    let s = seen-size f ns i d h in
    let p = ap (λ (xs : List Node). trees_size (trees_of f xs)) is in
    record {
      complete = subst (λ (xs : List Node). AreComplete (trees_of f xs)) (sym is) n.complete;
      size = let k = n.size in omega (arith, s, p, k);
    }

pub noting-none : (f : Node → Tree) (ns before : List Node) → AreComplete (trees_of f before) → Noting f before before (take 0 ns)
noting-none f ns before c = record { complete = c; size = omega arith }

pub noted-within : (f : Node → Tree) (ns : List Node) (i : ℕ) (before left : List Node) → Noting f before left (take i ns) → trees_size (trees_of f left) ≤ trees_size (trees_of f before) + trees_size (trees_of f ns)
noted-within f ns i before left n =
    let k = n.size in
    let t = take-size f ns i in
    omega (arith, k, t)

-- what an entry takes is smaller than its tree
pub operands-fewer : (f : Node → Tree) (ns : List Node) (left before : ℕ) (e : AExpr) (size : ℕ) → ns ≡ operands_of e → size ≡ tree_size (entry_tree f (Some e)) → left ≤ before + trees_size (trees_of f ns) → left < before + size
operands-fewer f ns left before e size is s h =
    let o = ap (λ (xs : List Node). trees_size (trees_of f xs)) is in
    let z = s ∙ operands-size f e in
    omega (arith, h, o, z)
