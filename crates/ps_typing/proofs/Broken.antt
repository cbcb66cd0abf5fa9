-- A typing rule that isn't kept is broken, and a kept one gives the kind.
use Rattle.std.proofs.Common.{◌≡◌, ℕ, suc, ◌+◌, ◌<◌, List, [], ◌∷◌, length, get_or, drop, Bool, true, false, Ok, Err, Result, refl, sym, subst, ◌∙◌, ap, add-one, drop-cons}
use Rattle.std.specs.Prelude.{not, ◌&&◌, ◌||◌, ◌==◌, Option, Some, None, if◌then◌else◌, IfErr, IsErrAnd}
use Rattle.pu_base.specs.declared.arena.Node.{Node}
use Rattle.ps_frame.specs.Parts.{tree_parts, trees_parts}
use Rattle.ps_frame.specs.Refusals.{breaks_rule, has_kind_where, refuses_input, refuses_pair, refuses_values}
use Rattle.ps_frame.specs.Tables.{Fields}
use Rattle.ps_frame.specs.Trees.{Aggregation, Tree, Trees, aggregate_tree, entry_tree, trees_of}
use Rattle.ps_frame.specs.Typing.{aggregate_kind, binary_kind, can_cast, cast_kind, compares, fits_keys, function_kind, have_kinds, kind_if, kind_over, takes_kinds, tree_count}
use Rattle.ps_frame.specs.Values.{same_kind}
use Rattle.ps_frame.specs.declared.expr.AExpr.{AExpr}
use Rattle.ps_frame.specs.declared.expr.FunctionExpr.{FunctionExpr}
use Rattle.ps_frame.specs.declared.expr.FunctionExpr.TheVariants as fun
use Rattle.ps_frame.specs.declared.expr.IRAggExpr.{IRAggExpr}
use Rattle.ps_frame.specs.declared.expr.IRAggExpr.TheVariants as agg
use Rattle.ps_frame.specs.declared.expr.Operator.{Operator}
use Rattle.ps_frame.specs.declared.refusal.PolarsError.{PolarsError}
use Rattle.ps_frame.specs.declared.refusal.PolarsError.TheVariants as error
use Rattle.ps_frame.specs.declared.value.DataType.{DataType}
use Rattle.ps_frame.specs.declared.value.DataType.TheVariants as kind
use Rattle.ps_typing.proofs.Parts.{AreAmong, among-right, carried, own-part}
use Rattle.ps_typing.specs.Operands.{aggregated, aggregation_of}
use Rattle.ps_typing.specs.Refused.{IsErrorAmong}

-- an error of an operand is one of the expression
pub carried-to : (at : Node) (s : Fields) (us : List Tree) (t whole : Tree) (e : PolarsError) → whole ≡ t → AreAmong us (tree_parts t) → IsErrorAmong at s us e → IsErrorAmong at s (tree_parts whole) e
carried-to at s us t whole e same a h = subst (λ (w : Tree). IsErrorAmong at s (tree_parts w) e) (sym same) (carried at s us (tree_parts t) e a h)

-- a rule that an expression breaks itself
pub broken-at : (at : Node) (s : Fields) (t whole : Tree) → whole ≡ t → breaks_rule s t ≡ true → IsErrorAmong at s (tree_parts whole) (error.SchemaMismatch at)
broken-at at s t whole same h = subst (λ (w : Tree). IsErrorAmong at s (tree_parts w) (error.SchemaMismatch at)) (sym same) (refl, own-part (breaks_rule s) t h)

none-if : (b : Bool) (k : DataType) → (if b then Some k else None) ≡ None → not b ≡ true
none-if true k e = cc
none-if false k e = refl

pub breaks-binary : (s : Fields) (o : Operator) (l r : Tree) (a b : DataType) → kind_over s l ≡ Some a → kind_over s r ≡ Some b → binary_kind o (Some a) (Some b) ≡ None → breaks_rule s (Tree.binary o l r) ≡ true
breaks-binary s o l r a b p q h =
    ap (λ x. refuses_pair (takes_kinds o) x (kind_over s r)) p ∙ ap (λ y. refuses_pair (takes_kinds o) (Some a) y) q ∙ none-if (takes_kinds o a b) (if compares o then kind.Boolean else a) h

pub kind-binary : (s : Fields) (o : Operator) (l r : Tree) (a b k : DataType) → kind_over s l ≡ Some a → kind_over s r ≡ Some b → binary_kind o (Some a) (Some b) ≡ Some k → kind_over s (Tree.binary o l r) ≡ Some k
kind-binary s o l r a b k p q h = ap (λ x. binary_kind o x (kind_over s r)) p ∙ ap (λ y. binary_kind o (Some a) y) q ∙ h

pub breaks-cast : (s : Fields) (k : DataType) (strict : Bool) (e : Tree) (a : DataType) → kind_over s e ≡ Some a → cast_kind k (Some a) ≡ None → breaks_rule s (Tree.cast k strict e) ≡ true
breaks-cast s k strict e a p h = ap (λ x. has_kind_where (λ j. not (can_cast j k)) x) p ∙ none-if (can_cast a k) k h

pub kind-cast : (s : Fields) (k : DataType) (strict : Bool) (e : Tree) (a j : DataType) → kind_over s e ≡ Some a → cast_kind k (Some a) ≡ Some j → kind_over s (Tree.cast k strict e) ≡ Some j
kind-cast s k strict e a j p h = ap (λ x. cast_kind k x) p ∙ h

aggregate-none : (g : Aggregation) (a : DataType) → aggregate_kind g (Some a) ≡ None → refuses_values g (Some a) ≡ true
aggregate-none Aggregation.min a h = cc
aggregate-none Aggregation.max a h = cc
aggregate-none Aggregation.first a h = cc
aggregate-none Aggregation.last a h = cc
aggregate-none Aggregation.sum kind.Boolean h = cc
aggregate-none Aggregation.sum kind.Int64 h = cc
aggregate-none Aggregation.sum kind.IdxSize h = cc
aggregate-none Aggregation.sum kind.String h = refl
aggregate-none Aggregation.n_unique a h = cc
aggregate-none (Aggregation.count all) a h = cc

pub breaks-aggregate : (s : Fields) (g : Aggregation) (e : Tree) (a : DataType) → kind_over s e ≡ Some a → aggregate_kind g (Some a) ≡ None → breaks_rule s (Tree.aggregate g e) ≡ true
breaks-aggregate s g e a p h = ap (λ x. refuses_values g x) p ∙ aggregate-none g a h

pub kind-aggregate : (s : Fields) (g : Aggregation) (e : Tree) (a j : DataType) → kind_over s e ≡ Some a → aggregate_kind g (Some a) ≡ Some j → kind_over s (Tree.aggregate g e) ≡ Some j
kind-aggregate s g e a j p h = ap (λ x. aggregate_kind g x) p ∙ h

function-none : (g : FunctionExpr) (a : DataType) → function_kind g (Some a) ≡ None → refuses_input g (Some a) ≡ true
function-none fun.Not a h = none-if (same_kind a kind.Boolean) kind.Boolean h
function-none fun.IsNull a h = cc
function-none fun.IsNotNull a h = cc
function-none fun.Reverse a h = cc

pub breaks-function : (s : Fields) (g : FunctionExpr) (e : Tree) (a : DataType) → kind_over s e ≡ Some a → function_kind g (Some a) ≡ None → breaks_rule s (Tree.function g e) ≡ true
breaks-function s g e a p h = ap (λ x. refuses_input g x) p ∙ function-none g a h

pub kind-function : (s : Fields) (g : FunctionExpr) (e : Tree) (a j : DataType) → kind_over s e ≡ Some a → function_kind g (Some a) ≡ Some j → kind_over s (Tree.function g e) ≡ Some j
kind-function s g e a j p h = ap (λ x. function_kind g x) p ∙ h

-- as many trees as numbers
pub tree_count-trees_of : (f : Node → Tree) (ns : List Node) → tree_count (trees_of f ns) ≡ length ns
tree_count-trees_of f [] = refl
tree_count-trees_of f (n ∷ ns) = ap suc (tree_count-trees_of f ns)

keys-broken : (z d n : Bool) → (not z && (d && n)) ≡ false → (z || (not d || not n)) ≡ true
keys-broken true d n h = refl
keys-broken false true true h = sym h
keys-broken false true false h = refl
keys-broken false false n h = refl

-- what a sort by keys refuses itself
pub breaks-sort_by : (s : Fields) (d n : List Bool) (e : Tree) (by : Trees) (k : ℕ) → tree_count by ≡ k → (not (k == 0) && (fits_keys d k && fits_keys n k)) ≡ false → breaks_rule s (Tree.sort_by d n e by) ≡ true
breaks-sort_by s d n e by k c h =
    ap (λ (m : ℕ). (m == 0) || (not (fits_keys d m) || not (fits_keys n m))) c ∙ keys-broken (k == 0) (fits_keys d k) (fits_keys n k) h

keys-kept : (h z d n : Bool) (k : Option DataType) → h ≡ true → (not z && (d && n)) ≡ true → kind_if (h && not z && d && n) k ≡ k
keys-kept false z d n k p q = cc
keys-kept true true d n k p q = cc
keys-kept true false true true k p q = refl
keys-kept true false true false k p q = cc
keys-kept true false false n k p q = cc

-- the kind of a sort by keys
pub kind-sort_by : (s : Fields) (d n : List Bool) (e : Tree) (by : Trees) (k : ℕ) (a : DataType) → tree_count by ≡ k → have_kinds s by ≡ true → kind_over s e ≡ Some a → (not (k == 0) && (fits_keys d k && fits_keys n k)) ≡ true → kind_over s (Tree.sort_by d n e by) ≡ Some a
kind-sort_by s d n e by k a c h p q =
    ap (λ (m : ℕ). kind_if (have_kinds s by && not (m == 0) && fits_keys d m && fits_keys n m) (kind_over s e)) c ∙ keys-kept (have_kinds s by) (k == 0) (fits_keys d k) (fits_keys n k) (kind_over s e) h q ∙ p

-- the tree of an aggregate
pub aggregate_tree-is : (f : Node → Tree) (a : IRAggExpr) → aggregate_tree f a ≡ Tree.aggregate (aggregation_of a) (f (aggregated a))
aggregate_tree-is f (agg.Min n) = refl
aggregate_tree-is f (agg.Max n) = refl
aggregate_tree-is f (agg.First n) = refl
aggregate_tree-is f (agg.Last n) = refl
aggregate_tree-is f (agg.Sum n) = refl
aggregate_tree-is f (agg.NUnique n) = refl
aggregate_tree-is f (agg.Count n all) = refl

-- the tree of an entry that is known
pub tree-is : (f : Node → Tree) (whole : Tree) (x y : AExpr) → whole ≡ entry_tree f (Some x) → x ≡ y → whole ≡ entry_tree f (Some y)
tree-is f whole x y p q = p ∙ ap (λ (z : AExpr). entry_tree f (Some z)) q

-- a failure that is passed on
pub passed-on : {T : Type 0} (at : Node) (s : Fields) (us : List Tree) (t whole : Tree) (e : PolarsError) (r : Result T PolarsError) → IsErrAnd r (λ y. y ≡ e) → whole ≡ t → AreAmong us (tree_parts t) → IsErrorAmong at s us e → IfErr r (λ y. IsErrorAmong at s (tree_parts whole) y)
passed-on at s us t whole e (Ok x) h same a k = absurd h
passed-on at s us t whole e (Err y) h same a k = subst (λ (z : PolarsError). IsErrorAmong at s (tree_parts whole) z) (sym h) (carried-to at s us t whole e same a k)

pub passed-among : {T : Type 0} (at : Node) (s : Fields) (us ts : List Tree) (e : PolarsError) (r : Result T PolarsError) → IsErrAnd r (λ y. y ≡ e) → AreAmong us ts → IsErrorAmong at s us e → IfErr r (λ y. IsErrorAmong at s ts y)
passed-among at s us ts e (Ok x) h a k = absurd h
passed-among at s us ts e (Err y) h a k = subst (λ (z : PolarsError). IsErrorAmong at s ts z) (sym h) (carried at s us ts e a k)

-- a result that is passed on whole
pub passed-whole : {T : Type 0} (at : Node) (s : Fields) (us : List Tree) (t whole : Tree) (r : Result T PolarsError) → whole ≡ t → AreAmong us (tree_parts t) → IfErr r (λ y. IsErrorAmong at s us y) → IfErr r (λ y. IsErrorAmong at s (tree_parts whole) y)
passed-whole at s us t whole (Ok x) same a k = k
passed-whole at s us t whole (Err y) same a k = carried-to at s us t whole y same a k

-- the keys that are left are among the keys
pub among-left_keys : (f : Node → Tree) (ns : List Node) (i : ℕ) (d : Node) → i < length ns → AreAmong (trees_parts (trees_of f (drop (i + 1) ns))) (trees_parts (trees_of f (drop i ns)))
among-left_keys f ns i d h = rw (add-one, drop-cons ns i d) (among-right (tree_parts (f (get_or ns i d))) (trees_parts (trees_of f (drop (suc i) ns))))

-- the test of a sort's keys and flags
abbrev keeps : List Node → List Bool → List Bool → Bool
keeps ns d n = not (length ns == 0) && (fits_keys d (length ns) && fits_keys n (length ns))

keeps-same : (ns ks : List Node) (d n d' n' : List Bool) (b c : Bool) → ks ≡ ns → d' ≡ d → n' ≡ n → b ≡ keeps ks d' n' → b ≡ c → keeps ns d n ≡ c
keeps-same ns ks d n d' n' b c k p q e h =
    ap (λ (xs : List Node). keeps xs d n) (sym k) ∙ ap (λ (x : List Bool). keeps ks x n) (sym p) ∙ ap (λ (x : List Bool). keeps ks d' x) (sym q) ∙ sym e ∙ h

pub sort_by-refused : (at : Node) (s : Fields) (f : Node → Tree) (whole e : Tree) (ns ks : List Node) (d n d' n' : List Bool) (b : Bool) → whole ≡ Tree.sort_by d n e (trees_of f ns) → ks ≡ ns → d' ≡ d → n' ≡ n → b ≡ (not (length ks == 0) && (fits_keys d' (length ks) && fits_keys n' (length ks))) → b ≡ false → IsErrorAmong at s (tree_parts whole) (error.SchemaMismatch at)
sort_by-refused at s f whole e ns ks d n d' n' b same k p q t h =
    broken-at at s (Tree.sort_by d n e (trees_of f ns)) whole same (breaks-sort_by s d n e (trees_of f ns) (length ns) (tree_count-trees_of f ns) (keeps-same ns ks d n d' n' b false k p q t h))

pub sort_by-typed : (s : Fields) (f : Node → Tree) (whole e : Tree) (ns ks ms : List Node) (d n d' n' : List Bool) (b : Bool) (a : DataType) → whole ≡ Tree.sort_by d n e (trees_of f ns) → ks ≡ ns → ms ≡ ns → d' ≡ d → n' ≡ n → b ≡ (not (length ks == 0) && (fits_keys d' (length ks) && fits_keys n' (length ks))) → b ≡ true → have_kinds s (trees_of f ms) ≡ true → kind_over s e ≡ Some a → kind_over s whole ≡ Some a
sort_by-typed s f whole e ns ks ms d n d' n' b a same k m p q t h kinds sorted =
    ap (kind_over s) same ∙ kind-sort_by s d n e (trees_of f ns) (length ns) a (tree_count-trees_of f ns) (ap (λ (xs : List Node). have_kinds s (trees_of f xs)) (sym m) ∙ kinds) sorted (keeps-same ns ks d n d' n' b true k p q t h)
