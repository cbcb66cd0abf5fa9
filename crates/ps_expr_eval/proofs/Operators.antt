-- What each operator gives of what is computed of its operands is computed of its expression.
use Rattle.std.proofs.Common.{◌≡◌, ℕ, suc, List, [], ◌∷◌, length, Bool, true, false, refl, subst, sym, ◌∙◌, ap}
use Rattle.std.specs.Prelude.{not, ◌&&◌, ◌||◌, ◌==◌, IsSome, IfOk, Option, Some, None, Result, if◌then◌else◌}
use Rattle.std.specs.List.{AllZip}
use Rattle.std.specs.declared.alloc.AllocError.{AllocError}
use Rattle.ps_expr_eval.specs.Cellwise.{IsCellwise, binary_row, result_kind, ternary_row, unary_row}
use Rattle.ps_expr_eval.specs.Evaluations.{EvaluateAll, Evaluates}
use Rattle.ps_expr_eval.specs.Held.{Keeps}
use Rattle.ps_expr_eval.specs.Rows.{IsKept}
use Rattle.ps_expr_eval.specs.Wholes.{IsOfWhole, aggregated_kind, aggregates, gathers, slices, sorts}
use Rattle.ps_expr_eval.specs.declared.elementwise.Unary.TheVariants as unary
use Rattle.ps_expr_eval.specs.declared.computed.ComputedColumn.{ComputedColumn}
use Rattle.ps_expr_eval.proofs.Evaluating.{cast-held, ok_both}
use Rattle.ps_expr_eval.proofs.KeptRows.{kept-keeps}
use Rattle.ps_expr_eval.proofs.WholeOperands.{whole-keeps}
use Rattle.ps_expr_eval.proofs.Zips.{cellwise-keeps}
use Rattle.ps_frame.specs.Aggregates.{aggregate_column}
use Rattle.ps_frame.specs.Causes.{Column, value}
use Rattle.ps_frame.specs.Eval.{at, eval, eval_all, operand, sorted_by_keys}
use Rattle.ps_frame.specs.Operators.{binary_value, cast_cell, cast_value, choice_of}
use Rattle.ps_frame.specs.Sorting.{directions_of}
use Rattle.ps_frame.specs.Tables.{Frame, whole}
use Rattle.ps_frame.specs.Trees.{Aggregation, Tree, Trees}
use Rattle.ps_frame.specs.Typing.{aggregate_kind, binary_kind, branch_kind, can_cast, cast_kind, fits_keys, have_kinds, is_kind, is_scalar, kind_if, kind_over, sum_kind, takes_kinds, tree_count}
use Rattle.ps_frame.specs.Values.{same_kind}
use Rattle.ps_frame.specs.Zip.{zipped}
use Rattle.ps_frame.specs.declared.expr.Operator.{Operator}
use Rattle.ps_frame.specs.declared.value.DataType.{DataType}
use Rattle.ps_frame.specs.declared.value.DataType.TheVariants as kind

-- of an expression whose tree is known
pub known : (f : Frame) (t u : Tree) (x : Result ComputedColumn AllocError) → t ≡ u → IsSome (kind_over f.schema t) → (IsSome (kind_over f.schema u) → IfOk x (Evaluates f u)) → IfOk x (Evaluates f t)
known f t u x is typed go = subst (λ (s : Tree). IfOk x (Evaluates f s)) (sym is) (go (subst (λ (s : Tree). IsSome (kind_over f.schema s)) is typed))

-- kinds that are there
if-some : (b : Bool) (k : DataType) → IsSome (if b then Some k else None) → (if b then Some k else None) ≡ Some k
if-some true k h = refl
if-some false k h = cc

if-kind : (b : Bool) (k : Option DataType) (a : DataType) → k ≡ Some a → IsSome (kind_if b k) → kind_if b k ≡ Some a
if-kind true k a e h = e
if-kind false k a e h = cc

binary-kind : (o : Operator) (k l : Option DataType) (a b : DataType) → k ≡ Some a → l ≡ Some b → IsSome (binary_kind o k l) → binary_kind o k l ≡ Some (result_kind o a)
binary-kind o k l a b e g h =
    let same : binary_kind o k l ≡ binary_kind o (Some a) (Some b) = ap (λ x. binary_kind o x l) e ∙ ap (binary_kind o (Some a)) g in
    same ∙ if-some (takes_kinds o a b) (result_kind o a) (subst IsSome same h)

cast-kind : (to : DataType) (k : Option DataType) (a : DataType) → k ≡ Some a → IsSome (cast_kind to k) → cast_kind to k ≡ Some to
cast-kind to k a e h =
    let same : cast_kind to k ≡ cast_kind to (Some a) = ap (cast_kind to) e in
    same ∙ if-kind (can_cast a to) (Some to) to refl (subst IsSome same h)

branch-kind : (k l : Option DataType) (a b : DataType) → k ≡ Some a → l ≡ Some b → IsSome (branch_kind k l) → branch_kind k l ≡ Some a
branch-kind k l a b e g h =
    let same : branch_kind k l ≡ branch_kind (Some a) (Some b) = ap (λ x. branch_kind x l) e ∙ ap (branch_kind (Some a)) g in
    same ∙ if-kind (same_kind a b) (Some a) a refl (subst IsSome same h)

ternary-kind : (c : Bool) (k l : Option DataType) (a b : DataType) → k ≡ Some a → l ≡ Some b → IsSome (kind_if c (branch_kind k l)) → kind_if c (branch_kind k l) ≡ Some a
ternary-kind true k l a b e g h = branch-kind k l a b e g h
ternary-kind false k l a b e g h = cc

some-sum : (a : DataType) → IsSome (sum_kind (Some a)) → sum_kind (Some a) ≡ Some (aggregated_kind Aggregation.sum a)
some-sum kind.Boolean h = refl
some-sum kind.Int64 h = refl
some-sum kind.IdxSize h = refl
some-sum kind.String h = cc

some-aggregate : (g : Aggregation) (a : DataType) → IsSome (aggregate_kind g (Some a)) → aggregate_kind g (Some a) ≡ Some (aggregated_kind g a)
some-aggregate Aggregation.sum a h = some-sum a h
some-aggregate Aggregation.n_unique a h = refl
some-aggregate (Aggregation.count all) a h = refl
some-aggregate Aggregation.min a h = refl
some-aggregate Aggregation.max a h = refl
some-aggregate Aggregation.first a h = refl
some-aggregate Aggregation.last a h = refl

aggregate-kind : (g : Aggregation) (k : Option DataType) (a : DataType) → k ≡ Some a → IsSome (aggregate_kind g k) → aggregate_kind g k ≡ Some (aggregated_kind g a)
aggregate-kind g k a e h =
    let same : aggregate_kind g k ≡ aggregate_kind g (Some a) = ap (aggregate_kind g) e in
    same ∙ some-aggregate g a (subst IsSome same h)

-- the operators
pub binary-evaluates : (f : Frame) (o : Operator) (l r : Tree) (p q : ComputedColumn) (x : Result ComputedColumn AllocError) → Evaluates f l p → Evaluates f r q
    → IfOk x (λ y. y.dtype ≡ result_kind o p.dtype) → IfOk x (IsCellwise (binary_row o) (p ∷ q ∷ [])) → IsSome (kind_over f.schema (Tree.binary o l r)) → IfOk x (Evaluates f (Tree.binary o l r))
binary-evaluates f o l r p q x a b kinds cells typed =
    ok_both x _ _ _ (λ y k is. record {
      keeps = λ node. cellwise-keeps (binary_row o) (λ row. value (binary_value o (at 0 row) (at 1 row))) (λ vs. refl) (p ∷ q ∷ []) y is node (eval node (whole f) l ∷ eval node (whole f) r ∷ []) (a.keeps node, (b.keeps node, tt));
      kind = binary-kind o (kind_over f.schema l) (kind_over f.schema r) p.dtype q.dtype a.kind b.kind typed ∙ ap Some (sym k);
    }) kinds cells

pub cast-evaluates : (f : Frame) (to : DataType) (strict : Bool) (e : Tree) (p : ComputedColumn) (x : Result ComputedColumn AllocError) → Evaluates f e p
    → IfOk x (λ y. y.dtype ≡ to) → IfOk x (IsCellwise (unary_row (unary.Cast to strict)) (p ∷ [])) → IsSome (kind_over f.schema (Tree.cast to strict e)) → IfOk x (Evaluates f (Tree.cast to strict e))
cast-evaluates f to strict e p x a kinds cells typed =
    ok_both x _ _ _ (λ y k is. record {
      keeps = λ node. cellwise-keeps (unary_row (unary.Cast to strict)) (λ row. cast_cell node strict (cast_value to (at 0 row))) (λ vs. cast-held node strict (cast_value to (at 0 vs))) (p ∷ []) y is node (eval node (whole f) e ∷ []) (a.keeps node, tt);
      kind = cast-kind to (kind_over f.schema e) p.dtype a.kind typed ∙ ap Some (sym k);
    }) kinds cells

pub ternary-evaluates : (f : Frame) (t u v : Tree) (p q r : ComputedColumn) (x : Result ComputedColumn AllocError) → Evaluates f t p → Evaluates f u q → Evaluates f v r
    → IfOk x (λ y. y.dtype ≡ q.dtype) → IfOk x (IsCellwise ternary_row (p ∷ q ∷ r ∷ [])) → IsSome (kind_over f.schema (Tree.ternary t u v)) → IfOk x (Evaluates f (Tree.ternary t u v))
ternary-evaluates f t u v p q r x a b c kinds cells typed =
    ok_both x _ _ _ (λ y k is. record {
      keeps = λ node. cellwise-keeps ternary_row (λ row. value (choice_of (at 0 row) (at 1 row) (at 2 row))) (λ vs. refl) (p ∷ q ∷ r ∷ []) y is node
          (eval node (whole f) t ∷ eval node (whole f) u ∷ eval node (whole f) v ∷ []) (a.keeps node, (b.keeps node, (c.keeps node, tt)));
      kind = ternary-kind (is_kind kind.Boolean (kind_over f.schema t)) (kind_over f.schema u) (kind_over f.schema v) q.dtype r.dtype b.kind c.kind typed ∙ ap Some (sym k);
    }) kinds cells

pub filter-evaluates : (f : Frame) (e by' : Tree) (p q : ComputedColumn) (x : Result ComputedColumn AllocError) → Evaluates f e p → Evaluates f by' q
    → IfOk x (λ y. y.dtype ≡ p.dtype) → IfOk x (IsKept (p ∷ q ∷ [])) → IsSome (kind_over f.schema (Tree.filter e by')) → IfOk x (Evaluates f (Tree.filter e by'))
filter-evaluates f e by' p q x a b kinds cells typed =
    ok_both x _ _ _ (λ y k is. record {
      keeps = λ node. kept-keeps p q y is node (eval node (whole f) e) (eval node (whole f) by') (a.keeps node) (b.keeps node);
      kind = if-kind (is_kind kind.Boolean (kind_over f.schema by')) (kind_over f.schema e) p.dtype a.kind typed ∙ ap Some (sym k);
    }) kinds cells

pub sort-evaluates : (f : Frame) (d n : Bool) (e : Tree) (p : ComputedColumn) (x : Result ComputedColumn AllocError) → Evaluates f e p
    → IfOk x (λ y. y.dtype ≡ p.dtype) → IfOk x (IsOfWhole (sorts d n) (p ∷ [])) → IsSome (kind_over f.schema (Tree.sort d n e)) → IfOk x (Evaluates f (Tree.sort d n e))
sort-evaluates f d n e p x a kinds cells typed =
    ok_both x _ _ _ (λ y k is. record {
      keeps = λ node. whole-keeps (sorts d n) (p ∷ []) y is (eval node (whole f) e ∷ []) (a.keeps node, tt);
      kind = a.kind ∙ ap Some (sym k);
    }) kinds cells

pub gather-evaluates : (f : Frame) (s : Bool) (e i : Tree) (p q : ComputedColumn) (x : Result ComputedColumn AllocError) → Evaluates f e p → Evaluates f i q
    → IfOk x (λ y. y.dtype ≡ p.dtype) → IfOk x (λ y. (node : ℕ) → IsOfWhole (gathers node) (p ∷ q ∷ []) y) → IsSome (kind_over f.schema (Tree.gather s e i)) → IfOk x (Evaluates f (Tree.gather s e i))
gather-evaluates f s e i p q x a b kinds cells typed =
    ok_both x _ _ _ (λ y k is. record {
      keeps = λ node. whole-keeps (gathers node) (p ∷ q ∷ []) y (is node) (eval node (whole f) e ∷ eval node (whole f) i ∷ []) (a.keeps node, (b.keeps node, tt));
      kind = if-kind ((is_kind kind.Int64 (kind_over f.schema i) || is_kind kind.IdxSize (kind_over f.schema i)) && (not s || is_scalar i)) (kind_over f.schema e) p.dtype a.kind typed ∙ ap Some (sym k);
    }) kinds cells

pub slice-evaluates : (f : Frame) (e o l : Tree) (p q r : ComputedColumn) (x : Result ComputedColumn AllocError) → Evaluates f e p → Evaluates f o q → Evaluates f l r
    → IfOk x (λ y. y.dtype ≡ p.dtype) → IfOk x (λ y. (node : ℕ) → IsOfWhole (slices node) (p ∷ q ∷ r ∷ []) y) → IsSome (kind_over f.schema (Tree.slice e o l)) → IfOk x (Evaluates f (Tree.slice e o l))
slice-evaluates f e o l p q r x a b c kinds cells typed =
    ok_both x _ _ _ (λ y k is. record {
      keeps = λ node. whole-keeps (slices node) (p ∷ q ∷ r ∷ []) y (is node) (eval node (whole f) e ∷ eval node (whole f) o ∷ eval node (whole f) l ∷ []) (a.keeps node, (b.keeps node, (c.keeps node, tt)));
      kind = if-kind (is_scalar o && is_scalar l && is_kind kind.Int64 (kind_over f.schema o) && is_kind kind.Int64 (kind_over f.schema l)) (kind_over f.schema e) p.dtype a.kind typed ∙ ap Some (sym k);
    }) kinds cells

pub aggregate-evaluates : (f : Frame) (g : Aggregation) (e : Tree) (p : ComputedColumn) (x : Result ComputedColumn AllocError) → Evaluates f e p
    → IfOk x (λ y. y.dtype ≡ aggregated_kind g p.dtype) → IfOk x (λ y. (node : ℕ) → IsOfWhole (aggregates node g p.dtype) (p ∷ []) y) → IsSome (kind_over f.schema (Tree.aggregate g e)) → IfOk x (Evaluates f (Tree.aggregate g e))
aggregate-evaluates f g e p x a kinds cells typed =
    ok_both x _ _ _ (λ y k is. record {
      keeps = λ node. whole-keeps (λ vs. aggregate_column node g (kind_over f.schema e) (operand 0 vs)) (p ∷ []) y
          (subst (λ (o : Option DataType). IsOfWhole (λ vs. aggregate_column node g o (operand 0 vs)) (p ∷ []) y) (sym a.kind) (is node)) (eval node (whole f) e ∷ []) (a.keeps node, tt);
      kind = aggregate-kind g (kind_over f.schema e) p.dtype a.kind typed ∙ ap Some (sym k);
    }) kinds cells

-- several expressions
all-count : (f : Frame) (ts : Trees) (ps : List ComputedColumn) → EvaluateAll f ts ps → length ps ≡ tree_count ts
all-count f Trees.no_trees [] h = refl
all-count f Trees.no_trees (p ∷ ps) h = absurd h
all-count f (Trees.tree t ts) [] h = absurd h
all-count f (Trees.tree t ts) (p ∷ ps) h = ap suc (all-count f ts ps h.1)

all-keep : (f : Frame) (ts : Trees) (ps : List ComputedColumn) (node : ℕ) → EvaluateAll f ts ps → AllZip Keeps ps (eval_all node (whole f) ts)
all-keep f Trees.no_trees [] node h = tt
all-keep f Trees.no_trees (p ∷ ps) node h = absurd h
all-keep f (Trees.tree t ts) [] node h = absurd h
all-keep f (Trees.tree t ts) (p ∷ ps) node h = (h.0.keeps node, all-keep f ts ps node h.1)

pub sort_by-evaluates : (f : Frame) (d n : List Bool) (e : Tree) (by' : Trees) (p : ComputedColumn) (ps : List ComputedColumn) (x : Result ComputedColumn AllocError) → Evaluates f e p → EvaluateAll f by' ps
    → IfOk x (λ y. y.dtype ≡ p.dtype)
    → IfOk x (λ y. (node : ℕ) (c : Column) (cs : List Column) → Keeps p c → AllZip Keeps ps cs → Keeps y (sorted_by_keys (directions_of (length ps) d n) (zipped false node (c ∷ cs))))
    → IsSome (kind_over f.schema (Tree.sort_by d n e by')) → IfOk x (Evaluates f (Tree.sort_by d n e by'))
sort_by-evaluates f d n e by' p ps x a b kinds cells typed =
    ok_both x _ _ _ (λ y k is. record {
      keeps = λ node. subst (λ count. Keeps y (sorted_by_keys (directions_of count d n) (zipped false node (eval node (whole f) e ∷ eval_all node (whole f) by')))) (all-count f by' ps b)
          (is node (eval node (whole f) e) (eval_all node (whole f) by') (a.keeps node) (all-keep f by' ps node b));
      kind = if-kind (have_kinds f.schema by' && not (tree_count by' == 0) && fits_keys d (tree_count by') && fits_keys n (tree_count by')) (kind_over f.schema e) p.dtype a.kind typed ∙ ap Some (sym k);
    }) kinds cells
