-- The depth and the size of an expression, from those of its operands.
use Rattle.std.proofs.Common.{◌≡◌, ℕ, zero, suc, ◌+◌, ◌<◌, ◌≤◌, max, List, [], ◌∷◌, ◌++◌, length, map, slice_get, refl, sym, ◌∙◌, ap, subst, arith}
use Rattle.std.specs.Prelude.{Option, Some, None, Contains, sum_by}
use Rattle.std.proofs.lemmas.List.Sums.{sum_by-cons}
use Rattle.pu_base.specs.declared.arena.Node.{Node}
use Rattle.ps_frame.specs.Parts.{tree_depth, trees_depth}
use Rattle.ps_frame.specs.Trees.{IsExpression, Tree, aggregate_tree, entry_tree, tree_at, tree_size, trees_of, trees_size}
use Rattle.ps_frame.specs.declared.expr.AExpr.{AExpr}
use Rattle.ps_frame.specs.declared.expr.AExpr.TheVariants as expr
use Rattle.ps_frame.specs.declared.expr.IRAggExpr.{IRAggExpr}
use Rattle.ps_frame.specs.declared.expr.IRAggExpr.TheVariants as agg
use Rattle.ps_frame.proofs.Unfolding.{IsExpression-in_range, tree_at-is}
use Rattle.ps_plan.specs.Graph.{aggregate_operand, named_by, operands}
use Rattle.ps_survey.specs.Extents.{IsExtent, expr_depth, expr_size, largest}
use Rattle.ps_survey.specs.Orders.{operands_in}
use Rattle.ps_survey.specs.declared.extents.Extent.{Extent}

abbrev pub numbers : List Node → List ℕ
numbers ns = map (λ (n : Node). n.0) ns

module _ (f : Node → Tree) where
  abbrev pub depth_by : ℕ → ℕ
  depth_by m = tree_depth (f (record { 0 = m }))

  abbrev pub size_by : ℕ → ℕ
  size_by m = tree_size (f (record { 0 = m }))

  list-depth : (ns : List Node) → trees_depth (trees_of f ns) ≡ largest depth_by (numbers ns)
  list-depth [] = refl
  list-depth (n ∷ ns) = ap (λ k. max (tree_depth (f n)) k) (list-depth ns)

  list-size : (ns : List Node) → trees_size (trees_of f ns) ≡ sum_by size_by (numbers ns)
  list-size [] = refl
  list-size (n ∷ ns) = ap (λ k. tree_size (f n) + k) (list-size ns) ∙ sym (sum_by-cons size_by n.0 (numbers ns))

  aggregate-depth : (a : IRAggExpr) → tree_depth (aggregate_tree f a) ≡ suc (tree_depth (f (aggregate_operand a)))
  aggregate-depth (agg.Min n) = refl
  aggregate-depth (agg.Max n) = refl
  aggregate-depth (agg.First n) = refl
  aggregate-depth (agg.Last n) = refl
  aggregate-depth (agg.Sum n) = refl
  aggregate-depth (agg.NUnique n) = refl
  aggregate-depth (agg.Count n all) = refl

  aggregate-size : (a : IRAggExpr) → tree_size (aggregate_tree f a) ≡ suc (tree_size (f (aggregate_operand a)))
  aggregate-size (agg.Min n) = refl
  aggregate-size (agg.Max n) = refl
  aggregate-size (agg.First n) = refl
  aggregate-size (agg.Last n) = refl
  aggregate-size (agg.Sum n) = refl
  aggregate-size (agg.NUnique n) = refl
  aggregate-size (agg.Count n all) = refl

  max-none : (a : ℕ) → a ≡ max a 0
  max-none a = omega arith

  entry-depth : (x : AExpr) → tree_depth (entry_tree f (Some x)) ≡ suc (largest depth_by (numbers (operands x)))
  entry-depth (expr.Column name) = refl
  entry-depth (expr.Literal l) = refl
  entry-depth (expr.BinaryExpr l o r) = ap (λ k. suc (max (tree_depth (f l)) k)) (max-none (tree_depth (f r)))
  entry-depth (expr.Cast e k s) = ap (λ k. suc k) (max-none (tree_depth (f e)))
  entry-depth (expr.Sort e d n) = ap (λ k. suc k) (max-none (tree_depth (f e)))
  entry-depth (expr.SortBy e by d n) = ap (λ k. suc (max (tree_depth (f e)) k)) (list-depth by)
  entry-depth (expr.Gather e i s) = ap (λ k. suc (max (tree_depth (f e)) k)) (max-none (tree_depth (f i)))
  entry-depth (expr.Filter e by) = ap (λ k. suc (max (tree_depth (f e)) k)) (max-none (tree_depth (f by)))
  entry-depth (expr.Agg a) = aggregate-depth a ∙ ap (λ k. suc k) (max-none (tree_depth (f (aggregate_operand a))))
  entry-depth (expr.Ternary p a b) = ap (λ k. suc (max (tree_depth (f p)) (max (tree_depth (f a)) k))) (max-none (tree_depth (f b)))
  entry-depth (expr.Function e g) = ap (λ k. suc k) (max-none (tree_depth (f e)))
  entry-depth (expr.Slice e o l) = ap (λ k. suc (max (tree_depth (f e)) (max (tree_depth (f o)) k))) (max-none (tree_depth (f l)))
  entry-depth expr.Len = refl
  entry-depth (expr.LeftOut w) = refl

  one-sum : (a : ℕ) → a ≡ 0 + a
  one-sum a = omega arith

  two-sum : (a b : ℕ) → a + b ≡ 0 + a + b
  two-sum a b = omega arith

  three-sum : (a b c : ℕ) → a + (b + c) ≡ 0 + a + b + c
  three-sum a b c = omega arith

  entry-size : (x : AExpr) → tree_size (entry_tree f (Some x)) ≡ suc (sum_by size_by (numbers (operands x)))
  entry-size (expr.Column name) = refl
  entry-size (expr.Literal l) = refl
  entry-size (expr.BinaryExpr l o r) = ap (λ k. suc k) (two-sum (tree_size (f l)) (tree_size (f r)))
  entry-size (expr.Cast e k s) = ap (λ k. suc k) (one-sum (tree_size (f e)))
  entry-size (expr.Sort e d n) = ap (λ k. suc k) (one-sum (tree_size (f e)))
  entry-size (expr.SortBy e by d n) = ap (λ k. suc k) (ap (λ k. tree_size (f e) + k) (list-size by) ∙ sym (sum_by-cons size_by e.0 (numbers by)))
  entry-size (expr.Gather e i s) = ap (λ k. suc k) (two-sum (tree_size (f e)) (tree_size (f i)))
  entry-size (expr.Filter e by) = ap (λ k. suc k) (two-sum (tree_size (f e)) (tree_size (f by)))
  entry-size (expr.Agg a) = aggregate-size a ∙ ap (λ k. suc k) (one-sum (tree_size (f (aggregate_operand a))))
  entry-size (expr.Ternary p a b) = ap (λ k. suc k) (three-sum (tree_size (f p)) (tree_size (f a)) (tree_size (f b)))
  entry-size (expr.Function e g) = ap (λ k. suc k) (one-sum (tree_size (f e)))
  entry-size (expr.Slice e o l) = ap (λ k. suc k) (three-sum (tree_size (f e)) (tree_size (f o)) (tree_size (f l)))
  entry-size expr.Len = refl
  entry-size (expr.LeftOut w) = refl

module _ (exprs : List AExpr) (e : ℕ) (complete : IsExpression exprs (record { 0 = e })) where
  pub found : (x : AExpr) × (slice_get exprs e ≡ Some x)
  found = there exprs e (IsExpression-in_range exprs (record { 0 = e }) complete)
    where
      there : (xs : List AExpr) (k : ℕ) → k < length xs → (x : AExpr) × (slice_get xs k ≡ Some x)
      there [] k h = absurd (omega (arith, h))
      there (x ∷ xs) zero h = (x, refl)
      there (x ∷ xs) (suc k) h = there xs k (omega (arith, h))

  pub expr-deep : expr_depth exprs e ≡ suc (largest (expr_depth exprs) (operands_in exprs e))
  expr-deep =
      let x = found in
      ap tree_depth (tree_at-is exprs (record { 0 = e }) x.0 complete x.1) ∙ entry-depth (tree_at exprs) x.0 ∙ ap (λ o. suc (largest (expr_depth exprs) (named_by operands o))) (sym x.1)

  pub expr-large : expr_size exprs e ≡ suc (sum_by (expr_size exprs) (operands_in exprs e))
  expr-large =
      let x = found in
      ap tree_size (tree_at-is exprs (record { 0 = e }) x.0 complete x.1) ∙ entry-size (tree_at exprs) x.0 ∙ ap (λ o. suc (sum_by (expr_size exprs) (named_by operands o))) (sym x.1)

  pub expr-extent : (x : Extent) → IsExtent (suc (largest (expr_depth exprs) (operands_in exprs e))) (suc (sum_by (expr_size exprs) (operands_in exprs e))) x → IsExtent (expr_depth exprs e) (expr_size exprs e) x
  expr-extent x h = subst (λ n. IsExtent n (expr_size exprs e) x) (sym expr-deep) (subst (λ n. IsExtent (suc (largest (expr_depth exprs) (operands_in exprs e))) n x) (sym expr-large) h)
