-- The trees of expressions over an arena that grows.
use Rattle.std.proofs.Common.{◌≡◌, ℕ, zero, suc, ◌<◌, List, [], ◌∷◌, ◌++◌, length, refl, sym, subst, ap, ◌∙◌, arith, length-append}
use Rattle.std.specs.Prelude.{Option, Some, None, slice_get}
use Rattle.std.proofs.lemmas.Option.{slice_get_within}
use Rattle.pu_base.specs.declared.arena.Node.{Node}
use Rattle.ps_frame.proofs.Unfolding.{tree_within-more}
use Rattle.ps_frame.specs.Trees.{Tree, Trees, Aggregation, AreComplete, IsComplete, IsExpression, aggregate_tree, entry_tree, tree_at, tree_within, trees_of}
use Rattle.ps_frame.specs.declared.expr.AExpr.{AExpr}
use Rattle.ps_frame.specs.declared.expr.AExpr.TheVariants as entry
use Rattle.ps_frame.specs.declared.expr.IRAggExpr.{IRAggExpr}
use Rattle.ps_frame.specs.declared.expr.IRAggExpr.TheVariants as agg
use Rattle.ps_copies.specs.Copies.{KeepsTrees}

-- f gives the trees that g gives, where these are complete
module _ (f g : Node → Tree) (same : (n : Node) → IsComplete (g n) → f n ≡ g n) where
  trees-same : (ns : List Node) → AreComplete (trees_of g ns) → trees_of f ns ≡ trees_of g ns
  trees-same [] h = refl
  trees-same (n ∷ ns) h = ap (λ t. Trees.tree t (trees_of f ns)) (same n h.0) ∙ ap (Trees.tree (g n)) (trees-same ns h.1)

  aggregate-same : (a : IRAggExpr) → IsComplete (aggregate_tree g a) → aggregate_tree f a ≡ aggregate_tree g a
  aggregate-same (agg.Min n) h = ap (Tree.aggregate Aggregation.min) (same n h)
  aggregate-same (agg.Max n) h = ap (Tree.aggregate Aggregation.max) (same n h)
  aggregate-same (agg.First n) h = ap (Tree.aggregate Aggregation.first) (same n h)
  aggregate-same (agg.Last n) h = ap (Tree.aggregate Aggregation.last) (same n h)
  aggregate-same (agg.Sum n) h = ap (Tree.aggregate Aggregation.sum) (same n h)
  aggregate-same (agg.NUnique n) h = ap (Tree.aggregate Aggregation.n_unique) (same n h)
  aggregate-same (agg.Count n all) h = ap (Tree.aggregate (Aggregation.count all)) (same n h)

  entry-same : (o : Option AExpr) → IsComplete (entry_tree g o) → entry_tree f o ≡ entry_tree g o
  entry-same None h = refl
  entry-same (Some (entry.Column name)) h = refl
  entry-same (Some (entry.Literal l)) h = refl
  entry-same (Some (entry.BinaryExpr l o r)) h = λ i. Tree.binary o (same l h.0 i) (same r h.1 i)
  entry-same (Some (entry.Cast e k s)) h = ap (Tree.cast k s) (same e h)
  entry-same (Some (entry.Sort e d n)) h = ap (Tree.sort d n) (same e h)
  entry-same (Some (entry.SortBy e by d n)) h = λ i. Tree.sort_by d n (same e h.0 i) (trees-same by h.1 i)
  entry-same (Some (entry.Gather e k s)) h = λ i. Tree.gather s (same e h.0 i) (same k h.1 i)
  entry-same (Some (entry.Filter e by)) h = λ i. Tree.filter (same e h.0 i) (same by h.1 i)
  entry-same (Some (entry.Agg a)) h = aggregate-same a h
  entry-same (Some (entry.Ternary p a b)) h = λ i. Tree.ternary (same p h.0 i) (same a h.1 i) (same b h.2 i)
  entry-same (Some (entry.Function e k)) h = ap (Tree.function k) (same e h)
  entry-same (Some (entry.Slice e o l)) h = λ i. Tree.slice (same e h.0 i) (same o h.1 i) (same l h.2 i)
  entry-same (Some entry.Len) h = refl
  entry-same (Some (entry.LeftOut w)) h = refl

  -- trees that stand over one arena stand over the other
  pub trees-carried : (ns : List Node) (ts : Trees) → trees_of g ns ≡ ts → AreComplete ts → trees_of f ns ≡ ts
  trees-carried ns ts e h = trees-same ns (subst AreComplete (sym e) h) ∙ e

-- an item of a list stays where it stands, and the last one comes behind them
front-there : (xs : List AExpr) (x : AExpr) (i : ℕ) → i < length xs → slice_get (xs ++ x ∷ []) i ≡ slice_get xs i
front-there [] x i h = absurd (omega (arith, h))
front-there (y ∷ ys) x zero h = refl
front-there (y ∷ ys) x (suc i) h = front-there ys x i (omega (arith, h))

last-there : (xs : List AExpr) (x : AExpr) → slice_get (xs ++ x ∷ []) (length xs) ≡ Some x
last-there [] x = refl
last-there (y ∷ ys) x = last-there ys x

-- an arena with one more entry
module _ (old : List AExpr) (x : AExpr) where
  entry-kept : (f : Node → Tree) (n : ℕ) → IsComplete (entry_tree f (slice_get old n)) → slice_get (old ++ x ∷ []) n ≡ slice_get old n
  entry-kept f n h = by (slice_get old n) refl h
    where
      by : (o : Option AExpr) → slice_get old n ≡ o → IsComplete (entry_tree f o) → slice_get (old ++ x ∷ []) n ≡ slice_get old n
      by None e h = absurd h
      by (Some y) e h = front-there old x n (slice_get_within old n y e)

  within-kept : (d : ℕ) (n : Node) → IsComplete (tree_within d old n) → tree_within d (old ++ x ∷ []) n ≡ tree_within d old n
  unfolding tree_within
  within-kept zero n h = absurd h
  within-kept (suc d) n h =
      ap (entry_tree (tree_within d (old ++ x ∷ []))) (entry-kept (tree_within d old) n.0 h) ∙ entry-same (tree_within d (old ++ x ∷ [])) (tree_within d old) (λ m. within-kept d m) (slice_get old n.0) h

  kept-tree : (n : Node) → IsExpression old n → tree_within (suc (length old)) (old ++ x ∷ []) n ≡ tree_at old n
  kept-tree n h =
      let here = within-kept (length old) n h in
      tree_within-more (length old) (old ++ x ∷ []) n (subst IsComplete (sym here) h) ∙ here

  last-tree : (n : Node) → n.0 ≡ length old → IsComplete (entry_tree (tree_at old) (Some x)) → tree_within (suc (length old)) (old ++ x ∷ []) n ≡ entry_tree (tree_at old) (Some x)
  unfolding tree_within
  last-tree n at h =
      ap (entry_tree (tree_within (length old) (old ++ x ∷ []))) (ap (slice_get (old ++ x ∷ [])) at ∙ last-there old x)
      ∙ entry-same (tree_within (length old) (old ++ x ∷ [])) (tree_at old) (λ m. within-kept (length old) m) (Some x) h

-- the tree of an entry that is added, and those of the entries before it
module _ (old new : List AExpr) (x : AExpr) (grown : new ≡ old ++ x ∷ []) where
  at-end : (n : Node) → tree_at new n ≡ tree_within (suc (length old)) (old ++ x ∷ []) n
  at-end n =
      let longer : length (old ++ x ∷ []) ≡ suc (length old) = omega (arith, length-append old (x ∷ [])) in
      ap (λ (arena : List AExpr). tree_at arena n) grown ∙ ap (λ d. tree_within d (old ++ x ∷ []) n) longer

  pub added-tree : (n : Node) → n.0 ≡ length old → IsComplete (entry_tree (tree_at old) (Some x)) → tree_at new n ≡ entry_tree (tree_at old) (Some x)
  added-tree n at h = at-end n ∙ last-tree old x n at h

  pub added-kept : KeepsTrees old new
  added-kept n h = at-end n ∙ kept-tree old x n h

pub kept-then : (a b c : List AExpr) → KeepsTrees a b → KeepsTrees b c → KeepsTrees a c
kept-then a b c p q n h = q n (subst IsComplete (sym (p n h)) h) ∙ p n h
