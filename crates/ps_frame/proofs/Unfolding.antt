-- The tree of an entry is made of the trees of the entries that it names.
use Rattle.std.proofs.Common.{◌≡◌, ℕ, zero, suc, ◌<◌, List, [], ◌∷◌, length, slice_get, Option, refl, subst, sym, ◌∙◌, ap}
use Rattle.std.specs.Prelude.{Some, None}
use Rattle.std.proofs.lemmas.Option.{slice_get_within}
use Rattle.pu_base.specs.declared.arena.Node.{Node}
use Rattle.ps_frame.specs.Trees.{Tree, Trees, Aggregation, AreComplete, IsComplete, IsExpression, aggregate_tree, entry_tree, tree_at, tree_within, trees_of}
use Rattle.ps_frame.specs.declared.expr.AExpr.{AExpr}
use Rattle.ps_frame.specs.declared.expr.AExpr.TheVariants as entry
use Rattle.ps_frame.specs.declared.expr.IRAggExpr.{IRAggExpr}
use Rattle.ps_frame.specs.declared.expr.IRAggExpr.TheVariants as agg

-- f gives the trees that g gives, where these are complete
module _ (f g : Node → Tree) (same : (n : Node) → IsComplete (g n) → f n ≡ g n) where
  trees-same : (ns : List Node) → AreComplete (trees_of g ns) → trees_of f ns ≡ trees_of g ns
  trees-same [] h = refl
  trees-same (n ∷ ns) h =
      ap (λ t. Trees.tree t (trees_of f ns)) (same n h.0) ∙ ap (Trees.tree (g n)) (trees-same ns h.1)

  aggregate-same : (a : IRAggExpr) → IsComplete (aggregate_tree g a) → aggregate_tree f a ≡ aggregate_tree g a
  aggregate-same (agg.Min n) h = ap (Tree.aggregate Aggregation.min) (same n h)
  aggregate-same (agg.Max n) h = ap (Tree.aggregate Aggregation.max) (same n h)
  aggregate-same (agg.First n) h = ap (Tree.aggregate Aggregation.first) (same n h)
  aggregate-same (agg.Last n) h = ap (Tree.aggregate Aggregation.last) (same n h)
  aggregate-same (agg.Sum n) h = ap (Tree.aggregate Aggregation.sum) (same n h)
  aggregate-same (agg.NUnique n) h = ap (Tree.aggregate Aggregation.n_unique) (same n h)
  aggregate-same (agg.Count n all) h = ap (Tree.aggregate (Aggregation.count all)) (same n h)

  entry-same : (o : Option AExpr) → IsComplete (entry_tree g o) → entry_tree f o ≡ entry_tree g o
  entry-same None h = refl
  entry-same (Some (entry.Column name)) h = refl
  entry-same (Some (entry.Literal l)) h = refl
  entry-same (Some (entry.BinaryExpr l o r)) h =
      let p = same l h.0 in let q = same r h.1 in cc
  entry-same (Some (entry.Cast e k s)) h = let p = same e h in cc
  entry-same (Some (entry.Sort e d n)) h = let p = same e h in cc
  entry-same (Some (entry.SortBy e by d n)) h =
      let p = same e h.0 in let q = trees-same by h.1 in cc
  entry-same (Some (entry.Gather e i s)) h =
      let p = same e h.0 in let q = same i h.1 in cc
  entry-same (Some (entry.Filter e by)) h =
      let p = same e h.0 in let q = same by h.1 in cc
  entry-same (Some (entry.Agg a)) h = aggregate-same a h
  entry-same (Some (entry.Ternary p a b)) h =
      let x = same p h.0 in let y = same a h.1 in let z = same b h.2 in cc
  entry-same (Some (entry.Function e k)) h = let p = same e h in cc
  entry-same (Some (entry.Slice e o l)) h =
      let x = same e h.0 in let y = same o h.1 in let z = same l h.2 in cc
  entry-same (Some entry.Len) h = refl
  entry-same (Some (entry.LeftOut w)) h = refl

-- a complete tree is what more depth gives too
pub tree_within-more : (depth : ℕ) (arena : List AExpr) (n : Node) → IsComplete (tree_within depth arena n) → tree_within (suc depth) arena n ≡ tree_within depth arena n
unfolding tree_within
tree_within-more zero arena n h = absurd h
tree_within-more (suc depth) arena n h = entry-same (tree_within (suc depth) arena) (tree_within depth arena) (λ m. tree_within-more depth arena m) (slice_get arena n.0) h

-- the tree of an expression is that of its entry over the trees of the arena
pub tree_at-entry : (arena : List AExpr) (n : Node) → IsExpression arena n → tree_at arena n ≡ entry_tree (tree_at arena) (slice_get arena n.0)
unfolding tree_within
tree_at-entry [] n h = absurd h
tree_at-entry (x ∷ arena) n h =
    sym (entry-same (tree_within (suc (length arena)) (x ∷ arena)) (tree_within (length arena) (x ∷ arena)) (λ m. tree_within-more (length arena) (x ∷ arena) m) (slice_get (x ∷ arena) n.0) h)

-- the same at an entry that is known
pub tree_at-is : (arena : List AExpr) (n : Node) (e : AExpr) → IsExpression arena n → slice_get arena n.0 ≡ Some e → tree_at arena n ≡ entry_tree (tree_at arena) (Some e)
tree_at-is arena n e h is = tree_at-entry arena n h ∙ ap (entry_tree (tree_at arena)) is

-- so its parts are expressions
pub complete-is : (arena : List AExpr) (n : Node) (e : AExpr) → IsExpression arena n → slice_get arena n.0 ≡ Some e → IsComplete (entry_tree (tree_at arena) (Some e))
complete-is arena n e h is = subst IsComplete (tree_at-is arena n e h is) h

-- an expression's number is in range
pub IsExpression-in_range : (arena : List AExpr) (n : Node) → IsExpression arena n → n.0 < length arena
IsExpression-in_range arena n h = go (slice_get arena n.0) refl
  where
    go : (o : Option AExpr) → slice_get arena n.0 ≡ o → n.0 < length arena
    go None e = let m = tree_at-entry arena n h ∙ ap (entry_tree (tree_at arena)) e in absurd (subst IsComplete m h)
    go (Some x) e = slice_get_within arena n.0 x e
