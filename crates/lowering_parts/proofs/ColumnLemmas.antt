-- The columns of names, in an arena that grows.
use Rattle.std.proofs.Common.{◌≡◌, ℕ, zero, suc, ◌+◌, ◌<◌, ◌≤◌, List, [], ◌∷◌, ◌++◌, refl, ap, sym, subst, ◌∙◌, arith, length, take, get_or, add-one, take_all}
use Rattle.std.specs.List.{AllByRecursion}
use Rattle.pu_base.specs.declared.arena.Node.{Node}
use Rattle.ps_copies.specs.Copies.{KeepsTrees}
use Rattle.ps_frame.specs.Trees.{IsComplete, Tree, tree_at}
use Rattle.ps_frame.specs.declared.expr.AExpr.{AExpr}
use Rattle.ps_meaning.specs.Steps.{Name}
use Rattle.ps_rules.specs.Slots.{columns_named}
use Rattle.lowering_parts.specs.Gathered.{trees_at}

-- expressions have their trees in an arena that was added to
pub trees_later : (arena later : List AExpr) → KeepsTrees arena later → (ns : List Node) → AllByRecursion IsComplete (trees_at (tree_at arena) ns) → trees_at (tree_at later) ns ≡ trees_at (tree_at arena) ns
trees_later arena later keeps [] h = refl
trees_later arena later keeps (n ∷ ns) h = λ i. keeps n h.0 i ∷ trees_later arena later keeps ns h.1 i

pub columns_whole : (ns : List Name) → AllByRecursion IsComplete (columns_named ns)
columns_whole [] = tt
columns_whole (n ∷ ns) = (tt, columns_whole ns)

pub trees_last : (f : Node → Tree) (ns : List Node) (n : Node) → trees_at f (ns ++ n ∷ []) ≡ trees_at f ns ++ f n ∷ []
trees_last f [] n = refl
trees_last f (m ∷ ns) n = ap (λ ts. f m ∷ ts) (trees_last f ns n)

columns_more : (ns : List Name) (i : ℕ) (own : Name) → i < length ns → own ≡ get_or ns i own → columns_named (take (i + 1) ns) ≡ columns_named (take i ns) ++ Tree.column own ∷ []
columns_more ns i own lt e = rw add-one (by ns i lt e)
  where
    by : (ns : List Name) (i : ℕ) → i < length ns → own ≡ get_or ns i own → columns_named (take (suc i) ns) ≡ columns_named (take i ns) ++ Tree.column own ∷ []
    by [] i lt e = absurd (omega arith)
    by (n ∷ ns) zero lt e = ap (λ m. Tree.column m ∷ []) (sym e)
    by (n ∷ ns) (suc i) lt e = ap (λ ts. Tree.column n ∷ ts) (by ns i (omega arith) e)

-- one more column
pub columns_step : (arena later : List AExpr) → KeepsTrees arena later → (now next : List Node) (ns : List Name) (i : ℕ) (n : Node) (own : Name) → i < length ns → own ≡ get_or ns i own → next ≡ now ++ n ∷ []
    → tree_at later n ≡ Tree.column own → trees_at (tree_at arena) now ≡ columns_named (take i ns) → trees_at (tree_at later) next ≡ columns_named (take (i + 1) ns)
columns_step arena later keeps now next ns i n own lt e w t h =
    let P : List Tree → Type 0 = λ ts. AllByRecursion IsComplete ts in
    ap (trees_at (tree_at later)) w ∙ trees_last (tree_at later) now n
    ∙ (λ j. (trees_later arena later keeps now (subst P (sym h) (columns_whole (take i ns))) ∙ h) j ++ t j ∷ []) ∙ sym (columns_more ns i own lt e)

pub columns_end : (ts : List Tree) (ns : List Name) (i : ℕ) → length ns ≤ i → ts ≡ columns_named (take i ns) → ts ≡ columns_named ns
columns_end ts ns i le h = h ∙ ap columns_named (take_all i ns le)
