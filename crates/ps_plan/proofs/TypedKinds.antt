-- An expression of which no part is left out, and of which no rule on names or kinds is broken, has a kind.
use Rattle.std.proofs.Common.{◌≡◌, ℕ, suc, ◌<◌, ◌++◌, List, [], ◌∷◌, length, slice_get, refl, ap, arith}
use Rattle.std.specs.Prelude.{true, false, not, ◌||◌, Option, Some, None, Contains}
use Rattle.std.specs.List.{AllByRecursion}
use Rattle.pu_base.specs.declared.arena.Node.{Node}
use Rattle.ps_frame.proofs.Lists.{and_both}
use Rattle.ps_frame.specs.Parts.{tree_parts, trees_parts}
use Rattle.ps_frame.specs.Refusals.{is_accepted, is_left_out, is_missing, is_refused}
use Rattle.ps_frame.specs.Tables.{Fields}
use Rattle.ps_frame.specs.Trees.{Tree, Trees, aggregate_tree, entry_tree, tree_at, tree_within, trees_of}
use Rattle.ps_frame.specs.Typing.{every_part_of_all}
use Rattle.ps_frame.specs.declared.expr.AExpr.{AExpr}
use Rattle.ps_frame.specs.declared.expr.AExpr.TheVariants as expr
use Rattle.ps_frame.specs.declared.expr.IRAggExpr.{IRAggExpr}
use Rattle.ps_frame.specs.declared.expr.IRAggExpr.TheVariants as agg
use Rattle.ps_frame.specs.declared.expr.What.{What}
use Rattle.ps_plan.specs.Graph.{Path, aggregate_operand, here, named_by, operands, operands_at}
use Rattle.ps_plan.specs.Plans.{Plan}
use Rattle.ps_plan.proofs.Acyclic.{AllBelow, NoCircleFrom, each-acyclic}
use Rattle.ps_plan.proofs.Complete.{all-both, numbers, there}
use Rattle.ps_meaning.proofs.Containing.{contains-first, contains-later}
use Rattle.ps_plan.proofs.ReachedSteps.{path-then}

-- no part is left out, and none is missing
abbrev pub IsBuiltPart : Tree → Type 0
IsBuiltPart p = (is_left_out p || is_missing p) ≡ false

abbrev pub AreBuilt : List Tree → Type 0
AreBuilt ps = AllByRecursion IsBuiltPart ps

abbrev pub IsBuiltTree : Tree → Type 0
IsBuiltTree t = AreBuilt (tree_parts t)

module _ (f : Node → Tree) where
  list-built : (ns : List Node) → ((m : Node) → Contains (numbers ns) m.0 → IsBuiltTree (f m)) → AreBuilt (trees_parts (trees_of f ns))
  list-built [] all = tt
  list-built (n ∷ ns) all = all-both IsBuiltPart (tree_parts (f n)) (trees_parts (trees_of f ns)) (all n (contains-first n.0 _)) (list-built ns (λ m c. all m (contains-later n.0 m.0 _ c)))

  aggregate-built : (a : IRAggExpr) → IsBuiltTree (f (aggregate_operand a)) → IsBuiltTree (aggregate_tree f a)
  aggregate-built (agg.Min n) h = (refl, h)
  aggregate-built (agg.Max n) h = (refl, h)
  aggregate-built (agg.First n) h = (refl, h)
  aggregate-built (agg.Last n) h = (refl, h)
  aggregate-built (agg.Sum n) h = (refl, h)
  aggregate-built (agg.NUnique n) h = (refl, h)
  aggregate-built (agg.Count n all) h = (refl, h)

  two-built : (m n : Node) → IsBuiltTree (f m) → IsBuiltTree (f n) → AreBuilt (tree_parts (f m) ++ tree_parts (f n))
  two-built m n h g = all-both IsBuiltPart (tree_parts (f m)) (tree_parts (f n)) h g

  three-built : (l m n : Node) → IsBuiltTree (f l) → IsBuiltTree (f m) → IsBuiltTree (f n) → AreBuilt (tree_parts (f l) ++ (tree_parts (f m) ++ tree_parts (f n)))
  three-built l m n h g k = all-both IsBuiltPart (tree_parts (f l)) (tree_parts (f m) ++ tree_parts (f n)) h (two-built m n g k)

  entry-built : (x : AExpr) → ((w : What) → Some x ≡ Some (expr.LeftOut w) → ⊥) → ((m : Node) → Contains (numbers (operands x)) m.0 → IsBuiltTree (f m)) → IsBuiltTree (entry_tree f (Some x))
  entry-built (expr.Column name) never all = (refl, tt)
  entry-built (expr.Literal l) never all = (refl, tt)
  entry-built (expr.BinaryExpr l o r) never all = (refl, two-built l r (all l (0, omega arith, refl)) (all r (1, omega arith, refl)))
  entry-built (expr.Cast e k s) never all = (refl, all e (0, omega arith, refl))
  entry-built (expr.Sort e d n) never all = (refl, all e (0, omega arith, refl))
  entry-built (expr.SortBy e by d n) never all =
      (refl, all-both IsBuiltPart (tree_parts (f e)) (trees_parts (trees_of f by)) (all e (contains-first e.0 _)) (list-built by (λ m c. all m (contains-later e.0 m.0 _ c))))
  entry-built (expr.Gather e i s) never all = (refl, two-built e i (all e (0, omega arith, refl)) (all i (1, omega arith, refl)))
  entry-built (expr.Filter e by) never all = (refl, two-built e by (all e (0, omega arith, refl)) (all by (1, omega arith, refl)))
  entry-built (expr.Agg a) never all = aggregate-built a (all (aggregate_operand a) (0, omega arith, refl))
  entry-built (expr.Ternary p a b) never all = (refl, three-built p a b (all p (0, omega arith, refl)) (all a (1, omega arith, refl)) (all b (2, omega arith, refl)))
  entry-built (expr.Function e g) never all = (refl, all e (0, omega arith, refl))
  entry-built (expr.Slice e o l) never all = (refl, three-built e o l (all e (0, omega arith, refl)) (all o (1, omega arith, refl)) (all l (2, omega arith, refl)))
  entry-built expr.Len never all = (refl, tt)
  entry-built (expr.LeftOut w) never all = absurd (never w refl)

  found-built : (o : Option AExpr) (x : AExpr) → o ≡ Some x → ((w : What) → o ≡ Some (expr.LeftOut w) → ⊥) → ((m : Node) → Contains (named_by operands o) m.0 → IsBuiltTree (f m)) → IsBuiltTree (entry_tree f o)
  found-built None x is never all = cc
  found-built (Some y) x is never all = entry-built y never all

-- an expression from which nothing that is left out is reached
module _ (plan : Plan) (start : ℕ) (never : (e : ℕ) (w : What) → Path (operands_at plan) start e → slice_get plan.exprs e ≡ Some (expr.LeftOut w) → ⊥) where
  built-step : (d e : ℕ) → e < length plan.exprs → ((m : ℕ) → Contains (operands_at plan e) m → Path (operands_at plan) start m → IsBuiltTree (tree_within d plan.exprs (record { 0 = m })))
      → Path (operands_at plan) start e → IsBuiltTree (tree_within (suc d) plan.exprs (record { 0 = e }))
  unfolding tree_within
  built-step d e range all way =
      let x = there plan.exprs e range in
      found-built (tree_within d plan.exprs) (slice_get plan.exprs e) x.0 x.1 (λ w q. never e w way q) (λ m c. all m.0 c (path-then way c))

  pub expr-built : NoCircleFrom (operands_at plan) start → AllBelow (operands_at plan) (length plan.exprs) start → IsBuiltTree (tree_at plan.exprs (record { 0 = start }))
  expr-built clear range =
      each-acyclic (operands_at plan) (length plan.exprs) (λ d e. Path (operands_at plan) start e → IsBuiltTree (tree_within d plan.exprs (record { 0 = e }))) built-step start clear range here

-- parts of which none is refused
pub all-left : (P : Tree → Type 0) (xs ys : List Tree) → AllByRecursion P (xs ++ ys) → AllByRecursion P xs
all-left P [] ys h = tt
all-left P (x ∷ xs) ys h = (h.0, all-left P xs ys h.1)

pub all-right : (P : Tree → Type 0) (xs ys : List Tree) → AllByRecursion P (xs ++ ys) → AllByRecursion P ys
all-right P [] ys h = h
all-right P (x ∷ xs) ys h = all-right P xs ys h.1

module _ (s : Fields) where
  abbrev pub IsFree : Tree → Type 0
  IsFree p = is_refused s p ≡ false

  abbrev pub AreFree : List Tree → Type 0
  AreFree ps = AllByRecursion IsFree ps

  mutual
    pub accepted : (t : Tree) → AreFree (tree_parts t) → is_accepted s t ≡ true
    accepted (Tree.column n) h = ap not h.0
    accepted (Tree.literal l) h = refl
    accepted (Tree.binary o l r) h = and_both _ _ (ap not h.0) (and_both _ _ (accepted l (all-left IsFree (tree_parts l) (tree_parts r) h.1)) (accepted r (all-right IsFree (tree_parts l) (tree_parts r) h.1)))
    accepted (Tree.cast k b e) h = and_both _ _ (ap not h.0) (accepted e h.1)
    accepted (Tree.sort d n e) h = and_both _ _ (ap not h.0) (accepted e h.1)
    accepted (Tree.sort_by d n e by) h =
        and_both _ _ (ap not h.0) (and_both _ _ (accepted e (all-left IsFree (tree_parts e) (trees_parts by) h.1)) (all-accepted by (all-right IsFree (tree_parts e) (trees_parts by) h.1)))
    accepted (Tree.gather b e i) h = and_both _ _ (ap not h.0) (and_both _ _ (accepted e (all-left IsFree (tree_parts e) (tree_parts i) h.1)) (accepted i (all-right IsFree (tree_parts e) (tree_parts i) h.1)))
    accepted (Tree.filter e by) h = and_both _ _ (ap not h.0) (and_both _ _ (accepted e (all-left IsFree (tree_parts e) (tree_parts by) h.1)) (accepted by (all-right IsFree (tree_parts e) (tree_parts by) h.1)))
    accepted (Tree.aggregate a e) h = and_both _ _ (ap not h.0) (accepted e h.1)
    accepted (Tree.ternary p a b) h =
        and_both _ _ (ap not h.0)
        (and_both _ _ (accepted p (all-left IsFree (tree_parts p) (tree_parts a ++ tree_parts b) h.1)) (and_both _ _ (accepted a (all-left IsFree (tree_parts a) (tree_parts b) (all-right IsFree (tree_parts p) (tree_parts a ++ tree_parts b) h.1))) (accepted b (all-right IsFree (tree_parts a) (tree_parts b) (all-right IsFree (tree_parts p) (tree_parts a ++ tree_parts b) h.1)))))
    accepted (Tree.function g e) h = and_both _ _ (ap not h.0) (accepted e h.1)
    accepted (Tree.slice e o l) h =
        and_both _ _ (ap not h.0)
        (and_both _ _ (accepted e (all-left IsFree (tree_parts e) (tree_parts o ++ tree_parts l) h.1)) (and_both _ _ (accepted o (all-left IsFree (tree_parts o) (tree_parts l) (all-right IsFree (tree_parts e) (tree_parts o ++ tree_parts l) h.1))) (accepted l (all-right IsFree (tree_parts o) (tree_parts l) (all-right IsFree (tree_parts e) (tree_parts o ++ tree_parts l) h.1)))))
    accepted Tree.len h = refl
    accepted (Tree.left_out w) h = ap not h.0
    accepted Tree.missing h = ap not h.0

    all-accepted : (ts : Trees) → AreFree (trees_parts ts) → every_part_of_all (λ p. not (is_refused s p)) ts ≡ true
    all-accepted Trees.no_trees h = refl
    all-accepted (Trees.tree t ts) h =
        and_both _ _ (accepted t (all-left IsFree (tree_parts t) (trees_parts ts) h)) (all-accepted ts (all-right IsFree (tree_parts t) (trees_parts ts) h))
