-- Expressions that name earlier ones alone are there, with all that they name.
use Rattle.std.proofs.Common.{◌≡◌, ℕ, zero, suc, ◌+◌, ◌<◌, ◌≤◌, ◌⊎◌, inl, inr, Bool, true, false, List, [], ◌∷◌, ◌++◌, Option, None, Some, length, drop, refl, ap, sym, subst, ◌∙◌, arith}
use Rattle.std.specs.Prelude.{slice_get}
use Rattle.std.proofs.Math.Nat.{eq-or-lt_of_le}
use Rattle.std.specs.List.{AllByRecursion}
use Rattle.pu_base.specs.declared.arena.Node.{Node}
use Rattle.ps_frame.specs.Trees.{AreComplete, IsComplete, Tree, entry_tree, tree_at, tree_within, trees_of}
use Rattle.ps_frame.specs.declared.expr.AExpr.{AExpr}
use Rattle.ps_meaning.specs.Sound.{rules_of}
use Rattle.ps_meaning.specs.Steps.{exprs_of, key_trees, named_trees, step_exprs}
use Rattle.ps_meaning.specs.declared.options.ExprIR.{ExprIR}
use Rattle.ps_meaning.specs.Maps.{map_step}
use Rattle.ps_meaning.specs.Steps.{Cut}
use Rattle.ps_meaning.specs.declared.map.MapKind.{MapKind}
use Rattle.ps_meaning.specs.declared.map.MapKind.TheVariants as kind
use Rattle.ps_phys.specs.Shown.{kind_of}
use Rattle.ps_phys.specs.declared.phys.PhysNodeKind.{PhysNodeKind}
use Rattle.ps_phys.specs.declared.phys.PhysNodeKind.TheVariants as phys
use Rattle.ps_phys.specs.declared.phys.PhysStream.{PhysStream}
use Rattle.sound_plans.proofs.Testing.{as-named, drop-end, drop-item, exprs-named}
use Rattle.sound_plans.specs.Named.{AreThereBelow}

-- an entry over trees that are there below a number
abbrev pub NamesBelow : ℕ → AExpr → Type 0
NamesBelow n e = (f : Node → Tree) → AreThereBelow f n → IsComplete (entry_tree f (Some e))

-- the entries below a number name earlier ones alone
abbrev pub AreInOrder : List AExpr → ℕ → Type 0
AreInOrder arena k = (n : ℕ) (e : AExpr) → n < k → slice_get arena n ≡ Some e → NamesBelow n e

entry-there : (arena : List AExpr) (n : ℕ) → n < length arena → (P : Option AExpr → Type 0) → ((e : AExpr) → slice_get arena n ≡ Some e → P (Some e)) → P (slice_get arena n)
entry-there [] n l P h = absurd (omega (arith, l))
entry-there (x ∷ arena) zero l P h = h x refl
entry-there (x ∷ arena) (suc n) l P h = entry-there arena n (omega (arith, l)) P h

there-within : (arena : List AExpr) → AreInOrder arena (length arena) → (depth : ℕ) (m : Node) → m.0 < depth → m.0 < length arena → IsComplete (tree_within depth arena m)
unfolding tree_within
there-within arena told zero m d l = absurd (omega (arith, d))
there-within arena told (suc depth) m d l =
    entry-there arena m.0 l (λ o. IsComplete (entry_tree (tree_within depth arena) o))
    (λ e at. told m.0 e l at (tree_within depth arena) (λ n below. there-within arena told depth n (omega (arith, d, below)) (omega (arith, l, below))))

pub all-there : (arena : List AExpr) (k : ℕ) → length arena ≤ k → AreInOrder arena k → AreThereBelow (tree_at arena) (length arena)
all-there arena k past told m l = there-within arena (λ n e below at. told n e (omega (arith, past, below)) at) (length arena) m l l

pub next-in_order : (arena : List AExpr) (k : ℕ) (e : AExpr) → slice_get arena k ≡ Some e → NamesBelow k e → AreInOrder arena k → AreInOrder arena (k + 1)
next-in_order arena k e at names told n d below there = by (eq-or-lt_of_le (omega (arith, below)))
  where
    by : (n ≡ k) ⊎ (n < k) → NamesBelow n d
    by (inr less) = told n d less there
    by (inl same) =
        let here : Some e ≡ Some d = sym at ∙ ap (slice_get arena) (sym same) ∙ there in
        let is : e ≡ d = cc in
        let P : ℕ → Type 0 = λ m. NamesBelow m d in
        subst P (sym same) (subst (NamesBelow k) is names)

-- from a place on they are there below a number, if all are
abbrev pub AreLeft : ℕ → List ExprIR → ℕ → Type 0
AreLeft n es k = (f : Node → Tree) → AreThereBelow f n → AllByRecursion IsComplete (key_trees f (drop k es)) → AllByRecursion IsComplete (key_trees f es)

pub next-left : (n : ℕ) (es : List ExprIR) (k : ℕ) (e : ExprIR) → slice_get es k ≡ Some e → e.node.0 < n → AreLeft n es k → AreLeft n es (k + 1)
next-left n es k e at below left f there rest =
    left f there (subst (λ (xs : List ExprIR). AllByRecursion IsComplete (key_trees f xs)) (sym (drop-item es k e at)) (there e.node below, rest))

pub end-left : (n : ℕ) (es : List ExprIR) (k : ℕ) → length es ≤ k → AreLeft n es k → (f : Node → Tree) → AreThereBelow f n → AllByRecursion IsComplete (key_trees f es)
end-left n es k past left f there =
    left f there (subst (λ (xs : List ExprIR). AllByRecursion IsComplete (key_trees f xs)) (sym (drop-end es k past)) tt)

-- the same of numbers
abbrev pub NodesAreLeft : ℕ → List Node → ℕ → Type 0
NodesAreLeft n ms k = (f : Node → Tree) → AreThereBelow f n → AreComplete (trees_of f (drop k ms)) → AreComplete (trees_of f ms)

pub next-node : (n : ℕ) (ms : List Node) (k : ℕ) (m : Node) → slice_get ms k ≡ Some m → m.0 < n → NodesAreLeft n ms k → NodesAreLeft n ms (k + 1)
next-node n ms k m at below left f there rest =
    left f there (subst (λ (xs : List Node). AreComplete (trees_of f xs)) (sym (drop-item ms k m at)) (there m below, rest))

pub end-node : (n : ℕ) (ms : List Node) (k : ℕ) → length ms ≤ k → NodesAreLeft n ms k → (f : Node → Tree) → AreThereBelow f n → AreComplete (trees_of f ms)
end-node n ms k past left f there =
    left f there (subst (λ (xs : List Node). AreComplete (trees_of f xs)) (sym (drop-end ms k past)) tt)

-- trees that are there where those below a number are
abbrev pub AreKnown : ℕ → ((Node → Tree) → List Tree) → Type 0
AreKnown n trees = (f : Node → Tree) → AreThereBelow f n → AllByRecursion IsComplete (trees f)

both-named : (f : Node → Tree) (xs ys : List ExprIR) → AllByRecursion IsComplete (key_trees f xs ++ key_trees f ys) → AllByRecursion IsComplete (exprs_of (named_trees f xs) ++ exprs_of (named_trees f ys))
both-named f xs ys h = subst (AllByRecursion IsComplete) (λ i. sym (exprs-named f xs) i ++ sym (exprs-named f ys) i) h

module _ (n : ℕ) (m : MapKind) where
  pub map-select : (es : List ExprIR) → m ≡ kind.Select es → AreKnown n (λ f. key_trees f es) → AreKnown n (λ f. step_exprs (map_step f m))
  map-select es is told f there = subst (λ (m : MapKind). AllByRecursion IsComplete (step_exprs (map_step f m))) (sym is) (as-named f es (told f there))

  pub map-groups : (keys aggs : List ExprIR) (maintain : Bool) (part : Cut) → m ≡ kind.GroupBy keys aggs maintain part → AreKnown n (λ f. key_trees f keys ++ key_trees f aggs) → AreKnown n (λ f. step_exprs (map_step f m))
  map-groups keys aggs maintain part is told f there = subst (λ (m : MapKind). AllByRecursion IsComplete (step_exprs (map_step f m))) (sym is) (both-named f keys aggs (told f there))

module _ (n : ℕ) (k : PhysNodeKind) where
  pub node-select : (input : PhysStream) (es : List ExprIR) (extends : Bool) → k ≡ phys.Select input es extends → AreKnown n (λ f. key_trees f es) → AreKnown n (λ f. step_exprs (rules_of (kind_of f k)))
  node-select input es extends is told f there = subst (λ (k : PhysNodeKind). AllByRecursion IsComplete (step_exprs (rules_of (kind_of f k)))) (sym is) (by extends)
    where
      by : (extends : Bool) → AllByRecursion IsComplete (step_exprs (rules_of (kind_of f (phys.Select input es extends))))
      by true = as-named f es (told f there)
      by false = as-named f es (told f there)

  pub node-independent : (es : List ExprIR) → k ≡ phys.InputIndependentSelect es → AreKnown n (λ f. key_trees f es) → AreKnown n (λ f. step_exprs (rules_of (kind_of f k)))
  node-independent es is told f there = subst (λ (k : PhysNodeKind). AllByRecursion IsComplete (step_exprs (rules_of (kind_of f k)))) (sym is) (as-named f es (told f there))

  pub node-reduce : (input : PhysStream) (es : List ExprIR) → k ≡ phys.Reduce input es → AreKnown n (λ f. key_trees f es) → AreKnown n (λ f. step_exprs (rules_of (kind_of f k)))
  node-reduce input es is told f there = subst (λ (k : PhysNodeKind). AllByRecursion IsComplete (step_exprs (rules_of (kind_of f k)))) (sym is) (as-named f es (told f there))

  pub node-groups : (input : PhysStream) (keys aggs : List ExprIR) → k ≡ phys.GroupBy input keys aggs → AreKnown n (λ f. key_trees f keys ++ key_trees f aggs) → AreKnown n (λ f. step_exprs (rules_of (kind_of f k)))
  node-groups input keys aggs is told f there = subst (λ (k : PhysNodeKind). AllByRecursion IsComplete (step_exprs (rules_of (kind_of f k)))) (sym is) (both-named f keys aggs (told f there))
