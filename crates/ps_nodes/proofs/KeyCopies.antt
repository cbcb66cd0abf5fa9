-- Keys that are copied to the end of an arena.
use Rattle.std.proofs.Common.{◌≡◌, ℕ, zero, suc, ◌+◌, ◌<◌, List, [], ◌∷◌, ◌++◌, ap, get_or, length, map, refl, subst, sym, take, ◌∙◌}
use Rattle.std.specs.List.{AllByRecursion}
use Rattle.std.proofs.lemmas.List.{map_push, take_more}
use Rattle.pu_base.specs.declared.arena.Node.{Node}
use Rattle.ps_copies.specs.Copies.{KeepsTrees}
use Rattle.ps_frame.specs.declared.expr.AExpr.{AExpr}
use Rattle.ps_frame.specs.Trees.{IsComplete, Tree}
use Rattle.ps_joins.specs.JoinOf.{join_of}
use Rattle.ps_meaning.specs.Steps.{JoinStep, exprs_of, key_trees}
use Rattle.ps_meaning.specs.declared.options.ExprIR.{ExprIR}
use Rattle.ps_meaning.specs.declared.options.JoinArgs.{JoinArgs}
use Rattle.plain_nodes.specs.Exprs.{ExprParts, expr_shown, join_shown}

abbrev pub trees_shown : List ExprParts → List Tree
trees_shown ks = exprs_of (map expr_shown ks)

front_complete : (i : ℕ) (ks : List ExprParts) → AllByRecursion IsComplete (trees_shown ks) → AllByRecursion IsComplete (trees_shown (take i ks))
front_complete zero ks c = tt
front_complete (suc i) [] c = tt
front_complete (suc i) (k ∷ ks) c = (c.0, front_complete i ks c.1)

shown_push : (ks : List ExprParts) (k : ExprParts) → trees_shown (ks ++ k ∷ []) ≡ trees_shown ks ++ (expr_shown k).1 ∷ []
shown_push [] k = refl
shown_push (l ∷ ks) k = ap (λ ts. (expr_shown l).1 ∷ ts) (shown_push ks k)

-- what is kept twice is kept
pub kept_then : (a b c : List AExpr) → KeepsTrees a b → KeepsTrees b c → KeepsTrees a c
kept_then a b c p q n h = q n (subst IsComplete (sym (p n h)) h) ∙ p n h

-- f gives the trees that g gives, where these are complete
module _ (f g : Node → Tree) (same : (n : Node) → IsComplete (g n) → f n ≡ g n) where
  keys_same : (es : List ExprIR) → AllByRecursion IsComplete (key_trees g es) → key_trees f es ≡ key_trees g es
  keys_same [] c = refl
  keys_same (e ∷ es) c = λ i. same e.node c.0 i ∷ keys_same es c.1 i

  -- copies that stand over one arena stand over the other
  pub keys_carried : (es : List ExprIR) (ts : List Tree) → AllByRecursion IsComplete ts → key_trees g es ≡ ts → key_trees f es ≡ ts
  keys_carried es ts c e = keys_same es (subst (λ us. AllByRecursion IsComplete us) (sym e) c) ∙ e

  -- one more copy
  pub more_keys : (es : List ExprIR) (e : ExprIR) (ks : List ExprParts) (i : ℕ) (k : ExprParts) → i < length ks → k ≡ get_or ks i k → AllByRecursion IsComplete (trees_shown ks) → key_trees g es ≡ trees_shown (take i ks)
      → f e.node ≡ (expr_shown k).1 → key_trees f (es ++ e ∷ []) ≡ trees_shown (take (i + 1) ks)
  more_keys es e ks i k within is c so_far tree =
      map_push (λ (x : ExprIR). f x.node) es e
      ∙ ap (λ ts. ts ++ f e.node ∷ []) (keys_carried es (trees_shown (take i ks)) (front_complete i ks c) so_far)
      ∙ ap (λ t. trees_shown (take i ks) ++ t ∷ []) tree
      ∙ sym (shown_push (take i ks) k)
      ∙ ap trees_shown (sym (take_more ks i k within ∙ ap (λ y. take i ks ++ y ∷ []) (sym is)))

-- the join of the copies of keys is that of the keys
pub join_copied : (f : Node → Tree) (ls rs : List ExprIR) (left_on right_on : List ExprParts) (args : JoinArgs) → key_trees f ls ≡ trees_shown left_on → key_trees f rs ≡ trees_shown right_on → join_of f ls rs args ≡ join_shown left_on right_on args
join_copied f ls rs left_on right_on args p q = λ i. record { left_on = p i; right_on = q i; args = args }
