-- Expressions that are copied to the end of an arena, under their names.
use Rattle.std.proofs.Common.{◌≡◌, ℕ, zero, suc, ◌+◌, ◌<◌, List, [], ◌∷◌, ◌++◌, ap, get_or, length, map, refl, subst, sym, take, ◌∙◌}
use Rattle.std.specs.List.{AllByRecursion}
use Rattle.std.proofs.lemmas.List.{map_push, take_more}
use Rattle.plain_nodes.specs.Exprs.{ExprParts, expr_shown}
use Rattle.pu_base.specs.declared.arena.Node.{Node}
use Rattle.ps_copies.specs.Copies.{KeepsTrees}
use Rattle.ps_frame.specs.Trees.{IsComplete, Tree}
use Rattle.ps_meaning.specs.Steps.{Named, exprs_of, name_in, named_trees}
use Rattle.ps_meaning.specs.declared.options.ExprIR.{ExprIR}

-- these are whole
abbrev pub AreWhole : List Named → Type 0
AreWhole ns = AllByRecursion IsComplete (exprs_of ns)

whole_push : (ns : List Named) (n : Named) → AreWhole ns → IsComplete n.1 → AreWhole (ns ++ n ∷ [])
whole_push [] n w c = (c, tt)
whole_push (m ∷ ns) n w c = (w.0, whole_push ns n w.1 c)

-- f gives the trees that g gives, where these are whole
module _ (f g : Node → Tree) (same : (n : Node) → IsComplete (g n) → f n ≡ g n) where
  named_same : (es : List ExprIR) → AreWhole (named_trees g es) → named_trees f es ≡ named_trees g es
  named_same [] w = refl
  named_same (e ∷ es) w = λ i. (name_in e.output_name, same e.node w.0 i) ∷ named_same es w.1 i

  -- one copy more
  pub more_named : (es : List ExprIR) (e : ExprIR) (ks : List ExprParts) (i : ℕ) (k : ExprParts) → i < length ks → k ≡ get_or ks i k → name_in e.output_name ≡ (expr_shown k).0 → f e.node ≡ (expr_shown k).1
      → named_trees g es ≡ map expr_shown (take i ks) → AreWhole (map expr_shown (take i ks)) → named_trees f (es ++ e ∷ []) ≡ map expr_shown (take (i + 1) ks)
  more_named es e ks i k within is name tree so_far whole =
      map_push (λ (x : ExprIR). (name_in x.output_name, f x.node)) es e
      ∙ ap (λ ns. ns ++ (name_in e.output_name, f e.node) ∷ []) (named_same es (subst AreWhole (sym so_far) whole) ∙ so_far)
      ∙ ap (λ (n : Named). map expr_shown (take i ks) ++ n ∷ []) (λ j. (name j, tree j))
      ∙ sym (map_push expr_shown (take i ks) k)
      ∙ ap (map expr_shown) (ap (λ y. take i ks ++ y ∷ []) is ∙ sym (take_more ks i k within))

-- and it is whole
pub more_whole : (ks : List ExprParts) (i : ℕ) (k : ExprParts) → i < length ks → k ≡ get_or ks i k → IsComplete (expr_shown k).1 → AreWhole (map expr_shown (take i ks)) → AreWhole (map expr_shown (take (i + 1) ks))
more_whole ks i k within is c whole =
    subst AreWhole (sym (ap (map expr_shown) (take_more ks i k within ∙ ap (λ y. take i ks ++ y ∷ []) (sym is)) ∙ map_push expr_shown (take i ks) k)) (whole_push (map expr_shown (take i ks)) (expr_shown k) whole c)
