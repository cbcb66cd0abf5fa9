-- One item more in a loop.
use Rattle.std.proofs.Common.{◌≡◌, ℕ, zero, suc, ◌+◌, ◌≤◌, List, [], ◌∷◌, ◌++◌, Some, length, take, refl, ap, sym, subst, ◌∙◌, arith, length-append}
use Rattle.std.specs.Prelude.{map, slice_get}
use Rattle.std.specs.List.{AllByRecursion}
use Rattle.pu_base.specs.declared.arena.Node.{Node}
use Rattle.ps_frame.specs.Trees.{Tree}
use Rattle.ps_meaning.specs.Schemas.{expr_names}
use Rattle.ps_meaning.specs.Steps.{Name, Named, key_trees, name_in, named_trees}
use Rattle.ps_meaning.specs.declared.options.ExprIR.{ExprIR}
use Rattle.plain_nodes.specs.Exprs.{ExprParts, expr_shown}
use Rattle.plain_nodes.specs.Reductions.{reduced, reduction_tree}
use Rattle.plain_nodes.specs.declared.reduction.Reduction.{Reduction}
use Rattle.graph_parts.proofs.Lists.{map-append, map-length, take-all, take-count, take-one, within}

-- what is pushed for an item is its image
pub mapped_more : {A B : Type 0} (g : A → B) (xs : List A) (k : ℕ) (x : A) (ys new : List B) (y : B) → slice_get xs k ≡ Some x → ys ≡ map g (take k xs) → new ≡ ys ++ y ∷ [] → y ≡ g x → new ≡ map g (take (k + 1) xs)
mapped_more g xs k x ys new y at before pushed is = pushed ∙ (λ i. before i ++ is i ∷ []) ∙ sym (map-append g (take k xs) (x ∷ [])) ∙ ap (map g) (sym (take-one xs k x at))

pub mapped_all : {A B : Type 0} (g : A → B) (xs : List A) (k : ℕ) (ys : List B) → length xs ≤ k → ys ≡ map g (take k xs) → ys ≡ map g xs
mapped_all g xs k ys l before = before ∙ ap (map g) (take-all xs k l)

-- what is pushed for an item shows its image
pub shown_more : {A B C : Type 0} (show : C → B) (g : A → B) (xs : List A) (k : ℕ) (x : A) (ys new : List C) (y : C) → slice_get xs k ≡ Some x → map show ys ≡ map g (take k xs) → new ≡ ys ++ y ∷ [] → show y ≡ g x → map show new ≡ map g (take (k + 1) xs)
shown_more show g xs k x ys new y at before pushed is = ap (map show) pushed ∙ map-append show ys (y ∷ []) ∙ (λ i. before i ++ is i ∷ []) ∙ sym (map-append g (take k xs) (x ∷ [])) ∙ ap (map g) (sym (take-one xs k x at))

pub shown_all : {A B C : Type 0} (show : C → B) (g : A → B) (xs : List A) (k : ℕ) (ys : List C) → length xs ≤ k → map show ys ≡ map g (take k xs) → map show ys ≡ map g xs
shown_all show g xs k ys l before = before ∙ ap (map g) (take-all xs k l)

-- what holds of the trees of expressions holds of each one's
pub tree_at_place : (P : Tree → Type 0) (f : Node → Tree) (es : List ExprIR) (k : ℕ) (e : ExprIR) → slice_get es k ≡ Some e → AllByRecursion P (key_trees f es) → P (f e.node)
tree_at_place P f [] k e at all = cc
tree_at_place P f (d ∷ es) zero e at all = let is : d ≡ e = cc in subst (λ (x : ExprIR). P (f x.node)) is all.0
tree_at_place P f (d ∷ es) (suc k) e at all = tree_at_place P f es k e at all.1

-- one more reduction, under its name
pub reduced-more : (ns : List Name) (es : List Named) (rs : List Reduction) (n : Name) (e : Named) (r : Reduction) → length ns ≡ length es → length es ≡ length rs → reduced (ns ++ n ∷ []) (es ++ e ∷ []) (rs ++ r ∷ []) ≡ reduced ns es rs ++ reduced (n ∷ []) (e ∷ []) (r ∷ [])
reduced-more [] [] [] n e r h g = refl
reduced-more [] [] (q ∷ rs) n e r h g = absurd (omega (arith, g))
reduced-more [] (d ∷ es) rs n e r h g = absurd (omega (arith, h))
reduced-more (m ∷ ns) [] rs n e r h g = absurd (omega (arith, h))
reduced-more (m ∷ ns) (d ∷ es) [] n e r h g = absurd (omega (arith, g))
reduced-more (m ∷ ns) (d ∷ es) (q ∷ rs) n e r h g = ap (λ xs. reduced (m ∷ []) (d ∷ []) (q ∷ []) ++ xs) (reduced-more ns es rs n e r (omega (arith, h)) (omega (arith, g)))

abbrev named_as : Name → Tree → Named
named_as n t = (n, t)

-- one reduction more, taken apart
pub reduced_step : (f : Node → Tree) (es : List ExprIR) (k : ℕ) (e : ExprIR) (selectors selectors' : List ExprParts) (reductions reductions' : List Reduction) (s : ExprParts) (r : Reduction) (operand : Node) → slice_get es k ≡ Some e → length selectors ≡ k → length reductions ≡ k
    → reduced (expr_names (named_trees f (take k es))) (map expr_shown selectors) reductions ≡ named_trees f (take k es) → selectors' ≡ selectors ++ s ∷ [] → reductions' ≡ reductions ++ r ∷ [] → expr_shown s ≡ (name_in e.output_name, f operand)
    → reduction_tree r (f operand) ≡ f e.node → reduced (expr_names (named_trees f (take (k + 1) es))) (map expr_shown selectors') reductions' ≡ named_trees f (take (k + 1) es)
reduced_step f es k e selectors selectors' reductions reductions' s r operand at long many before more more' shown tree =
    ap (λ xs. reduced (expr_names (named_trees f xs)) (map expr_shown selectors') reductions') next
    ∙ (λ i. reduced (names i) (exprs i) (more' i))
    ∙ reduced-more (expr_names (named_trees f (take k es))) (map expr_shown selectors) reductions (name_in e.output_name) (expr_shown s) r
    (map-length (λ (n : Named). n.0) (named_trees f (take k es)) ∙ map-length (λ (x : ExprIR). (name_in x.output_name, f x.node)) (take k es) ∙ taken ∙ sym long ∙ sym (map-length expr_shown selectors))
    (map-length expr_shown selectors ∙ long ∙ sym many)
    ∙ (λ i. before i ++ last i ∷ [])
    ∙ sym (map-append (λ (x : ExprIR). (name_in x.output_name, f x.node)) (take k es) (e ∷ []))
    ∙ ap (named_trees f) (sym next)
  where
    next : take (k + 1) es ≡ take k es ++ e ∷ []
    next = take-one es k e at

    taken : length (take k es) ≡ k
    taken = let inside = within es k e at in take-count es k (omega (arith, inside))

    names : expr_names (named_trees f (take k es ++ e ∷ [])) ≡ expr_names (named_trees f (take k es)) ++ name_in e.output_name ∷ []
    names = ap expr_names (map-append (λ (x : ExprIR). (name_in x.output_name, f x.node)) (take k es) (e ∷ [])) ∙ map-append (λ (n : Named). n.0) (named_trees f (take k es)) (named_as (name_in e.output_name) (f e.node) ∷ [])

    exprs : map expr_shown selectors' ≡ map expr_shown selectors ++ expr_shown s ∷ []
    exprs = ap (map expr_shown) more ∙ map-append expr_shown selectors (s ∷ [])

    last : named_as (name_in e.output_name) (reduction_tree r (expr_shown s).1) ≡ named_as (name_in e.output_name) (f e.node)
    last =
        let same = ap (λ (n : Named). reduction_tree r n.1) shown ∙ tree in
        λ i. named_as (name_in e.output_name) (same i)

pub reduced_all : (f : Node → Tree) (es : List ExprIR) (k : ℕ) (selectors : List ExprParts) (reductions : List Reduction) → length es ≤ k → reduced (expr_names (named_trees f (take k es))) (map expr_shown selectors) reductions ≡ named_trees f (take k es)
    → reduced (expr_names (named_trees f es)) (map expr_shown selectors) reductions ≡ named_trees f es
reduced_all f es k selectors reductions l before =
    let P : List ExprIR → Type 0 = λ xs. reduced (expr_names (named_trees f xs)) (map expr_shown selectors) reductions ≡ named_trees f xs in subst P (take-all es k l) before

pub item_counted : {A : Type 0} (xs new : List A) (x : A) (k : ℕ) → length xs ≡ k → new ≡ xs ++ x ∷ [] → length new ≡ k + 1
item_counted xs new x k long more = ap length more ∙ length-append xs (x ∷ []) ∙ ap (λ n. n + 1) long
