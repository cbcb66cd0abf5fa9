-- Expressions that are tested one by one.
use Rattle.std.proofs.Common.{◌≡◌, ◌≢◌, inl, inr, ℕ, zero, suc, ◌+◌, ◌≤◌, Bool, true, false, not, List, [], ◌∷◌, Some, length, drop, refl, ap, sym, subst, ◌∙◌, arith}
use Rattle.std.specs.Prelude.{◌&&◌, ◌||◌, slice_get}
use Rattle.std.specs.List.{AllByRecursion, list_all, list_any}
use Rattle.pu_base.specs.declared.arena.Node.{Node}
use Rattle.ps_frame.specs.Trees.{IsComplete, Tree}
use Rattle.ps_meaning.specs.StepRefusals.{FlagsMisfit, HasBadKeys}
use Rattle.ps_meaning.specs.Steps.{Cut, exprs_of, key_trees, named_trees, sort_step}
use Rattle.ps_meaning.specs.declared.options.ExprIR.{ExprIR}
use Rattle.ps_meaning.specs.declared.options.SortMultipleOptions.{SortMultipleOptions}

pub drop-item : {A : Type 0} (xs : List A) (k : ℕ) (x : A) → slice_get xs k ≡ Some x → drop k xs ≡ x ∷ drop (k + 1) xs
drop-item [] k x e = cc
drop-item (y ∷ xs) zero x e = let is : y ≡ x = cc in ap (λ z. z ∷ xs) is
drop-item (y ∷ xs) (suc k) x e =
    let next : suc (k + 1) ≡ suc k + 1 = omega arith in
    let P : ℕ → Type 0 = λ m. drop (suc k) (y ∷ xs) ≡ x ∷ drop m (y ∷ xs) in
    subst P next (drop-item xs k x e)

pub drop-end : {A : Type 0} (xs : List A) (k : ℕ) → length xs ≤ k → drop k xs ≡ []
drop-end [] zero h = refl
drop-end [] (suc k) h = refl
drop-end (x ∷ xs) zero h = absurd (omega (arith, h))
drop-end (x ∷ xs) (suc k) h = drop-end xs k (omega (arith, h))

module _ (p : Tree → Bool) (f : Node → Tree) (es : List ExprIR) where
  -- those from a place on decide whether all pass
  abbrev pub IsLeft : ℕ → Type 0
  IsLeft k = list_all p (key_trees f es) ≡ list_all p (key_trees f (drop k es))

  module _ (k : ℕ) (e : ExprIR) (at : slice_get es k ≡ Some e) (left : IsLeft k) where
    cut : list_all p (key_trees f es) ≡ (p (f e.node) && list_all p (key_trees f (drop (k + 1) es)))
    cut = left ∙ ap (λ xs. list_all p (key_trees f xs)) (drop-item es k e at)

    pub pass-next : p (f e.node) ≡ true → IsLeft (k + 1)
    pass-next holds = cut ∙ ap (λ b. b && list_all p (key_trees f (drop (k + 1) es))) holds

    pub pass-stop : p (f e.node) ≡ false → list_all p (key_trees f es) ≡ false
    pass-stop fails = cut ∙ ap (λ b. b && list_all p (key_trees f (drop (k + 1) es))) fails

  pub pass-end : (k : ℕ) → length es ≤ k → IsLeft k → list_all p (key_trees f es) ≡ true
  pass-end k l left = left ∙ ap (λ xs. list_all p (key_trees f xs)) (drop-end es k l)

-- what holds of the trees of expressions holds of each one's
pub tree-at : (P : Tree → Type 0) (f : Node → Tree) (es : List ExprIR) (k : ℕ) (e : ExprIR) → slice_get es k ≡ Some e → AllByRecursion P (key_trees f es) → P (f e.node)
tree-at P f [] k e at all = cc
tree-at P f (d ∷ es) zero e at all = let is : d ≡ e = cc in subst (λ (x : ExprIR). P (f x.node)) is all.0
tree-at P f (d ∷ es) (suc k) e at all = tree-at P f es k e at all.1

-- expressions without their names
pub exprs-named : (f : Node → Tree) (es : List ExprIR) → exprs_of (named_trees f es) ≡ key_trees f es
exprs-named f [] = refl
exprs-named f (e ∷ es) = ap (λ ts. f e.node ∷ ts) (exprs-named f es)

-- one reads its input where not all read none
pub some-reads : (p : Tree → Bool) (ts : List Tree) → list_all p ts ≡ false → list_any (λ t. not (p t)) ts ≡ true
some-reads p [] h = absurd (let clash : true ≡ false = h in cc)
some-reads p (t ∷ ts) h = by (p t) h (some-reads p ts)
  where
    by : (b : Bool) → (b && list_all p ts) ≡ false → (list_all p ts ≡ false → list_any (λ t. not (p t)) ts ≡ true) → (not b || list_any (λ t. not (p t)) ts) ≡ true
    by true h rest = rest h
    by false h rest = refl

pub as-named : (f : Node → Tree) (es : List ExprIR) → AllByRecursion IsComplete (key_trees f es) → AllByRecursion IsComplete (exprs_of (named_trees f es))
as-named f es h = subst (AllByRecursion IsComplete) (sym (exprs-named f es)) h

trees-count : (f : Node → Tree) (es : List ExprIR) → length (key_trees f es) ≡ length es
trees-count f [] = refl
trees-count f (e ∷ es) = ap suc (trees-count f es)

no-trees : (f : Node → Tree) (es : List ExprIR) → key_trees f es ≡ [] → es ≡ []
no-trees f [] h = refl
no-trees f (e ∷ es) h = cc

-- keys of a sort with flags that fit
pub sort-good : (f : Node → Tree) (es : List ExprIR) (part : Cut) (o : SortMultipleOptions) → es ≢ [] → ¬ FlagsMisfit o.descending (length es) → ¬ FlagsMisfit o.nulls_last (length es) → ¬ HasBadKeys (sort_step f es part o)
sort-good f es part o some d n (inl none) = some (no-trees f es none)
sort-good f es part o some d n (inr (inl bad)) = d (subst (FlagsMisfit o.descending) (trees-count f es) bad)
sort-good f es part o some d n (inr (inr bad)) = n (subst (FlagsMisfit o.nulls_last) (trees-count f es) bad)
