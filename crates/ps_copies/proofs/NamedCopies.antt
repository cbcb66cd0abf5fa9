-- Named expressions that are copied to the end of an arena.
use Rattle.std.proofs.Common.{◌≡◌, ℕ, zero, suc, ◌+◌, ◌<◌, List, [], ◌∷◌, ◌++◌, length, get_or, take, refl, sym, subst, ap, ◌∙◌, arith}
use Rattle.std.specs.Prelude.{Bool}
use Rattle.std.specs.List.{AllByRecursion}
use Rattle.std.proofs.lemmas.List.{map_push, take_more}
use Rattle.pu_base.specs.declared.arena.Node.{Node}
use Rattle.ps_frame.specs.Trees.{IsComplete, Tree}
use Rattle.ps_meaning.specs.Maps.{map_step}
use Rattle.ps_meaning.specs.Steps.{Cut, Step, exprs_of, group_step, key_trees, name_in, named_trees, sort_step, step_exprs}
use Rattle.ps_meaning.specs.declared.options.ExprIR.{ExprIR}
use Rattle.ps_meaning.specs.declared.options.OutputName.{OutputName}
use Rattle.ps_meaning.specs.declared.options.SortMultipleOptions.{SortMultipleOptions}
use Rattle.ps_meaning.specs.declared.map.MapKind.{MapKind}
use Rattle.ps_meaning.specs.declared.map.MapKind.TheVariants as kind

exprs-of-named : (f : Node → Tree) (es : List ExprIR) → exprs_of (named_trees f es) ≡ key_trees f es
exprs-of-named f [] = refl
exprs-of-named f (e ∷ es) = ap (λ ts. f e.node ∷ ts) (exprs-of-named f es)

-- what holds of two lists together holds of each
all-left : (P : Tree → Type 0) (xs ys : List Tree) → AllByRecursion P (xs ++ ys) → AllByRecursion P xs
all-left P [] ys h = tt
all-left P (x ∷ xs) ys h = (h.0, all-left P xs ys h.1)

all-right : (P : Tree → Type 0) (xs ys : List Tree) → AllByRecursion P (xs ++ ys) → AllByRecursion P ys
all-right P [] ys h = h
all-right P (x ∷ xs) ys h = all-right P xs ys h.1

-- one of several expressions is complete, and so are the first of them
pub complete-at : (h : Node → Tree) (xs : List ExprIR) (i : ℕ) (e : ExprIR) → i < length xs → e ≡ get_or xs i e → AllByRecursion IsComplete (key_trees h xs) → IsComplete (h e.node)
complete-at h [] i e within is c = absurd (omega arith)
complete-at h (x ∷ xs) zero e within is c = subst (λ (y : ExprIR). IsComplete (h y.node)) (sym is) c.0
complete-at h (x ∷ xs) (suc i) e within is c = complete-at h xs i e (omega arith) is c.1

front-complete : (h : Node → Tree) (i : ℕ) (xs : List ExprIR) → AllByRecursion IsComplete (key_trees h xs) → AllByRecursion IsComplete (key_trees h (take i xs))
front-complete h zero xs c = tt
front-complete h (suc i) [] c = tt
front-complete h (suc i) (x ∷ xs) c = (c.0, front-complete h i xs c.1)

-- the same named expressions are the same keys
same-keys : (g h : Node → Tree) (es xs : List ExprIR) → named_trees g es ≡ named_trees h xs → key_trees g es ≡ key_trees h xs
same-keys g h es xs e = sym (exprs-of-named g es) ∙ ap exprs_of e ∙ exprs-of-named h xs

-- f gives the trees that g gives, where these are complete
module _ (f g : Node → Tree) (same : (n : Node) → IsComplete (g n) → f n ≡ g n) where
  named-same : (es : List ExprIR) → AllByRecursion IsComplete (key_trees g es) → named_trees f es ≡ named_trees g es
  named-same [] c = refl
  named-same (e ∷ es) c = λ i. (name_in e.output_name, same e.node c.0 i) ∷ named-same es c.1 i

  -- copies that stand over one arena stand over the other
  named-carried : (h : Node → Tree) (es xs : List ExprIR) → AllByRecursion IsComplete (key_trees h xs) → named_trees g es ≡ named_trees h xs → named_trees f es ≡ named_trees h xs
  named-carried h es xs c e = named-same es (subst (λ ts. AllByRecursion IsComplete ts) (sym (same-keys g h es xs e)) c) ∙ e

  -- one more copy
  pub more-named : (h : Node → Tree) (es : List ExprIR) (n : Node) (name : OutputName) (xs : List ExprIR) (i : ℕ) (e : ExprIR) → i < length xs → e ≡ get_or xs i e → AllByRecursion IsComplete (key_trees h xs)
      → named_trees g es ≡ named_trees h (take i xs) → f n ≡ h e.node → name ≡ e.output_name → named_trees f (es ++ (record { node = n; output_name = name }) ∷ []) ≡ named_trees h (take (i + 1) xs)
  more-named h es n name xs i e within is c so_far tree named =
      map_push (λ (x : ExprIR). (name_in x.output_name, f x.node)) es (record { node = n; output_name = name })
      ∙ ap (λ ts. ts ++ (name_in name, f n) ∷ []) (named-carried h es (take i xs) (front-complete h i xs c) so_far)
      ∙ (λ j. named_trees h (take i xs) ++ (name_in (named j), tree j) ∷ [])
      ∙ sym (map_push (λ (x : ExprIR). (name_in x.output_name, h x.node)) (take i xs) e)
      ∙ ap (named_trees h) (sym (take_more xs i e within ∙ ap (λ y. take i xs ++ y ∷ []) (sym is)))

  -- a group-by whose keys were copied first
  pub group-copied : (h : Node → Tree) (k : MapKind) (keys aggs xs ys xs' ys' : List ExprIR) (maintain : Bool) (cut : Cut) → k ≡ kind.GroupBy xs ys maintain cut → xs' ≡ xs → ys' ≡ ys → AllByRecursion IsComplete (key_trees h xs')
      → named_trees g keys ≡ named_trees h xs' → named_trees f aggs ≡ named_trees h ys' → group_step f keys aggs maintain cut ≡ map_step h k
  group-copied h k keys aggs xs ys xs' ys' maintain cut is p q c left right =
      let ls : named_trees f keys ≡ named_trees h xs = named-carried h keys xs' c left ∙ ap (named_trees h) p in
      let rs : named_trees f aggs ≡ named_trees h ys = right ∙ ap (named_trees h) q in
      ap (λ ts. Step.group_by (record { keys = ts; aggregates = named_trees f aggs; maintain_order = maintain; cut = cut })) ls
      ∙ ap (λ ts. Step.group_by (record { keys = named_trees h xs; aggregates = ts; maintain_order = maintain; cut = cut })) rs
      ∙ ap (map_step h) (sym is)

pub sort-copied : (f h : Node → Tree) (k : MapKind) (es xs xs' : List ExprIR) (cut : Cut) (new old : SortMultipleOptions) → k ≡ kind.Sort xs cut old → xs' ≡ xs → new ≡ old → named_trees f es ≡ named_trees h xs' → sort_step f es cut new ≡ map_step h k
sort-copied f h k es xs xs' cut new old is p q e =
    ap (λ ts. Step.sort (record { keys = ts; descending = new.descending; nulls_last = new.nulls_last; cut = cut })) (same-keys f h es xs' e ∙ ap (key_trees h) p)
    ∙ ap (λ (o : SortMultipleOptions). sort_step h xs cut o) q ∙ ap (map_step h) (sym is)

-- the expressions that a map names are complete where those of its step are
module _ (h : Node → Tree) (k : MapKind) (whole : AllByRecursion IsComplete (step_exprs (map_step h k))) where
  pub select-keys : (xs xs' : List ExprIR) → k ≡ kind.Select xs → xs' ≡ xs → AllByRecursion IsComplete (key_trees h xs')
  select-keys xs xs' is p =
      subst (λ ts. AllByRecursion IsComplete ts) (exprs-of-named h xs ∙ ap (key_trees h) (sym p)) (subst (λ (m : MapKind). AllByRecursion IsComplete (step_exprs (map_step h m))) is whole)

  module _ (xs ys : List ExprIR) (maintain : Bool) (cut : Cut) (is : k ≡ kind.GroupBy xs ys maintain cut) where
    both-lists : AllByRecursion IsComplete (exprs_of (named_trees h xs) ++ exprs_of (named_trees h ys))
    both-lists = subst (λ (m : MapKind). AllByRecursion IsComplete (step_exprs (map_step h m))) is whole

    pub group-keys : (xs' : List ExprIR) → xs' ≡ xs → AllByRecursion IsComplete (key_trees h xs')
    group-keys xs' p =
        subst (λ ts. AllByRecursion IsComplete ts) (exprs-of-named h xs ∙ ap (key_trees h) (sym p)) (all-left IsComplete (exprs_of (named_trees h xs)) (exprs_of (named_trees h ys)) both-lists)

    pub group-aggs : (ys' : List ExprIR) → ys' ≡ ys → AllByRecursion IsComplete (key_trees h ys')
    group-aggs ys' p =
        subst (λ ts. AllByRecursion IsComplete ts) (exprs-of-named h ys ∙ ap (key_trees h) (sym p)) (all-right IsComplete (exprs_of (named_trees h xs)) (exprs_of (named_trees h ys)) both-lists)
