-- The names of keys that are columns, gathered one after another.
use Rattle.std.proofs.Common.{◌≡◌, ℕ, suc, ◌+◌, ◌<◌, List, ◌∷◌, length, get_or, drop, Bool, true, false, cond, refl, sym, subst, ◌∙◌, ap, add-one, drop-cons}
use Rattle.std.specs.Prelude.{◌||◌}
use Rattle.std.specs.List.{AllByRecursion}
use Rattle.std.specs.Str.{bytes_eq}
use Rattle.std.specs.Cmp.{nat_eq_equiv}
use Rattle.std.specs.Cmp.Lexicographic.{lists_equiv}
use Rattle.pu_base.specs.declared.arena.Node.{Node}
use Rattle.ps_frame.specs.Trees.{IsComplete, Tree}
use Rattle.ps_meaning.specs.Schemas.{bare_names, is_among}
use Rattle.ps_meaning.specs.Steps.{Name, key_trees}
use Rattle.ps_meaning.specs.declared.options.ExprIR.{ExprIR}

-- one more name in a set
gathered : (a b c : Bool) → (cond a true b || c) ≡ (b || (a || c))
gathered true true c = refl
gathered true false c = refl
gathered false b c = refl

module _ (f : Node → Tree) (all : List ExprIR) (i : ℕ) (e : ExprIR) (within : i < length all) (is : e ≡ get_or all i e) where
  pub bare-rest : drop i all ≡ e ∷ drop (i + 1) all
  bare-rest = drop-cons all i e within ∙ ap (λ x. x ∷ drop (suc i) all) (sym is) ∙ ap (λ j. e ∷ drop j all) (sym (add-one i))

  abbrev names-left : ℕ → List Name
  names-left j = bare_names (key_trees f (drop j all))

  pub later-complete : AllByRecursion IsComplete (key_trees f (drop i all)) → AllByRecursion IsComplete (key_trees f (drop (i + 1) all))
  later-complete h = (subst (λ es. AllByRecursion IsComplete (key_trees f es)) bare-rest h).1

  pub first-complete : AllByRecursion IsComplete (key_trees f (drop i all)) → IsComplete (f e.node)
  first-complete h = (subst (λ es. AllByRecursion IsComplete (key_trees f es)) bare-rest h).0

  -- a key that is a column
  pub bare-next : (m : Name) (had has : Name → Bool) (goal : Name → Bool) → f e.node ≡ Tree.column m → ((n : Name) → has n ≡ cond (bytes_eq m n) true (had n)) → ((n : Name) → (had n || is_among n (names-left i)) ≡ goal n) → (n : Name) → (has n || is_among n (names-left (i + 1))) ≡ goal n
  bare-next m had has goal column put far n =
      ap (λ b. b || is_among n (names-left (i + 1))) (put n) ∙ gathered (bytes_eq m n) (had n) (is_among n (names-left (i + 1))) ∙ ap (λ b. had n || (b || is_among n (names-left (i + 1)))) ((lists_equiv nat_eq_equiv).symm m n)
      ∙ ap (λ t. had n || is_among n (bare_names (t ∷ key_trees f (drop (i + 1) all)))) (sym column)
      ∙ ap (λ es. had n || is_among n (bare_names (key_trees f es))) (sym bare-rest)
      ∙ far n

  -- another key
  pub bare-skip : (had : Name → Bool) (goal : Name → Bool) → ((ts : List Tree) → bare_names (f e.node ∷ ts) ≡ bare_names ts) → ((n : Name) → (had n || is_among n (names-left i)) ≡ goal n) → (n : Name) → (had n || is_among n (names-left (i + 1))) ≡ goal n
  bare-skip had goal other far n =
      ap (λ ns. had n || is_among n ns) (sym (other (key_trees f (drop (i + 1) all)))) ∙ ap (λ es. had n || is_among n (bare_names (key_trees f es))) (sym bare-rest) ∙ far n
