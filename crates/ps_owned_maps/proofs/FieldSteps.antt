-- The fields of expressions, one after the other.
use Rattle.std.proofs.Common.{◌≡◌, ℕ, ◌+◌, ◌<◌, List, [], ◌∷◌, ◌++◌, length, get_or, take, refl, sym, ap, ◌∙◌, append_assoc}
use Rattle.std.specs.Prelude.{Option, Some, None}
use Rattle.std.proofs.lemmas.List.{map_push, take_more}
use Rattle.std.proofs.lemmas.Option.{same_Some}
use Rattle.pu_base.specs.declared.arena.Node.{Node}
use Rattle.ps_frame.specs.Tables.{Fields}
use Rattle.ps_frame.specs.Trees.{Tree}
use Rattle.ps_frame.specs.Typing.{kind_over}
use Rattle.ps_frame.specs.declared.value.DataType.{DataType}
use Rattle.ps_meaning.specs.Schemas.{both, fields_of}
use Rattle.ps_meaning.specs.Steps.{Name, Named, name_in, named_trees}
use Rattle.ps_meaning.specs.declared.options.ExprIR.{ExprIR}

step-push : (n : Name) (o : Option DataType) (p q : Option Fields) (fs : Fields) (f : Name × DataType) → both (λ k gs. (n, k) ∷ gs) o p ≡ Some fs → ((gs : Fields) → p ≡ Some gs → q ≡ Some (gs ++ f ∷ []))
    → both (λ k gs. (n, k) ∷ gs) o q ≡ Some (fs ++ f ∷ [])
step-push n None p q fs f e more = absurd (let h : None ≡ Some fs = e in cc)
step-push n (Some k) None q fs f e more = absurd (let h : None ≡ Some fs = e in cc)
step-push n (Some k) (Some gs) q fs f e more = ap (both (λ k gs. (n, k) ∷ gs) (Some k)) (more gs refl) ∙ ap (λ hs. Some (hs ++ f ∷ [])) (same_Some _ _ e)

-- one more expression with a kind
fields-push : (xs : List Named) (n : Name) (t : Tree) (s fs : Fields) (k : DataType) → fields_of xs s ≡ Some fs → kind_over s t ≡ Some k → fields_of (xs ++ (n, t) ∷ []) s ≡ Some (fs ++ (n, k) ∷ [])
fields-push [] n t s fs k e is = ap (λ o. both (λ j gs. (n, j) ∷ gs) o (Some [])) is ∙ ap (λ gs. Some (gs ++ (n, k) ∷ [])) (same_Some _ _ e)
fields-push (x ∷ xs) n t s fs k e is = step-push x.0 (kind_over s x.1) (fields_of xs s) (fields_of (xs ++ (n, t) ∷ []) s) fs (n, k) e (λ gs q. fields-push xs n t s gs k q is)

-- a loop over expressions, at one more
module _ (f : Node → Tree) (s : Fields) (xs : List ExprIR) where
  pub fields-more : (i : ℕ) (e : ExprIR) → i < length xs → e ≡ get_or xs i e → (old new : Fields) (name : Name) (k : DataType) → name ≡ name_in e.output_name → kind_over s (f e.node) ≡ Some k → new ≡ old ++ (name, k) ∷ []
      → (before : List Named) → fields_of (before ++ named_trees f (take i xs)) s ≡ Some old → fields_of (before ++ named_trees f (take (i + 1) xs)) s ≡ Some new
  fields-more i e within is old new name k named has_kind added before so_far =
      let first : take (i + 1) xs ≡ take i xs ++ e ∷ [] = take_more xs i e within ∙ ap (λ y. take i xs ++ y ∷ []) (sym is) in
      let trees : named_trees f (take (i + 1) xs) ≡ named_trees f (take i xs) ++ (name_in e.output_name, f e.node) ∷ [] = ap (named_trees f) first ∙ map_push (λ (x : ExprIR). (name_in x.output_name, f x.node)) (take i xs) e in
      ap (λ es. fields_of (before ++ es) s) trees
      ∙ ap (λ es. fields_of es s) (sym (append_assoc before (named_trees f (take i xs)) ((name_in e.output_name, f e.node) ∷ [])))
      ∙ fields-push (before ++ named_trees f (take i xs)) (name_in e.output_name) (f e.node) s old k so_far has_kind
      ∙ ap (λ (n : Name). Some (old ++ (n, k) ∷ [])) (sym named)
      ∙ ap Some (sym added)
