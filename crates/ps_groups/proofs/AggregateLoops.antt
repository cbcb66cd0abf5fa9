-- Loops over aggregates.
use Rattle.std.proofs.Common.{◌≡◌, ℕ, zero, suc, ◌+◌, ◌-◌, ◌<◌, List, [], ◌∷◌, ◌++◌, length, get_or, map, take, drop, sym, ap, subst, ◌∙◌, inl, inr, arith}
use Rattle.std.specs.Prelude.{None, Some, option_map, slice_get}
use Rattle.std.specs.List.{AllByRecursion, AllZip}
use Rattle.std.proofs.lemmas.List.{get_or-map, length-map, map_more, map-append}
use Rattle.std.proofs.lemmas.Option.{same_Some}
use Rattle.pu_base.specs.declared.arena.Node.{Node}
use Rattle.ps_frame.specs.Frames.{HasKinds, kinds_of}
use Rattle.ps_frame.specs.Tables.{Fields, Frame}
use Rattle.ps_frame.specs.Trees.{Tree}
use Rattle.ps_frame.specs.Series.{Series}
use Rattle.ps_frame.specs.Typing.{kind_over}
use Rattle.ps_frame.specs.declared.refusal.PolarsError.{PolarsError}
use Rattle.ps_frame.specs.declared.value.DataType.{DataType}
use Rattle.ps_meaning.specs.Steps.{key_trees}
use Rattle.ps_meaning.specs.declared.options.ExprIR.{ExprIR}
use Rattle.ps_zip.proofs.Steps.{zip-append}
use Rattle.ps_groups.specs.Errors.{IsErrorAt}
use Rattle.ps_groups.specs.Grouped.{IsAggregate, IsFaultOfAny, IsFaultOver, last_fields}

-- what holds of each image
pub all-image : {A B : Type 0} (P : B → Type 0) (f : A → B) (xs : List A) (i : ℕ) (x : A) → i < length xs → x ≡ get_or xs i x → AllByRecursion P (map f xs) → P (f x)
all-image P f [] i x h at' a = absurd (omega arith)
all-image P f (y ∷ xs) zero x h at' a = subst (λ z. P (f z)) (sym at') a.0
all-image P f (y ∷ xs) (suc i) x h at' a = all-image P f xs i x (omega arith) at' a.1

-- the kind of a field behind some others
kind-behind : (from i : ℕ) (schema : Fields) (k : DataType) → option_map (λ (g : List ℕ × DataType). g.1) (slice_get schema (from + i)) ≡ Some k → get_or (map Some (kinds_of (drop from schema))) i None ≡ Some k
kind-behind zero i schema k e = here schema i (let z : 0 + i ≡ i = omega arith in ap (λ j. option_map (λ (g : List ℕ × DataType). g.1) (slice_get schema j)) (sym z) ∙ e)
  where
    here : (s : Fields) (i : ℕ) → option_map (λ (g : List ℕ × DataType). g.1) (slice_get s i) ≡ Some k → get_or (map Some (kinds_of s)) i None ≡ Some k
    here [] i e = cc
    here (g ∷ s) zero e = e
    here (g ∷ s) (suc i) e = here s i e
kind-behind (suc from) i [] k e = cc
kind-behind (suc from) i (g ∷ schema) k e =
    let z : suc from + i ≡ suc (from + i) = omega arith in
    kind-behind from i schema k (ap (λ j. option_map (λ (g : List ℕ × DataType). g.1) (slice_get (g ∷ schema) j)) (sym z) ∙ e)

module _ (f : Node → Tree) (aggs : List ExprIR) (schema : Fields) (i : ℕ) (agg : ExprIR) (k : DataType) (within : i < length aggs) (is : agg ≡ get_or aggs i agg)
    (there : option_map (λ (g : List ℕ × DataType). g.1) (slice_get schema (length schema - length aggs + i)) ≡ Some k) where
  abbrev trees : List Tree
  trees = key_trees f aggs

  tree-at : get_or trees i (f agg.node) ≡ f agg.node
  tree-at = get_or-map (λ (e : ExprIR). f e.node) aggs i agg (f agg.node) within ∙ ap (λ (e : ExprIR). f e.node) (sym is)

  -- an aggregate has the kind of its field
  pub kind-of-field : (s : Fields) → map (kind_over s) trees ≡ map Some (kinds_of (last_fields (length aggs) schema)) → kind_over s (f agg.node) ≡ Some k
  kind-of-field s kinds =
      ap (kind_over s) (sym tree-at)
      ∙ sym (get_or-map (kind_over s) trees i (f agg.node) None (let e = length-map aggs (λ (e : ExprIR). f e.node) in omega arith))
      ∙ ap (λ os. get_or os i None) kinds
      ∙ kind-behind (length schema - length aggs) i schema k there

  -- one aggregate more
  pub kinds-more : (c : Series) (cs new : List Series) → HasKinds (take i (last_fields (length aggs) schema)) cs → c.kind ≡ k → new ≡ cs ++ c ∷ [] → HasKinds (take (i + 1) (last_fields (length aggs) schema)) new
  kinds-more c cs new before kind grown =
      let own = last_fields (length aggs) schema in
      let kinds = kinds_of own in
      let some : get_or (map Some kinds) i None ≡ Some k = kind-behind (length schema - length aggs) i schema k there in
      ap (map (λ (d : Series). d.kind)) grown
      ∙ map-append (λ (d : Series). d.kind) cs (c ∷ [])
      ∙ ap (λ ks. ks ++ c.kind ∷ []) before
      ∙ ap (λ j. kinds_of (take i own) ++ j ∷ []) kind
      ∙ sym (field-more own i some)
    where
      field-more : (s : Fields) (i : ℕ) → get_or (map Some (kinds_of s)) i None ≡ Some k → kinds_of (take (i + 1) s) ≡ kinds_of (take i s) ++ k ∷ []
      field-more [] i e = cc
      field-more (g ∷ s) zero e = ap (λ j. j ∷ []) (same_Some g.1 k e)
      field-more (g ∷ s) (suc i) e = let z : suc i + 1 ≡ suc (i + 1) = omega arith in ap (λ n. kinds_of (take n (g ∷ s))) z ∙ ap (λ ks. g.1 ∷ ks) (field-more s i e)

  pub columns-more : (at : ℕ) (tables : List Frame) (c : Series) (cs new : List Series) → AllZip (IsAggregate at tables) (key_trees f (take i aggs)) cs → IsAggregate at tables (f agg.node) c → new ≡ cs ++ c ∷ []
      → AllZip (IsAggregate at tables) (key_trees f (take (i + 1) aggs)) new
  columns-more at tables c cs new before one grown =
      let more : key_trees f (take (i + 1) aggs) ≡ key_trees f (take i aggs) ++ f agg.node ∷ [] =
      map_more (λ (e : ExprIR). f e.node) aggs i agg within ∙ ap (λ (e : ExprIR). key_trees f (take i aggs) ++ f e.node ∷ []) (sym is) in
      subst (λ ts. AllZip (IsAggregate at tables) ts new) (sym more)
      (subst (AllZip (IsAggregate at tables) (key_trees f (take i aggs) ++ f agg.node ∷ [])) (sym grown)
      (zip-append (IsAggregate at tables) (key_trees f (take i aggs)) (f agg.node ∷ []) cs (c ∷ []) before (one, tt)))

  pub error-of-any : (at : ℕ) (tables : List Frame) (e : PolarsError) → IsErrorAt at (IsFaultOver at tables (f agg.node)) e → IsErrorAt at (IsFaultOfAny at tables trees) e
  error-of-any at tables e (inl memory) = inl memory
  error-of-any at tables e (inr (d, is_error, h)) = inr (d, is_error, (i, f agg.node, (let l = length-map aggs (λ (e : ExprIR). f e.node) in omega arith), tree-at, h))
