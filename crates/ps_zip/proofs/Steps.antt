-- Loops over inputs, and what a table and expressions give as inputs.
use Rattle.std.proofs.Common.{◌≡◌, ℕ, zero, suc, ◌+◌, ◌<◌, ◌≤◌, List, [], ◌∷◌, ◌++◌, length, get_or, take, refl, subst, sym, ◌∙◌, ap, arith, add-one}
use Rattle.std.proofs.Math.Seq.{take-length}
use Rattle.std.specs.Prelude.{map, IsSome, IsTrue}
use Rattle.std.specs.List.{AllByRecursion, AllZip}
use Rattle.std.proofs.lemmas.List.{map-append, take_more}
use Rattle.ps_expr_eval.proofs.Parts.{all_values}
use Rattle.ps_expr_eval.proofs.Zips.{map-map}
use Rattle.ps_expr_eval.specs.Evaluations.{AreTyped, EvaluateAll, Evaluates}
use Rattle.ps_expr_eval.specs.Held.{held_cell, held_values}
use Rattle.ps_expr_eval.specs.declared.computed.ComputedColumn.{ComputedColumn}
use Rattle.ps_frame.proofs.Lists.{and_both}
use Rattle.ps_frame.proofs.Rows.{columns_of-frame, values_at-rows_of}
use Rattle.ps_frame.specs.Causes.{Cell, faulty, value}
use Rattle.ps_frame.specs.Eval.{eval}
use Rattle.ps_frame.specs.Frames.{IsFrame, column_values, kinds_of}
use Rattle.ps_frame.specs.Lawful.{FitsFrame}
use Rattle.ps_frame.specs.Tables.{Fields, Frame, column_at, columns_of, rows_of, values_at, whole}
use Rattle.ps_frame.specs.Trees.{IsComplete, Tree, trees_of}
use Rattle.ps_frame.specs.Series.{Series, all_fit}
use Rattle.ps_frame.specs.Typing.{kind_over}
use Rattle.ps_frame.specs.Values.{fits_kind}
use Rattle.ps_frame.specs.Zip.{below}
use Rattle.ps_frame.specs.declared.value.Cell.TheVariants as held
use Rattle.ps_frame.specs.declared.value.DataType.{DataType}
use Rattle.ps_frame.specs.declared.value.DataType.TheVariants as kind
use Rattle.ps_frame.specs.declared.value.Value.{Value}
use Rattle.ps_meaning.proofs.EvalFits.{eval-fits}
use Rattle.ps_meaning.proofs.Fits.{CellFits, all-append}
use Rattle.ps_meaning.specs.Steps.{key_trees}
use Rattle.ps_meaning.specs.declared.options.ExprIR.{ExprIR}
use Rattle.pu_base.specs.declared.arena.Node.{Node}
use Rattle.ps_zip.specs.Inputs.{AddsExprs, FitsItsKind, HasFaultAt, Holds, IsExprInput, SomeFaultAt, kind_in}
use Rattle.ps_zip.specs.Zips.{AreTypedOver}
use Rattle.ps_zip.specs.declared.inputs.Input.{Input}
use Rattle.ps_zip.specs.declared.inputs.Input.TheVariants as input

-- ---- lists

-- one more item of which something holds
pub all-more : {A : Type 0} (P : A → Type 0) (xs : List A) (i : ℕ) (x : A) → i < length xs → x ≡ get_or xs i x → AllByRecursion P (take i xs) → P x → AllByRecursion P (take (i + 1) xs)
all-more P xs i x h at' a p = subst (λ ys. AllByRecursion P ys) (sym (take_more xs i x h ∙ ap (λ y. take i xs ++ y ∷ []) (sym at'))) (all-append P (take i xs) (x ∷ []) a (p, tt))

pub all-taken : {A : Type 0} (P : A → Type 0) (xs : List A) (i : ℕ) → length xs ≤ i → i ≤ length xs → AllByRecursion P (take i xs) → AllByRecursion P xs
all-taken P xs i g h a = let e : i ≡ length xs = omega arith in subst (λ ys. AllByRecursion P ys) (ap (λ n. take n xs) e ∙ take-length xs) a

pub zip-append : {A B : Type 0} (R : A → B → Type 0) (xs xs' : List A) (ys ys' : List B) → AllZip R xs ys → AllZip R xs' ys' → AllZip R (xs ++ xs') (ys ++ ys')
zip-append R [] xs' [] ys' a b = b
zip-append R [] xs' (y ∷ ys) ys' a b = absurd a
zip-append R (x ∷ xs) xs' [] ys' a b = absurd a
zip-append R (x ∷ xs) xs' (y ∷ ys) ys' a b = (a.0, zip-append R xs xs' ys ys' a.1 b)

pub zip-map : {A B C : Type 0} (R : A → C → Type 0) (f : B → C) (xs : List A) (ys : List B) → AllZip (λ y x. R x (f y)) ys xs → AllZip R xs (map f ys)
zip-map R f [] [] a = tt
zip-map R f [] (y ∷ ys) a = absurd a
zip-map R f (x ∷ xs) [] a = absurd a
zip-map R f (x ∷ xs) (y ∷ ys) a = (a.0, zip-map R f xs ys a.1)

-- ---- the columns of a table

held-whole : (vs : List Value) → map held_cell (map value vs) ≡ map held.Val vs
held-whole vs = map-map held_cell value vs

pub table-fits : (c : Series) → IsTrue (all_fit c.kind c.values) → FitsItsKind (input.Table c)
table-fits c h = rw (all_values c.values) h

module _ (f : Frame) (cs : List Series) (is : IsFrame f.schema cs (length f.rows)) (rows : f.rows ≡ rows_of (length f.rows) (column_values cs)) where
  column-holds : (n : ℕ) (d : Series) → n < length cs → Holds (input.Table (get_or cs n d)) (column_at n (whole f))
  column-holds n d h =
      let same : (get_or cs n d).values ≡ values_at n f.rows = sym (ap (values_at n) rows ∙ values_at-rows_of (length f.rows) n cs d is.heights h) in
      record { cells = ap (map held.Val) same ∙ sym (held-whole (values_at n f.rows)); ended = refl }

  columns-hold : (d : Series) (n : ℕ) → n ≤ length cs → AllZip Holds (map input.Table (take n cs)) (map (λ i. column_at i (whole f)) (below n))
  columns-hold d zero h = tt
  columns-hold d (suc n) h =
      let front = ap (λ m. take m cs) (sym (add-one n)) ∙ take_more cs n d (omega arith) in
      subst (λ ts. AllZip Holds (map input.Table ts) (map (λ i. column_at i (whole f)) (below n ++ n ∷ []))) (sym front)
      (subst (λ xs. AllZip Holds xs (map (λ i. column_at i (whole f)) (below n ++ n ∷ []))) (sym (map-append input.Table (take n cs) (get_or cs n d ∷ [])))
      (subst (λ ys. AllZip Holds (map input.Table (take n cs) ++ input.Table (get_or cs n d) ∷ []) ys) (sym (map-append (λ i. column_at i (whole f)) (below n) (n ∷ [])))
      (zip-append Holds (map input.Table (take n cs)) (input.Table (get_or cs n d) ∷ []) (map (λ i. column_at i (whole f)) (below n)) (column_at n (whole f) ∷ [])
      (columns-hold d n (omega arith)) (column-holds n d (omega arith), tt))))

  pub table-holds : AllZip Holds (map input.Table cs) (columns_of (whole f))
  table-holds =
      let d : Series = record { kind = kind.Int64; values = [] } in
      subst (λ ts. AllZip Holds (map input.Table ts) (columns_of (whole f))) (take-length cs)
      (subst (λ n. AllZip Holds (map input.Table (take (length cs) cs)) (map (λ i. column_at i (whole f)) (below n))) (columns_of-frame is) (columns-hold d (length cs) (omega arith)))

  pub table-kinds : map kind_in (map input.Table cs) ≡ kinds_of f.schema
  table-kinds = map-map kind_in input.Table cs ∙ is.kinds

-- one more column of a table
pub inputs-more : (cs : List Series) (i : ℕ) (c : Series) (old new : List Input) (x : Input) → i < length cs → c ≡ get_or cs i c → old ≡ map input.Table (take i cs) → AllByRecursion FitsItsKind old → x ≡ input.Table c → IsTrue (all_fit c.kind c.values) → new ≡ old ++ x ∷ []
    → (new ≡ map input.Table (take (i + 1) cs)) × AllByRecursion FitsItsKind new
inputs-more cs i c old new x h at' before fit is fits grown = (
  grown ∙ ap (λ xs. xs ++ x ∷ []) before ∙ ap (λ y. map input.Table (take i cs) ++ y ∷ []) is
      ∙ sym (ap (map input.Table) (take_more cs i c h ∙ ap (λ y. take i cs ++ y ∷ []) (sym at')) ∙ map-append input.Table (take i cs) (c ∷ [])),
  subst (AllByRecursion FitsItsKind) (sym grown) (all-append FitsItsKind old (x ∷ []) fit (subst FitsItsKind (sym is) (table-fits c fits), tt)),
)

-- ---- an expression

held-fit : (k : DataType) (cells : List Cell) → AllByRecursion (CellFits k) cells → IsTrue (all_fit k (held_values (map held_cell cells)))
held-fit k [] h = refl
held-fit k (value v ∷ cells) h = and_both (fits_kind k v) (all_fit k (held_values (map held_cell cells))) h.0 (held-fit k cells h.1)
held-fit k (faulty c cs ∷ cells) h = held-fit k cells h.1

pub computed-is : (f : Frame) (t : Tree) (p : ComputedColumn) → FitsFrame f → Evaluates f t p → IsExprInput f t (input.Computed p)
computed-is f t p fits e = record {
  holds = λ node. record { cells = (e.keeps node).cells; ended = (e.keeps node).ended };
  kind = e.kind;
  fits = subst (λ hs. IsTrue (all_fit p.dtype (held_values hs))) (sym (e.keeps 0).cells) (held-fit p.dtype (eval 0 (whole f) t).cells (eval-fits 0 (whole f) fits t p.dtype e.kind));
}

-- ---- several expressions

-- the numbers of expressions that have kinds
typed-all : (s : Fields) (f : Node → Tree) (es : List ExprIR) → AllByRecursion IsComplete (key_trees f es) → AllByRecursion (λ t. IsSome (kind_over s t)) (key_trees f es) → AreTyped s f (map (λ (e : ExprIR). e.node) es)
typed-all s f [] c k = tt
typed-all s f (e ∷ es) c k = (record { complete = c.0; kind = k.0 }, typed-all s f es c.1 k.1)

pub typed-nodes : (s : Fields) (f : Node → Tree) (es : List ExprIR) (ns : List Node) → ns ≡ map (λ (e : ExprIR). e.node) es → AreTypedOver s (key_trees f es) → AreTyped s f ns
typed-nodes s f es ns is h = subst (λ (xs : List Node). AreTyped s f xs) (sym is) (typed-all s f es h.0 h.1)

parts-are : (t : Frame) (f : Node → Tree) (es : List ExprIR) (ps : List ComputedColumn) → FitsFrame t → EvaluateAll t (trees_of f (map (λ (e : ExprIR). e.node) es)) ps → AllZip (IsExprInput t) (key_trees f es) (map input.Computed ps)
parts-are t f [] [] fits h = tt
parts-are t f [] (p ∷ ps) fits h = absurd h
parts-are t f (e ∷ es) [] fits h = absurd h
parts-are t f (e ∷ es) (p ∷ ps) fits h = (computed-is t (f e.node) p fits h.0, parts-are t f es ps fits h.1)

pub adds-parts : (t : Frame) (f : Node → Tree) (es : List ExprIR) (ns : List Node) (old new : List Input) (ps : List ComputedColumn) → ns ≡ map (λ (e : ExprIR). e.node) es → FitsFrame t → EvaluateAll t (trees_of f ns) ps → new ≡ old ++ map input.Computed ps
    → AddsExprs t (key_trees f es) old new
adds-parts t f es ns old new ps is fits h grown =
    (map input.Computed ps, grown, parts-are t f es ps fits (subst (λ (xs : List Node). EvaluateAll t (trees_of f xs) ps) is h))

-- ---- the columns of inputs

pub some-fault : (n : ℕ) (before after : List Input) (i : Input) (f : Rattle.ps_frame.specs.declared.value.DataFault.DataFault) → HasFaultAt n i f → SomeFaultAt n (before ++ i ∷ after) f
some-fault n [] after i f h = Rattle.std.proofs.Common.inl h
some-fault n (j ∷ before) after i f h = Rattle.std.proofs.Common.inr (some-fault n before after i f h)
