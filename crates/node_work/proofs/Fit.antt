-- The parameters of a node of a sound shape can be computed over what comes to it.
use Rattle.std.proofs.Common.{◌≡◌, ℕ, ◌+◌, Bool, true, false, List, [], ◌∷◌, length, Option, None, Some, refl, sym, ap, subst, ◌∙◌, inl, inr}
use Rattle.std.specs.Prelude.{IsTrue, ⊤, is_some, unwrap_or, ◌&&◌}
use Rattle.node_work.specs.Working.{AreOf, kind_behind}
use Rattle.ps_frame.specs.Functions.{Functions}
use Rattle.ps_frame.specs.Lawful.{empty_frame}
use Rattle.ps_frame.specs.Refusals.{has_kind_where, is_not}
use Rattle.ps_frame.specs.Tables.{Fields, Frame}
use Rattle.ps_frame.specs.Trees.{Tree, tree_at}
use Rattle.ps_frame.specs.Typing.{kind_over}
use Rattle.ps_frame.specs.declared.value.DataType.{DataType}
use Rattle.ps_frame.specs.declared.value.DataType.TheVariants as kind
use Rattle.ps_meaning.specs.Schemas.{output_schema}
use Rattle.ps_meaning.specs.Shape.{PhysicalKind, PhysicalNode, filter_node, independent_select, select_node, simple_projection, stream_map, with_row_index}
use Rattle.ps_meaning.specs.Sound.{BreaksNoRule, HasFitParameters, HasSchema, have_all_kinds, have_kinds_over, rules_of}
use Rattle.ps_meaning.specs.StepRefusals.{duplicate, schema_mismatch}
use Rattle.ps_meaning.specs.Steps.{Name, named_trees, step_exprs, user}
use Rattle.ps_pieces.specs.Operations.{IsFitFor, Suits, kind_computed, kind_in, step_in}
use Rattle.ps_pieces.specs.declared.parameters.Operation.{Operation}
use Rattle.ps_pieces.specs.declared.parameters.Operation.TheVariants as operation
use Rattle.ps_pieces.specs.declared.parameters.Parameters.{Parameters}
use Rattle.pu_base.specs.declared.arena.Node.{Node}

-- what a kind asks of a node, over inputs of these schemas
pub record Fits (F : Functions) (ss : List Fields) (s : Fields) (k : PhysicalKind) : Type 0 where
  pub schema : HasSchema F k ss s
  pub parameters : HasFitParameters F k
  pub kinds : IsTrue (have_kinds_over ss (rules_of k))
  pub rules : BreaksNoRule F (rules_of k) ss

-- a kind behind some rows that is no row index is the kind itself
abbrev IsNoIndex : PhysicalKind → Type 0
IsNoIndex (with_row_index name offset) = ⊥
IsNoIndex k = ⊤

itself : (before : ℕ) (k j : PhysicalKind) → j ≡ kind_behind before k → IsNoIndex j → k ≡ j
itself before (with_row_index name offset) j e plain = absurd (subst IsNoIndex e plain)
itself before k j e plain = sym e

-- of a row index the name stays
index_schema : (F : Functions) (ss : List Fields) (before : ℕ) (k : PhysicalKind) (name : Name) (offset : Option ℕ) (s : Fields) → with_row_index name offset ≡ kind_behind before k → HasSchema F k ss s → HasSchema F (with_row_index name offset) ss s
index_schema F ss before (with_row_index n o) name offset s e h = subst (λ (m : Name). HasSchema F (with_row_index m offset) ss s) (let same : n ≡ name = cc in same) h
index_schema F ss before k name offset s e h = absurd cc

-- a predicate that has a kind and breaks no rule is Boolean
boolean : (k : Option DataType) → is_some k ≡ true → ¬ IsTrue (has_kind_where (is_not kind.Boolean) k) → k ≡ Some kind.Boolean
boolean None some fits = absurd (let e : false ≡ true = some in cc)
boolean (Some kind.Boolean) some fits = refl
boolean (Some kind.Int64) some fits = absurd (fits refl)
boolean (Some kind.IdxSize) some fits = absurd (fits refl)
boolean (Some kind.String) some fits = absurd (fits refl)

first_of : (a b : Bool) → (a && b) ≡ true → a ≡ true
first_of true b e = refl
first_of false b e = absurd (let never : false ≡ true = e in cc)

-- a table comes from the one input, but to a select that reads none, which has an empty table
abbrev pub IsOver : Operation → Frame → List Fields → Type 0
IsOver (operation.IndependentSelect es) t ss = (t ≡ empty_frame []) × (ss ≡ [])
IsOver op t ss = ss ≡ t.schema ∷ []

-- what is asked of the table, by the operation
record FitsOver (F : Functions) (f : Node → Tree) (before : ℕ) (op : Operation) (s : Fields) (t : Frame) : Type 0 where
  schema : output_schema F (step_in f before op) (t.schema ∷ []) ≡ Some s
  kinds : IsTrue (have_all_kinds t.schema (step_exprs (step_in f before op)))
  suits : Suits F f op t

module _ (F : Functions) (f : Node → Tree) (before : ℕ) (k : PhysicalKind) (s : Fields) (t : Frame) (ss : List Fields) (h : Fits F ss s k) where
  -- the kind of the node itself, over the schema of the table
  of_kind : (j : PhysicalKind) → j ≡ kind_behind before k → IsNoIndex j → ss ≡ t.schema ∷ [] → Fits F (t.schema ∷ []) s j
  of_kind j e plain over = subst (λ (i : PhysicalKind). Fits F (t.schema ∷ []) s i) (itself before k j e plain) (subst (λ (zs : List Fields). Fits F zs s k) over h)

  fits_over : (op : Operation) → kind_in f before op ≡ kind_behind before k → IsOver op t ss → FitsOver F f before op s t
  fits_over (operation.Select es) e over = let g = of_kind (select_node (named_trees f es.items) false) e tt over in record { schema = g.schema; kinds = g.kinds; suits = tt }
  fits_over (operation.HStack es) e over =
      let g = of_kind (select_node (named_trees f es.items) true) e tt over in record { schema = g.schema; kinds = g.kinds; suits = λ name r. g.rules.3 (duplicate name) (inl r) }
  fits_over (operation.IndependentSelect es) e over =
      let g = subst (λ (i : PhysicalKind). Fits F [] s i) (itself before k (independent_select (named_trees f es.items)) e tt) (subst (λ (zs : List Fields). Fits F zs s k) over.1 h) in
      subst (λ (u : Frame). FitsOver F f before (operation.IndependentSelect es) s u) (sym over.0) (record { schema = g.schema; kinds = g.kinds; suits = refl })
  fits_over (operation.Filter p) e over =
      let g = of_kind (filter_node (f p.node)) e tt over in
      record { schema = g.schema; kinds = g.kinds; suits = boolean (kind_over t.schema (f p.node)) (first_of (is_some (kind_over t.schema (f p.node))) true g.kinds) (λ m. g.rules.3 schema_mismatch (inl m)) }
  fits_over (operation.SimpleProjection names) e over = let g = of_kind (simple_projection names.items) e tt over in record { schema = g.schema; kinds = refl; suits = tt }
  fits_over (operation.WithRowIndex name offset) e over =
      record {
        schema = index_schema F (t.schema ∷ []) before k name (Some (unwrap_or offset 0 + before)) s e (subst (λ (zs : List Fields). HasSchema F k zs s) over h.schema);
        kinds = refl;
        suits = tt;
      }
  fits_over (operation.Map n) e over = let g = of_kind (stream_map (user n)) e tt over in record { schema = g.schema; kinds = refl; suits = g.parameters.0 }

-- the parameters of the node's pieces
pub fit_for : (F : Functions) (p : PhysicalNode) (q : Parameters) (before : ℕ) (t : Frame) (ss : List Fields) → AreOf p q → Fits F ss p.schema p.kind → IsOver q.operation t ss → IsFitFor F q before t
fit_for F p q before t ss of h over =
    let g = fits_over F (tree_at q.exprs.items) before p.kind p.schema t ss h q.operation (of.kind before) over in record { schema = g.schema ∙ ap Some (sym of.schema); kinds = g.kinds; suits = g.suits }
