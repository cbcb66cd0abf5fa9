-- What an operation gives or fails by over a table, as a result of the piece that it shows.
use Rattle.std.proofs.Common.{◌≡◌, ◌≤◌, ℕ, List, [], ◌∷◌, length, refl, sym, ap, subst, ◌∙◌, inl, inr}
use Rattle.std.specs.Prelude.{◌⊎◌, Result, Ok, Err, IfOk, IfErr, unwrap_or}
use Rattle.std.specs.declared.alloc.Global.{Global}
use Rattle.std.specs.declared.sync.Arc.{Arc}
use Rattle.pu_base.specs.declared.arena.Node.{Node}
use Rattle.ps_frame.specs.Aggregates.{max_rows}
use Rattle.ps_frame.specs.Causes.{Cause}
use Rattle.ps_frame.specs.Functions.{Functions, IsLawful}
use Rattle.ps_frame.specs.Tables.{Fields, Frame, Row, Table, whole}
use Rattle.ps_frame.specs.Trees.{Tree, tree_at}
use Rattle.ps_frame.specs.declared.refusal.PolarsError.TheVariants as error
use Rattle.ps_frame.specs.declared.value.DataFault.{DataFault}
use Rattle.ps_frame.specs.declared.value.DataFault.TheVariants as fault
use Rattle.ps_meaning.proofs.SchemaLaw.{gives-schema}
use Rattle.ps_meaning.specs.Cases.{GivesBeforeCut}
use Rattle.ps_meaning.specs.Errors.{fault_error}
use Rattle.ps_meaning.specs.Nodes.{GivesFrame}
use Rattle.ps_meaning.specs.Schemas.{schema_or_empty}
use Rattle.ps_meaning.specs.Shape.{PhysicalCase, PhysicalNode}
use Rattle.ps_meaning.specs.Steps.{step_cut}
use Rattle.ps_meaning.specs.Cases.{cut_by}
use Rattle.ps_turns.specs.Results.{IsBrokenOver, IsMade, IsResult, IsResultOf}
use Rattle.ps_turns.specs.Tables.{whole_tables}
use Rattle.ps_turns.specs.Tasks.{Piece as WorldPiece, Task, bad, computes, gives_last, gives_part, good, hands_on, keeps, probes}
use Rattle.ps_pieces.proofs.Answering.{Answered, Computed, IsAnswerTo, answer-holds}
use Rattle.ps_pieces.specs.Computed.{Breaks, MayFail}
use Rattle.ps_pieces.specs.Operations.{IsFitFor, Suits, kind_in, rows_taken, schemas_taken, step_computed, step_in}
use Rattle.ps_pieces.specs.Shown.{IsFit, Shows, ShowsTask, answer_shown, origin_of, schema_given, table_given}
use Rattle.ps_pieces.specs.declared.answer.Answer.{Answer as GivenAnswer}
use Rattle.ps_pieces.specs.declared.answer.Answer.TheVariants as given_answer
use Rattle.ps_pieces.specs.declared.parameters.Operation.{Operation}
use Rattle.ps_pieces.specs.declared.parameters.Operation.TheVariants as operation
use Rattle.ps_pieces.specs.declared.parameters.Parameters.{Parameters}
use Rattle.ps_pieces.specs.declared.piece.Piece.{Piece as HeldPiece}
use Rattle.ps_pieces.specs.declared.piece.Task.TheVariants as held

module _ (F : Functions) (f : Node → Tree) (k n : ℕ) (s : Fields) (inputs : List (ℕ × ℕ)) (t : Frame) where
  -- the node of an operation, and the tables that its piece has
  abbrev node : Operation → PhysicalNode
  node o = record { kind = kind_in f k o; schema = s; origin = n; inputs = inputs }

  abbrev tables : Operation → List Table
  tables o = whole_tables (schemas_taken o t) (rows_taken o t)

  case-of : (o : Operation) → Suits F f o t → (g : Frame) → GivesFrame F n (step_in f k o) (t ∷ []) g → PhysicalCase F (node o) (tables o) (whole g)
  case-of (operation.Select es) h g c = c
  case-of (operation.HStack es) h g c = c
  case-of (operation.IndependentSelect es) h g c = subst (λ (u : Frame). GivesFrame F n (step_in f k (operation.IndependentSelect es)) (u ∷ []) g) h c
  case-of (operation.Filter e) h g c = c
  case-of (operation.SimpleProjection names) h g c = c
  case-of (operation.WithRowIndex name offset) h g c = c
  case-of (operation.Map m) h g c = c

  made-of : (o : Operation) → Suits F f o t → (g : Frame) → GivesFrame F n (step_in f k o) (t ∷ []) g → length g.rows ≤ max_rows → IsMade F (node o) (tables o) g.rows
  made-of o h g c few = (whole g, case-of o h g c, refl, refl, few)

  abbrev cause_at : DataFault → Cause
  cause_at x = record { fault = x; node = n }

  at-rows : (x : DataFault) → x ≡ fault.Rows → cause_at x ≡ cause_at fault.Rows
  at-rows x e = ap cause_at e

  broken-of : (o : Operation) → Suits F f o t → (x : DataFault) → Breaks F n (step_in f k o) t x → IsBrokenOver F (node o) (tables o) (record { fault = x; node = n })
  broken-of (operation.Select es) h x (U, before, inl c) = (U, before, inl c)
  broken-of (operation.Select es) h x (U, before, inr (many, e)) = (U, before, inr (many, at-rows x e))
  broken-of (operation.HStack es) h x (U, before, inl c) = (U, before, inl c)
  broken-of (operation.HStack es) h x (U, before, inr (many, e)) = (U, before, inr (many, at-rows x e))
  broken-of (operation.IndependentSelect es) h x (U, before, inl c) = (U, subst (λ (u : Frame). GivesBeforeCut F n (step_in f k (operation.IndependentSelect es)) (whole u ∷ []) U) h before, inl c)
  broken-of (operation.IndependentSelect es) h x (U, before, inr (many, e)) = (U, subst (λ (u : Frame). GivesBeforeCut F n (step_in f k (operation.IndependentSelect es)) (whole u ∷ []) U) h before, inr (many, at-rows x e))
  broken-of (operation.Filter e) h x (U, before, inl c) = (U, before, inl c)
  broken-of (operation.Filter e) h x (U, before, inr (many, q)) = (U, before, inr (many, at-rows x q))
  broken-of (operation.SimpleProjection names) h x (U, before, inl c) = (U, before, inl c)
  broken-of (operation.SimpleProjection names) h x (U, before, inr (many, e)) = (U, before, inr (many, at-rows x e))
  broken-of (operation.WithRowIndex name offset) h x (U, before, inl c) = (U, before, inl c)
  broken-of (operation.WithRowIndex name offset) h x (U, before, inr (many, e)) = (U, before, inr (many, at-rows x e))
  broken-of (operation.Map m) h x (U, before, inl c) = (U, before, inl c)
  broken-of (operation.Map m) h x (U, before, inr (many, e)) = (U, before, inr (many, at-rows x e))

  -- operations have no slice of their own
  uncut : (o : Operation) (U : Table) → cut_by (step_cut (step_in f k o)) U ≡ U
  uncut (operation.Select es) U = refl
  uncut (operation.HStack es) U = refl
  uncut (operation.IndependentSelect es) U = refl
  uncut (operation.Filter e) U = refl
  uncut (operation.SimpleProjection names) U = refl
  uncut (operation.WithRowIndex name offset) U = refl
  uncut (operation.Map m) U = refl

-- what is given has the schema of the parameters
module _ (F : Functions) (lawful : IsLawful F) (p : Parameters) (k : ℕ) (t : Frame) (fit : IsFitFor F p k t) where
  before-schema : (U : Table) → GivesBeforeCut F p.origin.0 (step_computed p k) (whole t ∷ []) U → U.schema ≡ schema_or_empty F (step_computed p k) (t.schema ∷ [])
  before-schema U (inl g) = gives-schema F lawful p.origin.0 (step_computed p k) (whole t ∷ []) U g
  before-schema U (inr (V, g, lost, is)) = ap (λ (T : Table). T.schema) is ∙ gives-schema F lawful p.origin.0 (step_computed p k) (whole t ∷ []) V g

  pub given-schema : (g : Frame) → GivesFrame F p.origin.0 (step_computed p k) (t ∷ []) g → g.schema ≡ p.schema
  given-schema g (U, before, is) =
      ap (λ (T : Table). T.schema) (is ∙ uncut F (tree_at p.exprs.items) k p.origin.0 p.schema [] t p.operation U)
      ∙ before-schema U before ∙ ap (λ x. unwrap_or x []) fit.schema

-- Over a piece of the world that is shown: its node is that of the operation, but for what no result looks at.
module _ (F : Functions) (q : Arc Parameters Global) (k : ℕ) (t : Frame) (fit : IsFitFor F q.value k t) (i : ℕ) (ss : List Fields) (rows : List (List Row)) where
  abbrev its_node : (s : Fields) (inputs : List (ℕ × ℕ)) → PhysicalNode
  its_node s inputs = node F (tree_at q.value.exprs.items) k q.value.origin.0 s inputs t q.value.operation

  -- what holds of the node of the operation over its tables holds of the shown one over its own
  over-shown : (P : PhysicalNode → List Table → Type 0) (p : PhysicalNode) → ShowsTask (computes p) ss rows (held.Computes q k t) → P (its_node p.schema p.inputs) (whole_tables (schemas_taken q.value.operation t) (rows_taken q.value.operation t)) → P p (whole_tables ss rows)
  over-shown P p (kind, origin, schemas, tables) h =
      let same : its_node p.schema p.inputs ≡ p = λ j. record { kind = sym kind j; schema = p.schema; origin = sym origin j; inputs = p.inputs } in
      let over : whole_tables (schemas_taken q.value.operation t) (rows_taken q.value.operation t) ≡ whole_tables ss rows = λ j. whole_tables (sym schemas j) (sym tables j) in
      subst (λ ts. P p ts) over (subst (λ r. P r (whole_tables (schemas_taken q.value.operation t) (rows_taken q.value.operation t))) same h)

  pub rows-result : (task : Task) → ShowsTask task ss rows (held.Computes q k t) → (g : Frame) → GivesFrame F q.value.origin.0 (step_computed q.value k) (t ∷ []) g → length g.rows ≤ max_rows → IsResultOf F task i (whole_tables ss rows) rows (good g.rows)
  rows-result hands_on h g c few = absurd h
  rows-result (computes p) h g c few = over-shown (λ r ts. IsMade F r ts g.rows) p h (made-of F (tree_at q.value.exprs.items) k q.value.origin.0 p.schema p.inputs t q.value.operation fit.suits g c few)
  rows-result (keeps p) h g c few = absurd h
  rows-result (gives_part p keys) h g c few = absurd h
  rows-result (probes p j) h g c few = absurd h
  rows-result (gives_last p j) h g c few = absurd h

  pub fault-result : (task : Task) → ShowsTask task ss rows (held.Computes q k t) → (x : DataFault) → Breaks F q.value.origin.0 (step_computed q.value k) t x → IsResultOf F task i (whole_tables ss rows) rows (bad (record { fault = x; node = q.value.origin.0 }))
  fault-result hands_on h x b = absurd h
  fault-result (computes p) h x b = over-shown (λ r ts. IsBrokenOver F r ts (record { fault = x; node = q.value.origin.0 })) p h (broken-of F (tree_at q.value.exprs.items) k q.value.origin.0 p.schema p.inputs t q.value.operation fit.suits x b)
  fault-result (keeps p) h x b = absurd h
  fault-result (gives_part p keys) h x b = absurd h
  fault-result (probes p j) h x b = absurd h
  fault-result (gives_last p j) h x b = absurd h

-- rows that are handed on
pub handed-result : (F : Functions) (i : ℕ) (ss : List Fields) (rows : List (List Row)) (t : Frame) (task : Task) → ShowsTask task ss rows (held.HandsOn t) → IsResultOf F task i (whole_tables ss rows) rows (good t.rows)
handed-result F i ss rows t hands_on h = h
handed-result F i ss rows t (computes p) h = absurd h
handed-result F i ss rows t (keeps p) h = absurd h
handed-result F i ss rows t (gives_part p keys) h = absurd h
handed-result F i ss rows t (probes p j) h = absurd h
handed-result F i ss rows t (gives_last p j) h = absurd h

-- A piece that is computed, by what computing its parameters gave or failed by.
module _ (F : Functions) (lawful : IsLawful F) (piece : HeldPiece) (q : Arc Parameters Global) (k : ℕ) (t : Frame) (is : piece.task ≡ held.Computes q k t) (fits : IsFit F piece.task) (p : Parameters) (read : p ≡ q.value)
    (r : Computed) (table : IfOk r (λ f. GivesFrame F p.origin.0 (step_computed p k) (t ∷ []) f)) (fails : IfErr r (λ e. MayFail F p.origin.0 (step_computed p k) t e)) (answer : Answered) (answers : IsAnswerTo r answer) (few : IfOk r (λ f. length f.rows ≤ max_rows)) where
  fit : IsFitFor F q.value k t
  fit = subst (IsFit F) is fits

  given : IfOk r (λ f. GivesFrame F q.value.origin.0 (step_computed q.value k) (t ∷ []) f)
  given = subst (λ (p : Parameters). IfOk r (λ f. GivesFrame F p.origin.0 (step_computed p k) (t ∷ []) f)) read table

  failed : IfErr r (λ e. MayFail F q.value.origin.0 (step_computed q.value k) t e)
  failed = subst (λ (p : Parameters). IfErr r (λ e. MayFail F p.origin.0 (step_computed p k) t e)) read fails

  abbrev IsResultShown : Result GivenAnswer DataFault → Type 0
  IsResultShown a = (w : WorldPiece) → Shows w piece → IsResult F w (answer_shown (origin_of piece.task) a)

  abbrev HasSchema : Result GivenAnswer DataFault → Type 0
  HasSchema a = IfOk a (λ (b : GivenAnswer). (table_given b).schema ≡ schema_given piece.task)

  shown : (w : WorldPiece) → Shows w piece → ShowsTask w.task w.schemas w.tables (held.Computes q k t)
  shown w h = subst (ShowsTask w.task w.schemas w.tables) is h.task

  rows-shown : (r : Computed) → IfOk r (λ f. GivesFrame F q.value.origin.0 (step_computed q.value k) (t ∷ []) f) → IfOk r (λ f. length f.rows ≤ max_rows) → IfOk r (λ f. IsResultShown (Ok (given_answer.Rows f)))
  rows-shown (Ok f) c few = λ w h. rows-result F q k t fit w.input w.schemas w.tables w.task (shown w h) f c few
  rows-shown (Err e) c few = tt

  fault-shown : (r : Computed) → IfErr r (λ e. MayFail F q.value.origin.0 (step_computed q.value k) t e) → IfErr r (λ e. (e ≡ error.OutOfMemory) ⊎ ((x : DataFault) × (e ≡ fault_error q.value.origin.0 x) × IsResultShown (Err x)))
  fault-shown (Ok f) h = tt
  fault-shown (Err e) (inl memory) = inl memory
  fault-shown (Err e) (inr (x, same, breaks)) =
      inr (x, same, λ w h. subst (λ (n : ℕ). IsResult F w (bad (record { fault = x; node = n }))) (sym (ap origin_of is)) (fault-result F q k t fit w.input w.schemas w.tables w.task (shown w h) x breaks))

  pub computed-result : IfOk answer IsResultShown
  computed-result = answer-holds q.value.origin.0 IsResultShown answer r answers (rows-shown r given few) (fault-shown r failed)

  schema-kept : (r : Computed) → IfOk r (λ f. GivesFrame F q.value.origin.0 (step_computed q.value k) (t ∷ []) f) → IfOk r (λ f. HasSchema (Ok (given_answer.Rows f)))
  schema-kept (Ok f) c = given-schema F lawful q.value k t fit f c ∙ sym (ap schema_given is)
  schema-kept (Err e) c = tt

  fault-none : (r : Computed) → IfErr r (λ e. MayFail F q.value.origin.0 (step_computed q.value k) t e) → IfErr r (λ e. (e ≡ error.OutOfMemory) ⊎ ((x : DataFault) × (e ≡ fault_error q.value.origin.0 x) × HasSchema (Err x)))
  fault-none (Ok f) h = tt
  fault-none (Err e) (inl memory) = inl memory
  fault-none (Err e) (inr (x, same, breaks)) = inr (x, same, tt)

  pub computed-schema : IfOk answer HasSchema
  computed-schema = answer-holds q.value.origin.0 HasSchema answer r answers (schema-kept r given) (fault-none r failed)
