-- Nodes that give exactly one table, computed part by part, go piece by piece; a simple projection does.
use Rattle.std.proofs.Common.{◌≡◌, ℕ, ◌+◌, List, [], ◌∷◌, ◌++◌, length, refl, sym, ap, subst, ◌∙◌, inl, inr}
use Rattle.std.proofs.lemmas.List.{map-append}
use Rattle.std.specs.Prelude.{◌≢◌, ◌⊎◌, Some, unwrap_or}
use Rattle.ps_frame.specs.Causes.{Cause}
use Rattle.ps_frame.specs.Functions.{Functions}
use Rattle.ps_frame.specs.Tables.{Fields, Row, Table, no_rows}
use Rattle.ps_meaning.specs.Cases.{projected}
use Rattle.ps_meaning.specs.Distinct.{picked, places_in}
use Rattle.ps_meaning.specs.Schemas.{output_schema, schema_or_empty}
use Rattle.ps_meaning.specs.Shape.{PhysicalCase, PhysicalKind, PhysicalNode, simple_projection}
use Rattle.ps_meaning.specs.Steps.{Name, project}
use Rattle.ps_world.specs.Booking.{CaseAfter, GoesOn, GivesNoMore}
use Rattle.ps_world.specs.Passing.{in_front, GoesPiecewise}
use Rattle.passing_laws.proofs.ZipPieces.{table_with}

abbrev no_causes : List Cause
no_causes = []

-- where no causes can be lost, only the table itself is left
pub gives-it : (T : Table) (U : Table) → ((U ≡ T) ⊎ ((V : Table) × (V ≡ T) × (no_causes ≢ []) × (U ≡ no_rows V.schema []))) → U ≡ T
gives-it T U (inl e) = e
gives-it T U (inr (V, g, lost, e)) = absurd (lost refl)

-- a table computed over rows that come behind so many, and what ends them
pub record GoesByFront (o : Fields) (g : (before : ℕ) → List Row → List Cause → Table) : Type 0 where
  pub schema : (k : ℕ) (rows : List Row) (causes : List Cause) → (g k rows causes).schema ≡ o
  pub none : (k : ℕ) → ((g k [] []).broken ≡ []) × ((g k [] []).rows ≡ [])
  pub front : (k : ℕ) (a rows : List Row) (causes : List Cause) → (g k a []).broken ≡ [] → in_front (g k a []).rows (g (k + length a) rows causes) ≡ g k (a ++ rows) causes

module _ (F : Functions) (p : PhysicalNode) (s : Fields) (g : (before : ℕ) → List Row → List Cause → Table) (by_front : GoesByFront p.schema g) where
  -- a case that is this table and no other
  pub record IsExactly (Case : ℕ → Table → Table → Type 0) : Type 0 where
    pub into : (k : ℕ) (rows : List Row) (causes : List Cause) (U : Table) → Case k (table_with s rows causes) U → U ≡ g k rows causes
    pub back : (k : ℕ) (rows : List Row) (causes : List Cause) → Case k (table_with s rows causes) (g k rows causes)

  module _ (Case : ℕ → Table → Table → Type 0) (is : IsExactly Case) where
    pub exact-total : (k : ℕ) (T : Table) → T.schema ≡ s → (U : Table) × Case k T U × (U.schema ≡ p.schema)
    exact-total k T e =
        let same : table_with s T.rows T.broken ≡ T = λ i. table_with (sym e i) T.rows T.broken in
        (g k T.rows T.broken, subst (λ t. Case k t (g k T.rows T.broken)) same (is.back k T.rows T.broken), by_front.schema k T.rows T.broken)

    pub exact-schemas : (k : ℕ) (T U : Table) → T.schema ≡ s → Case k T U → U.schema ≡ p.schema
    exact-schemas k T U e c =
        let same : table_with s T.rows T.broken ≡ T = λ i. table_with (sym e i) T.rows T.broken in
        ap (λ (t : Table). t.schema) (is.into k T.rows T.broken U (subst (λ t. Case k t U) (sym same) c)) ∙ by_front.schema k T.rows T.broken

    pub exact-none : (k : ℕ) → (U : Table) × Case k (table_with s [] []) U × (U.broken ≡ []) × (U.schema ≡ p.schema) × (U.rows ≡ [])
    exact-none k = let n = by_front.none k in (g k [] [], is.back k [] [], n.0, by_front.schema k [] [], n.1)

    pub exact-front : (k : ℕ) (a b : List Row) (R V : Table) → R.schema ≡ s → ((U : Table) × Case k (table_with s a []) U × (U.broken ≡ []) × (U.schema ≡ p.schema) × (U.rows ≡ b)) → Case (k + length a) R V → Case k (in_front a R) (in_front b V)
    exact-front k a b R V e (U, c, w, m, q) d =
        let same : table_with s R.rows R.broken ≡ R = λ i. table_with (sym e i) R.rows R.broken in
        let u : U ≡ g k a [] = is.into k a [] U c in
        let v : V ≡ g (k + length a) R.rows R.broken = is.into (k + length a) R.rows R.broken V (subst (λ t. Case (k + length a) t V) (sym same) d) in
        let there : in_front b V ≡ g k (a ++ R.rows) R.broken = (λ i. in_front ((sym q ∙ ap (λ (t : Table). t.rows) u) i) (v i)) ∙ by_front.front k a R.rows R.broken (ap (λ (t : Table). t.broken) (sym u) ∙ w) in
        subst (λ t. Case k (in_front a t) (in_front b V)) same (subst (Case k (in_front a (table_with s R.rows R.broken))) (sym there) (is.back k (a ++ R.rows) R.broken))

  pub exact-goes : IsExactly (λ k T U. PhysicalCase F p (T ∷ []) U) → GoesPiecewise F p s
  exact-goes is =
      let case : ℕ → Table → Table → Type 0 = λ k T U. PhysicalCase F p (T ∷ []) U in
      record {
        schemas = exact-schemas case is 0;
        total = exact-total case is 0;
        over_none = exact-none case is 0;
        over_front = λ a b R V e v c d. exact-front case is 0 a b R V e c d;
      }

  exact-full : ((k : ℕ) (rows : List Row) (causes : List Cause) → GivesNoMore p.kind k → ((g k rows causes).broken ≡ []) × ((g k rows causes).rows ≡ [])) → IsExactly (CaseAfter F p p.kind) → (k : ℕ) (T : Table) → T.schema ≡ s → GivesNoMore p.kind k
      → (U : Table) × CaseAfter F p p.kind k T U × (U.broken ≡ []) × (U.schema ≡ p.schema) × (U.rows ≡ [])
  exact-full full is k T e h =
      let n = full k T.rows T.broken h in
      let same : table_with s T.rows T.broken ≡ T = λ i. table_with (sym e i) T.rows T.broken in
      (g k T.rows T.broken, subst (λ t. CaseAfter F p p.kind k t (g k T.rows T.broken)) same (is.back k T.rows T.broken), n.0, by_front.schema k T.rows T.broken, n.1)

  pub exact-on : ((T U : Table) → T.schema ≡ s → CaseAfter F p p.kind 0 T U → PhysicalCase F p (T ∷ []) U) → IsExactly (CaseAfter F p p.kind)
      → ((k : ℕ) (rows : List Row) (causes : List Cause) → GivesNoMore p.kind k → ((g k rows causes).broken ≡ []) × ((g k rows causes).rows ≡ [])) → GoesOn F p s
  exact-on starts is full =
      record {
        schemas = exact-schemas (CaseAfter F p p.kind) is;
        starts = starts;
        total = exact-total (CaseAfter F p p.kind) is;
        over_none = exact-none (CaseAfter F p p.kind) is;
        over_front = λ k a b R V e v c d. exact-front (CaseAfter F p p.kind) is k a b R V e c d;
        over_full = exact-full full is;
      }

projects : (F : Functions) (p : PhysicalNode) (s : Fields) (ns : List Name) → output_schema F (project ns) (s ∷ []) ≡ Some p.schema → GoesPiecewise F (record p { kind = simple_projection ns }) s
projects F p s ns same =
    exact-goes F (record p { kind = simple_projection ns }) s (λ k rows causes. projected ns o (table_with s rows causes))
    (record {
      schema = λ k rows causes. ap (λ o. unwrap_or o []) same;
      none = λ k. (refl, refl);
      front = λ k a rows causes w i. table_with o (sym (map-append (picked (places_in ns s)) a rows) i) causes;
    })
    (record {
      into = λ k rows causes U c. c.2 ∙ gives-it (projected ns o (table_with s rows causes)) c.0 c.1;
      back = λ k rows causes. (projected ns o (table_with s rows causes), inl refl, refl);
    })
  where
    o : Fields
    o = schema_or_empty F (project ns) (s ∷ [])

pub project-goes : (F : Functions) (p : PhysicalNode) (s : Fields) (ns : List Name) → p.kind ≡ simple_projection ns → output_schema F (project ns) (s ∷ []) ≡ Some p.schema → GoesPiecewise F p s
project-goes F p s ns is same = subst (λ (kd : PhysicalKind). GoesPiecewise F (record p { kind = kd }) s) (sym is) (projects F p s ns same)
