-- The stream with some columns: itself, or a projection of it.
use Rattle.std.proofs.Common.{◌≡◌, ◌<◌, ◌⊎◌, ℕ, Bool, true, false, cond, List, [], ◌∷◌, ◌++◌, length, Some, refl, sym, ap, subst, ◌∙◌, inl, inr, arith}
use Rattle.std.proofs.lemmas.List.{length-map}
use Rattle.std.proofs.lemmas.Option.{same_Some}
use Rattle.std.specs.Prelude.{Contains, map, not, unwrap_or, ◌&&◌}
use Rattle.std.specs.List.{AllByRecursion}
use Rattle.ps_frame.specs.Aggregates.{max_rows}
use Rattle.ps_frame.specs.Causes.{Cause, is_empty}
use Rattle.ps_frame.specs.Frames.{has_distinct_names, has_name}
use Rattle.ps_frame.specs.Functions.{Functions}
use Rattle.ps_frame.specs.Tables.{Fields, Table}
use Rattle.ps_frame.specs.declared.value.Value.{Value}
use Rattle.ps_meaning.specs.Cases.{Case, GivesBeforeCut, IsCaseBrokenBy, out_schema, projected}
use Rattle.ps_meaning.specs.Distinct.{picked, places_in}
use Rattle.ps_meaning.specs.Meaning.{IsLargeCase}
use Rattle.ps_meaning.specs.Schemas.{is_among, named_fields, names_of}
use Rattle.ps_meaning.specs.Shape.{IsPhysicalChoice, PhysicalNode, simple_projection}
use Rattle.ps_meaning.specs.Steps.{Name, project}
use Rattle.ps_rules.specs.Slots.{Made, State, Stream, projection, same_names, schema_at, with_columns}
use Rattle.ps_shares.specs.Kept.{HasNoOther}
use Rattle.ps_shares.proofs.Projected.{named_as}
use Rattle.step_keeps.specs.Kept.{SomeIsLarge}
use Rattle.step_keeps.proofs.One.{last_there, plain_means}
use Rattle.step_keeps.proofs.OwnColumns.{all_fields, own_table, same_names_are}
use Rattle.keyed_calls.proofs.Told.{Adds, IsFed, Tells, adds_node, adds_none, tells_none, tells_step}

-- names that differ, differ in any schema
pub distinct_by_names : (s f : Fields) → names_of s ≡ names_of f → has_distinct_names s ≡ has_distinct_names f
distinct_by_names [] [] e = refl
distinct_by_names [] (y ∷ f) e = cc
distinct_by_names (x ∷ s) [] e = cc
distinct_by_names (x ∷ s) (y ∷ f) e =
    let w : x.0 ∷ names_of s ≡ y.0 ∷ names_of f = e in
    let first : x.0 ≡ y.0 = cc in
    let rest : names_of s ≡ names_of f = cc in
    let same : has_name x.0 s ≡ has_name y.0 f = sym (named_as x.0 s) ∙ (λ i. is_among (first i) (rest i)) ∙ named_as y.0 f in
    let more = distinct_by_names s f rest in
    λ i. not (same i) && more i

module _ (F : Functions) (at : ℕ) (ns : List Name) (i : Stream) (s : State) (inside : i.0 < length s.nodes) where
  abbrev made : Made
  made = with_columns at ns i s

  abbrev node : PhysicalNode
  node = record { kind = simple_projection ns; schema = unwrap_or (named_fields ns (schema_at s.nodes i)) []; origin = at; inputs = i ∷ [] }

  abbrev by_test : Bool → Made
  by_test b = cond {A = Made} b (record { state = s; stream = i }) (projection at ns i s)

  -- the nodes
  pub record Projects (m : Made) : Type 0 where
    pub adds : Adds at s.nodes (i ∷ []) m.state.nodes
    pub names : m.state.names ≡ s.names
    pub there : m.stream.0 < length m.state.nodes
    pub fed : IsFed s.nodes (i ∷ []) m.stream

  pub projects : Projects made
  projects = by (same_names ns (names_of (schema_at s.nodes i)))
    where
      by : (b : Bool) → Projects (by_test b)
      by true = record { adds = adds_none at s.nodes (i ∷ []); names = refl; there = inside; fed = inr (0, omega arith, refl) }
      by false =
          record {
            adds = adds_node at s.nodes s.nodes (i ∷ []) (adds_none at s.nodes (i ∷ [])) node refl (λ j h. inr h);
            names = refl;
            there = last_there s.nodes node;
            fed = inl (omega arith);
          }

  -- what it means: the named columns of the table
  module _ (tables : ℕ → Table) (fs : Fields) (has : schema_at s.nodes i ≡ (tables i.0).schema) (named : named_fields ns (tables i.0).schema ≡ Some fs) (distinct : has_distinct_names fs ≡ true) (own : names_of fs ≡ ns)
      (wide : AllByRecursion (λ (row : List Value). length row ≡ length (tables i.0).schema) (tables i.0).rows) where
    abbrev S : Table
    S = tables i.0

    pub record IsNamed (m : Made) : Type 0 where
      pub schema : (tables m.stream.0).schema ≡ fs
      pub rows : (tables m.stream.0).rows ≡ map (picked (places_in ns S.schema)) S.rows
      pub whole : is_empty (tables m.stream.0).broken ≡ is_empty S.broken
      pub causes : HasNoOther (tables m.stream.0).broken S.broken
      pub tells : Tells F tables (Contains S.broken) (max_rows < length S.rows) s.nodes m.state.nodes

    project_is : (U : Table) → GivesBeforeCut F at (project ns) (S ∷ []) U → U ≡ projected ns (out_schema F at (project ns) (S ∷ [])) S
    project_is U (inl e) = e
    project_is U (inr (V, g, some, e)) = absurd (some refl)

    project_case : (U : Table) → Case F at (project ns) (S ∷ []) U → U ≡ projected ns (out_schema F at (project ns) (S ∷ [])) S
    project_case U (V, g, e) = e ∙ project_is V g

    bad : (c : Cause) → IsCaseBrokenBy F at (project ns) (S ∷ []) c → Contains S.broken c
    bad c (U, inl k, h) = subst (λ (T : Table). Contains T.broken c) (project_case U k) h
    bad c (U, inr g, h) = subst (λ (T : Table). Contains T.broken c) (project_is U g) h

    large : IsLargeCase F at (project ns) (S ∷ []) ⊎ SomeIsLarge (S ∷ []) → max_rows < length S.rows
    large (inl (inl l)) = absurd l
    large (inl (inr (U, g, l))) = let k = ap (λ (T : Table). length T.rows) (project_is U g) in let n = length-map S.rows (picked (places_in ns S.schema)) in omega arith
    large (inr (inl l)) = l
    large (inr (inr l)) = absurd l

    pub is_named : IsPhysicalChoice F made.state.nodes tables → IsNamed made
    is_named = by (same_names ns (names_of (schema_at s.nodes i))) refl
      where
        itself : same_names ns (names_of (schema_at s.nodes i)) ≡ true → S ≡ projected ns fs S
        itself q =
            let same : ns ≡ names_of S.schema = same_names_are ns (names_of (schema_at s.nodes i)) q ∙ ap names_of has in
            let d : has_distinct_names S.schema ≡ true = distinct_by_names S.schema fs (sym same ∙ sym own) ∙ distinct in
            let is : S.schema ≡ fs = same_Some S.schema fs (sym (all_fields S.schema d) ∙ sym (ap (λ ms. named_fields ms S.schema) same) ∙ named) in
            sym (own_table S.schema S refl d wide) ∙ (λ j. projected (sym same j) (is j) S)

        by : (b : Bool) → same_names ns (names_of (schema_at s.nodes i)) ≡ b → IsPhysicalChoice F (by_test b).state.nodes tables → IsNamed (by_test b)
        by true q chosen =
            let e = itself q in
            record {
              schema = ap (λ (T : Table). T.schema) e;
              rows = ap (λ (T : Table). T.rows) e;
              whole = refl;
              causes = λ c h. h;
              tells = tells_none F tables (Contains S.broken) (max_rows < length S.rows) s.nodes;
            }
        by false q chosen =
            let m = plain_means F at (project ns) (simple_projection ns) (unwrap_or (named_fields ns (schema_at s.nodes i)) []) (i ∷ []) refl (λ ts. refl) refl s.nodes tables chosen in
            let L = m.0.table.0 in
            let is : L ≡ projected ns (out_schema F at (project ns) (S ∷ [])) S = project_case L m.0.table.1 in
            record {
              schema = m.0.table.2.same_schema ∙ ap (λ (T : Table). T.schema) is ∙ ap (λ o. unwrap_or o []) named;
              rows = m.0.table.2.same_rows ∙ ap (λ (T : Table). T.rows) is;
              whole = m.0.table.2.both_whole ∙ ap (λ (T : Table). is_empty T.broken) is;
              causes = λ c h. bad c (m.0.causes c h);
              tells = tells_step F tables (Contains S.broken) (max_rows < length S.rows) at (project ns) (S ∷ []) s.nodes (s.nodes ++ node ∷ []) m.1 bad large;
            }
