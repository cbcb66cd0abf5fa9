-- A scan: the whole table, and a projection above it where other columns are asked for.
use Rattle.std.proofs.Common.{◌≡◌, Option, ℕ, ◌<◌, ◌⊎◌, Bool, true, false, cond, List, [], ◌∷◌, length, Some, None, refl, sym, ap, subst, ◌∙◌, inl, inr, arith}
use Rattle.std.proofs.lemmas.List.{length-map}
use Rattle.std.proofs.lemmas.Option.{same_Some}
use Rattle.std.specs.Prelude.{Contains, map, unwrap_or, ⊤}
use Rattle.std.specs.List.{AllByRecursion}
use Rattle.ps_frame.specs.Aggregates.{max_rows}
use Rattle.ps_frame.specs.Causes.{Cause, is_empty}
use Rattle.ps_frame.specs.Frames.{has_distinct_names}
use Rattle.ps_frame.specs.Functions.{Functions}
use Rattle.ps_frame.specs.Lawful.{FitsFrame}
use Rattle.ps_frame.specs.Tables.{Fields, Frame, Table, whole}
use Rattle.ps_frame.specs.declared.value.Value.{Value}
use Rattle.ps_meaning.specs.Cases.{Case, GivesBeforeCut, IsCaseBrokenBy, projected}
use Rattle.ps_meaning.specs.Distinct.{picked, places_in}
use Rattle.ps_meaning.specs.Laws.{FitsRow}
use Rattle.ps_meaning.specs.Meaning.{IsLargeCase}
use Rattle.ps_meaning.specs.Schemas.{named_fields, names_of}
use Rattle.ps_meaning.specs.Shape.{PhysicalNode, in_memory_source, simple_projection}
use Rattle.ps_meaning.specs.Steps.{Name, project, scan}
use Rattle.ps_meaning.specs.Within.{EndAlike}
use Rattle.ps_meaning.proofs.OneInput.{fits-length}
use Rattle.ps_rules.specs.Slots.{Made, State, Stream, insert_node, projection, same_names, schema_at, schema_or_none}
use Rattle.plan_rules.specs.Nodes.{scan_stream}
use Rattle.step_keeps.specs.Kept.{IsKeptStep, KeepsStep, SomeIsLarge}
use Rattle.step_keeps.proofs.Composed.{Composes, KeepsOver, both_keep}
use Rattle.step_keeps.proofs.Cuts.{no_cause}
use Rattle.step_keeps.proofs.One.{last_node, last_there, made_here, plain_keeps, plain_means}
use Rattle.step_keeps.proofs.OwnColumns.{all_fields, named_names, own_table, same_names_are, same_names_itself}
use Rattle.step_keeps.proofs.Steps.{keeps_as}

-- a projection keeps it, whatever rows there are
pub projection_over : (F : Functions) (at : ℕ) (names : List Name) (i : Stream) (s : State) → let m = projection at names i s in KeepsOver F at (project names) s m.state i m.stream
projection_over F at names i s =
    let fields = unwrap_or (named_fields names (schema_at s.nodes i)) [] in
    record {
      more = record { kind = simple_projection names; schema = fields; origin = at; inputs = i ∷ [] } ∷ [];
      nodes = refl;
      made = made_here F at (project names) (simple_projection names) fields (i ∷ []) refl (λ ts. refl) s.nodes;
      there = last_there s.nodes (record { kind = simple_projection names; schema = fields; origin = at; inputs = i ∷ [] });
      fed = inl (omega arith);
      meaning = plain_means F at (project names) (simple_projection names) fields (i ∷ []) refl (λ ts. refl) refl s.nodes;
    }

-- what a projection gives
project_is : (F : Functions) (at : ℕ) (names : List Name) (t P : Table) → GivesBeforeCut F at (project names) (t ∷ []) P → P ≡ projected names (unwrap_or (named_fields names t.schema) []) t
project_is F at names t P (inl e) = e
project_is F at names t P (inr (V, g, lost, e)) = absurd (lost refl)

module _ (F : Functions) (at : ℕ) (t : Frame) (s : State) where
  abbrev source : PhysicalNode
  source = record { kind = in_memory_source t; schema = t.schema; origin = at; inputs = [] }

  abbrev made : Made
  made = insert_node s source

  source_keeps : KeepsStep F at (scan t None) s made.state [] made.stream
  source_keeps = plain_keeps F at (scan t None) (in_memory_source t) t.schema [] refl (λ ts. refl) refl s

  at_source : schema_at made.state.nodes made.stream ≡ t.schema
  at_source = ap schema_or_none (last_node s.nodes source)

  pub whole_scans_keep : IsKeptStep F at (scan t None) t.schema [] s
  whole_scans_keep =
      let ns = names_of t.schema in
      let same : same_names ns (names_of (schema_at made.state.nodes made.stream)) ≡ true = ap (λ (fs : Fields). same_names ns (names_of fs)) at_source ∙ same_names_itself ns in
      subst (λ (b : Bool). let m = cond {A = Made} b (record { state = made.state; stream = made.stream }) (projection at ns made.stream made.state) in KeepsStep F at (scan t None) s m.state [] m.stream) (sym same) source_keeps

  -- what a scan of the whole table gives
  scan_is : (ts : List Table) (P : Table) → GivesBeforeCut F at (scan t None) ts P → P ≡ whole t
  scan_is ts P (inl e) = e
  scan_is ts P (inr (V, g, lost, e)) = absurd (lost refl)

  module _ (names : List Name) (fields : Fields) (named : named_fields names t.schema ≡ Some fields) (distinct : has_distinct_names t.schema ≡ true) (fits : FitsFrame t) where
    -- what the scan gives
    abbrev asked : Table
    asked = projected names (unwrap_or (named_fields names t.schema) []) (whole t)

    wide : (rows : List (List Value)) → AllByRecursion (FitsRow t.schema) rows → AllByRecursion (λ (row : List Value). length row ≡ length t.schema) rows
    wide [] f = tt
    wide (row ∷ rows) f = (fits-length t.schema row f.0, wide rows f.1)

    own : names ≡ names_of t.schema → asked ≡ whole t
    own e = (λ i. projected (e i) (unwrap_or (named_fields (e i) t.schema) []) (whole t)) ∙ ap (λ o. projected (names_of t.schema) (unwrap_or o []) (whole t)) (all_fields t.schema distinct) ∙ own_table t.schema (whole t) refl distinct (wide t.rows fits)

    as_whole : names ≡ names_of t.schema → (ts : List Table) (U : Table) → GivesBeforeCut F at (scan t None) ts U → GivesBeforeCut F at (scan t (Some names)) ts U
    as_whole e ts U g = inl (scan_is ts U g ∙ sym (own e))

    is_large : max_rows < length t.rows → (ts : List Table) → IsLargeCase F at (scan t (Some names)) ts
    is_large h ts = inr (asked, inl refl, subst (λ n. max_rows < n) (sym (length-map t.rows (picked (places_in names t.schema)))) h)

    of_whole : (ts : List Table) → IsLargeCase F at (scan t None) ts ⊎ SomeIsLarge ts → IsLargeCase F at (scan t (Some names)) ts ⊎ SomeIsLarge ts
    of_whole ts (inl (inl l)) = absurd l
    of_whole ts (inl (inr (U, g, l))) = inl (is_large (subst (λ (T : Table). max_rows < length T.rows) (scan_is ts U g) l) ts)
    of_whole ts (inr l) = inr l

    whole_causes : (ts : List Table) (c : Cause) → IsCaseBrokenBy F at (scan t None) ts c → IsCaseBrokenBy F at (scan t (Some names)) ts c
    whole_causes ts c (U, inl (V, g, e), h) = absurd (no_cause c (subst (λ (T : Table). Contains T.broken c) (e ∙ scan_is ts V g) h))
    whole_causes ts c (U, inr g, h) = absurd (no_cause c (subst (λ (T : Table). Contains T.broken c) (scan_is ts U g) h))

    project_causes : (ns : List Name) (P : Table) (c : Cause) → IsCaseBrokenBy F at (project ns) (P ∷ []) c → Contains P.broken c
    project_causes ns P c (U, inl (V, g, e), h) = subst (λ (T : Table). Contains T.broken c) (e ∙ project_is F at ns P V g) h
    project_causes ns P c (U, inr g, h) = subst (λ (T : Table). Contains T.broken c) (project_is F at ns P U g) h

    large_below : (ns : List Name) (P : Table) → IsLargeCase F at (project ns) (P ∷ []) ⊎ SomeIsLarge (P ∷ []) → max_rows < length P.rows
    large_below ns P (inl (inl l)) = absurd l
    large_below ns P (inl (inr (U, g, l))) = subst (λ n. max_rows < n) (ap (λ (T : Table). length T.rows) (project_is F at ns P U g) ∙ length-map P.rows (picked (places_in ns P.schema))) l
    large_below ns P (inr (inl l)) = l
    large_below ns P (inr (inr l)) = absurd l

    is_whole : (ts : List Table) (L : Table) → Case F at (scan t None) ts L → L ≡ whole t
    is_whole ts L (U, g, e) = e ∙ scan_is ts U g

    projects : (ns : List Name) → ns ≡ names → Composes F at (scan t None) (project ns) (scan t (Some names)) (λ ts. ⊤)
    projects ns same =
        record {
          table = λ ts fine P L M k a m. (asked, (asked, inl refl, refl), alike P L M (is_whole ts L k) a (m.2 ∙ project_is F at ns P m.0 m.1));
          causes = λ ts fine c h. whole_causes ts c h;
          later_causes = λ ts fine P L k a c h. inl (project_causes ns P c h);
          sizes = λ ts fine l. of_whole ts l;
          later_sizes = λ ts fine P L k a l. inl (is_large (subst (λ (rows : List (List Value)). max_rows < length rows) (a.same_rows ∙ ap (λ (T : Table). T.rows) (is_whole ts L k)) (large_below ns P l)) ts);
        }
      where
        alike : (P L M : Table) → L ≡ whole t → EndAlike P L → M ≡ projected ns (unwrap_or (named_fields ns P.schema) []) P → EndAlike M asked
        alike P L M l a m =
            let schema : P.schema ≡ t.schema = a.same_schema ∙ ap (λ (T : Table). T.schema) l in
            let rows : P.rows ≡ t.rows = a.same_rows ∙ ap (λ (T : Table). T.rows) l in
            record {
              same_schema = ap (λ (T : Table). T.schema) m ∙ (λ i. unwrap_or (named_fields (same i) (schema i)) []);
              same_rows = ap (λ (T : Table). T.rows) m ∙ (λ i. map (picked (places_in (same i) (schema i))) (rows i));
              both_whole = ap (λ (T : Table). is_empty T.broken) m ∙ a.both_whole ∙ ap (λ (T : Table). is_empty T.broken) l;
            }

    pub scans_keep : IsKeptStep F at (scan t (Some names)) fields [] s
    scans_keep = by (same_names (names_of fields) (names_of (schema_at made.state.nodes made.stream))) refl
      where
        is : names_of fields ≡ names
        is = named_names names t.schema fields named

        by : (b : Bool) → same_names (names_of fields) (names_of (schema_at made.state.nodes made.stream)) ≡ b
            → let m = cond {A = Made} b (record { state = made.state; stream = made.stream }) (projection at (names_of fields) made.stream made.state) in KeepsStep F at (scan t (Some names)) s m.state [] m.stream
        by true e =
            let own_names = sym is ∙ same_names_are (names_of fields) (names_of t.schema) (sym (ap (λ (fs : Fields). same_names (names_of fields) (names_of fs)) at_source) ∙ e) in
            keeps_as F at (scan t None) (scan t (Some names)) (as_whole own_names) (λ ts l. l) refl s made.state [] made.stream source_keeps
        by false e =
            let m = projection at (names_of fields) made.stream made.state in
            both_keep F at (scan t None) (project (names_of fields)) (scan t (Some names)) (λ ts. ⊤) (projects (names_of fields) is) s made.state m.state [] made.stream m.stream source_keeps (projection_over F at (names_of fields) made.stream made.state) (λ tables rows. tt)

    -- the node of the stream has the columns that were asked for
    pub scan_schema : let m = scan_stream at t fields s in schema_at m.state.nodes m.stream ≡ fields
    scan_schema = by (same_names (names_of fields) (names_of (schema_at made.state.nodes made.stream))) refl
      where
        is : names_of fields ≡ names
        is = named_names names t.schema fields named

        by : (b : Bool) → same_names (names_of fields) (names_of (schema_at made.state.nodes made.stream)) ≡ b
            → let m = cond {A = Made} b (record { state = made.state; stream = made.stream }) (projection at (names_of fields) made.stream made.state) in schema_at m.state.nodes m.stream ≡ fields
        by true e =
            let own_names = sym is ∙ same_names_are (names_of fields) (names_of t.schema) (sym (ap (λ (fs : Fields). same_names (names_of fields) (names_of fs)) at_source) ∙ e) in
            at_source ∙ same_Some t.schema fields (sym (all_fields t.schema distinct) ∙ ap (λ (ns : List Name). named_fields ns t.schema) (sym own_names) ∙ named)
        by false e =
            let m = projection at (names_of fields) made.stream made.state in
            let p : PhysicalNode = record { kind = simple_projection (names_of fields); schema = unwrap_or (named_fields (names_of fields) (schema_at made.state.nodes made.stream)) []; origin = at; inputs = made.stream ∷ [] } in
            ap schema_or_none (last_node made.state.nodes p) ∙ (λ i. unwrap_or (named_fields (is i) (at_source i)) []) ∙ ap (λ (o : Option Fields). unwrap_or o []) named

  pub whole_scan_made : scan_stream at t t.schema s ≡ record { state = made.state; stream = made.stream }
  whole_scan_made =
      let ns = names_of t.schema in
      ap (λ (b : Bool). cond {A = Made} b (record { state = made.state; stream = made.stream }) (projection at ns made.stream made.state)) (ap (λ (fs : Fields). same_names ns (names_of fs)) at_source ∙ same_names_itself ns)
