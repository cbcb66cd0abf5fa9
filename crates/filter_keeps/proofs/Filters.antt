-- A filter whose predicate is lowered beside all columns.
use Rattle.std.proofs.Common.{◌≡◌, ◌≢◌, ◌⊎◌, inl, inr, ℕ, ◌<◌, ◌≤◌, ◌^◌, true, List, [], ◌∷◌, ◌++◌, length, drop, Some, refl, sym, ap, subst, ◌∙◌, arith, length-append}
use Rattle.std.proofs.Math.Seq.{drop-append_seam}
use Rattle.std.specs.Prelude.{Contains, map, slice_get}
use Rattle.std.specs.List.{AllByRecursion}
use Rattle.ps_frame.specs.Aggregates.{max_rows}
use Rattle.ps_frame.specs.Causes.{Cause, is_empty}
use Rattle.ps_frame.specs.Frames.{has_distinct_names}
use Rattle.ps_frame.specs.Functions.{Functions}
use Rattle.ps_frame.specs.Tables.{Fields, Table, field_kind, no_rows}
use Rattle.ps_frame.specs.Trees.{Tree}
use Rattle.ps_frame.specs.Zip.{Zipped}
use Rattle.ps_frame.specs.declared.value.DataType.{DataType}
use Rattle.ps_frame.specs.declared.value.Value.{Value}
use Rattle.ps_meaning.specs.Cases.{Case, GivesBeforeCut, IsCaseBrokenBy, keyed, table_of, where_true, width}
use Rattle.ps_meaning.specs.Distinct.{picked, places_in}
use Rattle.ps_meaning.specs.Meaning.{IsLargeCase}
use Rattle.ps_meaning.specs.Schemas.{named_fields, names_of}
use Rattle.ps_meaning.specs.Shape.{IsPhysicalChoice, PhysicalNode, filter_node}
use Rattle.ps_meaning.specs.Sound.{schema_at as schema_there}
use Rattle.ps_meaning.specs.Steps.{Name, filter}
use Rattle.ps_meaning.proofs.StepFits.{own-kinds}
use Rattle.ps_plan.specs.Lowering.{HasRowsOf}
use Rattle.ps_rules.specs.Calls.{Answer}
use Rattle.ps_rules.specs.Lowered.{lower_exprs}
use Rattle.ps_rules.specs.Rules.{first_tree}
use Rattle.ps_rules.specs.Slots.{Made, State, Stream, over_same, schema_at, schema_or_none, with_columns}
use Rattle.ps_shares.specs.Kept.{IsReady, all_causes}
use Rattle.ps_shares.proofs.Ends.{has_either, has_first}
use Rattle.ps_shares.proofs.Members.{Has, from_has, to_has}
use Rattle.ps_bundles.proofs.Gathered.{has_last}
use Rattle.ps_bundles.proofs.ZipEnds.{some_is}
use Rattle.lowering_sizes.proofs.Nodes.{filter_rows, plain_modest, step_modest}
use Rattle.plan_rules.specs.Groups.{columns_over}
use Rattle.step_keeps.specs.Kept.{EndsAsStep, IsKeptStep, ShowsOnlyStep, SomeIsLarge}
use Rattle.step_keeps.proofs.Added.{restricted}
use Rattle.step_keeps.proofs.One.{last_node, last_there, plain_means}
use Rattle.step_keeps.proofs.OwnColumns.{own_fields}
use Rattle.picked_zips.proofs.Keyed.{keyed_wide, places_inside}
use Rattle.keyed_calls.specs.Keyed.{IsLargeBy, KeyedAlike, row_by}
use Rattle.keyed_calls.proofs.Asked.{Makes, answer_schema, makes, own_schema}
use Rattle.keyed_calls.proofs.Calls.{alike_behind, keys_behind, shows_behind}
use Rattle.keyed_calls.proofs.Projecting.{IsNamed, Projects, is_named, projects}
use Rattle.keyed_calls.proofs.Told.{Adds, IsFed, Tells, adds_node, adds_then, fed_later, one_fed, tells_step, tells_then}
use Rattle.filter_keeps.proofs.Masks.{kept_alike, kept_wide}

-- a table of a filter, and what the rows of it are
module _ (F : Functions) (at : ℕ) (e : Tree) (t : Table) where
  abbrev z : Zipped
  z = keyed at (e ∷ []) t

  pub data IsOf (P : Table) : Type 0 where
    kept : P.schema ≡ t.schema → P.rows ≡ where_true (width t) z.rows → P.broken ≡ z.broken → IsOf P
    ended : P.schema ≡ t.schema → P.rows ≡ [] → P.broken ≡ z.lost → z.lost ≢ [] → IsOf P

  pub before_of : (U : Table) → GivesBeforeCut F at (filter e) (t ∷ []) U → IsOf U
  before_of U (inl g) = kept (ap (λ (T : Table). T.schema) g) (ap (λ (T : Table). T.rows) g) (ap (λ (T : Table). T.broken) g)
  before_of U (inr (V, g, some, u)) = ended (ap (λ (T : Table). T.schema) u ∙ ap (λ (T : Table). T.schema) g) (ap (λ (T : Table). T.rows) u) (ap (λ (T : Table). T.broken) u) some

  pub case_of : (P : Table) → Case F at (filter e) (t ∷ []) P → IsOf P
  case_of P (U, g, is) = subst IsOf (sym is) (before_of U g)

  abbrev pub given : Table
  given = table_of t.schema (where_true (width t)) z

  abbrev pub without : Table
  without = no_rows t.schema z.lost

  pub is_given : Case F at (filter e) (t ∷ []) given
  is_given = (given, inl refl, refl)

  pub is_without : z.lost ≢ [] → Case F at (filter e) (t ∷ []) without
  is_without some = (without, inr (given, refl, some, refl), refl)

  shown : (P : Table) → IsOf P → (c : Cause) → Contains P.broken c → Contains (all_causes z) c
  shown P (kept s r b) c h = from_has (all_causes z) c (has_first z.broken z.lost c (to_has z.broken c (subst (λ (cs : List Cause). Contains cs c) b h)))
  shown P (ended s r b some) c h = from_has (all_causes z) c (has_last z.broken z.lost c (to_has z.lost c (subst (λ (cs : List Cause). Contains cs c) b h)))

  pub broken_by : (c : Cause) → IsCaseBrokenBy F at (filter e) (t ∷ []) c → Contains (all_causes z) c
  broken_by c (U, inl k, h) = shown U (case_of U k) c h
  broken_by c (U, inr g, h) = shown U (before_of U g) c h

  has_some : (xs : List Cause) (c : Cause) → Has xs c → xs ≢ []
  has_some [] c h e = absurd h
  has_some (x ∷ xs) c h e = cc

  pub breaks : (c : Cause) → Contains (all_causes z) c → IsCaseBrokenBy F at (filter e) (t ∷ []) c
  breaks c h = by (has_either z.broken z.lost c (to_has (all_causes z) c h))
    where
      by : Has z.broken c ⊎ Has z.lost c → IsCaseBrokenBy F at (filter e) (t ∷ []) c
      by (inl k) = (given, inl is_given, from_has z.broken c k)
      by (inr k) = (without, inl (is_without (has_some z.lost c k)), from_has z.lost c k)

-- Predicates that are alike behind two tables.
module _ (F : Functions) (at : ℕ) (e p : Tree) (t z : Table) (distinct : has_distinct_names t.schema ≡ true) (alike : KeyedAlike at (names_of t.schema) (e ∷ []) (p ∷ []) t z) where
  abbrev js : List ℕ
  js = places_in (names_of t.schema) z.schema

  -- a table of the one filter ends as one of the other, by the columns of this
  pub record Filtered (L : Table) : Type 0 where
    pub table : Table
    pub case : Case F at (filter e) (t ∷ []) table
    pub schema : table.schema ≡ t.schema
    pub rows : table.rows ≡ map (picked js) L.rows
    pub whole : is_empty table.broken ≡ is_empty L.broken

  abbrev a : Zipped
  a = keyed at (p ∷ []) z

  abbrev b : Zipped
  b = keyed at (e ∷ []) t

  pub filtered : (L : Table) → IsOf F at p z L → Filtered L
  filtered L (kept s r q) = by alike.ends
    where
      by : ((map (row_by js (length z.schema) (p ∷ [])) a.rows ≡ map (row_by (places_in (names_of t.schema) t.schema) (length t.schema) (e ∷ [])) b.rows) × (is_empty a.broken ≡ is_empty b.broken)) ⊎ ((a.rows ≡ []) × (a.broken ≢ []) × (b.lost ≢ [])) → Filtered L
      by (inl (rows, same)) =
          let k = kept_alike js (length z.schema) p e t.schema (places_inside z.schema (names_of t.schema) alike.named) distinct a.rows b.rows (keyed_wide at t (e ∷ [])) rows in
          record { table = given F at e t; case = is_given F at e t; schema = refl; rows = sym k ∙ ap (map (picked js)) (sym r); whole = sym same ∙ ap is_empty (sym q) }
      by (inr (none, broken, lost)) =
          record {
            table = without F at e t;
            case = is_without F at e t lost;
            schema = refl;
            rows = sym (ap (map (picked js)) (r ∙ ap (where_true (width z)) none));
            whole = some_is b.lost lost ∙ sym (some_is a.broken broken) ∙ ap is_empty (sym q);
          }
  filtered L (ended s r q some) = by (alike.lost some)
    where
      by : ((b.rows ≡ []) × (b.broken ≢ [])) ⊎ (b.lost ≢ []) → Filtered L
      by (inl (none, broken)) =
          record {
            table = given F at e t;
            case = is_given F at e t;
            schema = refl;
            rows = ap (where_true (width t)) none ∙ sym (ap (map (picked js)) r);
            whole = some_is b.broken broken ∙ sym (some_is a.lost some) ∙ ap is_empty (sym q);
          }
      by (inr lost) =
          record { table = without F at e t; case = is_without F at e t lost; schema = refl; rows = sym (ap (map (picked js)) r); whole = some_is b.lost lost ∙ sym (some_is a.lost some) ∙ ap is_empty (sym q) }

  pub rows_wide : (L : Table) → IsOf F at p z L → AllByRecursion (λ (row : List Value). length row ≡ length z.schema) L.rows
  rows_wide L (kept s r q) = subst (AllByRecursion (λ (row : List Value). length row ≡ length z.schema)) (sym r) (kept_wide (length z.schema) a.rows (keyed_wide at z (p ∷ [])))
  rows_wide L (ended s r q some) = subst (AllByRecursion (λ (row : List Value). length row ≡ length z.schema)) (sym r) tt

  pub same_causes : (c : Cause) → IsCaseBrokenBy F at (filter p) (z ∷ []) c → IsCaseBrokenBy F at (filter e) (t ∷ []) c
  same_causes c h = breaks F at e t c (alike.causes c (broken_by F at p z c h))

  abbrev Large : Type 0
  Large = IsLargeCase F at (filter e) (t ∷ []) ⊎ SomeIsLarge (t ∷ [])

  pub to_large : IsLargeBy at (e ∷ []) t → Large
  to_large (inl l) = inl (inl l)
  to_large (inr l) = inr (inl l)

  pub same_sizes : IsLargeCase F at (filter p) (z ∷ []) ⊎ SomeIsLarge (z ∷ []) → Large
  same_sizes (inl (inl l)) = step_modest Large at z (p ∷ []) (plain_modest Large at z (λ long. to_large (alike.small long)) (p ∷ []) alike.elementwise) l
  same_sizes (inl (inr (U, g, long))) = filter_rows Large at F p z U (λ long. to_large (alike.small long)) alike.elementwise.0 g long
  same_sizes (inr (inl long)) = to_large (alike.small long)
  same_sizes (inr (inr l)) = absurd l

-- a list of one item
only_first : (xs : List Tree) → length xs ≡ 1 → xs ≡ first_tree xs ∷ []
only_first [] e = absurd (omega (arith, e))
only_first (x ∷ []) e = refl
only_first (x ∷ y ∷ xs) e = absurd (omega (arith, e))

fields_named : (other f s : Fields) → AllByRecursion (λ n. field_kind n other ≡ field_kind n f) (names_of s) → AllByRecursion (λ (x : Name × DataType). field_kind x.0 f ≡ Some x.1) s → AllByRecursion (λ (x : Name × DataType). field_kind x.0 other ≡ Some x.1) s
fields_named other f [] same own = tt
fields_named other f (x ∷ s) same own = (same.0 ∙ own.0, fields_named other f s same.1 own.1)

pub named_same : (other s : Fields) → has_distinct_names s ≡ true → AllByRecursion (λ n. field_kind n other ≡ field_kind n s) (names_of s) → named_fields (names_of s) other ≡ Some s
named_same other s d same = own_fields other s (fields_named other s s same (own-kinds s d))

module _ (F : Functions) (at : ℕ) (schema : Fields) (s : State) (i : Stream) (e : Tree) (some : schema_at s.nodes i ≢ []) (ready : IsReady s i (columns_over i s ++ e ∷ [])) (low : (lower_exprs at i (columns_over i s ++ e ∷ []) s).state.names.next ≤ 2 ^ 64) where
  abbrev es : List Tree
  es = columns_over i s ++ e ∷ []

  abbrev ns : List Name
  ns = names_of (schema_at s.nodes i)

  abbrev call : Answer
  call = lower_exprs at i es s

  abbrev p : Tree
  p = first_tree (drop (length (columns_over i s)) call.exprs)

  abbrev node : PhysicalNode
  node = record { kind = filter_node p; schema = schema_at call.state.nodes call.stream; origin = at; inputs = call.stream ∷ [] }

  abbrev m : Made
  m = over_same at (filter_node p) call.stream call.state

  abbrev w : Made
  w = with_columns at ns m.stream m.state

  answered : (keys_behind F at i s (e ∷ []) some ready).0 ≡ p ∷ []
  answered =
      let k = keys_behind F at i s (e ∷ []) some ready in
      let last : drop (length (columns_over i s)) call.exprs ≡ k.0 = ap (drop (length (columns_over i s))) k.1 ∙ drop-append_seam (columns_over i s) k.0 in
      only_first k.0 k.2 ∙ ap (λ (x : Tree). x ∷ []) (sym (ap first_tree last))

  lowered : Makes F at i s es ready
  lowered = makes F at i s es ready

  first_adds : Adds at s.nodes (i ∷ []) call.state.nodes
  first_adds = record { more = lowered.more; nodes = lowered.nodes; made = lowered.made }

  over_fed : (j : Stream) → Contains (call.stream ∷ []) j → IsFed s.nodes (i ∷ []) j
  over_fed = one_fed s.nodes (i ∷ []) call.stream lowered.fed

  mid_adds : Adds at s.nodes (i ∷ []) m.state.nodes
  mid_adds = adds_node at s.nodes call.state.nodes (i ∷ []) first_adds node refl over_fed

  mid_fed : (j : Stream) → Contains (m.stream ∷ []) j → IsFed s.nodes (i ∷ []) j
  mid_fed = one_fed s.nodes (i ∷ []) m.stream (inl (let l = ap length first_adds.nodes ∙ length-append s.nodes first_adds.more in omega arith))

  projected : Projects F at ns m.stream m.state (last_there call.state.nodes node) w
  projected = projects F at ns m.stream m.state (last_there call.state.nodes node)

  module _ (tables : ℕ → Table) (chosen : IsPhysicalChoice F w.state.nodes tables) (rows : HasRowsOf (schema_there (slice_get s.nodes i.0)) (tables i.0)) where
    abbrev T : Table
    T = tables i.0

    abbrev Z : Table
    Z = tables call.stream.0

    abbrev S : Table
    S = tables m.stream.0

    chosen_mid : IsPhysicalChoice F m.state.nodes tables
    chosen_mid = restricted F m.state.nodes w.state.nodes projected.adds.more projected.adds.nodes tables chosen

    chosen_first : IsPhysicalChoice F call.state.nodes tables
    chosen_first = restricted F call.state.nodes m.state.nodes (node ∷ []) refl tables chosen_mid

    own : schema_at s.nodes i ≡ T.schema
    own = own_schema F at i s es ready low tables chosen_first rows

    distinct : has_distinct_names T.schema ≡ true
    distinct = ap has_distinct_names (rows.0 ∙ ap schema_there ready.there) ∙ ready.distinct_names

    alike : KeyedAlike at (names_of T.schema) (e ∷ []) (p ∷ []) T Z
    alike =
        subst (λ (f : Fields). KeyedAlike at (names_of f) (e ∷ []) (p ∷ []) T Z) own
        (subst (λ (xs : List Tree). KeyedAlike at ns (e ∷ []) xs T Z) answered (alike_behind F at i s (e ∷ []) some ready low tables chosen_first rows))

    stage : EndsAsStep F at (filter p) (Z ∷ []) S × ShowsOnlyStep F call.state.nodes m.state.nodes tables at (filter p) (Z ∷ [])
    stage = plain_means F at (filter p) (filter_node p) node.schema (call.stream ∷ []) refl (λ ts. refl) refl call.state.nodes tables chosen_mid

    abbrev L : Table
    L = stage.0.table.0

    is_of : IsOf F at p Z L
    is_of = case_of F at p Z L stage.0.table.1

    of_schema : IsOf F at p Z L → L.schema ≡ Z.schema
    of_schema (kept s r b) = s
    of_schema (ended s r b some) = s

    S_schema : S.schema ≡ Z.schema
    S_schema = stage.0.table.2.same_schema ∙ of_schema is_of

    k : Filtered F at e p T Z distinct alike L
    k = filtered F at e p T Z distinct alike L is_of

    named : IsNamed F at ns m.stream m.state (last_there call.state.nodes node) tables T.schema
        (ap schema_or_none (last_node call.state.nodes node) ∙ sym (answer_schema F at i s es ready low tables chosen_first rows) ∙ sym S_schema)
        (ap (λ ms. named_fields ms S.schema) (ap names_of own) ∙ ap (named_fields (names_of T.schema)) S_schema ∙ named_same Z.schema T.schema distinct alike.same_kinds)
        distinct (sym (ap names_of own))
        (subst (λ (f : Fields). AllByRecursion (λ (row : List Value). length row ≡ length f) S.rows) (sym S_schema) (subst (AllByRecursion (λ (row : List Value). length row ≡ length Z.schema)) (sym stage.0.table.2.same_rows) (rows_wide F at e p T Z distinct alike L is_of)))
        w
    named =
        is_named F at ns m.stream m.state (last_there call.state.nodes node) tables T.schema
        (ap schema_or_none (last_node call.state.nodes node) ∙ sym (answer_schema F at i s es ready low tables chosen_first rows) ∙ sym S_schema)
        (ap (λ ms. named_fields ms S.schema) (ap names_of own) ∙ ap (named_fields (names_of T.schema)) S_schema ∙ named_same Z.schema T.schema distinct alike.same_kinds)
        distinct (sym (ap names_of own))
        (subst (λ (f : Fields). AllByRecursion (λ (row : List Value). length row ≡ length f) S.rows) (sym S_schema) (subst (AllByRecursion (λ (row : List Value). length row ≡ length Z.schema)) (sym stage.0.table.2.same_rows) (rows_wide F at e p T Z distinct alike L is_of)))
        chosen

    abbrev Bad : Cause → Type 0
    Bad c = IsCaseBrokenBy F at (filter e) (T ∷ []) c

    abbrev Large' : Type 0
    Large' = IsLargeCase F at (filter e) (T ∷ []) ⊎ SomeIsLarge (T ∷ [])

    first_tells : Tells F tables Bad Large' s.nodes call.state.nodes
    first_tells =
        let h = shows_behind F at i s (e ∷ []) some ready low tables chosen_first rows in
        record { causes = λ n U c le lt may has. breaks F at e T c (h.causes n U c le lt may has); sizes = λ n le lt large. to_large F at e p T Z distinct alike (h.sizes n le lt large) }

    mid_tells : Tells F tables Bad Large' call.state.nodes m.state.nodes
    mid_tells = tells_step F tables Bad Large' at (filter p) (Z ∷ []) call.state.nodes m.state.nodes stage.1 (same_causes F at e p T Z distinct alike) (same_sizes F at e p T Z distinct alike)

    -- the table of the node is large only where its step is, or what it reads
    S_small : max_rows < length S.rows → Large'
    S_small long = mid_tells.sizes m.stream.0 (omega arith) (last_there call.state.nodes node) (inl (S, inl refl, long))

    S_shows : (c : Cause) → Contains S.broken c → Bad c
    S_shows c h = same_causes F at e p T Z distinct alike c (stage.0.causes c h)

    last_tells : Tells F tables Bad Large' m.state.nodes w.state.nodes
    last_tells = record { causes = λ n U c le lt may has. S_shows c (named.tells.causes n U c le lt may has); sizes = λ n le lt large. S_small (named.tells.sizes n le lt large) }

    means : EndsAsStep F at (filter e) (T ∷ []) (tables w.stream.0) × ShowsOnlyStep F s.nodes w.state.nodes tables at (filter e) (T ∷ [])
    means =
        let places : places_in ns S.schema ≡ places_in (names_of T.schema) Z.schema = λ j. places_in (names_of (own j)) (S_schema j) in
        let told = tells_then F tables Bad Large' s.nodes m.state.nodes w.state.nodes projected.adds.more projected.adds.nodes (tells_then F tables Bad Large' s.nodes call.state.nodes m.state.nodes (node ∷ []) refl first_tells mid_tells) last_tells in (
          record {
            table = (
              k.table,
              k.case,
              record {
                same_schema = named.schema ∙ sym k.schema;
                same_rows = named.rows ∙ (λ j. map (picked (places j)) (stage.0.table.2.same_rows j)) ∙ sym k.rows;
                both_whole = named.whole ∙ stage.0.table.2.both_whole ∙ sym k.whole;
              },
            );
            causes = λ c h. S_shows c (named.causes c h);
          },
          record { causes = told.causes; sizes = told.sizes },
        )

  pub filters_keep : IsKeptStep F at (filter e) schema (i ∷ []) s
  filters_keep =
      let all = adds_then at s.nodes m.state.nodes (i ∷ []) mid_adds w.state.nodes (m.stream ∷ []) mid_fed projected.adds in
      record {
        more = all.more;
        nodes = all.nodes;
        made = all.made;
        there = projected.there;
        fed = fed_later at s.nodes m.state.nodes (i ∷ []) mid_adds (m.stream ∷ []) mid_fed w.stream projected.fed;
        meaning = λ tables chosen rows. means tables chosen rows.0;
      }
