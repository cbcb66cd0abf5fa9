-- What a call gathers stays small: streams, reductions, and what is left to a map.
use Rattle.std.proofs.Common.{◌≡◌, ◌⊎◌, inl, inr, ℕ, suc, ◌<◌, Bool, true, false, cond, List, [], ◌∷◌, ◌++◌, length, Some, refl, sym, ap, subst, ◌∙◌, arith, append_assoc}
use Rattle.std.specs.Prelude.{IsTrue, flat_map, is_some, map, unwrap_or}
use Rattle.std.specs.List.{AllByRecursion, list_all}
use Rattle.std.proofs.lemmas.List.{append-nil}
use Rattle.ps_frame.specs.Aggregates.{max_rows}
use Rattle.ps_frame.specs.Causes.{Column, is_empty}
use Rattle.ps_frame.specs.Eval.{eval}
use Rattle.ps_frame.specs.Functions.{Functions}
use Rattle.ps_frame.specs.Parts.{reads_column}
use Rattle.ps_frame.specs.Tables.{Table, no_rows}
use Rattle.ps_frame.specs.Trees.{Aggregation, Tree}
use Rattle.ps_frame.specs.Typing.{is_elementwise, is_independent, kind_over, reads_no_input}
use Rattle.ps_meaning.specs.Cases.{GivesBeforeCut, cut_by}
use Rattle.ps_meaning.specs.Meaning.{IsLargeStep}
use Rattle.ps_meaning.specs.Schemas.{is_among, named_fields, names_of}
use Rattle.ps_meaning.specs.Shape.{IsLargeByStep, IsPhysicalChoice, PhysicalBefore, PhysicalNode, Shape, as_step, cut_of, in_memory_map, independent_select, input_tables, narrowed, reduce, simple_projection, tables_for, zip_node}
use Rattle.ps_meaning.specs.Steps.{Name, Named, exprs_of, select}
use Rattle.ps_rowwise.proofs.Ignoring.{same-column}
use Rattle.ps_rules.specs.Bundles.{gathered, names_kept, one_of, one_stream, with_map, with_reduce, without_map}
use Rattle.ps_rules.specs.Calls.{Bundle, Call, Operand, all_independent, each, exprs_of_all, left_to_map, new_call}
use Rattle.ps_rules.specs.Rules.{apart_from_input, over_input, stays, stays_or, together}
use Rattle.ps_rules.specs.Slots.{Made, State, Stream, added, after_name, after_names, columns_named, new_name, new_names, projection, same_names, schema_at, selected_schema, under, with_columns, without_input}
use Rattle.ps_shares.specs.Kept.{IsOrdered}
use Rattle.ps_shares.proofs.Adding.{Adds, AllAdd, AreNodes, IsNode, columns_made, each_adds, gathers, inserted, last_node, named_nodes, node_later, nodes_later, stream_made}
use Rattle.ps_shares.proofs.Growing.{gathered_exprs}
use Rattle.ps_bundles.proofs.Aggregations.{MakesOne, aggregate_narrow, height_narrow}
use Rattle.ps_bundles.proofs.Apart.{AllTyped, all_of}
use Rattle.ps_bundles.proofs.CallSteps.{all_added_one, all_and}
use Rattle.ps_bundles.proofs.ExprEnds.{from_each, one_of as one_among}
use Rattle.ps_bundles.proofs.Gathered.{IsNarrow, schema_later}
use Rattle.ps_bundles.proofs.NewNodes.{Inside, inside_before, there}
use Rattle.ps_bundles.proofs.Together.{column_kept, projection_is, reads_kept}
use Rattle.lowering_sizes.proofs.Lengths.{parts_fit}
use Rattle.lowering_sizes.proofs.Nodes.{AreModest, IsModest, IsSmall, Sized, last_small, project_rows, select_rows, sized_none, sized_one, sized_then, some_rows, step_modest, zip_rows_small}
use Rattle.lowering_sizes.proofs.Parts.{part_passes, part_reads}

-- what holds of some expressions holds of them under names
pub under_all : (P : Tree → Type 0) (ns : List Name) (es : List Tree) → AllByRecursion P es → AllByRecursion P (exprs_of (under ns es))
under_all P [] es all = tt
under_all P (n ∷ ns) [] all = tt
under_all P (n ∷ ns) (e ∷ es) all = (all.0, under_all P ns es all.1)

-- what holds of some items' expressions
pub items_all : (P : Tree → Type 0) (items : List Named) → AllByRecursion (λ (m : Named). P m.1) items → AllByRecursion P (exprs_of items)
items_all P [] all = tt
items_all P (m ∷ items) all = (all.0, items_all P items all.1)

module _ (F : Functions) (at : ℕ) (input : Stream) (N : Shape) (tables : ℕ → Table) (choice : IsPhysicalChoice F N tables) (Large : Type 0) (few : IsSmall Large (tables input.0)) where
  abbrev t : Table
  t = tables input.0

  abbrev pub Small : Stream → Type 0
  Small i = IsSmall Large (tables i.0)

  abbrev pub Plain : List Tree → Type 0
  Plain es = AllByRecursion (λ e. IsTrue (is_elementwise e)) es

  -- what a reduce computes: the height, or one value of an elementwise expression
  abbrev pub IsReducing : Tree → Type 0
  IsReducing e = (e ≡ Tree.len) ⊎ ((a : Aggregation) × (x : Tree) × MakesOne at a × IsTrue (is_elementwise x) × (e ≡ Tree.aggregate a x))

  abbrev pub AreReducing : List Named → Type 0
  AreReducing rs = AllByRecursion (λ (m : Named). IsReducing m.1) rs

  narrow_short : (c : Column) → IsNarrow at input tables c → max_rows < length c.cells → ⊥
  narrow_short c (inl e) long = omega arith
  narrow_short c (inr (none, some)) long = let l = ap length none in omega arith

  pub reducing_modest : (z : Table) → IsSmall Large z → (e : Tree) → IsReducing e → IsModest Large at z e
  reducing_modest z small e (inl q) = subst (IsModest Large at z) (sym q) height
    where
      height : IsModest Large at z Tree.len
      height p (inr h) long = absurd h
      height p (inl s) long = absurd (narrow_short (eval at z p) (subst (λ e. IsNarrow at input tables (eval at z e)) s (height_narrow at input tables z)) long)
  reducing_modest z small e (inr (a, x, one, plain, q)) = subst (IsModest Large at z) (sym q) value
    where
      value : IsModest Large at z (Tree.aggregate a x)
      value p (inr h) long = small (parts_fit max_rows some_rows at z x p plain h long)
      value p (inl s) long = absurd (narrow_short (eval at z p) (subst (λ e. IsNarrow at input tables (eval at z e)) s (aggregate_narrow at input tables a one x z)) long)

  pub all_reducing : (z : Table) → IsSmall Large z → (rs : List Named) → AreReducing rs → AreModest Large at z (exprs_of rs)
  all_reducing z small [] all = tt
  all_reducing z small (m ∷ rs) all = (reducing_modest z small m.1 all.0, all_reducing z small rs all.1)

  -- the input is there
  pub record IsThere (s : State) : Type 0 where
    pub ordered : IsOrdered s.nodes
    pub node : IsNode s.nodes input
    pub schema : schema_at s.nodes input ≡ t.schema

  pub there_later : (a b : State) → IsThere a → Adds a.nodes b.nodes → IsThere b
  there_later a b h d =
      record {
        ordered = d.1;
        node = node_later a.nodes b.nodes d input h.node;
        schema = schema_later at input tables a.nodes b.nodes d input h.node ∙ h.schema;
      }

  -- what a call has gathered
  pub record SmallCall (c : Call) : Type 0 where
    pub streams : AllByRecursion Small c.streams
    pub plain : Plain c.exprs
    pub reduced : AreReducing c.reduced
    pub mapped : AllByRecursion (λ (m : Named). IsModest Large at t m.1) c.mapped
    pub typed : AllByRecursion (λ (m : Named). IsTrue (is_some (kind_over t.schema m.1))) c.mapped

  -- what a call does at an expression: one more is answered
  pub record StepsTo (c d : Call) : Type 0 where
    pub small : SmallCall d
    pub made : Sized F N tables choice Large c.state.nodes d.state.nodes
    pub new : Tree
    pub answers : d.exprs ≡ c.exprs ++ new ∷ []

  abbrev pub Steps : Tree → (Call → Call) → Type 0
  Steps e rule =
      (c : Call) → IsThere c.state → AreNodes c.state.nodes c.streams → SmallCall c → Inside F N tables choice (rule c).state.nodes → IsTrue (is_some (kind_over t.schema e)) → IsModest Large at t e → StepsTo c (rule c)

  abbrev pub AllSteps : List Operand → Type 0
  AllSteps os = AllByRecursion (λ (o : Operand). Steps o.expr o.rule) os

  pub left_small : (e : Tree) → Steps e (left_to_map e)
  left_small e c there nodes h inside typed modest =
      let f = new_name c.state in
      record {
        small =
            record {
              streams = h.streams;
              plain = all_and (λ e. IsTrue (is_elementwise e)) c.exprs (Tree.column f ∷ []) h.plain (refl, tt);
              reduced = h.reduced;
              mapped = all_and (λ (m : Named). IsModest Large at t m.1) c.mapped ((f, e) ∷ []) h.mapped (modest, tt);
              typed = all_and (λ (m : Named). IsTrue (is_some (kind_over t.schema m.1))) c.mapped ((f, e) ∷ []) h.typed (typed, tt);
            };
        made = sized_none F N tables choice Large c.state.nodes;
        new = Tree.column f;
        answers = refl;
      }

  stays_small : (e : Tree) → is_elementwise e ≡ true → Steps e (stays at input e)
  stays_small e plain c there nodes h inside typed modest = by (is_independent e)
    where
      over : (ss : List Stream) → AllByRecursion Small ss → StepsTo c (record { state = c.state; streams = ss; reduced = c.reduced; exprs = c.exprs ++ e ∷ []; mapped = c.mapped })
      over ss streams =
          record {
            small = record { streams = streams; plain = all_and (λ e. IsTrue (is_elementwise e)) c.exprs (e ∷ []) h.plain (plain, tt); reduced = h.reduced; mapped = h.mapped; typed = h.typed };
            made = sized_none F N tables choice Large c.state.nodes;
            new = e;
            answers = refl;
          }

      by : (b : Bool) → StepsTo c (record { state = c.state; streams = cond b c.streams (added input c.streams); reduced = c.reduced; exprs = c.exprs ++ e ∷ []; mapped = c.mapped })
      by true = over c.streams h.streams
      by false = over (added input c.streams) (all_added_one Small input c.streams few h.streams)

  pub stays_or_small : (e : Tree) (rule : Call → Call) → (is_elementwise e ≡ false → Steps e rule) → Steps e (stays_or at input e rule)
  stays_or_small e rule rest = by (is_elementwise e) refl
    where
      by : (b : Bool) → is_elementwise e ≡ b → Steps e (cond {A = Call → Call} b (stays at input e) rule)
      by true q = stays_small e q
      by false q = rest q

  -- the rules of some operands, one after the other
  pub record EachTo (os : List Operand) (c d : Call) : Type 0 where
    pub small : SmallCall d
    pub made : Sized F N tables choice Large c.state.nodes d.state.nodes
    pub news : List Tree
    pub answers : d.exprs ≡ c.exprs ++ news
    pub count : length news ≡ length os

  pub each_small : (os : List Operand) → AllAdd at input os → AllSteps os → (c : Call) → IsThere c.state → AreNodes c.state.nodes c.streams → SmallCall c → Inside F N tables choice (each os c).state.nodes → AllTyped F at input N tables choice (exprs_of_all os)
      → AreModest Large at t (exprs_of_all os) → EachTo os c (each os c)
  each_small [] adds steps c there nodes h inside typed modest =
      record { small = h; made = sized_none F N tables choice Large c.state.nodes; news = []; answers = sym (append-nil c.exprs); count = refl }
  each_small (o ∷ os) adds steps c there nodes h inside typed modest =
      let d = o.rule c in
      let p = adds.0 c there.ordered there.node nodes in
      let n = node_later c.state.nodes d.state.nodes p.0 input there.node in
      let q = each_adds at input os adds.1 d p.0.1 n p.1 in
      let s = steps.0 c there nodes h (inside_before F N tables choice d.state.nodes (each os d).state.nodes q.0 inside) typed.0 modest.0 in
      let r = each_small os adds.1 steps.1 d (there_later c.state d.state there p.0) p.1 s.small inside typed.1 modest.1 in
      record {
        small = r.small;
        made = sized_then F N tables choice Large c.state.nodes d.state.nodes (each os d).state.nodes s.made r.made;
        news = s.new ∷ r.news;
        answers = r.answers ∙ ap (λ xs. xs ++ r.news) s.answers ∙ append_assoc c.exprs (s.new ∷ []) r.news;
        count = ap suc r.count;
      }

  -- what a call has gathered in the end
  pub record SmallBundle (s : State) (b : Bundle) : Type 0 where
    pub streams : AllByRecursion Small b.streams
    pub plain : Plain b.exprs
    pub reduced : AreReducing b.reduced
    pub made : Sized F N tables choice Large s.nodes b.state.nodes

  -- the columns that a map reads
  pub record BelowSmall (s : State) (m : Made) (items : List Named) : Type 0 where
    pub modest : AllByRecursion (λ (i : Named). IsModest Large at (tables m.stream.0) i.1) items
    pub made : Sized F N tables choice Large s.nodes m.state.nodes

  -- the columns of the input under these names
  pub columns_small : (ns : List Name) (s : State) → Inside F N tables choice (with_columns at ns input s).state.nodes → Sized F N tables choice Large s.nodes (with_columns at ns input s).state.nodes × Small (with_columns at ns input s).stream
  columns_small ns s = by (same_names ns (names_of (schema_at s.nodes input)))
    where
      by : (b : Bool) → Inside F N tables choice (cond {A = Made} b (record { state = s; stream = input }) (projection at ns input s)).state.nodes
          → Sized F N tables choice Large s.nodes (cond {A = Made} b (record { state = s; stream = input }) (projection at ns input s)).state.nodes × Small (cond {A = Made} b (record { state = s; stream = input }) (projection at ns input s)).stream
      by true inside = (sized_none F N tables choice Large s.nodes, few)
      by false inside =
          let p : PhysicalNode = record { kind = simple_projection ns; schema = unwrap_or (named_fields ns (schema_at s.nodes input)) []; origin = at; inputs = input ∷ [] } in
          let made = sized_one F N tables choice Large s.nodes p inside (λ U. refl) (λ U before. project_rows Large at F ns t U few before) (λ large. absurd large) in
          (made, last_small F N tables choice Large s.nodes p made)

  module _ (items : List Named) (typed : AllByRecursion (λ (m : Named). IsTrue (is_some (kind_over t.schema m.1))) items) (modest : AllByRecursion (λ (m : Named). IsModest Large at t m.1) items) where
    abbrev ns : List Name
    ns = names_kept items t.schema

    below_small : (s : State) → Inside F N tables choice (with_columns at ns input s).state.nodes → BelowSmall s (with_columns at ns input s) items
    below_small s = by (same_names ns (names_of (schema_at s.nodes input)))
      where
        by : (b : Bool) → Inside F N tables choice (cond {A = Made} b (record { state = s; stream = input }) (projection at ns input s)).state.nodes → BelowSmall s (cond {A = Made} b (record { state = s; stream = input }) (projection at ns input s)) items
        by true inside = record { modest = modest; made = sized_none F N tables choice Large s.nodes }
        by false inside =
            let p : PhysicalNode = record { kind = simple_projection ns; schema = unwrap_or (named_fields ns (schema_at s.nodes input)) []; origin = at; inputs = input ∷ [] } in
            let T = tables (length s.nodes) in
            let own = choice (length s.nodes) p (there F N tables choice s.nodes p inside) in
            let is = projection_is F at input N tables choice items typed T own.0 own.1 own.2 in
            record {
              modest = from_each (λ (i : Named). IsModest Large at T i.1) items (λ m has q h long.
                  let reads : (name : Name) → IsTrue (reads_column name q) → is_among name ns ≡ true = λ name r. reads_kept F at input N tables choice items typed m has (one_among (λ (m : Named). IsTrue (is_some (kind_over t.schema m.1))) items m typed has) name (part_reads name m.1 q h r) in
                  one_among (λ (m : Named). IsModest Large at t m.1) items m modest has q h (subst (λ (c : Column). max_rows < length c.cells) (ap (λ T. eval at T q) is ∙ column_kept F at input N tables choice items typed q reads) long));
              made = sized_one F N tables choice Large s.nodes p inside (λ U. refl) (λ U before. project_rows Large at F ns t U few before) (λ large. absurd large);
            }

  -- a node of named expressions over a table
  pub select_node_small : (s : State) (p : PhysicalNode) (es : List Named) (z : Table) → Inside F N tables choice (s.nodes ++ p ∷ []) → ((U : Table) → narrowed F p (cut_by (cut_of F (as_step p.kind)) U) ≡ U)
      → as_step p.kind ≡ Some (select es) → p.origin ≡ at → tables_for F p.kind (input_tables F tables p) ≡ z ∷ [] → AreModest Large at z (exprs_of es) → Sized F N tables choice Large s.nodes (s.nodes ++ p ∷ [])
  select_node_small s p es z inside uncut step origin given modest =
      sized_one F N tables choice Large s.nodes p inside uncut
      (λ U before. select_rows Large at F es z U modest (subst (λ ts. GivesBeforeCut F at (select es) ts U) given (subst (λ n. GivesBeforeCut F n (select es) (tables_for F p.kind (input_tables F tables p)) U) origin (subst (λ o. PhysicalBefore F p o (tables_for F p.kind (input_tables F tables p)) U) step before))))
      (λ large. step_modest Large at z (exprs_of es) modest (subst (λ ts. IsLargeStep F at (select es) ts) given (subst (λ n. IsLargeStep F n (select es) (tables_for F p.kind (input_tables F tables p))) origin (subst (λ o. IsLargeByStep F p.origin o (tables_for F p.kind (input_tables F tables p))) step large))))

  mapped_small : (c : Call) → IsThere c.state → SmallCall c → Inside F N tables choice (with_map at input c).state.nodes → SmallBundle c.state (with_map at input c)
  mapped_small c there' h inside =
      let s = c.state in
      let items = c.mapped in
      let kept : names_kept items (schema_at s.nodes input) ≡ names_kept items t.schema = ap (names_kept items) there'.schema in
      let ns = names_kept items (schema_at s.nodes input) in
      let below = with_columns at ns input s in
      let p : PhysicalNode = record { kind = in_memory_map (select items); schema = selected_schema items (schema_at below.state.nodes below.stream); origin = at; inputs = below.stream ∷ [] } in
      let k = columns_made at input ns input s there'.ordered there'.node in
      let l = inserted below.state p k.0.1 (k.1, tt) in
      let b = subst (λ ns. BelowSmall s (with_columns at ns input s) items) (sym kept)
      (below_small items h.typed h.mapped s (subst (λ ns. Inside F N tables choice (with_columns at ns input s).state.nodes) kept (inside_before F N tables choice below.state.nodes (below.state.nodes ++ p ∷ []) l.0 inside))) in
      let P = tables below.stream.0 in
      let new = select_node_small below.state p items P inside (λ U. refl) refl refl refl (items_all (IsModest Large at P) items b.modest) in
      record {
        streams = all_added_one Small (length below.state.nodes, 0) c.streams (last_small F N tables choice Large below.state.nodes p new) h.streams;
        plain = h.plain;
        reduced = h.reduced;
        made = sized_then F N tables choice Large s.nodes below.state.nodes (below.state.nodes ++ p ∷ []) b.made new;
      }

  gathered_small : (c : Call) → IsThere c.state → SmallCall c → Inside F N tables choice (gathered at input c).state.nodes → SmallBundle c.state (gathered at input c)
  gathered_small c there' h = by (is_empty c.mapped)
    where
      by : (b : Bool) → Inside F N tables choice (cond {A = Bundle} b (without_map at input c) (with_map at input c)).state.nodes → SmallBundle c.state (cond {A = Bundle} b (without_map at input c) (with_map at input c))
      by true inside = record { streams = h.streams; plain = h.plain; reduced = h.reduced; made = sized_none F N tables choice Large c.state.nodes }
      by false inside = mapped_small c there' h inside

  -- a stream that is made
  pub record SmallMade (s : State) (m : Made) : Type 0 where
    pub small : Small m.stream
    pub made : Sized F N tables choice Large s.nodes m.state.nodes

  all_small : (ss : List Stream) → AllByRecursion Small ss → AllByRecursion (IsSmall Large) (map (λ (i : Stream). tables i.0) ss)
  all_small [] all = tt
  all_small (i ∷ ss) all = (all.0, all_small ss all.1)

  zip_small : (ss : List Stream) (s : State) → AllByRecursion Small ss
      → let p : PhysicalNode = record { kind = zip_node false; schema = flat_map (schema_at s.nodes) ss; origin = at; inputs = ss } in
      Inside F N tables choice (s.nodes ++ p ∷ []) → SmallMade s (record { state = record { nodes = s.nodes ++ p ∷ []; names = s.names }; stream = (length s.nodes, 0) })
  zip_small ss s all inside =
      let p : PhysicalNode = record { kind = zip_node false; schema = flat_map (schema_at s.nodes) ss; origin = at; inputs = ss } in
      let made = sized_one F N tables choice Large s.nodes p inside (λ U. refl) (λ U before. zip_rows_small Large at p.schema (map (λ (i : Stream). tables i.0) ss) U (all_small ss all) before) (λ large. absurd large) in
      record { small = last_small F N tables choice Large s.nodes p made; made = made }

  pub stream_small : (ss : List Stream) (s : State) → AllByRecursion Small ss → Inside F N tables choice (one_stream at input ss s).state.nodes → SmallMade s (one_stream at input ss s)
  stream_small [] s all inside = zip_small [] s all inside
  stream_small (i ∷ []) s all inside = record { small = all.0; made = sized_none F N tables choice Large s.nodes }
  stream_small (i ∷ j ∷ more) s all inside = zip_small (i ∷ j ∷ more) s all inside

  -- the end of a call
  pub one_small : (b : Bundle) → IsThere b.state → AreNodes b.state.nodes b.streams → AllByRecursion Small b.streams → AreReducing b.reduced → Inside F N tables choice (one_of at input b.streams b.reduced b.state).state.nodes
      → SmallMade b.state (one_of at input b.streams b.reduced b.state)
  one_small b there' nodes streams reduced = by (is_empty b.reduced)
    where
      by : (e : Bool) → Inside F N tables choice (cond {A = State → Made} e (one_stream at input b.streams) (with_reduce at input b.streams b.reduced) b.state).state.nodes
          → SmallMade b.state (cond {A = State → Made} e (one_stream at input b.streams) (with_reduce at input b.streams b.reduced) b.state)
      by true inside = stream_small b.streams b.state streams inside
      by false inside =
          let s = b.state in
          let rs = b.reduced in
          let p : PhysicalNode = record { kind = reduce rs; schema = selected_schema rs (schema_at s.nodes input); origin = at; inputs = input ∷ [] } in
          let later : State = record { nodes = s.nodes ++ p ∷ []; names = s.names } in
          let i : Stream = (length s.nodes, 0) in
          let l = inserted s p there'.ordered (there'.node, tt) in
          let k = stream_made at input (b.streams ++ i ∷ []) later l.0.1 (last_node later.nodes b.streams i (nodes_later s.nodes later.nodes l.0 b.streams nodes) l.1) in
          let first = inside_before F N tables choice later.nodes (one_stream at input (b.streams ++ i ∷ []) later).state.nodes k.0 inside in
          let new = select_node_small s p rs t first (λ U. refl) refl refl refl (all_reducing t few rs reduced) in
          let r = stream_small (b.streams ++ i ∷ []) later (all_and Small b.streams (i ∷ []) streams (last_small F N tables choice Large s.nodes p new, tt)) inside in
          record { small = r.small; made = sized_then F N tables choice Large s.nodes later.nodes (one_stream at input (b.streams ++ i ∷ []) later).state.nodes new r.made }

  -- what is independent of the input, computed without it
  pub lone_modest : (es : List Tree) → AllByRecursion (λ e. is_independent e ≡ true) es → AreModest Large at t es → AreModest Large at (no_rows [] []) es
  lone_modest [] all modest = tt
  lone_modest (e ∷ es) all modest = (
    (λ p h long. modest.0 p h (subst (λ (c : Column). max_rows < length c.cells) (same-column at (no_rows [] []) t p (part_passes reads_no_input e p all.0 h)) long)),
    lone_modest es all.1 modest.1,
  )

  pub without_small : (ns : List Name) (es : List Tree) (s : State) → list_all is_independent es ≡ true → AreModest Large at t es → Inside F N tables choice (without_input at (under ns es) s).state.nodes → SmallMade s (without_input at (under ns es) s)
  without_small ns es s independent modest inside =
      let p : PhysicalNode = record { kind = independent_select (under ns es); schema = selected_schema (under ns es) []; origin = at; inputs = [] } in
      let new = select_node_small s p (under ns es) (no_rows [] []) inside (λ U. refl) refl refl refl
      (under_all (IsModest Large at (no_rows [] [])) ns es (lone_modest es (all_of F at input N tables choice es independent) modest)) in
      record { small = last_small F N tables choice Large s.nodes p new; made = new }

  -- what one call for some expressions gathers
  pub record Gathers (os : List Operand) (s : State) (b : Bundle) : Type 0 where
    pub bundle : SmallBundle s b
    pub count : length b.exprs ≡ length os

  plain_columns : (ns : List Name) → Plain (columns_named ns)
  plain_columns [] = tt
  plain_columns (n ∷ ns) = (refl, plain_columns ns)

  count_names : (os : List Operand) (s : State) → length (columns_named (new_names (exprs_of_all os) s)) ≡ length os
  count_names [] s = refl
  count_names (o ∷ os) s = ap suc (count_names os (after_name s))

  pub together_small : (os : List Operand) → AllAdd at input os → AllSteps os → (s : State) → IsThere s → AllTyped F at input N tables choice (exprs_of_all os) → AreModest Large at t (exprs_of_all os) → Inside F N tables choice (together at input os s).state.nodes
      → Gathers os s (together at input os s)
  together_small os adds steps s there' typed modest = by (all_independent (exprs_of_all os)) refl
    where
      by : (b : Bool) → all_independent (exprs_of_all os) ≡ b → Inside F N tables choice (cond {A = State → Bundle} b (apart_from_input at input (exprs_of_all os)) (over_input at input os) s).state.nodes
          → Gathers os s (cond {A = State → Bundle} b (apart_from_input at input (exprs_of_all os)) (over_input at input os) s)
      by true q inside =
          let es = exprs_of_all os in
          let a = after_names es s in
          let m = without_small (new_names es s) es a q modest inside in
          record {
            bundle = record { streams = (m.small, tt); plain = plain_columns (new_names es s); reduced = tt; made = subst (λ from. Sized F N tables choice Large from (without_input at (under (new_names es s) es) a).state.nodes) (named_nodes es s) m.made };
            count = count_names os s;
          }
      by false q inside =
          let c = new_call s in
          let d = each os c in
          let p = each_adds at input os adds c there'.ordered there'.node tt in
          let n = node_later s.nodes d.state.nodes p.0 input there'.node in
          let e = gathers at input d p.0.1 n p.1 in
          let none : SmallCall c = record { streams = tt; plain = tt; reduced = tt; mapped = tt; typed = tt } in
          let r = each_small os adds steps c there' tt none (inside_before F N tables choice d.state.nodes (gathered at input d).state.nodes e.0 inside) typed modest in
          let b = gathered_small d (there_later s d.state there' p.0) r.small inside in
          record {
            bundle = record { streams = b.streams; plain = b.plain; reduced = b.reduced; made = sized_then F N tables choice Large s.nodes d.state.nodes (gathered at input d).state.nodes r.made b.made };
            count = ap length (gathered_exprs at input d ∙ r.answers) ∙ r.count;
          }
