-- What the rules make depends on the schemas of the nodes that stood, and on nothing else of them.
use Rattle.std.proofs.Common.{◌≡◌, inl, ℕ, Bool, true, false, cond, List, [], ◌∷◌, ◌++◌, length, None, refl, sym, ap, subst, ◌∙◌, append_assoc, length-append, arith}
use Rattle.std.specs.Prelude.{flat_map, map, unwrap_or}
use Rattle.std.specs.List.{AllByRecursion}
use Rattle.ps_frame.specs.Causes.{is_empty}
use Rattle.ps_frame.specs.Functions.{Functions}
use Rattle.ps_frame.specs.Tables.{Fields, Table}
use Rattle.ps_frame.specs.Trees.{Aggregation, Tree, Trees}
use Rattle.ps_frame.specs.Typing.{is_elementwise, is_independent}
use Rattle.ps_frame.specs.Zip.{zipped}
use Rattle.ps_meaning.specs.Cases.{GivesBeforeCut, all_columns, columns_at, cut_by, first_table, if_whole, keyed, out_schema, projected, sorted_rows, table_of, where_true, width}
use Rattle.ps_meaning.specs.Schemas.{named_fields, names_of}
use Rattle.ps_meaning.specs.Shape.{PhysicalCase, PhysicalKind, PhysicalNode, Shape, filter_node, in_memory_map, independent_select, mild_zip, reduce, select_node, simple_projection, tables_for, zip_node}
use Rattle.ps_meaning.specs.Steps.{Name, Named, SortStep, exprs_of, project, select, sort}
use Rattle.ps_rules.specs.Bundles.{finished, gathered, is_stream_alone, mapped_stream, names_kept, one_of, one_stream, with_map, with_reduce, without_map, zip_of}
use Rattle.ps_rules.specs.Calls.{Answer, Bundle, Call, Operand, all_independent, each, exprs_of_all, given, given_reduction, left_to_map, new_call}
use Rattle.ps_rules.specs.Lowered.{as_operand, lower, lower_exprs, operands}
use Rattle.ps_rules.specs.Names.{after_fresh, fresh_name}
use Rattle.ps_rules.specs.Rules.{NamedOperand, aggregated, apart_from_input, are_own_columns, computed, filtered_column, first_name, first_tree, names_of_items, operands_of, other_names, over_input, over_operands, reduced_apart, reduced_column, reduced_over, selected, sorted_by, sorted_column, stays, stays_or, together}
use Rattle.ps_rules.specs.Slots.{Made, State, Stream, added, after_name, after_names, all_added, columns_named, insert_node, new_name, new_names, over_same, over_selected, projection, same_names, schema_at, selected_schema, under, with_columns, without_input}
use Rattle.ps_shares.proofs.Growing.{binary_of, cast_of, ternary_of}

module _ (F : Functions) (a b : Shape) (same : (m : Shape) (i : Stream) → schema_at (b ++ m) i ≡ schema_at (a ++ m) i) (long : length b ≡ length a) where
  -- whatever tables its inputs mean, the node means one
  abbrev pub HasTable : PhysicalNode → Type 0
  HasTable p = (ts : List Table) → (T : Table) × PhysicalCase F p ts T

  -- The same nodes stand behind either, and the same names are in use.
  pub record Alike (s t : State) : Type 0 where
    pub more : Shape
    pub first : s.nodes ≡ a ++ more
    pub second : t.nodes ≡ b ++ more
    pub names : t.names ≡ s.names
    pub tables : AllByRecursion HasTable more

  pub schemas : (s t : State) → Alike s t → (i : Stream) → schema_at t.nodes i ≡ schema_at s.nodes i
  schemas s t h i = ap (λ n. schema_at n i) h.second ∙ same h.more i ∙ sym (ap (λ n. schema_at n i) h.first)

  counts : (s t : State) → Alike s t → length t.nodes ≡ length s.nodes
  counts s t h =
      let p = ap length h.first in
      let q = ap length h.second in
      let x = length-append a h.more in
      let y = length-append b h.more in
      let l = long in
      omega arith

  pub record AlikeMade (m n : Made) : Type 0 where
    pub state : Alike m.state n.state
    pub stream : n.stream ≡ m.stream

  pub record AlikeCall (c d : Call) : Type 0 where
    pub state : Alike c.state d.state
    pub streams : d.streams ≡ c.streams
    pub reduced : d.reduced ≡ c.reduced
    pub exprs : d.exprs ≡ c.exprs
    pub mapped : d.mapped ≡ c.mapped

  pub record AlikeBundle (c d : Bundle) : Type 0 where
    pub state : Alike c.state d.state
    pub streams : d.streams ≡ c.streams
    pub reduced : d.reduced ≡ c.reduced
    pub exprs : d.exprs ≡ c.exprs

  all_and : (xs ys : Shape) → AllByRecursion HasTable xs → AllByRecursion HasTable ys → AllByRecursion HasTable (xs ++ ys)
  all_and [] ys p q = q
  all_and (x ∷ xs) ys p q = (p.0, all_and xs ys p.1 q)

  insert_alike : (s t : State) (p q : PhysicalNode) → Alike s t → q ≡ p → HasTable p → AlikeMade (insert_node s p) (insert_node t q)
  insert_alike s t p q h e k =
      let x = h.first in
      let y = h.second in
      let l = counts s t h in
      record {
        state =
            record {
              more = h.more ++ p ∷ [];
              first = (λ i. x i ++ p ∷ []) ∙ append_assoc a h.more (p ∷ []);
              second = (λ i. y i ++ e i ∷ []) ∙ append_assoc b h.more (p ∷ []);
              names = h.names;
              tables = all_and h.more (p ∷ []) h.tables (k, tt);
            };
        stream = λ i. (l i, 0);
      }

  -- a node over one stream
  over_alike : (at : ℕ) (s t : State) (i j : Stream) (kind : PhysicalKind) (f : Fields → Fields) → Alike s t → j ≡ i → HasTable (record { kind = kind; schema = f (schema_at s.nodes i); origin = at; inputs = i ∷ [] })
      → AlikeMade (insert_node s (record { kind = kind; schema = f (schema_at s.nodes i); origin = at; inputs = i ∷ [] })) (insert_node t (record { kind = kind; schema = f (schema_at t.nodes j); origin = at; inputs = j ∷ [] }))
  over_alike at s t i j kind f h e k =
      let z = schemas s t h in
      insert_alike s t (record { kind = kind; schema = f (schema_at s.nodes i); origin = at; inputs = i ∷ [] }) (record { kind = kind; schema = f (schema_at t.nodes j); origin = at; inputs = j ∷ [] }) h
      (λ x. record { kind = kind; schema = f ((ap (schema_at t.nodes) e ∙ z i) x); origin = at; inputs = e x ∷ [] }) k

  -- the nodes that the rules make have tables
  selected_has : (p : PhysicalNode) (es : List Named) → ((ts : List Table) (U : Table) → GivesBeforeCut F p.origin (select es) (tables_for F p.kind ts) U → PhysicalCase F p ts U) → HasTable p
  selected_has p es given ts =
      let zs = tables_for F p.kind ts in
      let U = table_of (out_schema F p.origin (select es) zs) (λ rows. rows) (zipped false p.origin (columns_at p.origin (exprs_of es) (first_table zs))) in
      (U, given ts U (inl refl))

  select_has : (at : ℕ) (es : List Named) (f : Fields) (is : List Stream) → HasTable (record { kind = select_node es false; schema = f; origin = at; inputs = is })
  select_has at es f is = selected_has (record { kind = select_node es false; schema = f; origin = at; inputs = is }) es (λ ts U g. (U, g, refl))

  independent_has : (at : ℕ) (es : List Named) (f : Fields) (is : List Stream) → HasTable (record { kind = independent_select es; schema = f; origin = at; inputs = is })
  independent_has at es f is = selected_has (record { kind = independent_select es; schema = f; origin = at; inputs = is }) es (λ ts U g. (U, g, refl))

  reduce_has : (at : ℕ) (es : List Named) (f : Fields) (is : List Stream) → HasTable (record { kind = reduce es; schema = f; origin = at; inputs = is })
  reduce_has at es f is = selected_has (record { kind = reduce es; schema = f; origin = at; inputs = is }) es (λ ts U g. (U, g, refl))

  map_has : (at : ℕ) (es : List Named) (f : Fields) (is : List Stream) → HasTable (record { kind = in_memory_map (select es); schema = f; origin = at; inputs = is })
  map_has at es f is = selected_has (record { kind = in_memory_map (select es); schema = f; origin = at; inputs = is }) es (λ ts U g. (U, g, refl))

  sort_has : (at : ℕ) (o : SortStep) (none : o.cut ≡ None) (f : Fields) (is : List Stream) → HasTable (record { kind = in_memory_map (sort o); schema = f; origin = at; inputs = is })
  sort_has at o none f is ts =
      let z = keyed at o.keys (first_table ts) in
      let U = if_whole (first_table ts).schema z.broken (table_of (first_table ts).schema (sorted_rows o (width (first_table ts))) z) in
      (U, (U, inl refl, sym (ap (λ c. cut_by c U) none)))

  filter_has : (at : ℕ) (e : Tree) (f : Fields) (is : List Stream) → HasTable (record { kind = filter_node e; schema = f; origin = at; inputs = is })
  filter_has at e f is ts = let U = table_of (first_table ts).schema (where_true (width (first_table ts))) (keyed at (e ∷ []) (first_table ts)) in (U, (U, inl refl, refl))

  project_has : (at : ℕ) (ns : List Name) (f : Fields) (is : List Stream) → HasTable (record { kind = simple_projection ns; schema = f; origin = at; inputs = is })
  project_has at ns f is ts = let U = projected ns (out_schema F at (project ns) ts) (first_table ts) in (U, (U, inl refl, refl))

  zip_has : (at : ℕ) (f : Fields) (is : List Stream) → HasTable (record { kind = zip_node false; schema = f; origin = at; inputs = is })
  zip_has at f is ts = let U = table_of f (λ rows. rows) (mild_zip at (all_columns ts)) in (U, (U, inl refl, refl))

  module _ (at : ℕ) where
    with_columns_alike : (ns : List Name) (i j : Stream) (s t : State) → Alike s t → j ≡ i → AlikeMade (with_columns at ns i s) (with_columns at ns j t)
    with_columns_alike ns i j s t h e = subst (λ k. AlikeMade (with_columns at ns i s) (with_columns at ns k t)) (sym e) (subst (λ m. AlikeMade (with_columns at ns i s) m) (sym back) (by (same_names ns (names_of (schema_at s.nodes i)))))
      where
        back : with_columns at ns i t ≡ cond {A = Made} (same_names ns (names_of (schema_at s.nodes i))) (record { state = t; stream = i }) (projection at ns i t)
        back = ap (λ f. cond {A = Made} (same_names ns (names_of f)) (record { state = t; stream = i }) (projection at ns i t)) (schemas s t h i)

        by : (b : Bool) → AlikeMade (cond {A = Made} b (record { state = s; stream = i }) (projection at ns i s)) (cond {A = Made} b (record { state = t; stream = i }) (projection at ns i t))
        by true = record { state = h; stream = refl }
        by false = over_alike at s t i i (simple_projection ns) (λ f. unwrap_or (named_fields ns f) []) h refl (project_has at ns (unwrap_or (named_fields ns (schema_at s.nodes i)) []) (i ∷ []))

    without_alike : (es : List Named) (s t : State) → Alike s t → AlikeMade (without_input at es s) (without_input at es t)
    without_alike es s t h = insert_alike s t (record { kind = independent_select es; schema = selected_schema es []; origin = at; inputs = [] }) (record { kind = independent_select es; schema = selected_schema es []; origin = at; inputs = [] }) h refl (independent_has at es (selected_schema es []) [])

  -- names
  name_alike : (s t : State) → Alike s t → Alike (after_name s) (after_name t)
  name_alike s t h = let e = h.names in record { more = h.more; first = h.first; second = h.second; names = ap after_fresh e; tables = h.tables }

  after_alike : {A : Type 0} (xs : List A) (s t : State) → Alike s t → Alike (after_names xs s) (after_names xs t)
  after_alike [] s t h = h
  after_alike (x ∷ xs) s t h = after_alike xs (after_name s) (after_name t) (name_alike s t h)

  names_alike : {A : Type 0} (xs : List A) (s t : State) → Alike s t → new_names xs t ≡ new_names xs s
  names_alike [] s t h = refl
  names_alike (x ∷ xs) s t h = let e = h.names in let r = names_alike xs (after_name s) (after_name t) (name_alike s t h) in λ i. fresh_name (e i) ∷ r i

  module _ (at : ℕ) (input : Stream) where
    abbrev pub Follows : (Call → Call) → Type 0
    Follows rule = (c d : Call) → AlikeCall c d → AlikeCall (rule c) (rule d)

    abbrev pub AllFollow : List Operand → Type 0
    AllFollow os = AllByRecursion (λ (o : Operand). Follows o.rule) os

    left_follows : (e : Tree) → Follows (left_to_map e)
    left_follows e c d h =
        let n = h.state.names in
        let x = h.exprs in
        let m = h.mapped in
        record { state = name_alike c.state d.state h.state; streams = h.streams; reduced = h.reduced; exprs = λ i. x i ++ Tree.column (fresh_name (n i)) ∷ []; mapped = λ i. m i ++ (fresh_name (n i), e) ∷ [] }

    stays_follows : (e : Tree) → Follows (stays at input e)
    stays_follows e c d h =
        let x = h.exprs in
        record { state = h.state; streams = ap (λ ss. cond (is_independent e) ss (added input ss)) h.streams; reduced = h.reduced; exprs = λ i. x i ++ e ∷ []; mapped = h.mapped }

    or_follows : (e : Tree) (rule : Call → Call) → Follows rule → Follows (stays_or at input e rule)
    or_follows e rule f = by (is_elementwise e)
      where
        by : (b : Bool) → Follows (cond {A = Call → Call} b (stays at input e) rule)
        by true = stays_follows e
        by false = f

    each_follows : (os : List Operand) → AllFollow os → Follows (each os)
    each_follows [] all c d h = h
    each_follows (o ∷ os) all c d h = each_follows os all.1 (o.rule c) (o.rule d) (all.0 c d h)

    given_follows : (e : Tree) (m n : Made) (c d : Call) → AlikeCall c d → AlikeMade m n → AlikeCall (given e m.stream m.state c) (given e n.stream n.state d)
    given_follows e m n c d h k =
        let x = h.exprs in
        let y = k.stream in
        let z = h.streams in
        record { state = k.state; streams = λ i. added (y i) (z i); reduced = h.reduced; exprs = λ i. x i ++ e ∷ []; mapped = h.mapped }

    -- the map of a call
    mapped_alike : (es : List Named) (s t : State) → Alike s t → AlikeMade (mapped_stream at input es s) (mapped_stream at input es t)
    mapped_alike es s t h =
        let ns = names_kept es (schema_at s.nodes input) in
        let m = with_columns at ns input s in
        let n = with_columns at ns input t in
        let k = with_columns_alike at ns input input s t h refl in
        let r = over_alike at m.state n.state m.stream n.stream (in_memory_map (select es)) (λ f. selected_schema es f) k.state k.stream (map_has at es (selected_schema es (schema_at m.state.nodes m.stream)) (m.stream ∷ [])) in
        subst (λ f. AlikeMade (mapped_stream at input es s) (let b = with_columns at (names_kept es f) input t in over_selected at (in_memory_map (select es)) es b.stream b.state)) (sym (schemas s t h input)) r

    with_map_alike : (c d : Call) → AlikeCall c d → AlikeBundle (with_map at input c) (with_map at input d)
    with_map_alike c d h =
        let e = h.mapped in
        let m = mapped_stream at input c.mapped c.state in
        let n = mapped_stream at input d.mapped d.state in
        let k : AlikeMade m n = subst (λ es. AlikeMade m (mapped_stream at input es d.state)) (sym e) (mapped_alike c.mapped c.state d.state h.state) in
        let y = k.stream in
        let z = h.streams in
        record { state = k.state; streams = λ i. added (y i) (z i); reduced = h.reduced; exprs = h.exprs }

    gathered_alike : (c d : Call) → AlikeCall c d → AlikeBundle (gathered at input c) (gathered at input d)
    gathered_alike c d h = subst (λ es. AlikeBundle (gathered at input c) (cond {A = Bundle} (is_empty es) (without_map at input d) (with_map at input d))) (sym h.mapped) (by (is_empty c.mapped))
      where
        by : (b : Bool) → AlikeBundle (cond {A = Bundle} b (without_map at input c) (with_map at input c)) (cond {A = Bundle} b (without_map at input d) (with_map at input d))
        by true = record { state = h.state; streams = h.streams; reduced = h.reduced; exprs = h.exprs }
        by false = with_map_alike c d h

    -- one stream of several
    all_schemas : (s t : State) → Alike s t → (ss : List Stream) → flat_map (schema_at t.nodes) ss ≡ flat_map (schema_at s.nodes) ss
    all_schemas s t h [] = refl
    all_schemas s t h (i ∷ ss) = let p = schemas s t h i in let q = all_schemas s t h ss in λ j. p j ++ q j

    zip_alike : (ss : List Stream) (s t : State) → Alike s t → AlikeMade (zip_of at input ss s) (zip_of at input ss t)
    zip_alike ss s t h =
        let e = all_schemas s t h ss in
        insert_alike s t (record { kind = zip_node false; schema = flat_map (schema_at s.nodes) ss; origin = at; inputs = ss }) (record { kind = zip_node false; schema = flat_map (schema_at t.nodes) ss; origin = at; inputs = ss }) h
        (λ i. record { kind = zip_node false; schema = e i; origin = at; inputs = ss }) (zip_has at (flat_map (schema_at s.nodes) ss) ss)

    stream_alike : (ss : List Stream) (s t : State) → Alike s t → AlikeMade (one_stream at input ss s) (one_stream at input ss t)
    stream_alike [] s t h = zip_alike [] s t h
    stream_alike (i ∷ []) s t h = record { state = h; stream = refl }
    stream_alike (i ∷ j ∷ more) s t h = zip_alike (i ∷ j ∷ more) s t h

    one_alike : (b c : Bundle) → AlikeBundle b c → AlikeMade (one_of at input b.streams b.reduced b.state) (one_of at input c.streams c.reduced c.state)
    one_alike b c h = subst (λ (x : List Stream × List Named). AlikeMade (one_of at input b.streams b.reduced b.state) (one_of at input x.0 x.1 c.state)) (let p = h.streams in let q = h.reduced in λ i. (sym p i, sym q i)) (by (is_empty b.reduced))
      where
        by : (e : Bool) → AlikeMade (cond {A = State → Made} e (one_stream at input b.streams) (with_reduce at input b.streams b.reduced) b.state) (cond {A = State → Made} e (one_stream at input b.streams) (with_reduce at input b.streams b.reduced) c.state)
        by true = stream_alike b.streams b.state c.state h.state
        by false =
            let rs = b.reduced in
            let m = over_selected at (reduce rs) rs input b.state in
            let n = over_selected at (reduce rs) rs input c.state in
            let k = over_alike at b.state c.state input input (reduce rs) (λ f. selected_schema rs f) h.state refl (reduce_has at rs (selected_schema rs (schema_at b.state.nodes input)) (input ∷ [])) in
            subst (λ i. AlikeMade (one_stream at input (b.streams ++ m.stream ∷ []) m.state) (one_stream at input (b.streams ++ i ∷ []) n.state)) (sym k.stream) (stream_alike (b.streams ++ m.stream ∷ []) m.state n.state k.state)

    -- what a call gathers
    together_alike : (os : List Operand) → AllFollow os → (s t : State) → Alike s t → AlikeBundle (together at input os s) (together at input os t)
    together_alike os all s t h = by (all_independent (exprs_of_all os))
      where
        by : (b : Bool) → AlikeBundle (cond {A = State → Bundle} b (apart_from_input at input (exprs_of_all os)) (over_input at input os) s) (cond {A = State → Bundle} b (apart_from_input at input (exprs_of_all os)) (over_input at input os) t)
        by true =
            let es = exprs_of_all os in
            let ns = new_names es s in
            let e = names_alike es s t h in
            let k : AlikeMade (without_input at (under ns es) (after_names es s)) (without_input at (under (new_names es t) es) (after_names es t)) =
            subst (λ ms. AlikeMade (without_input at (under ns es) (after_names es s)) (without_input at (under ms es) (after_names es t))) (sym e) (without_alike at (under ns es) (after_names es s) (after_names es t) (after_alike es s t h)) in
            let y = k.stream in
            record { state = k.state; streams = λ i. y i ∷ []; reduced = refl; exprs = ap columns_named e }
        by false = gathered_alike (each os (new_call s)) (each os (new_call t)) (each_follows os all (new_call s) (new_call t) (record { state = h; streams = refl; reduced = refl; exprs = refl; mapped = refl }))

    operands_follow : (op : List Tree → Tree) (os : List Operand) → AllFollow os → Follows (over_operands at input op os)
    operands_follow op os all c d h =
        let k = together_alike os all c.state d.state h.state in
        let x = h.streams in
        let y = k.streams in
        let z = h.reduced in
        let u = k.reduced in
        let v = h.exprs in
        let w = k.exprs in
        record { state = k.state; streams = λ i. all_added (y i) (x i); reduced = λ i. z i ++ u i; exprs = λ i. v i ++ op (w i) ∷ []; mapped = h.mapped }

    -- a select
    selected_alike : (items : List NamedOperand) → AllFollow (operands_of items) → (s t : State) → Alike s t → AlikeMade (selected at input items s) (selected at input items t)
    selected_alike items all s t h = by (all_independent (exprs_of_all (operands_of items))) (are_own_columns items)
      where
        by : (x y : Bool)
            → AlikeMade (cond {A = State → Made} x (without_input at (under (names_of_items items) (exprs_of_all (operands_of items)))) (cond {A = State → Made} y (with_columns at (names_of_items items) input) (computed at input items)) s)
            (cond {A = State → Made} x (without_input at (under (names_of_items items) (exprs_of_all (operands_of items)))) (cond {A = State → Made} y (with_columns at (names_of_items items) input) (computed at input items)) t)
        by true y = without_alike at (under (names_of_items items) (exprs_of_all (operands_of items))) s t h
        by false true = with_columns_alike at (names_of_items items) input input s t h refl
        by false false =
            let os = operands_of items in
            let b = together at input os s in
            let c = together at input os t in
            let g = together_alike os all s t h in
            let m = one_of at input b.streams b.reduced b.state in
            let n = one_of at input c.streams c.reduced c.state in
            let k = one_alike b c g in
            let ns = names_of_items items in
            let es = under ns b.exprs in
            let r = over_alike at m.state n.state m.stream n.stream (select_node es false) (λ f. selected_schema es f) k.state k.stream (select_has at es (selected_schema es (schema_at m.state.nodes m.stream)) (m.stream ∷ [])) in
            subst (λ xs. AlikeMade (computed at input items s) (over_selected at (select_node (under ns xs) false) (under ns xs) n.stream n.state)) (sym g.exprs) r

    under_alike : (os : List Operand) → AllFollow os → (s t : State) → Alike s t → AlikeMade (selected at input (under (new_names os s) os) (after_names os s)) (selected at input (under (new_names os t) os) (after_names os t))
    under_alike os all s t h =
        subst (λ ns. AlikeMade (selected at input (under (new_names os s) os) (after_names os s)) (selected at input (under ns os) (after_names os t))) (sym (names_alike os s t h))
        (selected_alike (under (new_names os s) os) (under_follow (new_names os s) os all) (after_names os s) (after_names os t) (after_alike os s t h))
      where
        under_follow : (ns : List Name) (os : List Operand) → AllFollow os → AllFollow (operands_of (under ns os))
        under_follow [] os all = tt
        under_follow (n ∷ ns) [] all = tt
        under_follow (n ∷ ns) (o ∷ os) all = (all.0, under_follow ns os all.1)

    sort_follows : (x y : Bool) (o : Operand) → Follows o.rule → Follows (sorted_column at input x y o)
    sort_follows x y o f c d h =
        let s = c.state in
        let t = d.state in
        let os = o ∷ [] in
        let m = selected at input (under (new_names os s) os) (after_names os s) in
        let n = selected at input (under (new_names os t) os) (after_names os t) in
        let k = under_alike os (f, tt) s t h.state in
        let name = new_name s in
        let step : SortStep = record { keys = Tree.column name ∷ []; descending = x ∷ []; nulls_last = y ∷ []; cut = None } in
        let r = over_alike at m.state n.state m.stream n.stream (in_memory_map (sort step)) (λ f. f) k.state k.stream (sort_has at step refl (schema_at m.state.nodes m.stream) (m.stream ∷ [])) in
        subst (λ name. AlikeCall (sorted_column at input x y o c) (let v = over_same at (in_memory_map (sort (record { keys = Tree.column name ∷ []; descending = x ∷ []; nulls_last = y ∷ []; cut = None }))) n.stream n.state in given (Tree.column name) v.stream v.state d)) (ap fresh_name (sym h.state.names))
        (given_follows (Tree.column name) (over_same at (in_memory_map (sort step)) m.stream m.state) (over_same at (in_memory_map (sort step)) n.stream n.state) c d h r)

    filter_follows : (o by : Operand) → Follows o.rule → Follows by.rule → Follows (filtered_column at input o by)
    filter_follows o by f g c d h =
        let s = c.state in
        let t = d.state in
        let os = o ∷ by ∷ [] in
        let m = selected at input (under (new_names os s) os) (after_names os s) in
        let n = selected at input (under (new_names os t) os) (after_names os t) in
        let k = under_alike os (f, (g, tt)) s t h.state in
        let ns = new_names os s in
        let e = first_tree (columns_named (other_names ns)) in
        let r = over_alike at m.state n.state m.stream n.stream (filter_node e) (λ f. f) k.state k.stream (filter_has at e (schema_at m.state.nodes m.stream) (m.stream ∷ [])) in
        subst (λ ns. AlikeCall (filtered_column at input o by c) (let v = over_same at (filter_node (first_tree (columns_named (other_names ns)))) n.stream n.state in given (Tree.column (first_name ns)) v.stream v.state d)) (sym (names_alike os s t h.state))
        (given_follows (Tree.column (first_name ns)) (over_same at (filter_node e) m.stream m.state) (over_same at (filter_node e) n.stream n.state) c d h r)

    keys_follow : (x y : List Bool) (o : Operand) (by : List Operand) → AllFollow (o ∷ by) → Follows (sorted_by at input x y o by)
    keys_follow x y o by all c d h =
        let s = c.state in
        let t = d.state in
        let os = o ∷ by in
        let m = selected at input (under (new_names os s) os) (after_names os s) in
        let n = selected at input (under (new_names os t) os) (after_names os t) in
        let k = under_alike os all s t h.state in
        let ns = new_names os s in
        let step : SortStep = record { keys = columns_named (other_names ns); descending = x; nulls_last = y; cut = None } in
        let u = over_same at (in_memory_map (sort step)) m.stream m.state in
        let w = over_same at (in_memory_map (sort step)) n.stream n.state in
        let r : AlikeMade u w = over_alike at m.state n.state m.stream n.stream (in_memory_map (sort step)) (λ f. f) k.state k.stream (sort_has at step refl (schema_at m.state.nodes m.stream) (m.stream ∷ [])) in
        let z = with_columns_alike at (first_name ns ∷ []) u.stream w.stream u.state w.state r.state r.stream in
        subst (λ ns. AlikeCall (sorted_by at input x y o by c) (let v = over_same at (in_memory_map (sort (record { keys = columns_named (other_names ns); descending = x; nulls_last = y; cut = None }))) n.stream n.state in let p = with_columns at (first_name ns ∷ []) v.stream v.state in given (Tree.column (first_name ns)) p.stream p.state d)) (sym (names_alike os s t h.state))
        (given_follows (Tree.column (first_name ns)) (with_columns at (first_name ns ∷ []) u.stream u.state) (with_columns at (first_name ns ∷ []) w.stream w.state) c d h z)

    reduction_follows : (e : Tree) (s t : State) (c d : Call) → AlikeCall c d → Alike s t → AlikeCall (given_reduction e s c) (given_reduction e t d)
    reduction_follows e s t c d h k =
        let n = k.names in
        let x = h.reduced in
        let y = h.exprs in
        record { state = name_alike s t k; streams = h.streams; reduced = λ i. x i ++ (fresh_name (n i), e) ∷ []; exprs = λ i. y i ++ Tree.column (fresh_name (n i)) ∷ []; mapped = h.mapped }

    reduced_follows : (a : Aggregation) (o : Operand) → Follows o.rule → Follows (reduced_column at input a o)
    reduced_follows a o f c d h = subst (λ (x : List Stream × (List Named × List Tree)). AlikeCall (reduced_column at input a o c) (reduced_over at input op (record g { streams = x.0; reduced = x.1.0; exprs = x.1.1 }) d)) (let p = k.streams in let q = k.reduced in let r = k.exprs in λ i. (sym p i, (sym q i, sym r i))) (by (is_stream_alone input gained.streams gained.reduced))
      where
        op : List Tree → Tree
        op es = Tree.aggregate a (first_tree es)

        gained : Bundle
        gained = together at input (o ∷ []) c.state

        g : Bundle
        g = together at input (o ∷ []) d.state

        k : AlikeBundle gained g
        k = together_alike (o ∷ []) (f, tt) c.state d.state h.state

        e : Tree
        e = op gained.exprs

        g' : Bundle
        g' = record g { streams = gained.streams; reduced = gained.reduced; exprs = gained.exprs }

        same_bundle : AlikeBundle gained g'
        same_bundle = record { state = k.state; streams = refl; reduced = refl; exprs = refl }

        by : (q : Bool) → AlikeCall (cond {A = Call → Call} q (given_reduction e gained.state) (reduced_apart at input e (finished at input gained)) c) (cond {A = Call → Call} q (given_reduction e g.state) (reduced_apart at input e (finished at input g')) d)
        by true = reduction_follows e gained.state g.state c d h k.state
        by false =
            let m = one_of at input gained.streams gained.reduced gained.state in
            let n = one_of at input gained.streams gained.reduced g.state in
            let z = one_alike gained g' same_bundle in
            let name = new_name m.state in
            let es : List Named = (name, e) ∷ [] in
            let s = after_name m.state in
            let t = after_name n.state in
            let r = over_alike at s t m.stream n.stream (reduce es) (λ f. selected_schema es f) (name_alike m.state n.state z.state) z.stream (reduce_has at es (selected_schema es (schema_at s.nodes m.stream)) (m.stream ∷ [])) in
            subst (λ name. AlikeCall (reduced_apart at input e (finished at input gained) c) (let es = (name, e) ∷ [] in let v = over_selected at (reduce es) es n.stream t in given (Tree.column name) v.stream v.state d)) (ap fresh_name (sym z.state.names))
            (given_follows (Tree.column name) (over_selected at (reduce es) es m.stream s) (over_selected at (reduce es) es n.stream t) c d h r)

    aggregate_follows : (a : Aggregation) (o : Operand) (e : Tree) → Follows o.rule → Follows (aggregated at input a o e)
    aggregate_follows Aggregation.n_unique o e f = left_follows e
    aggregate_follows (Aggregation.count all) o e f = left_follows e
    aggregate_follows Aggregation.min o e f = reduced_follows Aggregation.min o f
    aggregate_follows Aggregation.max o e f = reduced_follows Aggregation.max o f
    aggregate_follows Aggregation.first o e f = reduced_follows Aggregation.first o f
    aggregate_follows Aggregation.last o e f = reduced_follows Aggregation.last o f
    aggregate_follows Aggregation.sum o e f = reduced_follows Aggregation.sum o f

    mutual
      pub follows : (e : Tree) → Follows (lower at input e)
      follows (Tree.column name) = or_follows (Tree.column name) (λ call. call) (λ c d h. h)
      follows (Tree.literal l) = or_follows (Tree.literal l) (λ call. call) (λ c d h. h)
      follows (Tree.binary o l r) =
          let os = as_operand at input l ∷ as_operand at input r ∷ [] in
          or_follows (Tree.binary o l r) (over_operands at input (binary_of o) os) (operands_follow (binary_of o) os (follows l, (follows r, tt)))
      follows (Tree.cast k strict e) =
          let os = as_operand at input e ∷ [] in
          or_follows (Tree.cast k strict e) (over_operands at input (cast_of k strict) os) (operands_follow (cast_of k strict) os (follows e, tt))
      follows (Tree.ternary p x y) =
          let os = as_operand at input p ∷ as_operand at input x ∷ as_operand at input y ∷ [] in
          or_follows (Tree.ternary p x y) (over_operands at input ternary_of os) (operands_follow ternary_of os (follows p, (follows x, (follows y, tt))))
      follows (Tree.function g e) = or_follows (Tree.function g e) (left_to_map (Tree.function g e)) (left_follows (Tree.function g e))
      follows (Tree.sort x y e) = sort_follows x y (as_operand at input e) (follows e)
      follows (Tree.sort_by x y e by) = keys_follow x y (as_operand at input e) (operands at input by) (follows e, all_follow by)
      follows (Tree.gather s e i) = left_follows (Tree.gather s e i)
      follows (Tree.filter e by) = filter_follows (as_operand at input e) (as_operand at input by) (follows e) (follows by)
      follows (Tree.aggregate k e) = aggregate_follows k (as_operand at input e) (Tree.aggregate k e) (follows e)
      follows (Tree.slice e o l) = left_follows (Tree.slice e o l)
      follows Tree.len = λ c d h. reduction_follows Tree.len c.state d.state c d h h.state
      follows (Tree.left_out w) = left_follows (Tree.left_out w)
      follows Tree.missing = left_follows Tree.missing

      all_follow : (es : Trees) → AllFollow (operands at input es)
      all_follow Trees.no_trees = tt
      all_follow (Trees.tree e es) = (follows e, all_follow es)

    list_follow : (es : List Tree) → AllFollow (map (as_operand at input) es)
    list_follow [] = tt
    list_follow (e ∷ es) = (follows e, list_follow es)

    -- the whole of a call
    pub record AlikeAnswer (x y : Answer) : Type 0 where
      pub state : Alike x.state y.state
      pub stream : y.stream ≡ x.stream
      pub exprs : y.exprs ≡ x.exprs

    pub answers_alike : (es : List Tree) (s t : State) → Alike s t → AlikeAnswer (lower_exprs at input es s) (lower_exprs at input es t)
    answers_alike es s t h =
        let os = map (as_operand at input) es in
        let k = together_alike os (list_follow es) s t h in
        let z = one_alike (together at input os s) (together at input os t) k in
        record { state = z.state; stream = z.stream; exprs = k.exprs }
