-- The stream of a select has the fields of its expressions, whatever tables there are.
use Rattle.std.proofs.Common.{◌≡◌, ℕ, ◌≤◌, ◌^◌, Bool, true, false, cond, List, [], ◌∷◌, ◌++◌, length, None, Some, refl, sym, ap, subst, ◌∙◌}
use Rattle.std.specs.Prelude.{IsTrue, Option, is_some, map, slice_get, unwrap_or}
use Rattle.std.specs.Cmp.Lexicographic.{bytes_decides}
use Rattle.std.specs.List.{AllByRecursion, list_all}
use Rattle.ps_frame.specs.Frames.{has_distinct_names}
use Rattle.ps_frame.specs.Functions.{Functions}
use Rattle.ps_frame.specs.Tables.{Fields, field_kind}
use Rattle.ps_frame.specs.Trees.{Tree}
use Rattle.ps_frame.specs.Typing.{is_independent, kind_over}
use Rattle.ps_frame.specs.declared.value.DataType.{DataType}
use Rattle.ps_meaning.specs.Schemas.{both as both_of, expr_names, fields_of, named_fields, names_of}
use Rattle.ps_meaning.specs.Shape.{PhysicalNode, Shape, independent_select, select_node, simple_projection}
use Rattle.ps_meaning.specs.Sound.{have_all_kinds}
use Rattle.ps_meaning.specs.Steps.{Name, Named, exprs_of}
use Rattle.ps_rowwise.proofs.Ignoring.{same-kind}
use Rattle.ps_rules.specs.Calls.{all_independent, exprs_of_all}
use Rattle.ps_rules.specs.Lowered.{as_operand, select_stream}
use Rattle.ps_rules.specs.Rules.{NamedOperand, answered, are_own_columns, computed, is_own_column, names_of_items, operands_of}
use Rattle.ps_rules.specs.Slots.{Made, State, Stream, projection, same_names, schema_at, schema_or_none, selected_schema, under, with_columns, without_input}
use Rattle.ps_shares.specs.Kept.{IsReady}
use Rattle.ps_shares.proofs.Ends.{same_fields, under_own}
use Rattle.ps_shares.proofs.FlatLength.{both_hold}
use Rattle.ps_bundles.proofs.Reading.{kinds_own}
use Rattle.ps_bundles.proofs.ZipEnds.{differ}
use Rattle.name_rules.proofs.Items.{same_is}
use Rattle.lowering_kinds.specs.Kinds.{SelectsHaveFields}
use Rattle.lowering_kinds.proofs.Staying.{kinds_stay}

own_is : (n : Name) (e : Tree) → is_own_column n e ≡ true → e ≡ Tree.column n
own_is n (Tree.column m) h = ap Tree.column (sym ((bytes_decides n m).0 h))
own_is n (Tree.literal l) h = absurd (differ (sym h))
own_is n (Tree.binary o l r) h = absurd (differ (sym h))
own_is n (Tree.cast k s e) h = absurd (differ (sym h))
own_is n (Tree.ternary p a b) h = absurd (differ (sym h))
own_is n (Tree.function g e) h = absurd (differ (sym h))
own_is n (Tree.sort d m e) h = absurd (differ (sym h))
own_is n (Tree.sort_by d m e by) h = absurd (differ (sym h))
own_is n (Tree.gather s e i) h = absurd (differ (sym h))
own_is n (Tree.filter e by) h = absurd (differ (sym h))
own_is n (Tree.aggregate a e) h = absurd (differ (sym h))
own_is n (Tree.slice e o l) h = absurd (differ (sym h))
own_is n Tree.len h = absurd (differ (sym h))
own_is n (Tree.left_out w) h = absurd (differ (sym h))
own_is n Tree.missing h = absurd (differ (sym h))

last_schema : (nodes : Shape) (p : PhysicalNode) → schema_or_none (slice_get (nodes ++ p ∷ []) (length nodes)) ≡ p.schema
last_schema [] p = refl
last_schema (x ∷ nodes) p = last_schema nodes p

-- each name that a schema has gives its own field
all_fields : (r s : Fields) → AllByRecursion (λ (f : Name × DataType). field_kind f.0 s ≡ Some f.1) r → named_fields (names_of r) s ≡ Some r
all_fields [] s h = refl
all_fields (f ∷ r) s h =
    let p = h.0 in
    let q = all_fields r s h.1 in
    λ i. both_of (λ k fs. (f.0, k) ∷ fs) (p i) (q i)

-- what is independent has the same fields over any schema
fields_alone : (f : Fields) (es : List Named) → list_all is_independent (exprs_of es) ≡ true → fields_of es [] ≡ fields_of es f
fields_alone f [] h = refl
fields_alone f (e ∷ es) h =
    let b = both_hold (is_independent e.1) (list_all is_independent (exprs_of es)) h in
    let p = same-kind [] f e.1 b.0 in
    let q = fields_alone f es b.1 in
    λ i. both_of (λ k fs. (e.0, k) ∷ fs) (p i) (q i)

-- expressions with kinds have fields
typed_fields : (f : Fields) (es : List Named) → have_all_kinds f (exprs_of es) ≡ true → is_some (fields_of es f) ≡ true
typed_fields f [] h = refl
typed_fields f (e ∷ es) h =
    let b = both_hold (is_some (kind_over f e.1)) (have_all_kinds f (exprs_of es)) h in
    one e.0 (kind_over f e.1) (fields_of es f) b.0 (typed_fields f es b.1)
  where
    one : (n : Name) (o : Option DataType) (r : Option Fields) → is_some o ≡ true → is_some r ≡ true → is_some (both_of (λ (k : DataType) (fs : Fields). (n, k) ∷ fs) o r) ≡ true
    one n (Some k) (Some fs) p q = refl
    one n (Some k) None p q = absurd (differ (sym q))
    one n None r p q = absurd (differ (sym p))

some_of : (o : Option Fields) → is_some o ≡ true → o ≡ Some (unwrap_or o [])
some_of None h = absurd (differ (sym h))
some_of (Some f) h = refl

module _ (F : Functions) (at : ℕ) (input : Stream) where
  abbrev pub items_of : List Named → List NamedOperand
  items_of es = map (λ (e : Named). (e.0, as_operand at input e.1)) es

  pub names_back : (es : List Named) → names_of_items (items_of es) ≡ expr_names es
  names_back [] = refl
  names_back (e ∷ es) = ap (λ ns. e.0 ∷ ns) (names_back es)

  pub operands_back : (es : List Named) → operands_of (items_of es) ≡ map (as_operand at input) (exprs_of es)
  operands_back [] = refl
  operands_back (e ∷ es) = ap (λ os. as_operand at input e.1 ∷ os) (operands_back es)

  pub exprs_back : (es : List Named) → exprs_of_all (operands_of (items_of es)) ≡ exprs_of es
  exprs_back [] = refl
  exprs_back (e ∷ es) = ap (λ xs. e.1 ∷ xs) (exprs_back es)

  pub named_back : (es : List Named) → under (names_of_items (items_of es)) (exprs_of_all (operands_of (items_of es))) ≡ es
  named_back es = (λ i. under (names_back es i) (exprs_back es i)) ∙ under_own es

  pub own_fields : (f : Fields) (es : List Named) → are_own_columns (items_of es) ≡ true → fields_of es f ≡ named_fields (names_of_items (items_of es)) f
  own_fields f [] h = refl
  own_fields f (e ∷ es) h =
      let b = both_hold (is_own_column e.0 e.1) (are_own_columns (items_of es)) h in
      let p = own_is e.0 e.1 b.0 in
      let r = own_fields f es b.1 in
      λ i. both_of (λ k fs. (e.0, k) ∷ fs) (kind_over f (p i)) (r i)

  abbrev Gives : List Named → Fields → Made → Type 0
  Gives es f m = m.state.names.next ≤ 2 ^ 64 → schema_at m.state.nodes m.stream ≡ selected_schema es f

  columns_give : (ns : List Name) (s : State) → IsTrue (has_distinct_names (schema_at s.nodes input))
      → schema_at (with_columns at ns input s).state.nodes (with_columns at ns input s).stream ≡ unwrap_or (named_fields ns (schema_at s.nodes input)) []
  columns_give ns s distinct = by (same_names ns (names_of f)) refl
    where
      f : Fields
      f = schema_at s.nodes input

      by : (c : Bool) → same_names ns (names_of f) ≡ c
          → schema_at (cond {A = Made} c (record { state = s; stream = input }) (projection at ns input s)).state.nodes (cond {A = Made} c (record { state = s; stream = input }) (projection at ns input s)).stream ≡ unwrap_or (named_fields ns f) []
      by true r = sym (ap (λ o. unwrap_or o []) (ap (λ ns. named_fields ns f) (same_is ns (names_of f) r) ∙ all_fields f f (kinds_own f distinct)))
      by false r = last_schema s.nodes (record { kind = simple_projection ns; schema = unwrap_or (named_fields ns f) []; origin = at; inputs = input ∷ [] })

  select_gives : (s : State) (es : List Named) → IsReady s input (exprs_of es) → IsTrue (has_distinct_names (schema_at s.nodes input)) → Gives es (schema_at s.nodes input) (select_stream at input es s)
  select_gives s es ready distinct = by (all_independent (exprs_of_all (operands_of items))) (are_own_columns items) refl refl
    where
      f : Fields
      f = schema_at s.nodes input

      items : List NamedOperand
      items = items_of es

      by : (x y : Bool) → all_independent (exprs_of_all (operands_of items)) ≡ x → are_own_columns items ≡ y
          → Gives es f (cond {A = State → Made} x (without_input at (under (names_of_items items) (exprs_of_all (operands_of items)))) (cond {A = State → Made} y (with_columns at (names_of_items items) input) (computed at input items)) s)
      by true y p q small =
          let ms = under (names_of_items items) (exprs_of_all (operands_of items)) in
          last_schema s.nodes (record { kind = independent_select ms; schema = selected_schema ms []; origin = at; inputs = [] }) ∙ ap (λ es. selected_schema es []) (named_back es)
          ∙ ap (λ o. unwrap_or o []) (fields_alone f es (ap all_independent (sym (exprs_back es)) ∙ p))
      by false true p q small = columns_give (names_of_items items) s distinct ∙ ap (λ o. unwrap_or o []) (sym (own_fields f es q))
      by false false p q small =
          let a = answered at input (operands_of items) s in
          let ms = under (names_of_items items) a.exprs in
          let kinds : map (kind_over (schema_at a.state.nodes a.stream)) a.exprs ≡ map (kind_over f) (exprs_of es) =
          subst (λ os. (answered at input os s).state.names.next ≤ 2 ^ 64 → map (kind_over (schema_at (answered at input os s).state.nodes (answered at input os s).stream)) (answered at input os s).exprs ≡ map (kind_over f) (exprs_of es))
          (sym (operands_back es)) (kinds_stay F at input s (exprs_of es) ready) small in
          last_schema a.state.nodes (record { kind = select_node ms false; schema = selected_schema ms (schema_at a.state.nodes a.stream); origin = at; inputs = a.stream ∷ [] })
          ∙ ap (λ o. unwrap_or o []) (same_fields (schema_at a.state.nodes a.stream) f (names_of_items items) a.exprs (exprs_of es) kinds ∙ ap (λ ns. fields_of (under ns (exprs_of es)) f) (names_back es) ∙ ap (λ es. fields_of es f) (under_own es))

pub selects_have_fields : SelectsHaveFields
selects_have_fields F at input s es ready small =
    let f = schema_at s.nodes input in
    let is : f ≡ ready.node.schema = ap schema_or_none ready.there in
    let typed : have_all_kinds f (exprs_of es) ≡ true = ap (λ f. have_all_kinds f (exprs_of es)) is ∙ ready.typed in
    let distinct : IsTrue (has_distinct_names f) = ap has_distinct_names is ∙ ready.distinct_names in
    some_of (fields_of es f) (typed_fields f es typed) ∙ ap (λ g. Some g) (sym (select_gives F at input s es ready distinct small))
