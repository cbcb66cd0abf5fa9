-- Nodes of the kinds that the rules make, which keep the rules on names and kinds.
use Rattle.std.proofs.Common.{◌≡◌, ◌≢◌, ◌⊎◌, inl, inr, ℕ, ◌≤◌, Bool, true, false, not, List, [], ◌∷◌, length, Some, None, refl, sym, ap, ◌∙◌}
use Rattle.std.specs.Prelude.{IsTrue, Option, is_some, unwrap_or, ◌&&◌}
use Rattle.std.specs.List.{list_any}
use Rattle.std.proofs.lemmas.Bool.{or_cases}
use Rattle.std.proofs.lemmas.Option.{same_Some}
use Rattle.ps_frame.proofs.Typings.{kinds-exact}
use Rattle.ps_frame.specs.Frames.{has_name}
use Rattle.ps_frame.specs.Functions.{Functions}
use Rattle.ps_frame.specs.Parts.{is_column_of, reads_column, some_part, tree_parts}
use Rattle.ps_frame.specs.Refusals.{breaks_rule, has_kind_where, is_not, is_refused}
use Rattle.ps_frame.specs.Tables.{Fields}
use Rattle.ps_frame.specs.Trees.{Tree}
use Rattle.ps_frame.specs.Typing.{kind_over}
use Rattle.ps_frame.specs.declared.expr.What.TheVariants as what
use Rattle.ps_frame.specs.declared.value.DataType.{DataType}
use Rattle.ps_frame.specs.declared.value.DataType.TheVariants as kind
use Rattle.ps_typing.proofs.Exact.{any-weaker, breaks-refused, none-refused, unknown-refused}
use Rattle.ps_meaning.specs.Schemas.{both as both_of, expr_names, fields_of, first_schema, is_among, joined_schemas, named_fields, names_of, output_schema}
use Rattle.ps_meaning.specs.Shape.{filter_node, in_memory_map, independent_select, reduce, select_node, simple_projection, zip_node}
use Rattle.ps_meaning.specs.Sound.{BreaksNoRule, have_all_kinds}
use Rattle.ps_meaning.specs.StepRefusals.{HasBadKeys, HasLiteralAggregate, HasNoKey, IsMissingColumn, IsRepeated, IsValidated, Refusal, StepMismatch, TypingRefused, WouldRepeat, break_rules, column_not_found, duplicate, lacks_column, own_exprs, repeats, schema_mismatch, unsupported}
use Rattle.ps_meaning.specs.Steps.{Name, Named, SortStep, Step, exprs_of, filter, hconcat, project, select, sort}
use Rattle.ps_rules.specs.Slots.{selected_schema}
use Rattle.ps_shares.proofs.FlatLength.{both_hold}
use Rattle.ps_shares.proofs.Projected.{named_as}
use Rattle.name_rules.specs.Lawful.{FiltersKeepRules, KeepsRules}
use Rattle.name_rules.proofs.Times.{distinct_once, once_never, times}

never : true ≡ false → ⊥
never e = cc

not_true : (b : Bool) → not b ≡ true → b ≡ false
not_true false h = refl
not_true true h = sym h

kind_some : (o : Option DataType) → is_some o ≡ true → (k : DataType) × (o ≡ Some k)
kind_some (Some k) h = (k, refl)
kind_some None h = cc

-- what has a kind reads no column that the schema lacks, and breaks no rule
module _ (s : Fields) where
  pub none_such : (test : Tree → Bool) → ((x : Tree) → test x ≡ true → is_refused s x ≡ true) → (e : Tree) → is_some (kind_over s e) ≡ true → some_part test e ≡ true → ⊥
  none_such test refused e typed h =
      let k = kind_some (kind_over s e) typed in
      never (sym (any-weaker test (is_refused s) (tree_parts e) refused h) ∙ none-refused s e k.0 (kinds-exact s e) k.1)

  none_of_all : (test : Tree → Bool) → ((x : Tree) → test x ≡ true → is_refused s x ≡ true) → (es : List Tree) → have_all_kinds s es ≡ true → list_any (some_part test) es ≡ true → ⊥
  none_of_all test refused [] typed h = cc
  none_of_all test refused (e ∷ es) typed h =
      let b = both_hold (is_some (kind_over s e)) (have_all_kinds s es) typed in
      elim (or_cases (some_part test e) (list_any (some_part test) es) h) [ inl k ↦ none_such test refused e b.0 k | inr k ↦ none_of_all test refused es b.1 k ]

  pub lacks_none : (es : List Tree) → have_all_kinds s es ≡ true → (n : Name) → lacks_column n s es ≡ true → ⊥
  lacks_none es typed n h =
      let b = both_hold (list_any (reads_column n) es) (not (has_name n s)) h in
      none_of_all (is_column_of n) (unknown-refused n s (not_true (has_name n s) b.1)) es typed b.0

  pub breaks_none : (es : List Tree) → have_all_kinds s es ≡ true → break_rules s es ≡ true → ⊥
  breaks_none es typed h = none_of_all (breaks_rule s) (breaks-refused s) es typed h

-- expressions with kinds have fields, under their names
pub typed_fields : (s : Fields) (es : List Named) → have_all_kinds s (exprs_of es) ≡ true → fields_of es s ≡ Some (selected_schema es s)
typed_fields s es h = some (fields_of es s) (there es h)
  where
    some : (o : Option Fields) → is_some o ≡ true → o ≡ Some (unwrap_or o [])
    some None h = cc
    some (Some f) h = refl

    one : (n : Name) (o : Option DataType) (r : Option Fields) → is_some o ≡ true → is_some r ≡ true → is_some (both_of (λ (k : DataType) (fs : Fields). (n, k) ∷ fs) o r) ≡ true
    one n (Some k) (Some fs) p q = refl
    one n (Some k) None p q = cc
    one n None r p q = cc

    there : (es : List Named) → have_all_kinds s (exprs_of es) ≡ true → is_some (fields_of es s) ≡ true
    there [] h = refl
    there (e ∷ es) h =
        let b = both_hold (is_some (kind_over s e.1)) (have_all_kinds s (exprs_of es)) h in
        one e.0 (kind_over s e.1) (fields_of es s) b.0 (there es b.1)

pub field_names : (s : Fields) (es : List Named) (fs : Fields) → fields_of es s ≡ Some fs → names_of fs ≡ expr_names es
field_names s [] fs h = let w : Some [] ≡ Some fs = h in ap names_of (sym (same_Some [] fs w))
field_names s (e ∷ es) fs h = by (kind_over s e.1) (fields_of es s) h (field_names s es)
  where
    by : (o : Option DataType) (r : Option Fields) → both_of (λ (k : DataType) (gs : Fields). (e.0, k) ∷ gs) o r ≡ Some fs → ((gs : Fields) → r ≡ Some gs → names_of gs ≡ expr_names es) → names_of fs ≡ e.0 ∷ expr_names es
    by (Some k) (Some gs) h rest = let w : Some ((e.0, k) ∷ gs) ≡ Some fs = h in ap names_of (sym (same_Some ((e.0, k) ∷ gs) fs w)) ∙ ap (λ ns. e.0 ∷ ns) (rest gs refl)
    by (Some k) None h rest = let w : None ≡ Some fs = h in cc
    by None r h rest = let w : None ≡ Some fs = h in cc

pub some_fields : (s : Fields) (es : List Named) (fs : Fields) → fields_of es s ≡ Some fs → es ≢ [] → fs ≢ []
some_fields s [] fs h some e = some refl
some_fields s (x ∷ es) fs h some e = let w : x.0 ∷ expr_names es ≡ [] = sym (field_names s (x ∷ es) fs h) ∙ ap names_of e in cc

-- one flag, or one for each key
abbrev pub FlagsFit : List Bool → ℕ → Type 0
FlagsFit flags keys = (length flags ≡ 1) ⊎ (length flags ≡ keys)

module _ (F : Functions) where
  -- the rules on a step, one by one
  pub record Obeys (step : Step) (ss : List Fields) : Type 0 where
    pub keys : HasBadKeys step → ⊥
    pub key : HasNoKey step → ⊥
    pub validated : IsValidated step → ⊥
    pub missing : (n : Name) → IsMissingColumn n step ss → ⊥
    pub repeated : (n : Name) → IsRepeated n step → ⊥
    pub names : (n : Name) → WouldRepeat F n step ss → ⊥
    pub kinds : StepMismatch F step ss → ⊥
    pub typed : IsTrue (break_rules (first_schema ss) (own_exprs step)) → ⊥
    pub columns : output_schema F step ss ≡ Some [] → ⊥
    pub literal : HasLiteralAggregate step → ⊥

  pub obeys : (step : Step) (ss : List Fields) → Obeys step ss → BreaksNoRule F step ss
  obeys step ss k = (k.keys, k.key, k.validated, typing)
    where
      typing : (R : Refusal) → TypingRefused F step ss R → ⊥
      typing (column_not_found n) h = k.missing n h
      typing (duplicate n) (inl h) = k.repeated n h
      typing (duplicate n) (inr h) = k.names n h
      typing schema_mismatch (inl h) = k.kinds h
      typing schema_mismatch (inr h) = k.typed h
      typing (unsupported what.NoColumns) h = k.columns h
      typing (unsupported what.LiteralAggregate) h = k.literal h
      typing (unsupported _) h = h
      typing _ h = h

  some_columns : (s : Fields) → s ≢ [] → Some s ≡ Some [] → ⊥
  some_columns s some e = some (same_Some s [] e)

  -- a select of expressions with kinds, under different names
  abbrev Selects : List Named → List Fields → Type 0
  Selects es ss = (have_all_kinds (first_schema ss) (exprs_of es) ≡ true) × (es ≢ []) × ((n : Name) → times n (expr_names es) ≤ 1)

  select_rules : (es : List Named) (ss : List Fields) → Selects es ss → BreaksNoRule F (select es) ss
  select_rules es ss h =
      obeys (select es) ss
      (record {
        keys = λ k. k;
        key = λ k. k;
        validated = λ k. k;
        missing = λ n k. lacks_none (first_schema ss) (exprs_of es) h.0 n k;
        repeated = λ n k. k;
        names = λ n k. once_never n (expr_names es) (h.2 n) k;
        kinds = λ k. k;
        typed = λ k. breaks_none (first_schema ss) (exprs_of es) h.0 k;
        columns = λ k. some_fields (first_schema ss) es [] k h.1 refl;
        literal = λ k. k;
      })

  selected_some : (es : List Named) (ss : List Fields) → Selects es ss → selected_schema es (first_schema ss) ≢ []
  selected_some es ss h = some_fields (first_schema ss) es (selected_schema es (first_schema ss)) (typed_fields (first_schema ss) es h.0) h.1

  pub select_right : (es : List Named) (ss : List Fields) → Selects es ss → KeepsRules F (select_node es false) (selected_schema es (first_schema ss)) ss
  select_right es ss h = record { schema = typed_fields (first_schema ss) es h.0; not_empty = selected_some es ss h; kinds = h.0; rules = select_rules es ss h }

  pub independent_right : (es : List Named) (ss : List Fields) → Selects es ss → KeepsRules F (independent_select es) (selected_schema es (first_schema ss)) ss
  independent_right es ss h = record { schema = typed_fields (first_schema ss) es h.0; not_empty = selected_some es ss h; kinds = h.0; rules = select_rules es ss h }

  pub reduce_right : (es : List Named) (ss : List Fields) → Selects es ss → KeepsRules F (reduce es) (selected_schema es (first_schema ss)) ss
  reduce_right es ss h = record { schema = typed_fields (first_schema ss) es h.0; not_empty = selected_some es ss h; kinds = h.0; rules = select_rules es ss h }

  pub map_right : (es : List Named) (ss : List Fields) → Selects es ss → KeepsRules F (in_memory_map (select es)) (selected_schema es (first_schema ss)) ss
  map_right es ss h = record { schema = typed_fields (first_schema ss) es h.0; not_empty = selected_some es ss h; kinds = h.0; rules = select_rules es ss h }

  flags_fit : (flags : List Bool) (keys : ℕ) → FlagsFit flags keys → (length flags ≢ 1) × (length flags ≢ keys) → ⊥
  flags_fit flags keys (inl e) k = k.0 e
  flags_fit flags keys (inr e) k = k.1 e

  pub sort_right : (o : SortStep) (s : Fields) → s ≢ [] → ((n : Name) → times n (names_of s) ≤ 1) → have_all_kinds s o.keys ≡ true → o.keys ≢ [] → FlagsFit o.descending (length o.keys) → FlagsFit o.nulls_last (length o.keys)
      → KeepsRules F (in_memory_map (sort o)) s (s ∷ [])
  sort_right o s some once typed keys d n =
      record {
        schema = refl;
        not_empty = some;
        kinds = typed;
        rules =
            obeys (sort o) (s ∷ [])
            (record {
              keys = bad;
              key = λ k. k;
              validated = λ k. k;
              missing = λ n k. lacks_none s o.keys typed n k;
              repeated = λ n k. k;
              names = λ n k. once_never n (names_of s) (once n) k;
              kinds = λ k. k;
              typed = λ k. breaks_none s o.keys typed k;
              columns = some_columns s some;
              literal = λ k. k;
            });
      }
    where
      bad : HasBadKeys (sort o) → ⊥
      bad (inl k) = keys k
      bad (inr (inl k)) = flags_fit o.descending (length o.keys) d k
      bad (inr (inr k)) = flags_fit o.nulls_last (length o.keys) n k

  pub filter_right : (e : Tree) (s : Fields) → s ≢ [] → ((n : Name) → times n (names_of s) ≤ 1) → kind_over s e ≡ Some kind.Boolean → KeepsRules F (filter_node e) s (s ∷ [])
  filter_right e s some once is =
      record {
        schema = refl;
        not_empty = some;
        kinds = typed;
        rules =
            obeys (filter e) (s ∷ [])
            (record {
              keys = λ k. k;
              key = λ k. k;
              validated = λ k. k;
              missing = λ n k. lacks_none s (e ∷ []) typed n k;
              repeated = λ n k. k;
              names = λ n k. once_never n (names_of s) (once n) k;
              kinds = λ k. never (sym k ∙ ap (has_kind_where (is_not kind.Boolean)) is);
              typed = λ k. breaks_none s (e ∷ []) typed k;
              columns = some_columns s some;
              literal = λ k. k;
            });
      }
    where
      typed : have_all_kinds s (e ∷ []) ≡ true
      typed = ap (λ o. is_some o && true) is

  -- columns that stand in the schema
  is_there : (n : Name) (ns : List Name) (s : Fields) → ((m : Name) → is_among m ns ≡ true → is_among m (names_of s) ≡ true) → (is_among n ns && not (has_name n s)) ≡ true → ⊥
  is_there n ns s all h =
      let b = both_hold (is_among n ns) (not (has_name n s)) h in
      never (sym (all n b.0) ∙ named_as n s ∙ not_true (has_name n s) b.1)

  pub project_right : (ns : List Name) (s fs : Fields) → named_fields ns s ≡ Some fs → names_of fs ≡ ns → ns ≢ [] → ((n : Name) → times n ns ≤ 1) → ((m : Name) → is_among m ns ≡ true → is_among m (names_of s) ≡ true)
      → KeepsRules F (simple_projection ns) fs (s ∷ [])
  project_right ns s fs found names some once all =
      record {
        schema = found;
        not_empty = few;
        kinds = refl;
        rules =
            obeys (project ns) (s ∷ [])
            (record {
              keys = λ k. k;
              key = λ k. k;
              validated = λ k. k;
              missing = λ n k. is_there n ns s all k;
              repeated = λ n k. once_never n ns (once n) k;
              names = λ n k. once_never n ns (once n) (ap (λ ms. repeats n ms) (sym names ∙ sym (ap (λ o. names_of (unwrap_or o [])) found)) ∙ k);
              kinds = λ k. k;
              typed = λ k. cc;
              columns = λ k. few (same_Some fs [] (sym found ∙ k));
              literal = λ k. k;
            });
      }
    where
      few : fs ≢ []
      few e = some (sym names ∙ ap names_of e)

  pub zip_right : (ss : List Fields) → joined_schemas ss ≢ [] → ((n : Name) → times n (names_of (joined_schemas ss)) ≤ 1) → KeepsRules F (zip_node false) (joined_schemas ss) ss
  zip_right ss some once =
      record {
        schema = refl;
        not_empty = some;
        kinds = refl;
        rules =
            obeys hconcat ss
            (record {
              keys = λ k. k;
              key = λ k. k;
              validated = λ k. k;
              missing = λ n k. cc;
              repeated = λ n k. k;
              names = λ n k. once_never n (names_of (joined_schemas ss)) (once n) k;
              kinds = λ k. k;
              typed = λ k. cc;
              columns = some_columns (joined_schemas ss) some;
              literal = λ k. k;
            });
      }

pub filters_keep_rules : FiltersKeepRules
filters_keep_rules F e s some differ boolean = filter_right F e s some (distinct_once s differ) boolean
