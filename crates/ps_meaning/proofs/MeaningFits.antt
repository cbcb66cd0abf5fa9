-- The rows of a meaning have the values that its schema says.
use Rattle.std.proofs.Common.{◌≡◌, ℕ, List, [], ◌∷◌, ◌++◌, refl, sym, ap, subst, ◌∙◌, inl, inr}
use Rattle.std.proofs.lemmas.List.{map-append}
use Rattle.std.specs.Prelude.{Bool, true, false, not, ◌&&◌, ◌||◌, map, if◌then◌else◌, Option, Some, None, unwrap_or, option_map, is_some, slice_get}
use Rattle.std.specs.List.{AllByRecursion}
use Rattle.std.specs.Str.{bytes_eq}
use Rattle.ps_frame.proofs.Lists.{and_both, both}
use Rattle.ps_frame.specs.Causes.{is_empty}
use Rattle.ps_frame.specs.Frames.{has_distinct_names, has_name, kinds_of}
use Rattle.ps_frame.specs.Functions.{Functions, IsLawful}
use Rattle.ps_frame.specs.Tables.{Fields, Table, columns_of, field_kind}
use Rattle.ps_frame.specs.Trees.{Tree}
use Rattle.ps_frame.specs.Typing.{kind_over}
use Rattle.ps_frame.specs.Zip.{Zipped}
use Rattle.ps_frame.specs.declared.value.DataType.{DataType}
use Rattle.ps_frame.specs.declared.value.DataType.TheVariants as kind
use Rattle.ps_frame.specs.declared.value.Value.{Value}
use Rattle.ps_meaning.specs.Cases.{Case, Gives, GivesBeforeCut, all_columns, columns_at, cut_by, first_table, keyed, out_schema, schemas_of, second_table, table_of, with_group_causes, union_rows, hstack_places}
use Rattle.ps_meaning.specs.Distinct.{key_places, picked, places_in}
use Rattle.ps_meaning.specs.Laws.{AreTyped, FitsKinds, FitsRow, FitsTable, HoldsFitting, IsTyped, IsTypedStep}
use Rattle.ps_meaning.specs.Meaning.{Choice, Means, by_case, AllMean, none_mean, more_mean}
use Rattle.ps_meaning.specs.PlanTrees.{PlanTree, PlanTrees}
use Rattle.ps_meaning.specs.StepRefusals.{column_not_found, duplicate, lacks_name}
use Rattle.ps_meaning.specs.Schemas.{both as both_of, fields_of, first_schema, is_among, join_schema, joined_schemas, named_fields, names_of, put_fields, second_schema}
use Rattle.ps_meaning.specs.Sound.{have_all_kinds}
use Rattle.ps_meaning.specs.Steps.{Cut, Name, Named, Step, scan, project, select, hstack, filter, slice, sink, row_index, user, sort, union, hconcat, cache, group_by, join, distinct, left_out, exprs_of, step_cut}
use Rattle.ps_meaning.proofs.Begins.{or-left, or-right}
use Rattle.ps_meaning.proofs.Fits.{ColumnsFit, all-append, all-map, all-take, zipped-fits}
use Rattle.ps_meaning.proofs.HStackFits.{hstack-row}
use Rattle.ps_meaning.proofs.RowFits.{columns-append, kinds-of_exprs, named-columns, picks-fit, table-columns}
use Rattle.ps_meaning.proofs.SchemaLaw.{all_mean-schemas, first-is}
use Rattle.ps_meaning.proofs.StepFits.{all-order, at-fits, fields-split, front-rows, group-table, join-rows, joined-fits, kept-all, numbered-fits, same-name, sorted-fits, user-fits, where-fits, whole-fits}
use Rattle.ps_meaning.proofs.StepWithin.{united}

-- expressions that have kinds
all-kinds : (s : Fields) (es : List Tree) → have_all_kinds s es ≡ true → AllByRecursion (λ e. is_some (kind_over s e) ≡ true) es
all-kinds s [] h = tt
all-kinds s (e ∷ es) h = let parts = both (is_some (kind_over s e)) (have_all_kinds s es) h in (parts.0, all-kinds s es parts.1)

fields-some : (s : Fields) (es : List Named) → AllByRecursion (λ e. is_some (kind_over s e) ≡ true) (exprs_of es) → (out : Fields) × (fields_of es s ≡ Some out)
fields-some s [] all = ([], refl)
fields-some s (e ∷ es) all = by (kind_over s e.1) (fields_of es s) all.0 (fields-some s es all.1)
  where
    by : (o : Option DataType) (r : Option Fields) → is_some o ≡ true → (fs : Fields) × (r ≡ Some fs) → (out : Fields) × (both_of (λ (k : DataType) (fs : Fields). (e.0, k) ∷ fs) o r ≡ Some out)
    by None r h f = cc
    by (Some k) r h (fs, q) = ((e.0, k) ∷ fs, ap (both_of (λ (k : DataType) (fs : Fields). (e.0, k) ∷ fs) (Some k)) q)

-- names that stand
pub kind-some : (n : Name) (s : Fields) → has_name n s ≡ true → is_some (field_kind n s) ≡ true
kind-some n [] h = cc
kind-some n (f ∷ fs) h = by (bytes_eq n f.0) refl (kind-some n fs)
  where
    by : (b : Bool) → bytes_eq n f.0 ≡ b → (has_name n fs ≡ true → is_some (field_kind n fs) ≡ true) → is_some (if b then Some f.1 else field_kind n fs) ≡ true
    by true q rest = refl
    by false q rest = rest (ap (λ b. b || has_name n fs) (sym q) ∙ h)

names-some : (ns : List Name) (s : Fields) → ((n : Name) → lacks_name n s ns ≡ true → ⊥) → (out : Fields) × (named_fields ns s ≡ Some out)
names-some [] s h = ([], refl)
names-some (n ∷ ns) s h =
    by (field_kind n s) (named_fields ns s) (kind-some n s (there (has_name n s) refl)) (names-some ns s (λ m l. h m (later m l)))
  where
    there : (b : Bool) → has_name n s ≡ b → has_name n s ≡ true
    there true q = q
    there false q = absurd (h n (and_both (bytes_eq n n || is_among n ns) (not (has_name n s)) (or-left (bytes_eq n n) (is_among n ns) (same-name n)) (ap not q)))

    later : (m : Name) → (is_among m ns && not (has_name m s)) ≡ true → ((bytes_eq m n || is_among m ns) && not (has_name m s)) ≡ true
    later m l = let parts = both (is_among m ns) (not (has_name m s)) l in and_both (bytes_eq m n || is_among m ns) (not (has_name m s)) (or-right (bytes_eq m n) (is_among m ns) parts.0) parts.1

    by : (o : Option DataType) (r : Option Fields) → is_some o ≡ true → (fs : Fields) × (r ≡ Some fs) → (out : Fields) × (both_of (λ (k : DataType) (fs : Fields). (n, k) ∷ fs) o r ≡ Some out)
    by None r q f = cc
    by (Some k) r q (fs, e) = ((n, k) ∷ fs, ap (both_of (λ (k : DataType) (fs : Fields). (n, k) ∷ fs) (Some k)) e)

-- inputs
first-fits : (ts : List Table) → AllByRecursion FitsTable ts → FitsTable (first_table ts)
first-fits [] f = tt
first-fits (t ∷ ts) f = f.0

second-fits : (ts : List Table) → AllByRecursion FitsTable ts → FitsTable (second_table ts)
second-fits [] f = tt
second-fits (t ∷ ts) f = first-fits ts f.1

second-is : (ts : List Table) → (second_table ts).schema ≡ second_schema (schemas_of ts)
second-is [] = refl
second-is (t ∷ ts) = first-is ts

first-distinct : (ss : List Fields) → AllByRecursion (λ s. has_distinct_names s ≡ true) ss → has_distinct_names (first_schema ss) ≡ true
first-distinct [] d = refl
first-distinct (s ∷ ss) d = d.0

second-distinct : (ss : List Fields) → AllByRecursion (λ s. has_distinct_names s ≡ true) ss → has_distinct_names (second_schema ss) ≡ true
second-distinct [] d = refl
second-distinct (s ∷ ss) d = first-distinct ss d.1

-- tables one after the other, and side by side
united-fits : (s : Fields) (t : Table) (z : Zipped) (b : Bool) → t.schema ≡ s → FitsTable t → AllByRecursion (FitsRow s) z.rows → AllByRecursion (FitsRow s) (united t z b).rows
united-fits s t z true e f g = all-append (FitsRow s) t.rows z.rows (subst (λ (s : Fields). AllByRecursion (FitsRow s) t.rows) e f) g
united-fits s t z false e f g = subst (λ (s : Fields). AllByRecursion (FitsRow s) t.rows) e f

union-fits : (s : Fields) (ts : List Table) → AllByRecursion (λ r. r ≡ s) (schemas_of ts) → AllByRecursion FitsTable ts → AllByRecursion (FitsRow s) (union_rows ts).rows
union-fits s [] e f = tt
union-fits s (t ∷ ts) e f = united-fits s t (union_rows ts) (is_empty t.broken) e.0 f.0 (union-fits s ts e.1 f.1)

first-of : (ss : List Fields) → unwrap_or (slice_get ss 0) [] ≡ first_schema ss
first-of [] = refl
first-of (s ∷ ss) = refl

pub joined-columns : (ts : List Table) → AllByRecursion FitsTable ts → ColumnsFit (kinds_of (joined_schemas (schemas_of ts))) (all_columns ts)
joined-columns [] f = tt
joined-columns (t ∷ ts) f =
    subst (λ ks. ColumnsFit ks (all_columns (t ∷ ts))) (sym (map-append (λ field. field.1) t.schema (joined_schemas (schemas_of ts))))
    (columns-append (kinds_of t.schema) (kinds_of (joined_schemas (schemas_of ts))) (columns_of t) (all_columns ts) (table-columns t f.0) (joined-columns ts f.1))

-- rows under another name of their schema
under : (s out : Fields) (rows : List (List Value)) → s ≡ out → AllByRecursion (FitsRow out) rows → AllByRecursion (FitsRow s) rows
under s out rows e f = subst (λ (s : Fields). AllByRecursion (FitsRow s) rows) (sym e) f

-- the rows of a table zipped with expressions
keyed-fits : (at : ℕ) (es : List Tree) (t : Table) → FitsTable t → have_all_kinds t.schema es ≡ true → (js : List DataType) × AllByRecursion (FitsKinds (kinds_of t.schema ++ js)) (keyed at es t).rows
keyed-fits at es t f h =
    let ks = kinds-of_exprs t f at es (all-kinds t.schema es h) in
    (ks.0, zipped-fits false at (kinds_of t.schema ++ ks.0) (columns_of t ++ columns_at at es t) (columns-append (kinds_of t.schema) ks.0 (columns_of t) (columns_at at es t) (table-columns t f) ks.1))

named-keyed : (at : ℕ) (es : List Named) (t : Table) (out : Fields) → FitsTable t → fields_of es t.schema ≡ Some out → AllByRecursion (FitsKinds (kinds_of t.schema ++ kinds_of out)) (keyed at (exprs_of es) t).rows
named-keyed at es t out f q =
    zipped-fits false at (kinds_of t.schema ++ kinds_of out) (columns_of t ++ columns_at at (exprs_of es) t)
    (columns-append (kinds_of t.schema) (kinds_of out) (columns_of t) (columns_at at (exprs_of es) t) (table-columns t f) (named-columns t f at es out q))

module _ (F : Functions) (lawful : IsLawful F) (at : ℕ) where
  gives-fits : (step : Step) (ts : List Table) (T : Table) → IsTypedStep F step (schemas_of ts) → HoldsFitting step → AllByRecursion FitsTable ts → Gives F at step ts T → FitsTable T
  gives-fits (scan t None) ts T typed held f g = subst FitsTable (sym g) held
  gives-fits (scan t (Some ns)) ts T typed held f g =
      let out = names-some ns t.schema (λ n l. typed.rules (column_not_found n) l) in
      subst FitsTable (sym g) (under _ out.0 _ (ap (λ o. unwrap_or o []) out.1) (all-map (FitsRow t.schema) (FitsRow out.0) (picked (places_in ns t.schema)) (picks-fit ns t.schema out.0 out.1) t.rows held))
  gives-fits (project ns) ts T typed held f g =
      let s = first_schema (schemas_of ts) in
      let out = names-some ns (first_schema (schemas_of ts)) (λ n l. typed.rules (column_not_found n) l) in
      let q = subst (λ (s : Fields). named_fields ns s ≡ Some out.0) (sym (first-is ts)) out.1 in
      subst FitsTable (sym g) (under _ out.0 _ (ap (λ o. unwrap_or o []) out.1)
      (all-map (FitsRow (first_table ts).schema) (FitsRow out.0) (picked (places_in ns (first_table ts).schema)) (picks-fit ns (first_table ts).schema out.0 q) (first_table ts).rows (first-fits ts f)))
  gives-fits (select es) ts T typed held f g =
      let out = fields-some (first_schema (schemas_of ts)) es (all-kinds (first_schema (schemas_of ts)) (exprs_of es) typed.kinds) in
      let q = subst (λ (s : Fields). fields_of es s ≡ Some out.0) (sym (first-is ts)) out.1 in
      subst FitsTable (sym g) (under _ out.0 _ (ap (λ o. unwrap_or o []) out.1)
      (zipped-fits false at (kinds_of out.0) (columns_at at (exprs_of es) (first_table ts)) (named-columns (first_table ts) (first-fits ts f) at es out.0 q)))
  gives-fits (hstack es) ts T typed held f g =
      let s = (first_table ts).schema in
      let fs = fields-some (first_schema (schemas_of ts)) es (all-kinds (first_schema (schemas_of ts)) (exprs_of es) typed.kinds) in
      let q = subst (λ (s : Fields). fields_of es s ≡ Some fs.0) (sym (first-is ts)) fs.1 in
      let d = subst (λ (s : Fields). has_distinct_names s ≡ true) (sym (first-is ts)) (first-distinct (schemas_of ts) typed.names) in
      let out : out_schema F at (hstack es) ts ≡ put_fields (first_table ts).schema fs.0 =
      ap (λ o. unwrap_or (option_map (put_fields (first_schema (schemas_of ts))) o) []) fs.1 ∙ ap (λ (s : Fields). put_fields s fs.0) (sym (first-is ts)) in
      subst FitsTable (sym g)
      (subst (λ (out : Fields). FitsTable (table_of out (map (picked (hstack_places (names_of out) es (first_table ts).schema))) (keyed at (exprs_of es) (first_table ts)))) (sym out)
      (all-map (FitsKinds (kinds_of (first_table ts).schema ++ kinds_of fs.0)) (FitsRow (put_fields (first_table ts).schema fs.0)) _ (hstack-row (first_table ts).schema es fs.0 q d (λ n r. typed.rules (duplicate n) (inl r))) _
      (named-keyed at es (first_table ts) fs.0 (first-fits ts f) q)))
  gives-fits (filter e) ts T typed held f g =
      let h = subst (λ (s : Fields). have_all_kinds s (e ∷ []) ≡ true) (sym (first-is ts)) typed.kinds in
      let k = keyed-fits at (e ∷ []) (first_table ts) (first-fits ts f) h in
      subst FitsTable (sym g) (where-fits (first_table ts).schema k.0 _ k.1)
  gives-fits (slice offset n) ts T typed held f g = subst FitsTable (sym g) (at-fits offset n (first_table ts) (first-fits ts f))
  gives-fits (sink payload) ts T typed held f g = subst FitsTable (sym g) (first-fits ts f)
  gives-fits (row_index name offset) ts T typed held f g =
      let fits = numbered-fits name (first_table ts).schema (unwrap_or offset 0) _ (all-take (FitsRow (first_table ts).schema) _ (first_table ts).rows (first-fits ts f)) in
      subst FitsTable (sym g) (under _ ((name, kind.IdxSize) ∷ (first_table ts).schema) _ (ap (λ (s : Fields). (name, kind.IdxSize) ∷ s) (sym (first-is ts))) fits)
  gives-fits (user n) ts T typed held f g =
      subst FitsTable (sym g) (user-fits F lawful at n (first_table ts) (out_schema F at (user n) ts) (ap (λ (s : Fields). unwrap_or (F.declared n s) []) (first-is ts)) (first-fits ts f))
  gives-fits (sort o) ts T typed held f g =
      let h = subst (λ (s : Fields). have_all_kinds s o.keys ≡ true) (sym (first-is ts)) typed.kinds in
      let k = keyed-fits at o.keys (first_table ts) (first-fits ts f) h in
      subst FitsTable (sym g) (whole-fits (first_table ts).schema (keyed at o.keys (first_table ts)).broken _ refl (sorted-fits o (first_table ts).schema k.0 _ k.1))
  gives-fits (union cut) ts T typed held f g =
      subst FitsTable (sym g) (under _ (first_schema (schemas_of ts)) _ (first-of (schemas_of ts)) (union-fits (first_schema (schemas_of ts)) ts typed.alike f))
  gives-fits hconcat ts T typed held f g = subst FitsTable (sym g) (zipped-fits true at (kinds_of (joined_schemas (schemas_of ts))) (all_columns ts) (joined-columns ts f))
  gives-fits (cache id) ts T typed held f g = subst FitsTable (sym g) (first-fits ts f)
  gives-fits (group_by o) ts T typed held f (gs, order, g) =
      let s = first_schema (schemas_of ts) in
      let kinds = subst (λ es. have_all_kinds (first_schema (schemas_of ts)) es ≡ true) (sym (map-append (λ (e : Named). e.1) o.keys o.aggregates)) typed.kinds in
      let out = fields-some (first_schema (schemas_of ts)) (o.keys ++ o.aggregates) (all-kinds (first_schema (schemas_of ts)) (exprs_of (o.keys ++ o.aggregates)) kinds) in
      let q = subst (λ (s : Fields). fields_of (o.keys ++ o.aggregates) s ≡ Some out.0) (sym (first-is ts)) out.1 in
      let parts = fields-split o.keys o.aggregates (first_table ts).schema out.0 q in
      let rows = named-keyed at o.keys (first_table ts) parts.0 (first-fits ts f) parts.2 in
      let width : kinds_of (out_schema F at (group_by o) ts) ≡ kinds_of parts.0 ++ kinds_of parts.1 =
      ap (λ o. kinds_of (unwrap_or o [])) out.1 ∙ ap kinds_of parts.4 ∙ map-append (λ field. field.1) parts.0 parts.1 in
      subst FitsTable (sym g)
      (whole-fits (out_schema F at (group_by o) ts) (with_group_causes (keyed at (exprs_of o.keys) (first_table ts)).broken gs) _ refl
      (group-table at o.aggregates (first_table ts).schema parts.1 (kinds_of parts.0) parts.3 (keyed at (exprs_of o.keys) (first_table ts)).rows rows o.maintain_order (out_schema F at (group_by o) ts) gs width order))
  gives-fits (join o) ts T typed held f g =
      let kinds = both (have_all_kinds (first_schema (schemas_of ts)) o.left_on) (have_all_kinds (second_schema (schemas_of ts)) o.right_on) typed.kinds in
      let hl = subst (λ (s : Fields). have_all_kinds s o.left_on ≡ true) (sym (first-is ts)) kinds.0 in
      let hr = subst (λ (s : Fields). have_all_kinds s o.right_on ≡ true) (sym (second-is ts)) kinds.1 in
      let dl = subst (λ (s : Fields). has_distinct_names s ≡ true) (sym (first-is ts)) (first-distinct (schemas_of ts) typed.names) in
      let dr = subst (λ (s : Fields). has_distinct_names s ≡ true) (sym (second-is ts)) (second-distinct (schemas_of ts) typed.names) in
      let l = keyed-fits at o.left_on (first_table ts) (first-fits ts f) hl in
      let r = keyed-fits at o.right_on (second_table ts) (second-fits ts f) hr in
      let all = join-rows o (first_table ts).schema (second_table ts).schema l.0 r.0 dl dr (keyed at o.left_on (first_table ts)).rows (keyed at o.right_on (second_table ts)).rows l.1 r.1 in
      let front = front-rows o (first_table ts).schema (second_table ts).schema l.0 r.0 dl dr (keyed at o.left_on (first_table ts)).rows (keyed at o.right_on (second_table ts)).rows l.1 r.1 in
      let schema : out_schema F at (join o) ts ≡ join_schema o (first_table ts).schema (second_table ts).schema = λ i. join_schema o (sym (first-is ts) i) (sym (second-is ts) i) in
      subst FitsTable (sym g)
      (joined-fits o (first_table ts).schema (second_table ts).schema (out_schema F at (join o) ts) (keyed at o.left_on (first_table ts)) (keyed at o.right_on (second_table ts))
      (under _ (join_schema o (first_table ts).schema (second_table ts).schema) _ schema all) (under _ (join_schema o (first_table ts).schema (second_table ts).schema) _ schema front))
  gives-fits (distinct o) ts T typed held f (rows, order, g) =
      let all = kept-all (FitsRow (first_table ts).schema) o.keep (key_places o (first_table ts).schema) (first_table ts).rows (first-fits ts f) in
      subst FitsTable (sym g) (whole-fits (first_table ts).schema (first_table ts).broken _ refl (all-order (FitsRow (first_table ts).schema) o.maintain_order _ rows order all))
  gives-fits (left_out what) ts T typed held f g = absurd g

  pub before-fits : (step : Step) (ts : List Table) (T : Table) → IsTypedStep F step (schemas_of ts) → HoldsFitting step → AllByRecursion FitsTable ts → GivesBeforeCut F at step ts T → FitsTable T
  before-fits step ts T typed held f (inl g) = gives-fits step ts T typed held f g
  before-fits step ts T typed held f (inr (V, g, some, e)) = subst FitsTable (sym e) tt

  pub cut_by-fits : (cut : Cut) (t : Table) → FitsTable t → FitsTable (cut_by cut t)
  cut_by-fits None t f = f
  cut_by-fits (Some c) t f = at-fits c.0 c.1 t f

  pub case-fits : (step : Step) (ts : List Table) (T : Table) → IsTypedStep F step (schemas_of ts) → HoldsFitting step → AllByRecursion FitsTable ts → Case F at step ts T → FitsTable T
  case-fits step ts T typed held f (U, before, e) = subst FitsTable (sym e) (cut_by-fits (step_cut step) U (before-fits step ts U typed held f before))

module _ (F : Functions) (lawful : IsLawful F) (c : Choice) where
  mutual
    pub means-fits : {t : PlanTree} {T : Table} → Means F c t T → IsTyped F t → FitsTable T
    means-fits (by_case {at} {step} {below} {Ts} {T} ms k chosen) typed =
        case-fits F lawful at step Ts T (subst (IsTypedStep F step) (sym (all_mean-schemas F lawful c ms)) typed.0) typed.1 (all-mean-fit ms typed.2) k

    all-mean-fit : {ts : PlanTrees} {Ts : List Table} → AllMean F c ts Ts → AreTyped F ts → AllByRecursion FitsTable Ts
    all-mean-fit none_mean typed = tt
    all-mean-fit (more_mean m ms) typed = (means-fits m typed.0, all-mean-fit ms typed.1)
