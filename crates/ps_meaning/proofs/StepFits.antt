-- The rows that a step gives fit its schema, over inputs whose rows fit theirs.
use Rattle.std.proofs.Common.{◌≡◌, ℕ, zero, suc, ◌+◌, ◌-◌, List, [], ◌∷◌, ◌++◌, length, get_or, take, drop, replicate, ℤ, pos, negsuc, refl, sym, ap, subst, ◌∙◌, arith}
use Rattle.std.proofs.lemmas.List.{map-append}
use Rattle.std.proofs.lemmas.List.Sorted.{All-permutation}
use Rattle.std.proofs.lemmas.Slice.Eq.{bytes_eq-Decides}
use Rattle.std.specs.Cmp.{nat_eq_equiv}
use Rattle.std.specs.Cmp.Lexicographic.{lists_equiv}
use Rattle.std.specs.Str.{bytes_eq}
use Rattle.std.specs.Prelude.{All, Bool, true, false, nat_eq, not, ◌&&◌, ◌||◌, map, flat_map, if◌then◌else◌, Option, Some, None, unwrap_or}
use Rattle.std.specs.List.{AllByRecursion, list_any}
use Rattle.ps_frame.proofs.Lists.{both}
use Rattle.ps_frame.specs.Causes.{Cause, Cell, Column, value, faulty, cell_value, is_empty}
use Rattle.ps_frame.specs.Frames.{has_distinct_names, has_name, kinds_of}
use Rattle.ps_frame.specs.Functions.{Functions, IsLawful}
use Rattle.ps_frame.specs.Tables.{Fields, Frame, Table, field_kind, no_rows}
use Rattle.ps_frame.specs.Typing.{kind_over}
use Rattle.ps_frame.specs.Zip.{Zipped}
use Rattle.ps_frame.specs.declared.value.DataType.{DataType}
use Rattle.ps_frame.specs.declared.value.DataType.TheVariants as kind
use Rattle.ps_frame.specs.declared.value.Value.{Value}
use Rattle.ps_frame.specs.declared.value.Value.TheVariants as val
use Rattle.ps_meaning.specs.Cases.{answer_or_fault, columns_at, cut_at, cut_table, if_whole, joined_table, numbered, rows_from_end, rows_table, sorted_rows, stream_table, streamed, user_table, where_true}
use Rattle.ps_meaning.specs.Distinct.{distinct_rows, first_rows, kept_rows, last_rows, picked, places_in, same_key}
use Rattle.ps_meaning.specs.Groups.{Group, group_of, group_rows, groups, groups_table, keys_of, only_value, rows_before_faulty}
use Rattle.ps_meaning.specs.Joins.{Pair, all_pairs, fills_left, fills_right, front_pairs, front_rows, goes_by_left, join_rows, joined_by, joined_row, last_pairs, left_where, pairs_in_place, pairs_of, rows_match, unmatched_right}
use Rattle.ps_meaning.specs.Laws.{FitsKinds, FitsRow, FitsTable}
use Rattle.ps_meaning.specs.Orders.{IsOrder}
use Rattle.ps_meaning.specs.Schemas.{both as both_of, fields_of, join_schema, left_output, left_part, names_of, right_output, right_part, suffix_of, suffixed}
use Rattle.ps_meaning.specs.Steps.{JoinStep, Name, Named, SortStep, exprs_of}
use Rattle.ps_meaning.specs.declared.options.JoinType.{JoinType}
use Rattle.ps_meaning.specs.declared.options.JoinType.TheVariants as how
use Rattle.ps_meaning.specs.declared.options.UniqueKeepStrategy.{UniqueKeepStrategy}
use Rattle.ps_meaning.specs.declared.options.UniqueKeepStrategy.TheVariants as keep
use Rattle.ps_meaning.proofs.EvalFits.{stands}
use Rattle.ps_meaning.proofs.Fits.{CellFits, ColumnFits, ColumnsFit, Fits, all-append, all-drop, all-filter, all-get, all-in_order, all-map, all-take}
use Rattle.ps_meaning.proofs.RowFits.{append-fits, drop-fits, kinds-width, named-columns, nulls-fit, take-fits}
use Rattle.ps_meaning.proofs.StepWithin.{answered}

-- all by place and all by recursion
module _ {A : Type 0} (P : A → Type 0) where
  all-to : (xs : List A) → AllByRecursion P xs → All P xs
  all-to [] p k d h = absurd (omega arith)
  all-to (x ∷ xs) p zero d h = p.0
  all-to (x ∷ xs) p (suc k) d h = all-to xs p.1 k d (omega arith)

  all-from : (xs : List A) → All P xs → AllByRecursion P xs
  all-from [] p = tt
  all-from (x ∷ xs) p = (p 0 x (omega arith), all-from xs (λ k d h. p (suc k) d (omega arith)))

  pub all-order : (b : Bool) (xs ys : List A) → IsOrder b xs ys → AllByRecursion P xs → AllByRecursion P ys
  all-order true xs ys e p = subst (AllByRecursion P) (sym e) p
  all-order false xs ys h p = all-from ys (All-permutation P xs ys h (all-to xs p))

  pub all-flat : {B : Type 0} (Q : B → Type 0) (f : B → List A) → ((b : B) → Q b → AllByRecursion P (f b)) → (bs : List B) → AllByRecursion Q bs → AllByRecursion P (flat_map f bs)
  all-flat Q f each [] q = tt
  all-flat Q f each (b ∷ bs) q = all-append P (f b) (flat_map f bs) (each b q.0) (all-flat Q f each bs q.1)

-- rows that stay
pub cut-fits : (offset n : ℕ) (t : Table) → FitsTable t → FitsTable (cut_table offset n t)
cut-fits offset n t f = all-drop (FitsRow t.schema) offset _ (all-take (FitsRow t.schema) _ t.rows f)

pub whole-fits : (s : Fields) (causes : List Cause) (t : Table) → t.schema ≡ s → FitsTable t → FitsTable (if_whole s causes t)
whole-fits s [] t e f = f
whole-fits s (c ∷ cs) t e f = tt

pub at-fits : (offset : ℤ) (n : ℕ) (t : Table) → FitsTable t → FitsTable (cut_at offset n t)
at-fits (pos offset) n t f = cut-fits offset n t f
at-fits (negsuc k) n t f = by (nat_eq n 0)
  where
    by : (b : Bool) → FitsTable (if b then no_rows t.schema [] else if_whole t.schema t.broken (rows_table t.schema (rows_from_end (k + 1) n t.rows)))
    by true = tt
    by false = whole-fits t.schema t.broken (rows_table t.schema (rows_from_end (k + 1) n t.rows)) refl
        (all-drop (FitsRow t.schema) (length t.rows - (k + 1)) (take (length t.rows + n - (k + 1)) t.rows) (all-take (FitsRow t.schema) (length t.rows + n - (k + 1)) t.rows f))

pub sorted-fits : (o : SortStep) (s : Fields) (js : List DataType) (rows : List (List Value)) → AllByRecursion (FitsKinds (kinds_of s ++ js)) rows → AllByRecursion (FitsRow s) (sorted_rows o (length s) rows)
sorted-fits o s js rows f =
    let w : length (kinds_of s) ≡ length s = kinds-width s in
    let pairs = all-map (FitsKinds (kinds_of s ++ js)) (λ (p : List Value × List Value). FitsRow s p.1) (λ row. (drop (length s) row, take (length s) row))
    (λ row g. subst (λ n. FitsKinds (kinds_of s) (take n row)) w (take-fits (kinds_of s) js row g)) rows f in
    all-map (λ (p : List Value × List Value). FitsRow s p.1) (FitsRow s) (λ p. p.1) (λ p g. g) _ (all-in_order (λ (p : List Value × List Value). FitsRow s p.1) _ _ pairs)

pub where-fits : (s : Fields) (js : List DataType) (rows : List (List Value)) → AllByRecursion (FitsKinds (kinds_of s ++ js)) rows → AllByRecursion (FitsRow s) (where_true (length s) rows)
where-fits s js rows f =
    all-map (FitsKinds (kinds_of s ++ js)) (FitsRow s) (take (length s)) (λ row g. subst (λ n. FitsKinds (kinds_of s) (take n row)) (kinds-width s) (take-fits (kinds_of s) js row g)) _
    (all-filter (FitsKinds (kinds_of s ++ js)) _ rows f)

pub numbered-fits : (name : Name) (s : Fields) (i : ℕ) (rows : List (List Value)) → AllByRecursion (FitsRow s) rows → AllByRecursion (FitsRow ((name, kind.IdxSize) ∷ s)) (numbered i rows)
numbered-fits name s i [] f = tt
numbered-fits name s i (r ∷ rows) f = ((refl, f.0), numbered-fits name s (i + 1) rows f.1)

-- distinct rows
module _ (P : List Value → Type 0) where
  pub distinct-all : (rows : List (List Value)) → AllByRecursion P rows → AllByRecursion P (distinct_rows rows)
  distinct-all [] f = tt
  distinct-all (r ∷ rows) f = (f.0, all-filter P _ (distinct_rows rows) (distinct-all rows f.1))

  first-all : (places : List ℕ) (rows : List (List Value)) → AllByRecursion P rows → AllByRecursion P (first_rows places rows)
  first-all places [] f = tt
  first-all places (r ∷ rows) f = (f.0, all-filter P _ (first_rows places rows) (first-all places rows f.1))

  last-step : (b : Bool) (r : List Value) (xs : List (List Value)) → P r → AllByRecursion P xs → AllByRecursion P (if b then xs else r ∷ xs)
  last-step true r xs p f = f
  last-step false r xs p f = (p, f)

  last-all : (places : List ℕ) (rows : List (List Value)) → AllByRecursion P rows → AllByRecursion P (last_rows places rows)
  last-all places [] f = tt
  last-all places (r ∷ rows) f = last-step (list_any (same_key places r) rows) r (last_rows places rows) f.0 (last-all places rows f.1)

  pub kept-all : (k : UniqueKeepStrategy) (places : List ℕ) (rows : List (List Value)) → AllByRecursion P rows → AllByRecursion P (kept_rows k places rows)
  kept-all keep.First places rows f = first-all places rows f
  kept-all keep.Any places rows f = first-all places rows f
  kept-all keep.Last places rows f = last-all places rows f
  kept-all keep.None places rows f = all-filter P _ rows f

-- The answers of functions.
module _ (F : Functions) (lawful : IsLawful F) (node n : ℕ) where
  answered-fits : (s out : Fields) → unwrap_or (F.declared n s) [] ≡ out → (r : List Value) → FitsRow s r → (z : Zipped) → AllByRecursion (FitsRow out) z.rows → (o : Option Frame) → F.answer n (record { schema = s; rows = r ∷ [] }) ≡ o
      → AllByRecursion (FitsRow out) (answered node o z).rows
  answered-fits s out e r f z g None q = tt
  answered-fits s out e r f z g (Some a) q =
      let schema : a.schema ≡ out = sym (ap (λ o. unwrap_or o []) (lawful.keeps_schema n (record { schema = s; rows = r ∷ [] }) a q)) ∙ e in
      all-append (FitsRow out) a.rows z.rows (subst (λ (s : Fields). AllByRecursion (FitsRow s) a.rows) schema (lawful.keeps_rows n (record { schema = s; rows = r ∷ [] }) a (f, tt) q)) g

  streamed-fits : (s out : Fields) → unwrap_or (F.declared n s) [] ≡ out → (rows : List (List Value)) → AllByRecursion (FitsRow s) rows → AllByRecursion (FitsRow out) (streamed node (λ r. F.answer n (record { schema = s; rows = r ∷ [] })) rows).rows
  streamed-fits s out e [] f = tt
  streamed-fits s out e (r ∷ rows) f =
      answered-fits s out e r f.0 (streamed node (λ r. F.answer n (record { schema = s; rows = r ∷ [] })) rows) (streamed-fits s out e rows f.1) (F.answer n (record { schema = s; rows = r ∷ [] })) refl

  answer-fits : (t : Table) (out : Fields) → unwrap_or (F.declared n t.schema) [] ≡ out → FitsTable t → (o : Option Frame) → F.answer n (record { schema = t.schema; rows = t.rows }) ≡ o
      → FitsTable (answer_or_fault node out o) × ((answer_or_fault node out o).schema ≡ out)
  answer-fits t out e f None q = (tt, refl)
  answer-fits t out e f (Some a) q =
      let schema : a.schema ≡ out = sym (ap (λ o. unwrap_or o []) (lawful.keeps_schema n (record { schema = t.schema; rows = t.rows }) a q)) ∙ e in
      (lawful.keeps_rows n (record { schema = t.schema; rows = t.rows }) a f q, schema)

  pub user-fits : (t : Table) (out : Fields) → unwrap_or (F.declared n t.schema) [] ≡ out → FitsTable t → FitsTable (user_table F node n out t)
  user-fits t out e f = by (F.streams n)
    where
      by : (b : Bool) → FitsTable (if b then stream_table F node n out t else if_whole out t.broken (answer_or_fault node out (F.answer n (record { schema = t.schema; rows = t.rows }))))
      by true = streamed-fits t.schema out e t.rows f
      by false = let a = answer-fits t out e f (F.answer n (record { schema = t.schema; rows = t.rows })) refl in whole-fits out t.broken _ a.1 a.0

-- Groups.
only-fits : (k : DataType) (c : Column) → ColumnFits k c → Fits k (only_value c)
only-fits k c f = by (get_or c.cells 0 (value val.Null)) (all-get (CellFits k) c.cells 0 (value val.Null) f refl)
  where
    by : (cell : Cell) → CellFits k cell → Fits k (unwrap_or (cell_value cell) val.Null)
    by (value v) g = g
    by (faulty x xs) g = refl

only-all : (ks : List DataType) (cs : List Column) → ColumnsFit ks cs → FitsKinds ks (map only_value cs)
only-all [] [] f = tt
only-all [] (c ∷ cs) f = absurd f
only-all (k ∷ ks) [] f = absurd f
only-all (k ∷ ks) (c ∷ cs) f = (only-fits k c f.0, only-all ks cs f.1)

before-all : (P : List Value → Type 0) (gs : List Group) → AllByRecursion (λ (g : Group). P g.cells) gs → AllByRecursion P (rows_before_faulty gs)
before-all P [] f = tt
before-all P (g ∷ gs) f = by (is_empty g.causes) (before-all P gs f.1)
  where
    by : (b : Bool) → AllByRecursion P (rows_before_faulty gs) → AllByRecursion P (if b then g.cells ∷ rows_before_faulty gs else [])
    by true rest = (f.0, rest)
    by false rest = tt

module _ (node : ℕ) (aggs : List Named) (s given : Fields) (js : List DataType) (is_some : fields_of aggs s ≡ Some given) (rows : List (List Value)) (f : AllByRecursion (FitsKinds (kinds_of s ++ js)) rows) where
  key-rows : (key : List Value) → FitsTable (group_rows s rows key)
  key-rows key =
      all-map (FitsKinds (kinds_of s ++ js)) (FitsRow s) (take (length s)) (λ row g. subst (λ n. FitsKinds (kinds_of s) (take n row)) (kinds-width s) (take-fits (kinds_of s) js row g)) _
      (all-filter (FitsKinds (kinds_of s ++ js)) _ rows f)

  group-fits : (key : List Value) → FitsKinds js key → FitsKinds (js ++ kinds_of given) (group_of node (exprs_of aggs) s rows key).cells
  group-fits key g =
      append-fits js (kinds_of given) key _ g (only-all (kinds_of given) (columns_at node (exprs_of aggs) (group_rows s rows key)) (named-columns (group_rows s rows key) (key-rows key) node aggs given is_some))

  keys-fit : AllByRecursion (FitsKinds js) (keys_of (length s) rows)
  keys-fit =
      distinct-all (FitsKinds js) _
      (all-map (FitsKinds (kinds_of s ++ js)) (FitsKinds js) (drop (length s)) (λ row g. subst (λ n. FitsKinds js (drop n row)) (kinds-width s) (drop-fits (kinds_of s) js row g)) rows f)

  pub groups-fit : AllByRecursion (λ (g : Group). FitsKinds (js ++ kinds_of given) g.cells) (groups node (exprs_of aggs) s rows)
  groups-fit = all-map (FitsKinds js) (λ (g : Group). FitsKinds (js ++ kinds_of given) g.cells) (group_of node (exprs_of aggs) s rows) group-fits _ keys-fit

  pub group-table : (b : Bool) (out : Fields) (gs : List Group) → kinds_of out ≡ js ++ kinds_of given → IsOrder b (groups node (exprs_of aggs) s rows) gs → FitsTable (groups_table out gs)
  group-table b out gs e order =
      before-all (FitsRow out) gs (subst (λ ks. AllByRecursion (λ (g : Group). FitsKinds ks g.cells) gs) (sym e) (all-order (λ (g : Group). FitsKinds (js ++ kinds_of given) g.cells) b _ gs order groups-fit))

-- the fields of keys and aggregates
pub fields-split : (es as' : List Named) (s out : Fields) → fields_of (es ++ as') s ≡ Some out → (a : Fields) × (b : Fields) × (fields_of es s ≡ Some a) × (fields_of as' s ≡ Some b) × (out ≡ a ++ b)
fields-split [] as' s out q = ([], out, refl, q, refl)
fields-split (e ∷ es) as' s out q = by (kind_over s e.1) (fields_of (es ++ as') s) refl refl q (fields-split es as' s)
  where
    by : (o : Option DataType) (r : Option Fields) → kind_over s e.1 ≡ o → fields_of (es ++ as') s ≡ r → both_of (λ (k : DataType) (fs : Fields). (e.0, k) ∷ fs) o r ≡ Some out
        → ((out : Fields) → fields_of (es ++ as') s ≡ Some out → (a : Fields) × (b : Fields) × (fields_of es s ≡ Some a) × (fields_of as' s ≡ Some b) × (out ≡ a ++ b))
        → (a : Fields) × (b : Fields) × (fields_of (e ∷ es) s ≡ Some a) × (fields_of as' s ≡ Some b) × (out ≡ a ++ b)
    by None r p h q rest = cc
    by (Some k) None p h q rest = cc
    by (Some k) (Some fs) p h q rest =
        let r = rest fs h in
        let is : out ≡ (e.0, k) ∷ fs = cc in
        ((e.0, k) ∷ r.0, r.1, ap (λ o. both_of (λ (k : DataType) (fs : Fields). (e.0, k) ∷ fs) o (fields_of es s)) p ∙ ap (λ r. both_of (λ (k : DataType) (fs : Fields). (e.0, k) ∷ fs) (Some k) r) r.2, r.3, is ∙ ap (λ fs. (e.0, k) ∷ fs) r.4)

-- Joins.
suffixed-kinds : (suffix : Name) (taken : List Name) (s : Fields) → kinds_of (suffixed suffix taken s) ≡ kinds_of s
suffixed-kinds suffix taken [] = refl
suffixed-kinds suffix taken (f ∷ fs) = ap (λ ks. f.1 ∷ ks) (suffixed-kinds suffix taken fs)

pub join-kinds : (o : JoinStep) (l r : Fields) → kinds_of (join_schema o l r) ≡ kinds_of (left_output o l) ++ kinds_of (right_output o r)
join-kinds o l r =
    map-append (λ field. field.1) (left_output o l) (suffixed (suffix_of o) (names_of (left_output o l)) (right_output o r))
    ∙ ap (λ ks. kinds_of (left_output o l) ++ ks) (suffixed-kinds (suffix_of o) (names_of (left_output o l)) (right_output o r))

-- a schema without a name twice has each field under its name
module _ (s : Fields) where
  abbrev Own : Name × DataType → Type 0
  Own f = field_kind f.0 s ≡ Some f.1

  picks-own : (part : Fields) → AllByRecursion Own part → (row : List Value) → FitsRow s row → FitsKinds (kinds_of part) (picked (places_in (names_of part) s) row)
  picks-own [] own row f = tt
  picks-own (g ∷ gs) own row f =
      let st = stands g.0 s g.1 own.0 in
      (subst (λ o. Fits g.1 (get_or row (unwrap_or o 0) val.Null)) (sym st.1) (st.2 row f), picks-own gs own.1 row f)

pub or-parts : (a b : Bool) → (a || b) ≡ false → (a ≡ false) × (b ≡ false)
or-parts true b e = cc
or-parts false b e = (refl, e)

pub not-true : (b : Bool) → not b ≡ true → b ≡ false
not-true true e = cc
not-true false e = refl

pub same-name : (n : Name) → bytes_eq n n ≡ true
same-name n = (bytes_eq-Decides n n).1 refl

pub apart : (a b : Name) → bytes_eq a b ≡ false → bytes_eq b a ≡ false
apart a b e = (lists_equiv nat_eq_equiv).symm b a ∙ e

-- a test of a field by a name that differs
later-kind : (h : Name × DataType) (fs gs : Fields) → has_name h.0 gs ≡ false → AllByRecursion (λ (f : Name × DataType). field_kind f.0 fs ≡ Some f.1) gs → AllByRecursion (λ (f : Name × DataType). field_kind f.0 (h ∷ fs) ≡ Some f.1) gs
later-kind h fs [] e own = tt
later-kind h fs (g ∷ gs) e own =
    let parts = or-parts (bytes_eq h.0 g.0) (has_name h.0 gs) e in
    (ap (λ b. if b then Some h.1 else field_kind g.0 fs) (apart h.0 g.0 parts.0) ∙ own.0, later-kind h fs gs parts.1 own.1)

pub own-kinds : (s : Fields) → has_distinct_names s ≡ true → AllByRecursion (λ (f : Name × DataType). field_kind f.0 s ≡ Some f.1) s
own-kinds [] d = tt
own-kinds (f ∷ fs) d =
    let parts = both (not (has_name f.0 fs)) (has_distinct_names fs) d in
    (ap (λ b. if b then Some f.1 else field_kind f.0 fs) (same-name f.0), later-kind f fs fs (not-true (has_name f.0 fs) parts.0) (own-kinds fs parts.1))

left-own : (h : JoinType) (o : JoinStep) (s : Fields) → has_distinct_names s ≡ true → AllByRecursion (Own s) (left_part h o s)
left-own how.Right o s d = all-filter (Own s) _ s (own-kinds s d)
left-own how.Inner o s d = own-kinds s d
left-own how.Left o s d = own-kinds s d
left-own how.Full o s d = own-kinds s d
left-own how.Semi o s d = own-kinds s d
left-own how.Anti o s d = own-kinds s d
left-own how.Cross o s d = own-kinds s d

right-own : (h : JoinType) (o : JoinStep) (s : Fields) → has_distinct_names s ≡ true → AllByRecursion (Own s) (right_part h o s)
right-own how.Inner o s d = all-filter (Own s) _ s (own-kinds s d)
right-own how.Left o s d = all-filter (Own s) _ s (own-kinds s d)
right-own how.Right o s d = own-kinds s d
right-own how.Full o s d = own-kinds s d
right-own how.Semi o s d = tt
right-own how.Anti o s d = tt
right-own how.Cross o s d = own-kinds s d

-- The pairs of a join, over rows with keys behind them.
module _ (l r : Fields) (ks js : List DataType) (nulls : Bool) where
  abbrev LeftRow : List Value → Type 0
  LeftRow row = FitsKinds (kinds_of l ++ ks) row

  abbrev RightRow : List Value → Type 0
  RightRow row = FitsKinds (kinds_of r ++ js) row

  abbrev Both : Pair → Type 0
  Both p = FitsRow l p.0 × FitsRow r p.1

  abbrev First : Pair → Type 0
  First p = FitsRow l p.0

  left-of : (row : List Value) → LeftRow row → FitsRow l (take (length l) row)
  left-of row f = subst (λ n. FitsKinds (kinds_of l) (take n row)) (kinds-width l) (take-fits (kinds_of l) ks row f)

  right-of : (row : List Value) → RightRow row → FitsRow r (take (length r) row)
  right-of row f = subst (λ n. FitsKinds (kinds_of r) (take n row)) (kinds-width r) (take-fits (kinds_of r) js row f)

  left-nulls : FitsRow l (replicate (length l) val.Null)
  left-nulls = subst (λ n. FitsKinds (kinds_of l) (replicate n val.Null)) (kinds-width l) (nulls-fit (kinds_of l))

  right-nulls : FitsRow r (replicate (length r) val.Null)
  right-nulls = subst (λ n. FitsKinds (kinds_of r) (replicate n val.Null)) (kinds-width r) (nulls-fit (kinds_of r))

  module _ (ls rs : List (List Value)) (f : AllByRecursion (FitsKinds (kinds_of l ++ ks)) ls) (g : AllByRecursion (FitsKinds (kinds_of r ++ js)) rs) where
    -- what a left row gives in its place
    placed-fit : (fills matches : Bool) (row : List Value) → LeftRow row
        → AllByRecursion Both (if matches then pairs_of nulls (length l) (length r) rs row else (if fills then (take (length l) row, replicate (length r) val.Null) ∷ [] else []))
    placed-fit fills true row h = all-map RightRow Both (λ q. (take (length l) row, take (length r) q)) (λ q k. (left-of row h, right-of q k)) _ (all-filter RightRow (rows_match nulls (length l) (length r) row) rs g)
    placed-fit true false row h = ((left-of row h, right-nulls), tt)
    placed-fit false false row h = tt

    front-fit : (type : JoinType) → AllByRecursion Both (front_pairs nulls (length l) (length r) type ls rs)
    front-fit type =
        all-flat Both LeftRow (pairs_in_place nulls (length l) (length r) (fills_left type) rs)
        (λ row h. placed-fit (fills_left type) (list_any (rows_match nulls (length l) (length r) row) rs) row h) ls f

    unmatched-right : AllByRecursion Both (unmatched_right nulls (length l) (length r) ls rs)
    unmatched-right = all-map RightRow Both (λ row. (replicate (length l) val.Null, take (length r) row)) (λ row h. (left-nulls, right-of row h)) _ (all-filter RightRow _ rs g)

    last-fit : (type : JoinType) → AllByRecursion Both (last_pairs nulls (length l) (length r) type ls rs)
    last-fit type = by (fills_right type)
      where
        by : (b : Bool) → AllByRecursion Both (if b then unmatched_right nulls (length l) (length r) ls rs else [])
        by true = unmatched-right
        by false = tt

    ordered-fit : (type : JoinType) → AllByRecursion Both (front_pairs nulls (length l) (length r) type ls rs ++ last_pairs nulls (length l) (length r) type ls rs)
    ordered-fit type = all-append Both _ _ (front-fit type) (last-fit type)

    crossed-fit : AllByRecursion Both (all_pairs nulls (length l) (length r) ls rs)
    crossed-fit = all-flat Both LeftRow _ (λ row h. all-map RightRow Both (λ q. (take (length l) row, take (length r) q)) (λ q k. (left-of row h, right-of q k)) rs g) ls f

    where-left : (b : Bool) → AllByRecursion First (left_where nulls (length l) (length r) b ls rs)
    where-left b = all-map LeftRow First (λ row. (take (length l) row, [])) (λ row h. left-of row h) _ (all-filter LeftRow _ ls f)

-- the rows that the pairs give
module _ (o : JoinStep) (l r : Fields) (ks js : List DataType) (dl : has_distinct_names l ≡ true) (dr : has_distinct_names r ≡ true) (ls rs : List (List Value))
    (f : AllByRecursion (FitsKinds (kinds_of l ++ ks)) ls) (g : AllByRecursion (FitsKinds (kinds_of r ++ js)) rs) where
  abbrev lefts : JoinType → List ℕ
  lefts h = places_in (names_of (left_part h o l)) l

  abbrev rights : JoinType → List ℕ
  rights h = places_in (names_of (right_part h o r)) r

  both-rows : (h : JoinType) (ps : List Pair) → AllByRecursion (Both l r ks js o.args.join_nulls) ps → AllByRecursion (FitsKinds (kinds_of (left_part h o l) ++ kinds_of (right_part h o r))) (map (joined_row (lefts h) (rights h)) ps)
  both-rows h ps =
      all-map (Both l r ks js o.args.join_nulls) (FitsKinds (kinds_of (left_part h o l) ++ kinds_of (right_part h o r))) (joined_row (lefts h) (rights h))
      (λ p q. append-fits (kinds_of (left_part h o l)) (kinds_of (right_part h o r)) (picked (lefts h) p.0) (picked (rights h) p.1) (picks-own l (left_part h o l) (left-own h o l dl) p.0 q.0) (picks-own r (right_part h o r) (right-own h o r dr) p.1 q.1)) ps

  joined-rows : (h : JoinType) → AllByRecursion (FitsKinds (kinds_of (left_part h o l) ++ kinds_of (right_part h o r))) (map (joined_row (lefts h) (rights h)) (joined_by o.args.join_nulls (length l) (length r) h ls rs))
  joined-rows how.Inner = both-rows how.Inner _ (ordered-fit l r ks js o.args.join_nulls ls rs f g how.Inner)
  joined-rows how.Left = both-rows how.Left _ (ordered-fit l r ks js o.args.join_nulls ls rs f g how.Left)
  joined-rows how.Right = both-rows how.Right _ (ordered-fit l r ks js o.args.join_nulls ls rs f g how.Right)
  joined-rows how.Full = both-rows how.Full _ (ordered-fit l r ks js o.args.join_nulls ls rs f g how.Full)
  joined-rows how.Cross = both-rows how.Cross _ (crossed-fit l r ks js o.args.join_nulls ls rs f g)
  joined-rows how.Semi = left-rows how.Semi (where-left l r ks js o.args.join_nulls ls rs f g true)
    where
      left-rows : (h : JoinType) → AllByRecursion (First l r ks js o.args.join_nulls) (left_where o.args.join_nulls (length l) (length r) true ls rs) → AllByRecursion (FitsKinds (kinds_of l ++ [])) (map (joined_row (places_in (names_of l) l) []) (left_where o.args.join_nulls (length l) (length r) true ls rs))
      left-rows h =
          all-map (First l r ks js o.args.join_nulls) (FitsKinds (kinds_of l ++ [])) (joined_row (places_in (names_of l) l) [])
          (λ p q. append-fits (kinds_of l) [] (picked (places_in (names_of l) l) p.0) [] (picks-own l l (own-kinds l dl) p.0 q) tt) _
  joined-rows how.Anti = left-rows how.Anti (where-left l r ks js o.args.join_nulls ls rs f g false)
    where
      left-rows : (h : JoinType) → AllByRecursion (First l r ks js o.args.join_nulls) (left_where o.args.join_nulls (length l) (length r) false ls rs) → AllByRecursion (FitsKinds (kinds_of l ++ [])) (map (joined_row (places_in (names_of l) l) []) (left_where o.args.join_nulls (length l) (length r) false ls rs))
      left-rows h =
          all-map (First l r ks js o.args.join_nulls) (FitsKinds (kinds_of l ++ [])) (joined_row (places_in (names_of l) l) [])
          (λ p q. append-fits (kinds_of l) [] (picked (places_in (names_of l) l) p.0) [] (picks-own l l (own-kinds l dl) p.0 q) tt) _

  pub join-rows : AllByRecursion (FitsRow (join_schema o l r)) (join_rows o l r ls rs)
  join-rows = subst (λ ks. AllByRecursion (FitsKinds ks) (join_rows o l r ls rs)) (sym (join-kinds o l r)) (joined-rows o.args.how)

  -- the rows that the left rows alone give
  pub front-rows : AllByRecursion (FitsRow (join_schema o l r)) (front_rows o l r ls rs)
  front-rows = subst (λ ks. AllByRecursion (FitsKinds ks) (front_rows o l r ls rs)) (sym (join-kinds o l r)) (both-rows o.args.how _ (front-fit l r ks js o.args.join_nulls ls rs f g o.args.how))

-- the table of a join, where its rows fit, and those that the left rows alone give
pub joined-fits : (o : JoinStep) (left right out : Fields) (l r : Zipped) → AllByRecursion (FitsRow out) (join_rows o left right l.rows r.rows) → AllByRecursion (FitsRow out) (front_rows o left right l.rows r.rows)
    → FitsTable (joined_table o left right out l r)
joined-fits o left right out l r all front = by (goes_by_left o.args.how && (is_empty r.broken && not (is_empty l.broken)))
  where
    part : Table
    part = record { schema = out; rows = front_rows o left right l.rows r.rows; broken = l.broken }

    by : (b : Bool) → FitsTable (if b then part else if_whole out (l.broken ++ r.broken) (rows_table out (join_rows o left right l.rows r.rows)))
    by true = front
    by false = whole-fits out (l.broken ++ r.broken) _ refl all
