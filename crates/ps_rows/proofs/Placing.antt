-- An hstack's table and faults.
use Rattle.std.proofs.Common.{◌≡◌, ℕ, zero, suc, ◌+◌, ◌<◌, ◌≤◌, List, [], ◌∷◌, ◌++◌, length, take, get_or, Bool, true, false, cond, refl, sym, subst, ◌∙◌, ap, inl, inr, arith}
use Rattle.std.proofs.lemmas.Bool.{lt-ltb, ltb-true}
use Rattle.std.proofs.lemmas.List.{length-map, map-append, take_more}
use Rattle.std.specs.Prelude.{Contains, IsTrue, map, nat_lt, not, slice_get, option_map, unwrap_or, Option, Some, None, if◌then◌else◌}
use Rattle.std.specs.List.{AllByRecursion, AllZip, position_or_len}
use Rattle.std.specs.Str.{bytes_eq}
use Rattle.ps_expr_eval.proofs.Zips.{map-map, map_same}
use Rattle.ps_frame.proofs.Rows.{length-rows_of, values_at-rows_of}
use Rattle.ps_frame.specs.Aggregates.{max_rows}
use Rattle.ps_frame.specs.Causes.{Cause}
use Rattle.ps_frame.specs.Frames.{AllOfHeight, IsFrame, column_values, has_distinct_names, has_name, kinds_of}
use Rattle.ps_frame.specs.Functions.{Functions}
use Rattle.ps_frame.specs.Tables.{Fields, Frame, field_index, field_kind, rows_of, values_at, whole}
use Rattle.ps_frame.specs.Trees.{Tree}
use Rattle.ps_frame.specs.Series.{Series}
use Rattle.ps_frame.specs.declared.refusal.PolarsError.{PolarsError}
use Rattle.ps_frame.specs.declared.value.DataType.{DataType}
use Rattle.ps_meaning.proofs.EvalFits.{first-place, next-place}
use Rattle.ps_meaning.proofs.HStackFits.{distinct-from, put-all}
use Rattle.ps_meaning.proofs.StepFits.{or-parts, own-kinds}
use Rattle.ps_meaning.specs.Cases.{IsCaseBrokenBy, hstack_place, hstack_places, keyed, table_of}
use Rattle.ps_meaning.specs.Distinct.{picked}
use Rattle.ps_meaning.specs.Nodes.{GivesFrame, MayFault}
use Rattle.ps_meaning.specs.StepRefusals.{repeats}
use Rattle.ps_meaning.specs.Schemas.{both, expr_names, fields_of, names_of, put_fields}
use Rattle.ps_meaning.specs.Steps.{Name, Named, exprs_of, hstack, key_trees, name_in, named_trees}
use Rattle.ps_meaning.specs.declared.options.ExprIR.{ExprIR}
use Rattle.pu_base.specs.declared.arena.Node.{Node}
use Rattle.ps_rows.proofs.Steps.{fields-kinds, may-fault, some-kinds, table}
use Rattle.ps_rows.specs.Placed.{ArePlaced, TakesPlaces, new_or_old, place_in}
use Rattle.ps_tables.proofs.Projected.{columns_at, rows-picked}
use Rattle.ps_zip.proofs.Named.{exprs-of-named}
use Rattle.ps_zip.proofs.Steps.{zip-append}
use Rattle.ps_zip.specs.Zips.{IsZipError, KeepsZip, keyed_kinds}

-- ---- places of names

abbrev name_test : List ℕ → List ℕ × DataType → Bool
name_test name f = bytes_eq name f.0

-- a name that isn't that of the first field, and stands nowhere behind it
next-none : (n : Name) (f : Name × DataType) (fs : Fields) → bytes_eq n f.0 ≡ false → field_index n fs ≡ None → field_index n (f ∷ fs) ≡ None
next-none n f fs miss none = behind (nat_lt (position_or_len (name_test n) fs) (length fs)) refl none
  where
    one-more : position_or_len (name_test n) (f ∷ fs) ≡ suc (position_or_len (name_test n) fs)
    one-more = ap (λ b. cond (not b) (1 + position_or_len (name_test n) fs) 0) miss ∙ omega arith

    here : (b : Bool) → nat_lt (position_or_len (name_test n) (f ∷ fs)) (length (f ∷ fs)) ≡ b → nat_lt (position_or_len (name_test n) fs) (length fs) ≡ false → field_index n (f ∷ fs) ≡ None
    here false q e = ap (λ b. cond b (Some (position_or_len (name_test n) (f ∷ fs))) None) q
    here true q e =
        let low = ltb-true (position_or_len (name_test n) (f ∷ fs)) (length (f ∷ fs)) q in
        let yes : nat_lt (position_or_len (name_test n) fs) (length fs) ≡ true = lt-ltb _ _ (let m = one-more in omega arith) in
        cc

    behind : (b : Bool) → nat_lt (position_or_len (name_test n) fs) (length fs) ≡ b → cond b (Some (position_or_len (name_test n) fs)) None ≡ None → field_index n (f ∷ fs) ≡ None
    behind true q e = cc
    behind false q e = here (nat_lt (position_or_len (name_test n) (f ∷ fs)) (length (f ∷ fs))) refl q

absent : (n : Name) (fs : Fields) → has_name n fs ≡ false → field_index n fs ≡ None
absent n [] h = refl
absent n (f ∷ fs) h = let parts = or-parts (bytes_eq n f.0) (has_name n fs) h in next-none n f fs parts.0 (absent n fs parts.1)

-- where the field of a kind stands
kind-index : (n : Name) (s : Fields) (k : DataType) → field_kind n s ≡ Some k → (i : ℕ) × (field_index n s ≡ Some i) × (slice_get (kinds_of s) i ≡ Some k)
kind-index n [] k e = cc
kind-index n (f ∷ fs) k e = by (bytes_eq n f.0) refl e (kind-index n fs k)
  where
    by : (b : Bool) → bytes_eq n f.0 ≡ b → (if b then Some f.1 else field_kind n fs) ≡ Some k → (field_kind n fs ≡ Some k → (i : ℕ) × (field_index n fs ≡ Some i) × (slice_get (kinds_of fs) i ≡ Some k))
        → (i : ℕ) × (field_index n (f ∷ fs) ≡ Some i) × (slice_get (kinds_of (f ∷ fs)) i ≡ Some k)
    by true q e rest = (0, first-place n f fs q, e)
    by false q e rest = let r = rest e in (suc r.0, next-place n f fs r.0 q r.1, r.2)

-- the place of a name in the definition's words
place-is : (w : ℕ) (es : List Named) (new : Fields) (n : Name) (old : Option ℕ) → names_of new ≡ expr_names es → new_or_old w (field_index n new) old ≡ hstack_place w es n (unwrap_or old 0)
place-is w [] [] n old e = refl
place-is w [] (f ∷ new) n old e = cc
place-is w (x ∷ es) [] n old e = cc
place-is w (x ∷ es) (f ∷ new) n old e =
    let name : f.0 ≡ x.0 = cc in
    let names : names_of new ≡ expr_names es = cc in
    by (bytes_eq n x.0) refl (ap (bytes_eq n) name) (field_index n new) refl (place-is (w + 1) es new n old names)
  where
    by : (b : Bool) → bytes_eq n x.0 ≡ b → bytes_eq n f.0 ≡ bytes_eq n x.0 → (o : Option ℕ) → field_index n new ≡ o → new_or_old (w + 1) (field_index n new) old ≡ hstack_place (w + 1) es n (unwrap_or old 0)
        → new_or_old w (field_index n (f ∷ new)) old ≡ hstack_place w (x ∷ es) n (unwrap_or old 0)
    by true q s o p ih =
        ap (λ i. new_or_old w i old) (first-place n f new (s ∙ q)) ∙ (let z : w + 0 ≡ w = omega arith in z) ∙ sym (ap (λ b. if b then w else hstack_place (w + 1) es n (unwrap_or old 0)) q)
    by false q s None p ih =
        ap (λ i. new_or_old w i old) (next-none n f new (s ∙ q) p) ∙ sym (ap (λ i. new_or_old (w + 1) i old) p) ∙ ih
        ∙ sym (ap (λ b. if b then w else hstack_place (w + 1) es n (unwrap_or old 0)) q)
    by false q s (Some k) p ih =
        ap (λ i. new_or_old w i old) (next-place n f new k (s ∙ q) p) ∙ (let z : w + suc k ≡ w + 1 + k = omega arith in z) ∙ sym (ap (λ i. new_or_old (w + 1) i old) p) ∙ ih
        ∙ sym (ap (λ b. if b then w else hstack_place (w + 1) es n (unwrap_or old 0)) q)

-- ---- lists

get-behind : {A : Type 0} (xs ys : List A) (i : ℕ) → slice_get (xs ++ ys) (length xs + i) ≡ slice_get ys i
get-behind [] ys i = ap (slice_get ys) (let z : 0 + i ≡ i = omega arith in z)
get-behind (x ∷ xs) ys i = ap (slice_get (x ∷ (xs ++ ys))) (let z : suc (length xs) + i ≡ suc (length xs + i) = omega arith in z) ∙ get-behind xs ys i

get-before : {A : Type 0} (xs ys : List A) (i : ℕ) (x : A) → slice_get xs i ≡ Some x → slice_get (xs ++ ys) i ≡ Some x
get-before [] ys i x e = cc
get-before (y ∷ xs) ys zero x e = e
get-before (y ∷ xs) ys (suc i) x e = get-before xs ys i x e

get-within : {A : Type 0} (xs : List A) (i : ℕ) (x : A) → slice_get xs i ≡ Some x → i < length xs
get-within [] i x e = cc
get-within (y ∷ xs) zero x e = omega arith
get-within (y ∷ xs) (suc i) x e = let l = get-within xs i x e in omega arith

get-is : {A : Type 0} (xs : List A) (i : ℕ) (x d : A) → slice_get xs i ≡ Some x → get_or xs i d ≡ x
get-is [] i x d e = cc
get-is (y ∷ xs) zero x d e = cc
get-is (y ∷ xs) (suc i) x d e = get-is xs i x d e

get-there : {A : Type 0} (xs : List A) (i : ℕ) (d : A) → i < length xs → slice_get xs i ≡ Some (get_or xs i d)
get-there [] i d h = absurd (omega arith)
get-there (y ∷ xs) zero d h = refl
get-there (y ∷ xs) (suc i) d h = get-there xs i d (omega arith)

get-map : {A B : Type 0} (f : A → B) (xs : List A) (i : ℕ) → slice_get (map f xs) i ≡ option_map f (slice_get xs i)
get-map f [] i = refl
get-map f (x ∷ xs) zero = refl
get-map f (x ∷ xs) (suc i) = get-map f xs i

all-of-place : {A : Type 0} (P : A → Type 0) (xs : List A) (i : ℕ) (x : A) → AllByRecursion P xs → slice_get xs i ≡ Some x → P x
all-of-place P [] i x a e = cc
all-of-place P (y ∷ xs) zero x a e = let same : y ≡ x = cc in subst P same a.0
all-of-place P (y ∷ xs) (suc i) x a e = all-of-place P xs i x a.1 e

all-weaker : {A : Type 0} (P Q : A → Type 0) → ((a : A) → P a → Q a) → (xs : List A) → AllByRecursion P xs → AllByRecursion Q xs
all-weaker P Q each [] p = tt
all-weaker P Q each (x ∷ xs) p = (each x p.0, all-weaker P Q each xs p.1)

-- ---- the columns that stand at the places

module _ (s fs : Fields) where
  abbrev InPlace : Name × DataType → Type 0
  InPlace f = slice_get (kinds_of s ++ kinds_of fs) (place_in s fs f.0) ≡ Some f.1

  new-in-place : (f : Name × DataType) → field_kind f.0 fs ≡ Some f.1 → InPlace f
  new-in-place f own =
      let k = kind-index f.0 fs f.1 own in
      ap (λ o. slice_get (kinds_of s ++ kinds_of fs) (new_or_old (length s) o (field_index f.0 s))) k.1
      ∙ ap (λ n. slice_get (kinds_of s ++ kinds_of fs) (n + k.0)) (sym (length-map s (λ (g : Name × DataType). g.1))) ∙ get-behind (kinds_of s) (kinds_of fs) k.0 ∙ k.2

  old-in-place : (g : Name × DataType) → field_kind g.0 s ≡ Some g.1 → has_name g.0 fs ≡ false → InPlace g
  old-in-place g own away =
      let k = kind-index g.0 s g.1 own in
      (λ i. slice_get (kinds_of s ++ kinds_of fs) (new_or_old (length s) (absent g.0 fs away i) (k.1 i))) ∙ get-before (kinds_of s) (kinds_of fs) k.0 g.1 k.2

  all-in-place : has_distinct_names s ≡ true → has_distinct_names fs ≡ true → AllByRecursion InPlace (put_fields s fs)
  all-in-place d e =
      put-all InPlace s fs (all-weaker (λ (f : Name × DataType). field_kind f.0 fs ≡ Some f.1) InPlace new-in-place fs (own-kinds fs e)) d
      (all-weaker (λ (g : Name × DataType). field_kind g.0 s ≡ Some g.1) (λ g. has_name g.0 fs ≡ false → InPlace g) old-in-place s (own-kinds s d))

-- a name's place depends on names alone
same-place : (n : Name) (new fs : Fields) → names_of new ≡ names_of fs → field_index n new ≡ field_index n fs
same-place n [] [] e = refl
same-place n [] (f ∷ fs) e = cc
same-place n (g ∷ new) [] e = cc
same-place n (g ∷ new) (f ∷ fs) e =
    let name : g.0 ≡ f.0 = cc in
    let names : names_of new ≡ names_of fs = cc in
    by (bytes_eq n f.0) refl (ap (bytes_eq n) name) (field_index n fs) refl (same-place n new fs names)
  where
    by : (b : Bool) → bytes_eq n f.0 ≡ b → bytes_eq n g.0 ≡ bytes_eq n f.0 → (o : Option ℕ) → field_index n fs ≡ o → field_index n new ≡ field_index n fs → field_index n (g ∷ new) ≡ field_index n (f ∷ fs)
    by true q s o p ih = first-place n g new (s ∙ q) ∙ sym (first-place n f fs q)
    by false q s None p ih = next-none n g new (s ∙ q) (ih ∙ p) ∙ sym (next-none n f fs q p)
    by false q s (Some i) p ih = next-place n g new i (s ∙ q) (ih ∙ p) ∙ sym (next-place n f fs i q p)

-- ---- one more column, and all of them

module _ (old new : Fields) (columns : List Series) (schema : Fields) (placed : ArePlaced old new columns schema) where
  field-at : (i : ℕ) (n : Name) → option_map (λ (f : Name × DataType). f.0) (slice_get schema i) ≡ Some n → (f : Name × DataType) × (slice_get schema i ≡ Some f) × (f.0 ≡ n)
  field-at i n e = by (slice_get schema i) refl e
    where
      by : (o : Option (Name × DataType)) → slice_get schema i ≡ o → option_map (λ (f : Name × DataType). f.0) o ≡ Some n → (f : Name × DataType) × (slice_get schema i ≡ Some f) × (f.0 ≡ n)
      by None q h = cc
      by (Some f) q h = (f, q, cc)

  pub place-within : (i : ℕ) (n : Name) → option_map (λ (f : Name × DataType). f.0) (slice_get schema i) ≡ Some n → place_in old new n < length columns
  place-within i n e =
      let f = field-at i n e in
      let kind_there : slice_get (map (λ (c : Series). c.kind) columns) (place_in old new f.0.0) ≡ Some f.0.1 = all-of-place (λ (f : Name × DataType). slice_get (map (λ (c : Series). c.kind) columns) (place_in old new f.0) ≡ Some f.1) schema i f.0 placed f.1 in
      let l = get-within (map (λ (c : Series). c.kind) columns) (place_in old new f.0.0) f.0.1 kind_there in
      subst (λ n. place_in old new n < length columns) f.2 (subst (λ m. place_in old new f.0.0 < m) (length-map columns (λ (c : Series). c.kind)) l)

  pub places-more : (i : ℕ) (n : Name) (p : ℕ) (c x : Series) (out more : List Series) → i < length schema → option_map (λ (f : Name × DataType). f.0) (slice_get schema i) ≡ Some n → p ≡ place_in old new n → c ≡ get_or columns p c → x ≡ c
      → TakesPlaces old new columns (take i schema) out → more ≡ out ++ x ∷ [] → TakesPlaces old new columns (take (i + 1) schema) more
  places-more i n p c x out more h e at_place is same before grown =
      let R : Name × DataType → Series → Type 0 = λ f c. slice_get columns (place_in old new f.0) ≡ Some c in
      let f = field-at i n e in
      let front = take_more schema i f.0 h ∙ ap (λ y. take i schema ++ y ∷ []) (get-is schema i f.0 f.0 f.1) in
      let low : p < length columns = subst (λ m. m < length columns) (sym at_place) (place-within i n e) in
      let there : slice_get columns (place_in old new f.0.0) ≡ Some x = ap (λ m. slice_get columns (place_in old new m)) f.2 ∙ ap (slice_get columns) (sym at_place) ∙ get-there columns p c low ∙ ap (λ y. Some y) (sym is ∙ sym same) in
      subst (λ gs. AllZip R gs more) (sym front) (subst (AllZip R (take i schema ++ f.0 ∷ [])) (sym grown) (zip-append R (take i schema) (f.0 ∷ []) out (x ∷ []) before (there, tt)))

-- columns at places are a table of the schema
placed-kinds : (old new : Fields) (columns : List Series) (schema : Fields) (out : List Series) → ArePlaced old new columns schema → TakesPlaces old new columns schema out → map (λ (c : Series). c.kind) out ≡ kinds_of schema
placed-kinds old new columns [] [] a t = refl
placed-kinds old new columns [] (c ∷ out) a t = absurd t
placed-kinds old new columns (f ∷ schema) [] a t = absurd t
placed-kinds old new columns (f ∷ schema) (c ∷ out) a t =
    let same : Some c.kind ≡ Some f.1 = sym (get-map (λ (c : Series). c.kind) columns (place_in old new f.0) ∙ ap (option_map (λ (c : Series). c.kind)) t.0) ∙ a.0 in
    let here : c.kind ≡ f.1 = cc in
    λ i. here i ∷ placed-kinds old new columns schema out a.1 t.1 i

placed-heights : (old new : Fields) (columns : List Series) (schema : Fields) (out : List Series) (h : ℕ) → AllOfHeight h columns → TakesPlaces old new columns schema out → AllOfHeight h out
placed-heights old new columns [] [] h a t = tt
placed-heights old new columns [] (c ∷ out) h a t = absurd t
placed-heights old new columns (f ∷ schema) [] h a t = absurd t
placed-heights old new columns (f ∷ schema) (c ∷ out) h a t = (all-of-place (λ (c : Series). length c.values ≡ h) columns (place_in old new f.0) c a t.0, placed-heights old new columns schema out h a t.1)

pub placed-frame : (old new : Fields) (columns : List Series) (schema : Fields) (out : List Series) (h : ℕ) → ArePlaced old new columns schema → TakesPlaces old new columns schema out → AllOfHeight h columns → h ≤ max_rows → IsFrame schema out h
placed-frame old new columns schema out h a t high small = record { kinds = placed-kinds old new columns schema out a t; heights = placed-heights old new columns schema out h high t; small = small }

-- and its rows pick the values at the places
placed-values : (old new : Fields) (columns : List Series) (schema : Fields) (out : List Series) (h : ℕ) → AllOfHeight h columns → TakesPlaces old new columns schema out
    → column_values out ≡ columns_at (rows_of h (column_values columns)) (map (λ (f : Name × DataType). place_in old new f.0) schema)
placed-values old new columns [] [] h a t = refl
placed-values old new columns [] (c ∷ out) h a t = absurd t
placed-values old new columns (f ∷ schema) [] h a t = absurd t
placed-values old new columns (f ∷ schema) (c ∷ out) h a t =
    let p = place_in old new f.0 in
    let here : c.values ≡ values_at p (rows_of h (column_values columns)) = sym (values_at-rows_of h p columns c a (get-within columns p c t.0) ∙ ap (λ (c : Series). c.values) (get-is columns p c c t.0)) in
    λ i. here i ∷ placed-values old new columns schema out h a t.1 i

-- ---- the step

module _ (f : Node → Tree) (at : ℕ) (es : List ExprIR) (t : Frame) (out : Fields) (q : option_map (put_fields t.schema) (fields_of (named_trees f es) t.schema) ≡ Some out) where
  new-fields : (fs : Fields) × (fields_of (named_trees f es) t.schema ≡ Some fs) × (put_fields t.schema fs ≡ out)
  new-fields = by (fields_of (named_trees f es) t.schema) refl q
    where
      by : (o : Option Fields) → fields_of (named_trees f es) t.schema ≡ o → option_map (put_fields t.schema) o ≡ Some out → (fs : Fields) × (fields_of (named_trees f es) t.schema ≡ Some fs) × (put_fields t.schema fs ≡ out)
      by None r h = cc
      by (Some fs) r h = (fs, r, cc)

  pub fields-given : (fs : Fields) × (fields_of (named_trees f es) t.schema ≡ Some fs)
  fields-given = (new-fields.0, new-fields.1)

  named-names : (es : List ExprIR) → expr_names (named_trees f es) ≡ map (λ (e : ExprIR). name_in e.output_name) es
  named-names es = map-map (λ (e : Named). e.0) (λ (e : ExprIR). (name_in e.output_name, f e.node)) es

  field-names : (es : List ExprIR) (fs : Fields) → fields_of (named_trees f es) t.schema ≡ Some fs → names_of fs ≡ expr_names (named_trees f es)
  field-names [] fs r = let is : fs ≡ [] = cc in ap names_of is
  field-names (e ∷ es) fs r = by (Rattle.ps_frame.specs.Typing.kind_over t.schema (f e.node)) (fields_of (named_trees f es) t.schema) refl r (field-names es)
    where
      by : (o : Option DataType) (p : Option Fields) → fields_of (named_trees f es) t.schema ≡ p → both (λ (k : DataType) (fs : Fields). (name_in e.output_name, k) ∷ fs) o p ≡ Some fs
          → ((fs : Fields) → fields_of (named_trees f es) t.schema ≡ Some fs → names_of fs ≡ expr_names (named_trees f es)) → names_of fs ≡ expr_names (named_trees f (e ∷ es))
      by None p s h rest = cc
      by (Some k) None s h rest = cc
      by (Some k) (Some more) s h rest = let is : (name_in e.output_name, k) ∷ more ≡ fs = cc in sym (ap names_of is) ∙ ap (λ ns. name_in e.output_name ∷ ns) (rest more s)

  module _ (new : Fields) (names : names_of new ≡ map (λ (e : ExprIR). name_in e.output_name) es) where
    new-names : names_of new ≡ expr_names (named_trees f es)
    new-names = names ∙ sym (named-names es)

    new-is : names_of new ≡ names_of new-fields.0
    new-is = new-names ∙ sym (field-names es new-fields.0 new-fields.1)

    module _ (columns : List Series) (h : ℕ) (k : KeepsZip (keyed at (key_trees f es) (whole t)) (keyed_kinds t.schema (key_trees f es)) columns h) where
      column-kinds : map (λ (c : Series). c.kind) columns ≡ kinds_of t.schema ++ kinds_of new-fields.0
      column-kinds =
          some-kinds columns (kinds_of t.schema ++ kinds_of new-fields.0)
          (k.kinds_are ∙ ap (λ (ks : List (Option DataType)). map Some (kinds_of t.schema) ++ ks) (fields-kinds f t.schema es new-fields.0 new-fields.1) ∙ sym (map-append Some (kinds_of t.schema) (kinds_of new-fields.0)))

      pub are-placed : has_distinct_names t.schema ≡ true → ((n : Name) → IsTrue (repeats n (expr_names (named_trees f es))) → ⊥) → ArePlaced t.schema new columns out
      are-placed d once =
          let e = distinct-from new-fields.0 (λ n r. once n (ap (repeats n) (sym (field-names es new-fields.0 new-fields.1)) ∙ r)) in
          subst (λ (o : Fields). ArePlaced t.schema new columns o) new-fields.2
          (all-weaker (InPlace t.schema new-fields.0) (λ (f : Name × DataType). slice_get (map (λ (c : Series). c.kind) columns) (place_in t.schema new f.0) ≡ Some f.1)
          (λ f h. (λ i. slice_get (column-kinds i) (new_or_old (length t.schema) (same-place f.0 new new-fields.0 new-is i) (field_index f.0 t.schema))) ∙ h)
          (put_fields t.schema new-fields.0) (all-in-place t.schema new-fields.0 d e))

      pub hstack-gives : (F : Functions) (g : Frame) (outs : List Series) → g.schema ≡ out → TakesPlaces t.schema new columns out outs → g.rows ≡ rows_of h (column_values outs) → GivesFrame F at (hstack (named_trees f es)) (t ∷ []) g
      hstack-gives F g outs schema places rows =
          let named = named_trees f es in
          let z = keyed at (key_trees f es) (whole t) in
          let zip_is = ap (λ (ts : List Tree). keyed at ts (whole t)) (exprs-of-named f es) in
          let zip_rows = rows_of h (column_values columns) in
          let places_are : map (λ (f : Name × DataType). place_in t.schema new f.0) out ≡ hstack_places (names_of out) named t.schema =
          map_same _ _ (λ (f : Name × DataType). place-is (length t.schema) named new f.0 (field_index f.0 t.schema) new-names) out
          ∙ sym (map-map (λ n. hstack_place (length t.schema) named n (unwrap_or (field_index n t.schema) 0)) (λ (f : Name × DataType). f.0) out) in
          let picked_rows : g.rows ≡ map (picked (hstack_places (names_of out) named t.schema)) zip_rows =
          rows ∙ ap (λ vss. rows_of h vss) (placed-values t.schema new columns out outs h k.heights places)
          ∙ ap (λ m. rows_of m (columns_at zip_rows (map (λ (f : Name × DataType). place_in t.schema new f.0) out))) (sym (length-rows_of h columns k.heights))
          ∙ rows-picked zip_rows (map (λ (f : Name × DataType). place_in t.schema new f.0) out)
          ∙ ap (λ ps. map (picked ps) zip_rows) places_are in
          let schema_is : out ≡ unwrap_or (option_map (put_fields t.schema) (fields_of named t.schema)) [] = sym (ap (λ o. unwrap_or o []) q) in
          let all_rows = picked_rows ∙ (λ i. map (picked (hstack_places (names_of (schema_is i)) named t.schema)) ((sym k.rows ∙ sym (ap (λ z. z.rows) zip_is)) i)) in
          let none = sym (ap (λ z. z.broken) zip_is ∙ k.whole) in
          (whole g, inl (λ i. table ((schema ∙ schema_is) i) (all_rows i) (none i)), refl)

  pub hstack-faults : (F : Functions) (e : PolarsError) → IsZipError at (key_trees f es) (whole t) (keyed at (key_trees f es) (whole t)) e → MayFault F at (hstack (named_trees f es)) (t ∷ []) e
  hstack-faults F e h =
      may-fault F at (hstack (named_trees f es)) (t ∷ []) (exprs_of (named_trees f es)) (whole t) (keyed at (exprs_of (named_trees f es)) (whole t)) broken (λ l. l) e
      (subst (λ (ts : List Tree). IsZipError at ts (whole t) (keyed at ts (whole t)) e) (sym (exprs-of-named f es)) h)
    where
      broken : (c : Cause) → Contains (keyed at (exprs_of (named_trees f es)) (whole t)).broken c → IsCaseBrokenBy F at (hstack (named_trees f es)) (whole t ∷ []) c
      broken c m =
          let o = unwrap_or (option_map (put_fields t.schema) (fields_of (named_trees f es) t.schema)) [] in
          (table_of o (map (picked (hstack_places (names_of o) (named_trees f es) t.schema))) (keyed at (exprs_of (named_trees f es)) (whole t)), inr (inl refl), m)
