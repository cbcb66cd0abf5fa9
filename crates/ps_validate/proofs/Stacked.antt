-- Steps that set columns beside each other, or tables above each other.
use Rattle.std.proofs.Common.{◌≡◌, ◌≢◌, ℕ, suc, ◌+◌, ◌<◌, List, [], ◌∷◌, ◌++◌, length, get_or, drop, true, false, refl, sym, subst, ◌∙◌, ap, append_assoc, add-one, drop-cons, arith, inl, inr}
use Rattle.std.specs.Prelude.{Any, IsTrue, Option, Some, None, is_some, map, option_map, zero}
use Rattle.std.specs.List.{AllByRecursion}
use Rattle.std.proofs.lemmas.List.{append-nil, length-map, map-append}
use Rattle.std.proofs.Math.Seq.{drop-length}
use Rattle.pu_base.specs.declared.arena.Node.{Node}
use Rattle.ps_frame.specs.Frames.{has_distinct_names}
use Rattle.ps_frame.specs.Functions.{Functions}
use Rattle.ps_frame.specs.Refusals.{is_accepted}
use Rattle.ps_frame.specs.Tables.{Fields}
use Rattle.ps_frame.specs.Trees.{Tree}
use Rattle.ps_frame.specs.Typing.{kind_over}
use Rattle.ps_frame.specs.declared.refusal.PolarsError.{PolarsError}
use Rattle.ps_frame.specs.declared.refusal.PolarsError.TheVariants as error
use Rattle.ps_frame.specs.declared.value.DataType.{DataType}
use Rattle.ps_frame.specs.declared.value.DataType.TheVariants as kind
use Rattle.ps_meaning.specs.StepRefusals.{repeats}
use Rattle.ps_meaning.specs.Schemas.{expr_names, fields_of, joined_schemas, names_of, output_schema, put_fields, schema_or_empty}
use Rattle.ps_meaning.specs.Steps.{Cut, Name, Named, exprs_of, hconcat, hstack, row_index, union, user}
use Rattle.ps_validate.proofs.Grouping.{repeats-left}
use Rattle.ps_validate.proofs.Keying.{among-error}
use Rattle.ps_validate.proofs.Selecting.{breaks-none, differ, holds-none, lacks-none, names-same}
use Rattle.ps_validate.proofs.Stacking.{put-all}
use Rattle.ps_validate.proofs.Typed.{gives-by, names-are, none-left, repeat-error}
use Rattle.ps_validate.specs.Columns.{IsRepeatError, absent_from, with_kinds}
use Rattle.valid_plans.specs.Fields.{IsFieldError}
use Rattle.valid_plans.specs.Known.{AreKnown, IsKnown, Known, schema_in, schemas_in}
use Rattle.ps_validate.specs.Nodes.{GivesSchema, IsNodeError}

never : false ≡ true → ⊥
never h = cc

plain : (o : Option Fields) (q : Fields) → option_map (λ fs. [] ++ fs) o ≡ Some q → o ≡ Some q
plain None q h = cc
plain (Some fs) q h = h

-- names that would stand twice among the first ones would among all
pub repeat-more : (at : Node) (ns ms : List Name) (e : PolarsError) → IsRepeatError at ns e → IsRepeatError at (ns ++ ms) e
repeat-more at ns ms (error.Duplicate node name) h = (h.0, repeats-left name ns ms h.1)
repeat-more at ns ms error.OutOfMemory h = tt
repeat-more at ns ms (error.ColumnNotFound node name) h = absurd h
repeat-more at ns ms (error.SchemaMismatch node) h = absurd h
repeat-more at ns ms (error.Unsupported node w) h = absurd h
repeat-more at ns ms (error.InvalidPlan node why) h = absurd h
repeat-more at ns ms (error.ComputeError node why) h = absurd h
repeat-more at ns ms (error.ShapeMismatch node) h = absurd h
repeat-more at ns ms (error.OutOfBounds node why) h = absurd h

pub repeat-beside : (at : Node) (fs gs : Fields) (e : PolarsError) → IsRepeatError at (names_of fs) e → IsRepeatError at (names_of (fs ++ gs)) e
repeat-beside at fs gs e h = subst (λ ns. IsRepeatError at ns e) (sym (map-append (λ (f : Name × DataType). f.0) fs gs)) (repeat-more at (names_of fs) (names_of gs) e h)

-- an hstack of expressions whose fields were pushed to none
module _ (F : Functions) (s z gs : Fields) (es : List Named) (none : z ≡ []) (h : option_map (λ fs. z ++ fs) (fields_of es s) ≡ Some gs) (ds : IsTrue (has_distinct_names s)) (dg : IsTrue (has_distinct_names gs)) where
  pub stacked-fields : fields_of es s ≡ Some gs
  stacked-fields = plain (fields_of es s) gs (ap (λ (z : Fields). option_map (λ fs. z ++ fs) (fields_of es s)) (sym none) ∙ h)

  pub hstack-schema : (then all : Fields) → then ≡ z ++ with_kinds gs s → all ≡ then ++ absent_from s gs → output_schema F (hstack es) (s ∷ []) ≡ Some all
  hstack-schema then all is whole =
      ap (option_map (put_fields s)) stacked-fields ∙ ap Some (put-all gs s dg ds) ∙ ap (λ z. Some ((z ++ with_kinds gs s) ++ absent_from s gs)) (sym none) ∙ ap (λ t. Some (t ++ absent_from s gs)) (sym is) ∙ ap Some (sym whole)

  pub hstack-gives : (fs : Fields) → ((t : Tree) → is_some (kind_over s t) ≡ is_accepted s t) → output_schema F (hstack es) (s ∷ []) ≡ Some fs → IsTrue (has_distinct_names fs) → fs ≢ [] → GivesSchema F (hstack es) (s ∷ []) fs
  hstack-gives fs exact out d some =
      gives-by F (hstack es) (s ∷ []) fs (record { schema = out; names = names-are (output_schema F (hstack es) (s ∷ [])) fs out; distinct = d; some = some }) (λ n l. lacks-none s exact es gs n stacked-fields l)
      (λ n r. differ gs n dg (subst (λ ns. repeats n ns ≡ true) (sym (names-same s es gs stacked-fields)) r)) (λ h. h) (λ b. breaks-none s exact es gs stacked-fields b) (λ h. h) (λ w c. holds-none s exact es gs stacked-fields w c)

  -- a name would stand twice
  hstack-names : names_of (schema_or_empty F (hstack es) (s ∷ [])) ≡ names_of (with_kinds gs s ++ absent_from s gs)
  hstack-names = names-are (output_schema F (hstack es) (s ∷ [])) (with_kinds gs s ++ absent_from s gs) (ap (option_map (put_fields s)) stacked-fields ∙ ap Some (put-all gs s dg ds))

  pub hstack-first : (at : Node) (y : Fields) (e : PolarsError) → y ≡ [] → IsRepeatError at (names_of (y ++ with_kinds gs s)) e → IsNodeError F at (hstack es) (s ∷ []) e
  hstack-first at y e empty p =
      repeat-error F (hstack es) (s ∷ []) gs at e (names_of (with_kinds gs s ++ absent_from s gs)) hstack-names
      (repeat-beside at (with_kinds gs s) (absent_from s gs) e (subst (λ y. IsRepeatError at (names_of (y ++ with_kinds gs s)) e) empty p))

  pub hstack-later : (at : Node) (y then : Fields) (e : PolarsError) → y ≡ [] → then ≡ y ++ with_kinds gs s → IsRepeatError at (names_of (then ++ absent_from s gs)) e → IsNodeError F at (hstack es) (s ∷ []) e
  hstack-later at y then e empty is p =
      repeat-error F (hstack es) (s ∷ []) gs at e (names_of (with_kinds gs s ++ absent_from s gs)) hstack-names
      (subst (λ y. IsRepeatError at (names_of ((y ++ with_kinds gs s) ++ absent_from s gs)) e) empty (subst (λ t. IsRepeatError at (names_of (t ++ absent_from s gs)) e) is p))

-- what an hstack refuses of its expressions
pub hstack-error : (F : Functions) (at : Node) (s : Fields) (es : List Named) (names : List Name) (e : PolarsError) → names ≡ [] → IsFieldError at s names es e → IsNodeError F at (hstack es) (s ∷ []) e
hstack-error F at s es names (error.Duplicate node name) none h = (h.0, inl (subst (λ ns. repeats name (ns ++ expr_names es) ≡ true) none h.1))
hstack-error F at s es names (error.ColumnNotFound node name) none h =
    among-error F at (hstack es) (s ∷ []) s (exprs_of es) (error.ColumnNotFound node name) h (λ n l. l) (λ b. inr b) (λ w c. c)
hstack-error F at s es names (error.SchemaMismatch node) none h =
    among-error F at (hstack es) (s ∷ []) s (exprs_of es) (error.SchemaMismatch node) h (λ n l. l) (λ b. inr b) (λ w c. c)
hstack-error F at s es names (error.Unsupported node w) none h =
    among-error F at (hstack es) (s ∷ []) s (exprs_of es) (error.Unsupported node w) h (λ n l. l) (λ b. inr b) (λ w c. c)
hstack-error F at s es names error.OutOfMemory none h = tt
hstack-error F at s es names (error.InvalidPlan node why) none h = h
hstack-error F at s es names (error.ComputeError node why) none h = h
hstack-error F at s es names (error.ShapeMismatch node) none h = h
hstack-error F at s es names (error.OutOfBounds node why) none h = h

-- a row index in front of the columns
module _ (F : Functions) (n : Name) (offset : Option ℕ) (s : Fields) where
  abbrev pub indexed : Fields
  indexed = (n, kind.IdxSize) ∷ s

  pub index-gives : (fs : Fields) → fs ≡ indexed → IsTrue (has_distinct_names fs) → GivesSchema F (row_index n offset) (s ∷ []) indexed
  index-gives fs is d =
      gives-by F (row_index n offset) (s ∷ []) indexed (record { schema = refl; names = refl; distinct = subst (λ fs. IsTrue (has_distinct_names fs)) is d; some = λ h. cc }) (λ m h. never h) (λ m h. h) (λ h. h) (λ h. never h) (λ h. h) none-left

  pub index-error : (at : Node) (e : PolarsError) (fs : Fields) → fs ≡ indexed → IsRepeatError at (names_of fs) e → IsNodeError F at (row_index n offset) (s ∷ []) e
  index-error at e fs is h = repeat-error F (row_index n offset) (s ∷ []) indexed at e (names_of fs) (ap names_of (sym is)) h

-- a function that declares a schema, or none
module _ (F : Functions) (n : ℕ) (s : Fields) where
  pub user-gives : (fs : Fields) → F.declared n s ≡ Some fs → IsTrue (has_distinct_names fs) → fs ≢ [] → GivesSchema F (user n) (s ∷ []) fs
  user-gives fs h d some =
      gives-by F (user n) (s ∷ []) fs (record { schema = h; names = names-are (F.declared n s) fs h; distinct = d; some = some }) (λ m h. never h) (λ m h. h) (λ q. let both : Some fs ≡ None = sym h ∙ q in cc) (λ h. never h) (λ h. h) none-left

-- inputs of one schema
module _ (F : Functions) (cut : Cut) where
  none-other : (s : Fields) (ss : List Fields) → AllByRecursion (λ t. t ≡ s) ss → Any (λ t. t ≢ s) ss → ⊥
  none-other s [] all (k, x, within, is, ne) = absurd (omega (arith, within))
  none-other s (t ∷ ts) all (zero, x, within, is, ne) = ne (sym is ∙ all.0)
  none-other s (t ∷ ts) all (suc k, x, within, is, ne) = none-other s ts all.1 (k, x, omega (arith, within), is, ne)

  pub union-gives : (s : Fields) (ss : List Fields) → AllByRecursion (λ t. t ≡ s) (s ∷ ss) → IsTrue (has_distinct_names s) → s ≢ [] → GivesSchema F (union cut) (s ∷ ss) s
  union-gives s ss all d some =
      gives-by F (union cut) (s ∷ ss) s (record { schema = refl; names = refl; distinct = d; some = some }) (λ m h. never h) (λ m h. h) (λ q. none-other s (s ∷ ss) all q) (λ h. never h) (λ h. h) none-left

-- the first input, and the others
pub first-known : (known : Known) (inputs : List Node) (n : Node) (rest : List Node) → inputs ≡ n ∷ rest → AreKnown known inputs → IsKnown known n
first-known known inputs n rest is h = (subst (λ ns. AreKnown known ns) is h).0

later-any : (P : Fields → Type 0) (s : Fields) (ss : List Fields) → Any P ss → Any P (s ∷ ss)
later-any P s ss (k, x, within, is, h) = (suc k, x, omega (arith, within), is, h)

module _ (F : Functions) (cut : Cut) (known : Known) (inputs : List Node) (n : Node) (rest : List Node) (is : inputs ≡ n ∷ rest) (s : Fields) (first : s ≡ schema_in known n) where
  pub inputs-give : AllByRecursion (λ t. t ≡ s) (schemas_in known rest) → IsTrue (has_distinct_names s) → s ≢ [] → GivesSchema F (union cut) (schemas_in known inputs) s
  inputs-give all d some =
      subst (λ ns. GivesSchema F (union cut) (schemas_in known ns) s) (sym is) (subst (λ (t : Fields). GivesSchema F (union cut) (t ∷ schemas_in known rest) s) first (union-gives F cut s (schemas_in known rest) (refl, all) d some))

  pub inputs-differ : (at : Node) → Any (λ t. t ≢ s) (schemas_in known rest) → IsNodeError F at (union cut) (schemas_in known inputs) (error.SchemaMismatch at)
  inputs-differ at other =
      subst (λ ns. IsNodeError F at (union cut) (schemas_in known ns) (error.SchemaMismatch at)) (sym is) (refl, inl (subst (λ (t : Fields). Any (λ u. u ≢ t) (schema_in known n ∷ schemas_in known rest)) first (later-any (λ u. u ≢ s) (schema_in known n) (schemas_in known rest) other)))

-- the columns of all inputs
module _ (F : Functions) (ss : List Fields) where
  pub hconcat-gives : (fs : Fields) → fs ≡ joined_schemas ss → IsTrue (has_distinct_names fs) → fs ≢ [] → GivesSchema F hconcat ss fs
  hconcat-gives fs is d some =
      gives-by F hconcat ss fs (record { schema = ap Some (sym is); names = ap names_of (sym is); distinct = d; some = some }) (λ m h. never h) (λ m h. h) (λ h. h) (λ h. never h) (λ h. h) none-left

map-place : {A B : Type 0} (f : A → B) (xs : List A) (i : ℕ) (x : A) → i < length xs → x ≡ get_or xs i x → get_or (map f xs) i (f x) ≡ f x
map-place f [] i x h is = absurd (omega (arith, h))
map-place f (y ∷ ys) zero x h is = ap f (sym is)
map-place f (y ∷ ys) (suc i) x h is = map-place f ys i x (omega (arith, h)) is

pub own-default : {A : Type 0} (xs : List A) (i : ℕ) (d : A) → i < length xs → get_or xs i d ≡ get_or xs i (get_or xs i d)
own-default [] i d h = absurd (omega (arith, h))
own-default (x ∷ xs) zero d h = refl
own-default (x ∷ xs) (suc i) d h = own-default xs i d (omega (arith, h))

abbrev pub input-at : List Node → ℕ → Node
input-at inputs i = get_or inputs i (record { 0 = 0 })

-- the inputs from i on are still to be looked at
module _ (known : Known) (inputs : List Node) (i : ℕ) (within : i < length inputs) where
  abbrev n : Node
  n = input-at inputs i

  is : n ≡ get_or inputs i n
  is = own-default inputs i (record { 0 = 0 }) within

  rest-is : drop i inputs ≡ n ∷ drop (i + 1) inputs
  rest-is = drop-cons inputs i n within ∙ ap (λ m. m ∷ drop (suc i) inputs) (sym is) ∙ ap (λ j. n ∷ drop j inputs) (sym (add-one i))

  pub input-known : AreKnown known (drop i inputs) → IsKnown known n
  input-known h = (subst (λ ns. AreKnown known ns) rest-is h).0

  pub later-known : AreKnown known (drop i inputs) → AreKnown known (drop (i + 1) inputs)
  later-known h = (subst (λ ns. AreKnown known ns) rest-is h).1

  -- alike so far
  pub alike-next : (s : Fields) → schema_in known n ≡ s → (AllByRecursion (λ t. t ≡ s) (schemas_in known (drop i inputs)) → AllByRecursion (λ t. t ≡ s) (schemas_in known inputs))
      → AllByRecursion (λ t. t ≡ s) (schemas_in known (drop (i + 1) inputs)) → AllByRecursion (λ t. t ≡ s) (schemas_in known inputs)
  alike-next s here far more = far (subst (λ ns. AllByRecursion (λ t. t ≡ s) (schemas_in known ns)) (sym rest-is) (here, more))

  pub other-here : (s : Fields) → (schema_in known n ≢ s) → Any (λ t. t ≢ s) (schemas_in known inputs)
  other-here s ne = (i, schema_in known n, simp (length-map) within, map-place (schema_in known) inputs i n within is, ne)

  -- columns beside each other
  pub join-next : (now then : Fields) → then ≡ now ++ schema_in known n → now ++ joined_schemas (schemas_in known (drop i inputs)) ≡ joined_schemas (schemas_in known inputs) → then ++ joined_schemas (schemas_in known (drop (i + 1) inputs)) ≡ joined_schemas (schemas_in known inputs)
  join-next now then added far =
      ap (λ t. t ++ joined_schemas (schemas_in known (drop (i + 1) inputs))) added ∙ append_assoc now (schema_in known n) (joined_schemas (schemas_in known (drop (i + 1) inputs)))
      ∙ ap (λ ns. now ++ joined_schemas (schemas_in known ns)) (sym rest-is)
      ∙ far

  pub join-error : (at : Node) (now t : Fields) (e : PolarsError) → t ≡ schema_in known n → now ++ joined_schemas (schemas_in known (drop i inputs)) ≡ joined_schemas (schemas_in known inputs) → IsRepeatError at (names_of (now ++ t)) e → (F : Functions) → IsNodeError F at hconcat (schemas_in known inputs) e
  join-error at now t e here far h =
      λ F. repeat-error F hconcat (schemas_in known inputs) now at e (names_of (joined_schemas (schemas_in known inputs))) refl
      (subst (λ fs. IsRepeatError at (names_of fs) e) (ap (λ t. (now ++ t) ++ joined_schemas (schemas_in known (drop (i + 1) inputs))) here ∙ append_assoc now (schema_in known n) (joined_schemas (schemas_in known (drop (i + 1) inputs))) ∙ ap (λ ns. now ++ joined_schemas (schemas_in known ns)) (sym rest-is) ∙ far)
      (repeat-beside at (now ++ t) (joined_schemas (schemas_in known (drop (i + 1) inputs))) e h))

pub join-end : (known : Known) (inputs : List Node) (i : ℕ) (now : Fields) → i ≡ length inputs → now ++ joined_schemas (schemas_in known (drop i inputs)) ≡ joined_schemas (schemas_in known inputs) → now ≡ joined_schemas (schemas_in known inputs)
join-end known inputs i now end far = sym (append-nil now) ∙ ap (λ ns. now ++ joined_schemas (schemas_in known ns)) (sym (ap (λ j. drop j inputs) end ∙ drop-length inputs)) ∙ far
