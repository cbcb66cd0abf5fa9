-- What nodes that are added leave, what names that are read show, the end of a call, and the select over it.
use Rattle.std.proofs.Common.{◌≡◌, ◌⊎◌, inl, inr, ℕ, zero, suc, ◌<◌, ◌≤◌, Bool, true, false, cond, not, List, [], ◌∷◌, ◌++◌, length, Some, refl, sym, ap, subst, ◌∙◌, arith}
use Rattle.std.specs.Prelude.{Contains, IsTrue, map, slice_get, unwrap_or, ◌&&◌, ◌||◌, ◌≢◌}
use Rattle.std.specs.Cmp.Lexicographic.{bytes_decides}
use Rattle.std.specs.Str.{bytes_eq}
use Rattle.std.proofs.lemmas.List.{length-map}
use Rattle.ps_frame.specs.Causes.{Cause, Column, value}
use Rattle.ps_frame.specs.Eval.{at}
use Rattle.ps_frame.specs.Functions.{Functions}
use Rattle.ps_frame.specs.Operators.{binary_value, cast_cell, cast_value, choice_of, not_value}
use Rattle.ps_frame.specs.Tables.{Fields, Table, field_index, field_kind, no_rows, table_column}
use Rattle.ps_frame.specs.Trees.{Tree}
use Rattle.ps_frame.specs.Typing.{binary_kind, branch_kind, cast_kind, function_kind, goes_by_cell, is_elementwise, is_kind, kind_if, kind_over}
use Rattle.ps_frame.specs.Values.{is_null}
use Rattle.ps_frame.specs.Zip.{Zipped, zipped}
use Rattle.ps_frame.specs.declared.expr.FunctionExpr.{FunctionExpr}
use Rattle.ps_frame.specs.declared.expr.FunctionExpr.TheVariants as fun
use Rattle.ps_frame.specs.declared.value.DataType.TheVariants as kind
use Rattle.ps_frame.specs.declared.value.Value.TheVariants as val
use Rattle.ps_meaning.proofs.EvalFits.{first-place, next-place}
use Rattle.ps_meaning.specs.Cases.{Case, GivesBeforeCut, columns_at, lost_causes, out_schema, table_of}
use Rattle.ps_meaning.specs.Schemas.{both as both_of, expr_names, fields_of, is_among, names_of}
use Rattle.ps_meaning.specs.Shape.{PhysicalMayGive, PhysicalNode, Shape}
use Rattle.ps_meaning.specs.Steps.{Name, Named, exprs_of, select}
use Rattle.ps_meaning.specs.Within.{Within}
use Rattle.ps_shares.specs.Ends.{AllShow, AreKnownBy, ChoicesRestrict, KindsFound, KindsGoBack, LeavesShow, NamesFound, NewCausesJoin, SelectsKeep, SelectsKeepCauses, ShownKeep}
use Rattle.ps_shares.specs.Kept.{HasNoOther, IsCauseOver, IsPartOf, NewCausesAre, all_causes}
use Rattle.ps_shares.specs.Leaves.{AtLeaves, Naming, eval_with, put_back, stands_for}
use Rattle.ps_shares.specs.CallLaws.{IsIn, IsShownAs}
use Rattle.ps_rules.specs.Slots.{State, under}
use Rattle.ps_shares.proofs.ByCauses.{causes_by_leaves}
use Rattle.ps_shares.proofs.ByLeaves.{stay_within}
use Rattle.ps_shares.proofs.Causes.{down_operator}
use Rattle.ps_shares.proofs.FlatLength.{both_hold}
use Rattle.ps_shares.proofs.Members.{Has, from_has, to_has}
use Rattle.ps_shares.proofs.Named.{at_all, names_show, over_columns}

-- nodes that were there stay
pub kept_there : (nodes more : Shape) (n : ℕ) (p : PhysicalNode) → slice_get nodes n ≡ Some p → slice_get (nodes ++ more) n ≡ Some p
kept_there [] more n p e = cc
kept_there (x ∷ xs) more zero p e = e
kept_there (x ∷ xs) more (suc n) p e = kept_there xs more n p e

was_there : (nodes more : Shape) (n : ℕ) (p : PhysicalNode) → n < length nodes → slice_get (nodes ++ more) n ≡ Some p → slice_get nodes n ≡ Some p
was_there [] more n p lt e = absurd (omega arith)
was_there (x ∷ xs) more zero p lt e = e
was_there (x ∷ xs) more (suc n) p lt e = let lt' : n < length xs = omega arith in was_there xs more n p lt' e

pub last_there : (nodes : Shape) (p : PhysicalNode) → slice_get (nodes ++ p ∷ []) (length nodes) ≡ Some p
last_there [] p = refl
last_there (x ∷ xs) p = last_there xs p

pub choices_restrict : ChoicesRestrict
choices_restrict F nodes more tables choice n p e = choice n p (kept_there nodes more n p e)

-- what an old node may give it could give before
gave : (F : Functions) (nodes more : Shape) (tables : ℕ → Table) (n : ℕ) (U : Table) → n < length nodes → PhysicalMayGive F (nodes ++ more) tables n U → PhysicalMayGive F nodes tables n U
gave F nodes more tables n U lt (inl e) = inl e
gave F nodes more tables n U lt (inr (p, there, before)) = inr (p, was_there nodes more n p lt there, before)

pub causes_join : (F : Functions) (a b c : State) (more : Shape) (tables : ℕ → Table) (Known : Cause → Type 0) → c.nodes ≡ b.nodes ++ more
    → NewCausesAre F a b tables Known → NewCausesAre F b c tables Known → NewCausesAre F a c tables Known
causes_join F a b c more tables Known e first second n U le lt may cause shows = by (below_or n (length b.nodes))
  where
    below_or : (n m : ℕ) → (n < m) ⊎ (m ≤ n)
    below_or n zero = inr (omega arith)
    below_or zero (suc m) = inl (omega arith)
    below_or (suc n) (suc m) = up (below_or n m)
      where
        up : (n < m) ⊎ (m ≤ n) → (suc n < suc m) ⊎ (suc m ≤ suc n)
        up (inl h) = inl (omega arith)
        up (inr h) = inr (omega arith)

    by : (n < length b.nodes) ⊎ (length b.nodes ≤ n) → Known cause
    by (inl h) = first n U le h (gave F b.nodes more tables n U h (subst (λ nodes. PhysicalMayGive F nodes tables n U) e may)) cause shows
    by (inr h) = second n U h lt may cause shows

pub new_causes_join : NewCausesJoin
new_causes_join F a b c more tables known e first second = causes_join F a b c more tables (Contains known) e first second

-- names that are read
module _ (Read : Name → Type 0) (known : Naming) where
  pub found : (s : Fields) (cs : List Column) → AreKnownBy Read known s cs → (n : Name) → Read n → IsTrue (is_among n (names_of s)) → (j : ℕ) × (field_index n s ≡ Some j) × (slice_get cs j ≡ Some (known n))
  found [] cs all n r h = cc
  found (f ∷ s) [] all n r h = absurd all
  found (f ∷ s) (c ∷ cs) all n r h = by (bytes_eq n f.0) refl h (found s cs all.1 n r)
    where
      by : (b : Bool) → bytes_eq n f.0 ≡ b → (bytes_eq n f.0 || is_among n (names_of s)) ≡ true → (IsTrue (is_among n (names_of s)) → (j : ℕ) × (field_index n s ≡ Some j) × (slice_get cs j ≡ Some (known n)))
          → (j : ℕ) × (field_index n (f ∷ s) ≡ Some j) × (slice_get (c ∷ cs) j ≡ Some (known n))
      by true q h rest =
          let own : n ≡ f.0 = (bytes_decides n f.0).0 q in
          (0, first-place n f s q, ap Some (all.0 (subst Read own r) ∙ ap known (sym own)))
      by false q h rest =
          let k = rest (sym (ap (λ b. b || is_among n (names_of s)) q) ∙ h) in
          (suc k.0, next-place n f s k.0 q k.1, k.2)

pub names_found : NamesFound
names_found read known s cs all n r h = found (λ n. IsTrue (read n)) known s cs all n r h

-- what an expression reads
module _ (Q : Cause → Type 0) (node : ℕ) (known : Naming) where
  function_leaves : (g : FunctionExpr) (e : Tree) → IsTrue (goes_by_cell g) → AllShow Q (eval_with node known (Tree.function g e)) → AllShow Q (eval_with node known e)
  function_leaves fun.Not e h k = (down_operator Q node (λ row. value (not_value (at 0 row))) (eval_with node known e ∷ []) k).0
  function_leaves fun.IsNull e h k = (down_operator Q node (λ row. value (val.Boolean (is_null (at 0 row)))) (eval_with node known e ∷ []) k).0
  function_leaves fun.IsNotNull e h k = (down_operator Q node (λ row. value (val.Boolean (not (is_null (at 0 row))))) (eval_with node known e ∷ []) k).0
  function_leaves fun.Reverse e h k = let w : false ≡ true = h in cc

  pub leaves_show_in : (e : Tree) → IsTrue (is_elementwise e) → AllShow Q (eval_with node known e) → AtLeaves (λ n. AllShow Q (known n)) e
  leaves_show_in (Tree.column name) h k = k
  leaves_show_in (Tree.literal l) h k = tt
  leaves_show_in (Tree.binary o l r) h k =
      let b = both_hold (is_elementwise l) (is_elementwise r) h in
      let d = down_operator Q node (λ row. value (binary_value o (at 0 row) (at 1 row))) (eval_with node known l ∷ eval_with node known r ∷ []) k in
      (leaves_show_in l b.0 d.0, leaves_show_in r b.1 d.1.0)
  leaves_show_in (Tree.cast c strict e) h k =
      leaves_show_in e h (down_operator Q node (λ row. cast_cell node strict (cast_value c (at 0 row))) (eval_with node known e ∷ []) k).0
  leaves_show_in (Tree.ternary p a b) h k =
      let u = both_hold (is_elementwise p) (is_elementwise a && is_elementwise b) h in
      let v = both_hold (is_elementwise a) (is_elementwise b) u.1 in
      let d = down_operator Q node (λ row. value (choice_of (at 0 row) (at 1 row) (at 2 row))) (eval_with node known p ∷ eval_with node known a ∷ eval_with node known b ∷ []) k in
      (leaves_show_in p u.0 d.0, leaves_show_in a v.0 d.1.0, leaves_show_in b v.1 d.1.1.0)
  leaves_show_in (Tree.function g e) h k = let b = both_hold (goes_by_cell g) (is_elementwise e) h in leaves_show_in e b.1 (function_leaves g e b.0 k)
  leaves_show_in (Tree.sort d n e) h k = tt
  leaves_show_in (Tree.sort_by d n e by) h k = tt
  leaves_show_in (Tree.gather s e i) h k = tt
  leaves_show_in (Tree.filter e by) h k = tt
  leaves_show_in (Tree.aggregate a e) h k = tt
  leaves_show_in (Tree.slice e o l) h k = tt
  leaves_show_in Tree.len h k = tt
  leaves_show_in (Tree.left_out w) h k = tt
  leaves_show_in Tree.missing h k = tt

pub leaves_show : LeavesShow
leaves_show causes node known e h k = leaves_show_in (Contains causes) node known e h k

pub shown_keep : ShownKeep
shown_keep node z cs known es all shows read none =
    let w = names_show z cs known es all shows read in
    let found = at_all (IsShownAs z cs known) (IsIn z) (λ n h. (h.0, h.1)) es read.shown in
    let p = over_columns node z es all in
    record {
      part = subst (λ ds. IsPartOf (zipped false node ds) (zipped false node (map (eval_with node known) es))) (sym p) (stay_within node (λ n. table_column n z) known es all w);
      causes = subst (λ ds. HasNoOther (all_causes (zipped false node ds)) (all_causes (zipped false node (map (eval_with node known) es)))) (sym p) (causes_by_leaves node z known es all found w none);
    }

-- kinds
module _ (given known : Fields) (ms : List Named) where
  kinds_back : (e : Tree) → IsTrue (is_elementwise e) → AtLeaves (λ n. field_kind n given ≡ kind_over known (stands_for ms n)) e → kind_over given e ≡ kind_over known (put_back ms e)
  kinds_back (Tree.column name) h k = k
  kinds_back (Tree.literal l) h k = refl
  kinds_back (Tree.binary o l r) h k =
      let b = both_hold (is_elementwise l) (is_elementwise r) h in
      let p = kinds_back l b.0 k.0 in
      let q = kinds_back r b.1 k.1 in
      λ i. binary_kind o (p i) (q i)
  kinds_back (Tree.cast c strict e) h k = ap (cast_kind c) (kinds_back e h k)
  kinds_back (Tree.ternary p a b) h k =
      let u = both_hold (is_elementwise p) (is_elementwise a && is_elementwise b) h in
      let v = both_hold (is_elementwise a) (is_elementwise b) u.1 in
      let x = kinds_back p u.0 k.0 in
      let y = kinds_back a v.0 k.1 in
      let z = kinds_back b v.1 k.2 in
      λ i. kind_if (is_kind kind.Boolean (x i)) (branch_kind (y i) (z i))
  kinds_back (Tree.function g e) h k = let b = both_hold (goes_by_cell g) (is_elementwise e) h in ap (function_kind g) (kinds_back e b.1 k)
  kinds_back (Tree.sort d n e) h k = let w : false ≡ true = h in cc
  kinds_back (Tree.sort_by d n e by) h k = let w : false ≡ true = h in cc
  kinds_back (Tree.gather s e i) h k = let w : false ≡ true = h in cc
  kinds_back (Tree.filter e by) h k = let w : false ≡ true = h in cc
  kinds_back (Tree.aggregate a e) h k = let w : false ≡ true = h in cc
  kinds_back (Tree.slice e o l) h k = let w : false ≡ true = h in cc
  kinds_back Tree.len h k = let w : false ≡ true = h in cc
  kinds_back (Tree.left_out w) h k = let w : false ≡ true = h in cc
  kinds_back Tree.missing h k = let w : false ≡ true = h in cc

pub kinds_go_back : KindsGoBack
kinds_go_back given known ms e h k = kinds_back given known ms e h k

-- members of two lists
pub has_first : {A : Type 0} (xs ys : List A) (a : A) → Has xs a → Has (xs ++ ys) a
has_first [] ys a h = absurd h
has_first (x ∷ xs) ys a (inl e) = inl e
has_first (x ∷ xs) ys a (inr h) = inr (has_first xs ys a h)

pub has_either : {A : Type 0} (xs ys : List A) (a : A) → Has (xs ++ ys) a → Has xs a ⊎ Has ys a
has_either [] ys a h = inr h
has_either (x ∷ xs) ys a (inl e) = inl (inl e)
has_either (x ∷ xs) ys a (inr h) = by (has_either xs ys a h)
  where
    by : Has xs a ⊎ Has ys a → Has (x ∷ xs) a ⊎ Has ys a
    by (inl k) = inl (inr k)
    by (inr k) = inr k

has_some : {A : Type 0} (xs : List A) (a : A) → Has xs a → xs ≢ []
has_some [] a h e = absurd h
has_some (x ∷ xs) a h e = cc

-- expressions under names
pub exprs_under : (ns : List Name) (es : List Tree) → length ns ≡ length es → exprs_of (under ns es) ≡ es
exprs_under [] [] e = refl
exprs_under [] (x ∷ es) e = absurd (omega arith)
exprs_under (n ∷ ns) [] e = absurd (omega arith)
exprs_under (n ∷ ns) (x ∷ es) e = ap (λ es. x ∷ es) (exprs_under ns es (omega arith))

pub under_own : (es : List Named) → under (expr_names es) (exprs_of es) ≡ es
under_own [] = refl
under_own (e ∷ es) = ap (λ es. e ∷ es) (under_own es)

pub same_fields : (s t : Fields) (ns : List Name) (given known : List Tree) → map (kind_over s) given ≡ map (kind_over t) known → fields_of (under ns given) s ≡ fields_of (under ns known) t
same_fields s t [] given known e = refl
same_fields s t (n ∷ ns) [] [] e = refl
same_fields s t (n ∷ ns) [] (y ∷ ys) e = let w : [] ≡ kind_over t y ∷ map (kind_over t) ys = e in cc
same_fields s t (n ∷ ns) (x ∷ xs) [] e = let w : kind_over s x ∷ map (kind_over s) xs ≡ [] = e in cc
same_fields s t (n ∷ ns) (x ∷ xs) (y ∷ ys) e =
    let w : kind_over s x ∷ map (kind_over s) xs ≡ kind_over t y ∷ map (kind_over t) ys = e in
    let p : kind_over s x ≡ kind_over t y = cc in
    let q : map (kind_over s) xs ≡ map (kind_over t) ys = cc in
    let r = same_fields s t ns xs ys q in
    λ i. both_of (λ k fs. (n, k) ∷ fs) (p i) (r i)

-- a select of what is within
module _ (F : Functions) (node : ℕ) (ns : List Name) (known : List Tree) (t : Table) (count : length ns ≡ length known) where
  abbrev l : Zipped
  l = zipped false node (columns_at node known t)

  asked_zip : zipped false node (columns_at node (exprs_of (under ns known)) t) ≡ l
  asked_zip = ap (λ es. zipped false node (columns_at node es t)) (exprs_under ns known count)

  -- what it gives
  abbrev asked : Table
  asked = table_of (out_schema F node (select (under ns known)) (t ∷ [])) (λ rows. rows) (zipped false node (columns_at node (exprs_of (under ns known)) t))

  shown_over : (c : Cause) → Contains (all_causes l) c → IsCauseOver F node (select (under ns known)) t c
  shown_over c h = by (has_either l.broken l.lost c (to_has (all_causes l) c h))
    where
      by : Has l.broken c ⊎ Has l.lost c → IsCauseOver F node (select (under ns known)) t c
      by (inl k) = (asked, inl refl, subst (λ (z : Zipped). Contains z.broken c) (sym asked_zip) (from_has l.broken c k))
      by (inr k) =
          let k' = subst (λ (z : Zipped). Has z.lost c) (sym asked_zip) k in
          let lost = lost_causes F node (select (under ns known)) (t ∷ []) asked.rows in
          (no_rows asked.schema lost, inr (asked, refl, has_some lost c k', refl), from_has lost c k')

  module _ (given : List Tree) (z : Table) (count' : length ns ≡ length given) where
    abbrev p : Zipped
    p = zipped false node (columns_at node given z)

    given_zip : zipped false node (columns_at node (exprs_of (under ns given)) z) ≡ p
    given_zip = ap (λ es. zipped false node (columns_at node es z)) (exprs_under ns given count')

    keep_causes : (U : Table) (c : Cause) → HasNoOther (all_causes p) (all_causes l) → GivesBeforeCut F node (select (under ns given)) (z ∷ []) U → Contains U.broken c → IsCauseOver F node (select (under ns known)) t c
    keep_causes U c none (inl g) h =
        let k = subst (λ (z : Zipped). Contains z.broken c) given_zip (subst (λ (U : Table). Contains U.broken c) g h) in
        shown_over c (none c (from_has (all_causes p) c (has_first p.broken p.lost c (to_has p.broken c k))))
    keep_causes U c none (inr (V, g, some, u)) h =
        let k = subst (λ (z : Zipped). Contains z.lost c) given_zip (subst (λ (U : Table). Contains U.broken c) u h) in
        shown_over c (none c (from_has (all_causes p) c (second p.broken c (to_has p.lost c k))))
      where
        second : (xs : List Cause) (c : Cause) → Has p.lost c → Has (xs ++ p.lost) c
        second [] c h = h
        second (x ∷ xs) c h = inr (second xs c h)

    within : (T : Table) → map (kind_over z.schema) given ≡ map (kind_over t.schema) known → IsPartOf p l → Case F node (select (under ns given)) (z ∷ []) T → Within T asked
    within T kinds part (U, g, e) = subst (λ T. Within T asked) (sym e) (by g)
      where
        schemas : out_schema F node (select (under ns given)) (z ∷ []) ≡ asked.schema
        schemas = ap (λ fs. unwrap_or fs []) (same_fields z.schema t.schema ns given known kinds)

        of_part : IsPartOf p l → Within (table_of (out_schema F node (select (under ns given)) (z ∷ [])) (λ rows. rows) p) (table_of asked.schema (λ rows. rows) l)
        of_part (inl (b, b', rows)) = record { same_schema = schemas; part = inl (λ i. record { schema = schemas i; rows = rows i; broken = (b ∙ sym b') i }) }
        of_part (inr (b, begins)) = record { same_schema = schemas; part = inr (b, begins) }

        by : GivesBeforeCut F node (select (under ns given)) (z ∷ []) U → Within U asked
        by (inl g) =
            let w = of_part part in
            subst (λ U. Within U asked) (sym (g ∙ ap (table_of (out_schema F node (select (under ns given)) (z ∷ [])) (λ rows. rows)) given_zip))
            (subst (λ T. Within (table_of (out_schema F node (select (under ns given)) (z ∷ [])) (λ rows. rows) p) T) (sym (ap (table_of asked.schema (λ rows. rows)) asked_zip)) w)
        by (inr (V, g, some, u)) =
            record {
              same_schema = ap (λ (U : Table). U.schema) u ∙ ap (λ (V : Table). V.schema) g ∙ schemas;
              part = inr ((λ none. some (sym (ap (λ (U : Table). U.broken) u) ∙ none)), (asked.rows, ap (λ (U : Table). U.rows ++ asked.rows) u));
            }

pub selects_keep : SelectsKeep
selects_keep F node ns given known z t T count kinds w case =
    let count' : length ns ≡ length known = count ∙ sym (length-map given (kind_over z.schema)) ∙ ap length kinds ∙ length-map known (kind_over t.schema) in
    (asked F node ns known t count', (asked F node ns known t count', inl refl, refl), within F node ns known t count' given z count T kinds w.part case)

pub selects_keep_causes : SelectsKeepCauses
selects_keep_causes F node ns given known z t U c count count' none gives h = keep_causes F node ns known t count' given z count U c none gives h

pub kinds_found : KindsFound
kinds_found read kinds [] all n r h = cc
kinds_found read kinds (f ∷ s) all n r h = by (bytes_eq n f.0) refl h (kinds_found read kinds s all.1 n r)
  where
    by : (b : Bool) → bytes_eq n f.0 ≡ b → (bytes_eq n f.0 || is_among n (names_of s)) ≡ true → (IsTrue (is_among n (names_of s)) → field_kind n s ≡ kinds n) → field_kind n (f ∷ s) ≡ kinds n
    by true q h rest =
        let own : n ≡ f.0 = (bytes_decides n f.0).0 q in
        ap (λ b. cond b (Some f.1) (field_kind n s)) q ∙ all.0 (subst (λ n. IsTrue (read n)) own r) ∙ ap kinds (sym own)
    by false q h rest = ap (λ b. cond b (Some f.1) (field_kind n s)) q ∙ rest (sym (ap (λ b. b || is_among n (names_of s)) q) ∙ h)
