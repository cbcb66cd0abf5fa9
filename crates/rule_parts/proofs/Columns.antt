-- Columns of a stream that shows more than these, and expressions beside them.
use Rattle.std.proofs.Common.{◌≡◌, ◌≢◌, ℕ, Bool, true, false, cond, List, [], ◌∷◌, ◌++◌, length, None, Some, refl, sym, ap, subst, ◌∙◌, arith}
use Rattle.std.specs.Prelude.{Option, map, unwrap_or}
use Rattle.std.specs.List.{AllByRecursion}
use Rattle.std.proofs.lemmas.Option.{same_Some}
use Rattle.ps_frame.specs.Frames.{has_distinct_names}
use Rattle.ps_frame.specs.Functions.{Functions}
use Rattle.ps_frame.specs.Tables.{Fields, field_kind}
use Rattle.ps_frame.specs.Trees.{Tree}
use Rattle.ps_frame.specs.Typing.{kind_over}
use Rattle.ps_frame.specs.declared.value.DataType.{DataType}
use Rattle.ps_meaning.proofs.StepFits.{own-kinds}
use Rattle.ps_meaning.specs.Schemas.{both as both_of, named_fields, names_of}
use Rattle.ps_meaning.specs.Shape.{simple_projection}
use Rattle.ps_meaning.specs.Sound.{IsSoundButForReaders}
use Rattle.ps_meaning.specs.Steps.{Name}
use Rattle.ps_rules.specs.Slots.{Made, State, Stream, columns_named, over, projection, same_names, schema_at, with_columns}
use Rattle.name_rules.proofs.Items.{each_among, found_among, same_is}
use Rattle.name_rules.proofs.Ruling.{project_right}
use Rattle.name_rules.proofs.Times.{distinct_once}
use Rattle.rule_parts.specs.Good.{IsStream}
use Rattle.rule_parts.proofs.Standing.{Makes, makes_none, other_out, over_makes, schema_is, sound_distinct}

-- each field has its own kind in a schema
abbrev pub OwnKinds : Fields → Fields → Type 0
OwnKinds z f = AllByRecursion (λ (x : Name × DataType). field_kind x.0 z ≡ Some x.1) f

pub own_found : (z f : Fields) → OwnKinds z f → named_fields (names_of f) z ≡ Some f
own_found z [] h = refl
own_found z (x ∷ f) h =
    let p = h.0 in
    let q = own_found z f h.1 in
    λ i. both_of (λ (k : DataType) (fs : Fields). (x.0, k) ∷ fs) (p i) (q i)

-- the names of named columns
pub named_names : (ns : List Name) (s fs : Fields) → named_fields ns s ≡ Some fs → names_of fs ≡ ns
named_names [] s fs e = ap names_of (sym (same_Some [] fs e))
named_names (n ∷ ns) s fs e = by (field_kind n s) (named_fields ns s) e (named_names ns s)
  where
    by : (o : Option DataType) (r : Option Fields) → both_of (λ (k : DataType) (gs : Fields). (n, k) ∷ gs) o r ≡ Some fs → ((gs : Fields) → r ≡ Some gs → names_of gs ≡ ns) → names_of fs ≡ n ∷ ns
    by None r e more = let w : None ≡ Some fs = e in cc
    by (Some k) None e more = let w : None ≡ Some fs = e in cc
    by (Some k) (Some gs) e more = let w : Some ((n, k) ∷ gs) ≡ Some fs = e in ap names_of (sym (same_Some ((n, k) ∷ gs) fs w)) ∙ ap (λ ms. n ∷ ms) (more gs refl)

pub own_itself : (f : Fields) → has_distinct_names f ≡ true → OwnKinds f f
own_itself f d = own-kinds f d

-- the kinds of columns in two schemas
abbrev pub SameKinds : Fields → Fields → List Name → Type 0
SameKinds z f ns = AllByRecursion (λ n. field_kind n z ≡ field_kind n f) ns

pub same_own : (z f g : Fields) → SameKinds z f (names_of g) → OwnKinds f g → OwnKinds z g
same_own z f [] same own = tt
same_own z f (x ∷ g) same own = (same.0 ∙ own.0, same_own z f g same.1 own.1)

-- kinds of columns and of expressions beside them
pub record SplitKinds (z f : Fields) (ns : List Name) (xs es : List Tree) : Type 0 where
  pub columns : SameKinds z f ns
  pub others : map (kind_over z) xs ≡ map (kind_over f) es

pub first_kinds : (z f : Fields) (ns : List Name) (xs es : List Tree) → map (kind_over z) (columns_named ns ++ xs) ≡ map (kind_over f) (columns_named ns ++ es) → SplitKinds z f ns xs es
first_kinds z f [] xs es e = record { columns = tt; others = e }
first_kinds z f (n ∷ ns) xs es e =
    let w : field_kind n z ∷ map (kind_over z) (columns_named ns ++ xs) ≡ field_kind n f ∷ map (kind_over f) (columns_named ns ++ es) = e in
    let p : field_kind n z ≡ field_kind n f = cc in
    let q : map (kind_over z) (columns_named ns ++ xs) ≡ map (kind_over f) (columns_named ns ++ es) = cc in
    let r = first_kinds z f ns xs es q in
    record { columns = (p, r.columns); others = r.others }

only_columns : (z f : Fields) (ns : List Name) → map (kind_over z) (columns_named ns) ≡ map (kind_over f) (columns_named ns) → SameKinds z f ns
only_columns z f [] e = tt
only_columns z f (n ∷ ns) e =
    let w : field_kind n z ∷ map (kind_over z) (columns_named ns) ≡ field_kind n f ∷ map (kind_over f) (columns_named ns) = e in
    let p : field_kind n z ≡ field_kind n f = cc in
    let q : map (kind_over z) (columns_named ns) ≡ map (kind_over f) (columns_named ns) = cc in
    (p, only_columns z f ns q)

pub last_kinds : (z f : Fields) (ns : List Name) (xs es : List Tree) → length xs ≡ length es → map (kind_over z) (xs ++ columns_named ns) ≡ map (kind_over f) (es ++ columns_named ns) → SplitKinds z f ns xs es
last_kinds z f ns [] [] l e = record { columns = only_columns z f ns e; others = refl }
last_kinds z f ns [] (x ∷ es) l e = absurd (omega arith)
last_kinds z f ns (x ∷ xs) [] l e = absurd (omega arith)
last_kinds z f ns (x ∷ xs) (y ∷ es) l e =
    let w : kind_over z x ∷ map (kind_over z) (xs ++ columns_named ns) ≡ kind_over f y ∷ map (kind_over f) (es ++ columns_named ns) = e in
    let p : kind_over z x ≡ kind_over f y = cc in
    let q : map (kind_over z) (xs ++ columns_named ns) ≡ map (kind_over f) (es ++ columns_named ns) = cc in
    let r = last_kinds z f ns xs es (omega arith) q in
    let o = r.others in
    record { columns = r.columns; others = λ i. p i ∷ o i }

module _ (F : Functions) (at : ℕ) (input : Stream) (s : State) (z : Fields) (sound : IsSoundButForReaders F s.nodes) (stream : IsStream s.nodes input z) where
  -- the columns of a schema, each of which the stream has
  module _ (out : Fields) (found : named_fields (names_of out) z ≡ Some out) (some : out ≢ []) (once : has_distinct_names out ≡ true) where
    pub projected_makes : Makes F s (projection at (names_of out) input s) out
    projected_makes =
        let ns = names_of out in
        let is : unwrap_or (named_fields ns (schema_at s.nodes input)) [] ≡ out = ap (λ (g : Fields). unwrap_or (named_fields ns g) []) (schema_is s.nodes input z stream) ∙ ap (λ o. unwrap_or o []) found in
        subst (λ (g : Fields). Makes F s (over at (simple_projection ns) g input s) out) (sym is)
        (over_makes F at (simple_projection ns) input s z sound stream refl tt out (project_right F ns z out found refl (some_names out some) (distinct_once out once) (each_among ns (names_of z) (found_among ns z out found))))
      where
        some_names : (f : Fields) → f ≢ [] → names_of f ≢ []
        some_names [] some e = some refl
        some_names (x ∷ f) some e = let w : x.0 ∷ names_of f ≡ [] = e in cc

    same_out : same_names (names_of out) (names_of (schema_at s.nodes input)) ≡ true → z ≡ out
    same_out q =
        let is : names_of out ≡ names_of z = same_is (names_of out) (names_of (schema_at s.nodes input)) q ∙ ap names_of (schema_is s.nodes input z stream) in
        same_Some z out (sym (own_found z z (own_itself z (sound_distinct F s.nodes input z sound stream))) ∙ ap (λ ns. named_fields ns z) (sym is) ∙ found)

    pub columns_make : Makes F s (with_columns at (names_of out) input s) out
    columns_make = by (same_names (names_of out) (names_of (schema_at s.nodes input))) refl
      where
        by : (b : Bool) → same_names (names_of out) (names_of (schema_at s.nodes input)) ≡ b → Makes F s (cond {A = Made} b (record { state = s; stream = input }) (projection at (names_of out) input s)) out
        by true q = other_out F s (record { state = s; stream = input }) z out (same_out q) (makes_none F s input z sound stream)
        by false q = projected_makes
