-- Keys and aggregates of a group-by: what it asks of them, and the names, kinds and fields that they have.
use Rattle.std.proofs.Common.{◌≡◌, ◌≢◌, inl, inr, ◌+◌, true, not, List, [], ◌∷◌, ◌++◌, length, Some, None, refl, sym, ap, subst, ◌∙◌, arith}
use Rattle.std.specs.Prelude.{◌||◌, Option, is_some, map}
use Rattle.std.specs.List.{AllByRecursion, list_any}
use Rattle.std.proofs.lemmas.Bool.{or_cases}
use Rattle.std.proofs.lemmas.List.{map-append}
use Rattle.std.proofs.lemmas.Option.{same_Some}
use Rattle.ps_frame.proofs.Lists.{and_both, both}
use Rattle.ps_frame.specs.Parts.{is_literal_aggregate, some_part}
use Rattle.ps_frame.specs.Tables.{Fields, field_kind}
use Rattle.ps_frame.specs.Trees.{Tree}
use Rattle.ps_frame.specs.Typing.{is_scalar, kind_over}
use Rattle.ps_frame.specs.declared.value.DataType.{DataType}
use Rattle.ps_meaning.specs.Schemas.{both as both_of, expr_names, fields_of, is_among}
use Rattle.ps_meaning.specs.Sound.{IsReduction, have_all_kinds}
use Rattle.ps_meaning.specs.Steps.{GroupStep, Name, Named, exprs_of}
use Rattle.ps_rules.specs.Names.{IsKnown, Names}
use Rattle.ps_rules.specs.Slots.{columns_named, under}
use Rattle.ps_shares.proofs.Ends.{same_fields, under_own}
use Rattle.name_rules.specs.Lawful.{Differ}
use Rattle.plan_rules.specs.Groups.{own_columns}
use Rattle.rule_parts.proofs.Columns.{OwnKinds}
use Rattle.rule_parts.proofs.Reduced.{AreFitReductions, HaveOwnKinds}

-- What a group-by asks of its keys and aggregates over a schema, where these names are known.
pub record GroupsWell (f : Fields) (names : Names) (o : GroupStep) : Type 0 where
  pub typed : have_all_kinds f (exprs_of o.keys ++ exprs_of o.aggregates) ≡ true
  pub some_key : o.keys ≢ []
  pub names_differ : Differ (expr_names (o.keys ++ o.aggregates))
  pub known : (n : Name) → is_among n (expr_names (o.keys ++ o.aggregates)) ≡ true → IsKnown names n
  pub scalar : list_any (λ e. not (is_scalar e)) (exprs_of o.aggregates) ≡ true → ⊥
  pub literal : list_any (some_part is_literal_aggregate) (exprs_of o.aggregates) ≡ true → ⊥

-- fields of expressions, by their names
pub fields_found : (h z g : Fields) (items : List Named) → fields_of items z ≡ Some g → OwnKinds h g → AllByRecursion (λ (m : Named). field_kind m.0 h ≡ kind_over z m.1) items
fields_found h z g [] q own = tt
fields_found h z g (e ∷ items) q own = by (kind_over z e.1) (fields_of items z) refl refl q (λ fs u k. fields_found h z fs items u k)
  where
    by : (o : Option DataType) (r : Option Fields) → kind_over z e.1 ≡ o → fields_of items z ≡ r → both_of (λ (k : DataType) (fs : Fields). (e.0, k) ∷ fs) o r ≡ Some g → ((fs : Fields) → fields_of items z ≡ Some fs → OwnKinds h fs → AllByRecursion (λ (m : Named). field_kind m.0 h ≡ kind_over z m.1) items) → (field_kind e.0 h ≡ kind_over z e.1) × AllByRecursion (λ (m : Named). field_kind m.0 h ≡ kind_over z m.1) items
    by None r p u q more = let w : None ≡ Some g = q in cc
    by (Some k) None p u q more = let w : None ≡ Some g = q in cc
    by (Some k) (Some fs) p u q more =
        let w : Some ((e.0, k) ∷ fs) ≡ Some g = q in
        let own' : OwnKinds h ((e.0, k) ∷ fs) = subst (OwnKinds h) (sym (same_Some ((e.0, k) ∷ fs) g w)) own in
        (own'.0 ∙ sym p, more fs u own'.1)

-- items of the same names and kinds have the same fields
pub same_items : (h f : Fields) (xs ys : List Named) → expr_names xs ≡ expr_names ys → map (kind_over h) (exprs_of xs) ≡ map (kind_over f) (exprs_of ys) → fields_of xs h ≡ fields_of ys f
same_items h f xs ys names kinds =
    ap (λ (es : List Named). fields_of es h) (sym (under_own xs)) ∙ same_fields h f (expr_names xs) (exprs_of xs) (exprs_of ys) kinds ∙ ap (λ (ns : List Name). fields_of (under ns (exprs_of ys)) f) names ∙ ap (λ (es : List Named). fields_of es f) (under_own ys)

pub under_front : (ns : List Name) (xs ys : List Tree) → length ns ≡ length xs → under ns (xs ++ ys) ≡ under ns xs
under_front [] [] ys l = by ys
  where
    by : (ys : List Tree) → under {A = Tree} [] ys ≡ []
    by ys = refl
under_front [] (x ∷ xs) ys l = absurd (omega arith)
under_front (n ∷ ns) [] ys l = absurd (omega arith)
under_front (n ∷ ns) (x ∷ xs) ys l = ap (λ (es : List Named). (n, x) ∷ es) (under_front ns xs ys (omega arith))

pub have_parts : (f : Fields) (xs ys : List Tree) → have_all_kinds f (xs ++ ys) ≡ true → (have_all_kinds f xs ≡ true) × (have_all_kinds f ys ≡ true)
have_parts f [] ys h = (refl, h)
have_parts f (x ∷ xs) ys h =
    let b = both (is_some (kind_over f x)) (have_all_kinds f (xs ++ ys)) h in
    let r = have_parts f xs ys b.1 in
    (and_both (is_some (kind_over f x)) (have_all_kinds f xs) b.0 r.0, r.1)

pub have_both : (f : Fields) (xs ys : List Tree) → have_all_kinds f xs ≡ true → have_all_kinds f ys ≡ true → have_all_kinds f (xs ++ ys) ≡ true
have_both f [] ys p q = q
have_both f (x ∷ xs) ys p q =
    let b = both (is_some (kind_over f x)) (have_all_kinds f xs) p in
    and_both (is_some (kind_over f x)) (have_all_kinds f (xs ++ ys)) b.0 (have_both f xs ys b.1 q)

-- of reductions
pub all_scalar : (f : Fields) (rs : List Named) → AreFitReductions f rs → list_any (λ e. not (is_scalar e)) (exprs_of rs) ≡ true → ⊥
all_scalar f [] h q = cc
all_scalar f (m ∷ rs) h q = all_scalar f rs h.1 (sym (ap (λ b. not b || list_any (λ e. not (is_scalar e)) (exprs_of rs)) h.0.scalar) ∙ q)

pub no_literal : (f : Fields) (rs : List Named) → AreFitReductions f rs → list_any (some_part is_literal_aggregate) (exprs_of rs) ≡ true → ⊥
no_literal f [] h q = cc
no_literal f (m ∷ rs) h q = elim (or_cases (some_part is_literal_aggregate m.1) (list_any (some_part is_literal_aggregate) (exprs_of rs)) q) [ inl k ↦ h.0.literal k | inr k ↦ no_literal f rs h.1 k ]

pub all_reductions : (f : Fields) (rs : List Named) → AreFitReductions f rs → AllByRecursion (λ (m : Named). IsReduction m.1) rs
all_reductions f [] h = tt
all_reductions f (m ∷ rs) h = (h.0.reduction, all_reductions f rs h.1)

pub all_typed : (f : Fields) (rs : List Named) → AreFitReductions f rs → have_all_kinds f (exprs_of rs) ≡ true
all_typed f [] h = refl
all_typed f (m ∷ rs) h = and_both (is_some (kind_over f m.1)) (have_all_kinds f (exprs_of rs)) h.0.typed (all_typed f rs h.1)

pub own_exprs : (ns : List Name) → exprs_of (own_columns ns) ≡ columns_named ns
own_exprs [] = refl
own_exprs (n ∷ ns) = ap (λ (es : List Tree). Tree.column n ∷ es) (own_exprs ns)

pub own_names : (ns : List Name) → expr_names (own_columns ns) ≡ ns
own_names [] = refl
own_names (n ∷ ns) = ap (λ (ms : List Name). n ∷ ms) (own_names ns)

pub both_names : (xs ys : List Named) → expr_names (xs ++ ys) ≡ expr_names xs ++ expr_names ys
both_names xs ys = map-append (λ (e : Named). e.0) xs ys

-- kinds in a schema of items, carried on
pub carried : (h z f : Fields) (ms : List Named) → AllByRecursion (λ (m : Named). field_kind m.0 h ≡ kind_over z m.1) ms → map (kind_over z) (exprs_of ms) ≡ map (kind_over f) (exprs_of ms) → HaveOwnKinds h f ms
carried h z f [] all e = tt
carried h z f (m ∷ ms) all e =
    let w : kind_over z m.1 ∷ map (kind_over z) (exprs_of ms) ≡ kind_over f m.1 ∷ map (kind_over f) (exprs_of ms) = e in
    let p : kind_over z m.1 ≡ kind_over f m.1 = cc in
    let q : map (kind_over z) (exprs_of ms) ≡ map (kind_over f) (exprs_of ms) = cc in
    (all.0 ∙ p, carried h z f ms all.1 q)

pub column_kinds : (h z : Fields) (ms : List Named) → AllByRecursion (λ (m : Named). field_kind m.0 h ≡ kind_over z m.1) ms → map (kind_over h) (columns_named (expr_names ms)) ≡ map (kind_over z) (exprs_of ms)
column_kinds h z [] all = refl
column_kinds h z (m ∷ ms) all =
    let p = all.0 in
    let q = column_kinds h z ms all.1 in
    λ i. p i ∷ q i
