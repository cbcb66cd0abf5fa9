-- A group-by of the reductions, and then a select of what stands above them, over any table of a schema.
use Rattle.std.proofs.Common.{◌≡◌, ◌⊎◌, ℕ, List, [], ◌∷◌, ◌++◌, Some, sym, ap, subst, ◌∙◌}
use Rattle.std.specs.Prelude.{Contains, unwrap_or}
use Rattle.ps_frame.specs.Causes.{Cause}
use Rattle.ps_frame.specs.Functions.{Functions}
use Rattle.ps_frame.specs.Tables.{Fields, Table}
use Rattle.ps_meaning.specs.Cases.{Case, IsCaseBrokenBy, out_schema}
use Rattle.ps_meaning.specs.Meaning.{IsLargeCase}
use Rattle.ps_meaning.specs.Schemas.{fields_of}
use Rattle.ps_meaning.specs.Steps.{Named, Step, group_by, select}
use Rattle.ps_meaning.specs.Within.{EndAlike}
use Rattle.step_keeps.specs.Kept.{SomeIsLarge}
use Rattle.step_keeps.proofs.Composed.{Composes}
use Rattle.group_keeps.proofs.Groups.{case_schema, free_group}
use Rattle.aggregates_keep.proofs.Composed.{later_breaks, later_large, shown_of, table}
use Rattle.aggregates_keep.proofs.Sides.{AreTakenApart, first_breaks, first_large}

-- one table of this schema
abbrev pub IsOneOf : Fields → List Table → Type 0
IsOneOf f (t ∷ []) = t.schema ≡ f
IsOneOf f _ = ⊥

module _ (F : Functions) (at : ℕ) (keys aggs rs xs : List Named) (f h out : Fields) (a : AreTakenApart keys aggs rs xs h) (grouped : fields_of (keys ++ rs) f ≡ Some h) (asked : fields_of (keys ++ aggs) f ≡ Some out) (shown : fields_of (shown_of keys xs) h ≡ Some out) where
  abbrev first : Step
  first = group_by (free_group keys rs)

  abbrev last : Step
  last = select (shown_of keys xs)

  abbrev whole : Step
  whole = group_by (free_group keys aggs)

  out_first : (t : Table) → t.schema ≡ f → out_schema F at first (t ∷ []) ≡ h
  out_first t e = ap (λ (f : Fields). unwrap_or (fields_of (keys ++ rs) f) []) e ∙ ap (λ r. unwrap_or r []) grouped

  out_whole : (t : Table) → t.schema ≡ f → out_schema F at whole (t ∷ []) ≡ out
  out_whole t e = ap (λ (f : Fields). unwrap_or (fields_of (keys ++ aggs) f) []) e ∙ ap (λ r. unwrap_or r []) asked

  out_last : (P : Table) → P.schema ≡ h → out_schema F at last (P ∷ []) ≡ out
  out_last P e = ap (λ (h : Fields). unwrap_or (fields_of (shown_of keys xs) h) []) e ∙ ap (λ r. unwrap_or r []) shown

  -- a table that ends as one of the reductions, under their fields
  abbrev under_h : Table → Table
  under_h P = record { schema = h; rows = P.rows; broken = P.broken }

  module _ (t : Table) (e : t.schema ≡ f) (P L : Table) (l : Case F at first (t ∷ []) L) (k : EndAlike P L) where
    is_h : L.schema ≡ h
    is_h = case_schema F at keys rs t h (out_first t e) L l

    renamed : P ≡ under_h P
    renamed = let q = k.same_schema ∙ is_h in λ i. record { schema = q i; rows = P.rows; broken = P.broken }

    alike : EndAlike (under_h P) L
    alike = record { same_schema = sym is_h; same_rows = k.same_rows; both_whole = k.both_whole }

    one_table : (M : Table) → Case F at last (P ∷ []) M → (K : Table) × Case F at whole (t ∷ []) K × EndAlike M K
    one_table M m = table F at keys aggs rs xs h out a t (out_whole t e) out_last P.rows P.broken L M l alike (subst (λ (Q : Table). Case F at last (Q ∷ []) M) renamed m)

    one_cause : (c : Cause) → IsCaseBrokenBy F at last (P ∷ []) c → Contains P.broken c ⊎ IsCaseBrokenBy F at whole (t ∷ []) c
    one_cause c m = later_breaks F at keys aggs rs xs h out a t (out_whole t e) out_last P.rows P.broken L l alike c (subst (λ (Q : Table). IsCaseBrokenBy F at last (Q ∷ []) c) renamed m)

    one_size : IsLargeCase F at last (P ∷ []) ⊎ SomeIsLarge (P ∷ []) → IsLargeCase F at whole (t ∷ []) ⊎ SomeIsLarge (t ∷ [])
    one_size m = later_large F at keys aggs rs xs h out a t (out_whole t e) out_last P.rows P.broken L l alike (subst (λ (Q : Table). IsLargeCase F at last (Q ∷ []) ⊎ SomeIsLarge (Q ∷ [])) renamed m)

  -- by the list of inputs
  table_over : (ts : List Table) → IsOneOf f ts → (P L M : Table) → Case F at first ts L → EndAlike P L → Case F at last (P ∷ []) M → (K : Table) × Case F at whole ts K × EndAlike M K
  table_over [] e P L M l k m = absurd e
  table_over (t ∷ []) e P L M l k m = one_table t e P L l k M m
  table_over (t ∷ u ∷ ts) e P L M l k m = absurd e

  causes_over : (ts : List Table) → IsOneOf f ts → (c : Cause) → IsCaseBrokenBy F at first ts c → IsCaseBrokenBy F at whole ts c
  causes_over [] e c k = absurd e
  causes_over (t ∷ []) e c k = first_breaks F at keys aggs rs xs h out a t (out_whole t e) c k
  causes_over (t ∷ u ∷ ts) e c k = absurd e

  later_over : (ts : List Table) → IsOneOf f ts → (P L : Table) → Case F at first ts L → EndAlike P L → (c : Cause) → IsCaseBrokenBy F at last (P ∷ []) c → Contains P.broken c ⊎ IsCaseBrokenBy F at whole ts c
  later_over [] e P L l k c m = absurd e
  later_over (t ∷ []) e P L l k c m = one_cause t e P L l k c m
  later_over (t ∷ u ∷ ts) e P L l k c m = absurd e

  sizes_over : (ts : List Table) → IsOneOf f ts → IsLargeCase F at first ts ⊎ SomeIsLarge ts → IsLargeCase F at whole ts ⊎ SomeIsLarge ts
  sizes_over [] e k = absurd e
  sizes_over (t ∷ []) e k = first_large F at keys aggs rs xs h out a t (out_whole t e) k
  sizes_over (t ∷ u ∷ ts) e k = absurd e

  later_sizes_over : (ts : List Table) → IsOneOf f ts → (P L : Table) → Case F at first ts L → EndAlike P L → IsLargeCase F at last (P ∷ []) ⊎ SomeIsLarge (P ∷ []) → IsLargeCase F at whole ts ⊎ SomeIsLarge ts
  later_sizes_over [] e P L l k m = absurd e
  later_sizes_over (t ∷ []) e P L l k m = one_size t e P L l k m
  later_sizes_over (t ∷ u ∷ ts) e P L l k m = absurd e

  pub reductions_compose : Composes F at first last whole (IsOneOf f)
  reductions_compose = record { table = table_over; causes = causes_over; later_causes = later_over; sizes = sizes_over; later_sizes = later_sizes_over }
