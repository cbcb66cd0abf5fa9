-- The columns that a schema asks for, where a table has each of them.
use Rattle.std.proofs.Common.{◌≡◌, ℕ, zero, suc, ◌+◌, ◌<◌, true, List, [], ◌∷◌, ◌++◌, arith, ap, length, refl, subst, sym, take, ◌∙◌, inl, inr}
use Rattle.std.specs.Prelude.{Contains, None, Option, Some, get_or, option_map, slice_get, unwrap_or}
use Rattle.std.specs.List.{AllByRecursion}
use Rattle.std.proofs.lemmas.List.{map_push, take_more}
use Rattle.std.proofs.lemmas.Option.{get_or_from_slice_get, same_Some, slice_get_within}
use Rattle.ps_frame.specs.Frames.{has_distinct_names}
use Rattle.ps_frame.specs.Functions.{Functions}
use Rattle.ps_frame.specs.Tables.{Fields, Frame, field_kind, whole}
use Rattle.ps_frame.specs.declared.value.DataType.{DataType}
use Rattle.ps_meaning.proofs.StepFits.{own-kinds}
use Rattle.ps_meaning.specs.Cases.{projected}
use Rattle.ps_meaning.specs.Nodes.{GivesFrame}
use Rattle.ps_meaning.specs.Schemas.{both as both_of, named_fields, names_of}
use Rattle.ps_meaning.specs.Sound.{HasFieldsOf}
use Rattle.ps_meaning.specs.Steps.{Name, project}
use Rattle.bare_nodes.specs.Uncalled.{no_functions}

-- what holds of all items holds of each
all_at : {A : Type 0} (P : A → Type 0) (xs : List A) (x : A) → AllByRecursion P xs → Contains xs x → P x
all_at P [] x all (k, h, e) = absurd (omega arith)
all_at P (y ∷ xs) x all (zero, h, e) = subst P e all.0
all_at P (y ∷ xs) x all (suc k, h, e) = all_at P xs x all.1 (k, omega arith, e)

own_fields : (given s : Fields) → has_distinct_names given ≡ true → AllByRecursion (Contains given) s → named_fields (names_of s) given ≡ Some s
own_fields given [] d all = refl
own_fields given (f ∷ s) d all =
    let k = all_at (λ (g : Name × DataType). field_kind g.0 given ≡ Some g.1) given f (own-kinds given d) all.0 in
    let r = own_fields given s d all.1 in
    λ i. both_of (λ k fs. (f.0, k) ∷ fs) (k i) (r i)

pub fields_found : (given s : Fields) → has_distinct_names given ≡ true → HasFieldsOf given s → named_fields (names_of s) given ≡ Some s
fields_found given s d asked = own_fields given s d asked.0

-- a projection's table is the one with these columns
pub projection_is : (t f : Frame) (ns : List Name) (s : Fields) → named_fields ns t.schema ≡ Some s → GivesFrame no_functions 0 (project ns) (t ∷ []) f → whole f ≡ projected ns s (whole t)
projection_is t f ns s found (U, inl gives, is) = is ∙ gives ∙ ap (λ o. projected ns (unwrap_or o []) (whole t)) found
projection_is t f ns s found (U, inr lost, is) = absurd (lost.2 refl)

-- the names of one field more
pub more_names : (ns : List Name) (s : Fields) (i : ℕ) (n : Name) → option_map (λ (g : Name × DataType). g.0) (slice_get s i) ≡ Some n → ns ≡ names_of (take i s) → ns ++ n ∷ [] ≡ names_of (take (i + 1) s)
more_names ns s i n named so_far = by (slice_get s i) refl named
  where
    by : (o : Option (Name × DataType)) → slice_get s i ≡ o → option_map (λ (g : Name × DataType). g.0) o ≡ Some n → ns ++ n ∷ [] ≡ names_of (take (i + 1) s)
    by None e h = absurd (let no : None ≡ Some n = h in cc)
    by (Some f) e h =
        let is : f.0 ≡ n = same_Some _ _ h in
        ap (λ ms. ms ++ n ∷ []) so_far
        ∙ ap (λ m. names_of (take i s) ++ m ∷ []) (sym is)
        ∙ sym (map_push (λ (g : Name × DataType). g.0) (take i s) f)
        ∙ ap names_of (sym (take_more s i f (slice_get_within s i f e) ∙ ap (λ y. take i s ++ y ∷ []) (get_or_from_slice_get s i f f e)))
