-- Kinds of fields in a schema, and in one with more fields.
use Rattle.std.proofs.Common.{◌≡◌, ◌+◌, Bool, true, false, ◌||◌, [], ◌∷◌, ◌++◌, Some, refl, sym, ap, ◌∙◌}
use Rattle.std.specs.Prelude.{is_some}
use Rattle.std.specs.List.{AllByRecursion}
use Rattle.std.specs.Str.{bytes_eq}
use Rattle.std.specs.Cmp.Lexicographic.{bytes_decides}
use Rattle.ps_frame.specs.Tables.{Fields, field_kind}
use Rattle.ps_frame.specs.declared.value.DataType.{DataType}
use Rattle.ps_meaning.specs.Schemas.{is_among, names_of}
use Rattle.ps_meaning.specs.Steps.{Name}
use Rattle.ps_shares.proofs.Projected.{kind_as, named_as}
use Rattle.flagged_rows.proofs.Places.{kind_stays}

-- fields that have their kinds in a schema have names of it
pub among_own : (n : Name) (g own : Fields) → AllByRecursion (λ (x : Name × DataType). field_kind x.0 own ≡ Some x.1) g → is_among n (names_of g) ≡ true → is_among n (names_of own) ≡ true
among_own n [] own all h = cc
among_own n (x ∷ g) own all h = by (bytes_eq n x.0) refl h (among_own n g own all.1)
  where
    by : (b : Bool) → bytes_eq n x.0 ≡ b → (b || is_among n (names_of g)) ≡ true → (is_among n (names_of g) ≡ true → is_among n (names_of own) ≡ true) → is_among n (names_of own) ≡ true
    by true q h rest = named_as n own ∙ sym (kind_as n own) ∙ ap (λ m. is_some (field_kind m own)) ((bytes_decides n x.0).0 q) ∙ ap is_some all.0
    by false q h rest = rest h

-- and keep them where a field more stands
pub kinds_stay : (g more fs : Fields) → ((n : Name) → is_among n (names_of fs) ≡ true → is_among n (names_of g) ≡ true) → AllByRecursion (λ (x : Name × DataType). field_kind x.0 g ≡ Some x.1) fs → AllByRecursion (λ (x : Name × DataType). field_kind x.0 (g ++ more) ≡ Some x.1) fs
kinds_stay g more [] within all = tt
kinds_stay g more (x ∷ fs) within all = (
  kind_stays x.0 g more (within x.0 (ap (λ b. b || is_among x.0 (names_of fs)) ((bytes_decides x.0 x.0).1 refl))) ∙ all.0,
  kinds_stay g more fs (λ n h. within n (right (bytes_eq n x.0) (is_among n (names_of fs)) h)) all.1,
)
  where
    right : (a b : Bool) → b ≡ true → (a || b) ≡ true
    right true b h = refl
    right false b h = h
