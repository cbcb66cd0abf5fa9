-- Unions and zips of streams.
use Rattle.std.proofs.Common.{◌≡◌, ◌≢◌, ℕ, ◌+◌, ◌≤◌, Bool, true, false, List, [], ◌∷◌, ◌++◌, Option, None, Some, length, drop, refl, ap, sym, subst, ◌∙◌, arith}
use Rattle.std.specs.Prelude.{◌↔◌, IsTrue, slice_get}
use Rattle.std.specs.List.{AllByRecursion}
use Rattle.keyed_slots.specs.Slots.{value_at}
use Rattle.ps_frame.specs.Frames.{has_distinct_names}
use Rattle.ps_frame.specs.Functions.{Functions}
use Rattle.ps_frame.specs.Tables.{Fields}
use Rattle.ps_meaning.specs.Schemas.{joined_schemas}
use Rattle.ps_meaning.specs.Shape.{ordered_union, zip_node}
use Rattle.ps_meaning.specs.Steps.{hconcat, union}
use Rattle.ps_phys.specs.Shown.{streams_of}
use Rattle.ps_phys.specs.declared.phys.PhysNode.{PhysNode}
use Rattle.ps_phys.specs.declared.phys.PhysStream.{PhysStream}
use Rattle.ps_validate.proofs.Stacked.{hconcat-gives, union-gives}
use Rattle.ps_validate.specs.Nodes.{GivesSchema}
use Rattle.sound_plans.specs.Fit.{IsFitOver}
use Rattle.sound_plans.specs.Read.{schemas_read, slot_schema}
use Rattle.sound_plans.proofs.Testing.{drop-end, drop-item}

module _ (slots : List (Option PhysNode)) where
  abbrev read : List PhysStream → List Fields
  read is = schemas_read slots (streams_of is)

  -- each of these has the schema
  abbrev pub AreAlike : Fields → List PhysStream → Type 0
  AreAlike s is = AllByRecursion (λ t. t ≡ s) (read is)

  pub alike-next : (s : Fields) (is : List PhysStream) (k : ℕ) (i : PhysStream) (other : Fields) → slice_get is k ≡ Some i → other ≡ slot_schema (value_at slots i.node.0) → other ≡ s → (AreAlike s (drop k is) → AreAlike s is) → AreAlike s (drop (k + 1) is) → AreAlike s is
  alike-next s is k i other at there same before rest = before (subst (AreAlike s) (sym (drop-item is k i at)) (sym there ∙ same, rest))

  pub alike-end : (s : Fields) (is : List PhysStream) (k : ℕ) → length is ≤ k → (AreAlike s (drop k is) → AreAlike s is) → AreAlike s is
  alike-end s is k l before = before (subst (AreAlike s) (sym (drop-end is k l)) tt)

  -- the fields so far, and those of what is left, are all
  abbrev pub IsJoined : List PhysStream → ℕ → Fields → Type 0
  IsJoined is k now = now ++ joined_schemas (read (drop k is)) ≡ joined_schemas (read is)

  append-more : (xs ys zs : Fields) → (xs ++ ys) ++ zs ≡ xs ++ (ys ++ zs)
  append-more [] ys zs = refl
  append-more (x ∷ xs) ys zs = ap (λ rest. x ∷ rest) (append-more xs ys zs)

  append-none : (xs : Fields) → xs ++ [] ≡ xs
  append-none [] = refl
  append-none (x ∷ xs) = ap (λ rest. x ∷ rest) (append-none xs)

  pub joined-next : (is : List PhysStream) (k : ℕ) (i : PhysStream) (other now new : Fields) → slice_get is k ≡ Some i → other ≡ slot_schema (value_at slots i.node.0) → new ≡ now ++ other → IsJoined is k now → IsJoined is (k + 1) new
  joined-next is k i other now new at there more before =
      ap (λ (xs : Fields). xs ++ joined_schemas (read (drop (k + 1) is))) (more ∙ ap (λ (xs : Fields). now ++ xs) there) ∙ append-more now (slot_schema (value_at slots i.node.0)) (joined_schemas (read (drop (k + 1) is)))
      ∙ ap (λ (xs : List PhysStream). now ++ joined_schemas (read xs)) (sym (drop-item is k i at)) ∙ before

  pub joined-end : (is : List PhysStream) (k : ℕ) (now : Fields) → length is ≤ k → IsJoined is k now → now ≡ joined_schemas (read is)
  joined-end is k now l before = sym (append-none now) ∙ ap (λ (xs : List PhysStream). now ++ joined_schemas (read xs)) (sym (drop-end is k l)) ∙ before

  some-read : (is : List PhysStream) → is ≢ [] → 1 ≤ length (read is)
  some-read [] h = absurd (h refl)
  some-read (i ∷ is) h = omega arith

  pub union-fit : (s : Fields) (is : List PhysStream) (none empty : Bool) → (IsTrue none ↔ (is ≡ [])) → none ≡ false → (IsTrue empty ↔ (s ≡ [])) → empty ≡ false → has_distinct_names s ≡ true → AreAlike s is → (F : Functions) → IsFitOver F ordered_union s (read is)
  union-fit s is none empty is-none not-none is-empty not-empty distinct alike F =
      let some : is ≢ [] = λ e. unlike none (is-none.1 e) not-none in
      let columns : s ≢ [] = λ e. unlike empty (is-empty.1 e) not-empty in
      by is some columns alike
    where
      unlike : (b : Bool) → b ≡ true → b ≡ false → ⊥
      unlike true e f = cc
      unlike false e f = cc

      by : (is : List PhysStream) → is ≢ [] → s ≢ [] → AreAlike s is → IsFitOver F ordered_union s (read is)
      by [] some columns alike = absurd (some refl)
      by (i ∷ is) some columns alike =
          let same : slot_schema (value_at slots i.node.0) ≡ s = alike.0 in
          let P : Fields → Type 0 = λ t. GivesSchema F (union None) (t ∷ read is) s in
          let g : GivesSchema F (union None) (slot_schema (value_at slots i.node.0) ∷ read is) s = subst P (sym same) (union-gives F None s (read is) (refl, alike.1) distinct columns) in
          record { inputs = omega arith; schema = g.schema; not_empty = columns; parameters = tt; kinds = refl; rules = (λ h. h, λ h. h, λ h. h, g.rules) }

  pub zip-fit : (s joined : Fields) (is : List PhysStream) (none empty : Bool) → (IsTrue none ↔ (is ≡ [])) → none ≡ false → (IsTrue empty ↔ (s ≡ [])) → empty ≡ false → has_distinct_names s ≡ true → joined ≡ joined_schemas (read is) → joined ≡ s → (F : Functions) (extend : Bool)
      → IsFitOver F (zip_node extend) s (read is)
  zip-fit s joined is none empty is-none not-none is-empty not-empty distinct all same F extend =
      let some : is ≢ [] = λ e. unlike none (is-none.1 e) not-none in
      let columns : s ≢ [] = λ e. unlike empty (is-empty.1 e) not-empty in
      by extend some columns (hconcat-gives F (read is) s (sym same ∙ all) distinct columns)
    where
      unlike : (b : Bool) → b ≡ true → b ≡ false → ⊥
      unlike true e f = cc
      unlike false e f = cc

      by : (extend : Bool) → is ≢ [] → s ≢ [] → GivesSchema F hconcat (read is) s → IsFitOver F (zip_node extend) s (read is)
      by true some columns g = record { inputs = some-read is some; schema = g.schema; not_empty = columns; parameters = tt; kinds = refl; rules = (λ h. h, λ h. h, λ h. h, g.rules) }
      by false some columns g = record { inputs = some-read is some; schema = g.schema; not_empty = columns; parameters = tt; kinds = refl; rules = (λ h. h, λ h. h, λ h. h, g.rules) }
