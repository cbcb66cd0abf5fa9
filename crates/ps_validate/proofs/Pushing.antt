-- Fields that are pushed one after another from those of a schema.
use Rattle.std.proofs.Common.{◌≡◌, ℕ, zero, suc, ◌+◌, List, [], ◌∷◌, ◌++◌, length, drop, Bool, true, false, refl, sym, subst, ◌∙◌, ap, append_assoc, add-one}
use Rattle.std.specs.Prelude.{if◌then◌else◌, not, unwrap_or, Option, Some, None, option_map, slice_get}
use Rattle.std.proofs.lemmas.List.{append-nil, map-append}
use Rattle.std.proofs.Math.Seq.{drop-length}
use Rattle.pu_base.specs.declared.arena.Node.{Node}
use Rattle.ps_frame.specs.Frames.{has_name}
use Rattle.ps_frame.specs.Tables.{Fields, field_kind}
use Rattle.ps_frame.specs.declared.refusal.PolarsError.{PolarsError}
use Rattle.ps_frame.specs.declared.refusal.PolarsError.TheVariants as error
use Rattle.ps_frame.specs.declared.value.DataType.{DataType}
use Rattle.ps_meaning.specs.StepRefusals.{repeats}
use Rattle.ps_meaning.specs.Schemas.{is_among, names_of, suffixed, without}
use Rattle.ps_meaning.specs.Steps.{Name}
use Rattle.valid_plans.proofs.Adding.{among-has, repeats-again}
use Rattle.ps_validate.specs.Columns.{IsRepeatError, absent_from, with_kinds}
use Rattle.valid_plans.specs.Fields.{IsPushError}

-- a field by its name and its kind
pub field-is : {A B : Type 0} (o : Option (A × B)) (a : A) (b : B) → option_map (λ (f : A × B). f.0) o ≡ Some a → option_map (λ (f : A × B). f.1) o ≡ Some b → o ≡ Some (a, b)
field-is None a b h k = cc
field-is (Some f) a b h k = let x : f.0 ≡ a = cc in let y : f.1 ≡ b = cc in ap (λ n. Some (n, f.1)) x ∙ ap (λ k. Some (a, k)) y

from-place : {A : Type 0} (xs : List A) (i : ℕ) (x : A) → slice_get xs i ≡ Some x → drop i xs ≡ x ∷ drop (suc i) xs
from-place [] i x h = cc
from-place (y ∷ ys) zero x h = let is : y ≡ x = cc in ap (λ z. z ∷ ys) is
from-place (y ∷ ys) (suc i) x h = from-place ys i x h

pub rest-from : {A : Type 0} (xs : List A) (i : ℕ) (x : A) → slice_get xs i ≡ Some x → drop i xs ≡ x ∷ drop (i + 1) xs
rest-from xs i x h = from-place xs i x h ∙ ap (λ j. x ∷ drop j xs) (sym (add-one i))

-- what is pushed of the fields from i on, beside those that stand, is what all push beside those before
pub record Pushing (pushed : Fields → Fields) (before all : Fields) (i : ℕ) (now : Fields) : Type 0 where
  pub rest : now ++ pushed (drop i all) ≡ before ++ pushed all

pub push-first : (pushed : Fields → Fields) (before all : Fields) → Pushing pushed before all 0 before
push-first pushed before all = record { rest = refl }

pub push-end : (pushed : Fields → Fields) (before all now : Fields) → pushed [] ≡ [] → Pushing pushed before all (length all) now → now ≡ before ++ pushed all
push-end pushed before all now none p = sym (append-nil now) ∙ ap (λ fs. now ++ fs) (sym none) ∙ ap (λ fs. now ++ pushed fs) (sym (drop-length all)) ∙ p.rest

module _ (pushed : Fields → Fields) (before all : Fields) (i : ℕ) (now : Fields) (n : Name) (k : DataType) (is_name : option_map (λ (f : Name × DataType). f.0) (slice_get all i) ≡ Some n) (is_kind : option_map (λ (f : Name × DataType). f.1) (slice_get all i) ≡ Some k) (p : Pushing pushed before all i now) where
  here : drop i all ≡ (n, k) ∷ drop (i + 1) all
  here = rest-from all i (n, k) (field-is (slice_get all i) n k is_name is_kind)

  -- a field gives one
  pub push-one : (x : Name × DataType) (grown : Fields) → pushed ((n, k) ∷ drop (i + 1) all) ≡ x ∷ pushed (drop (i + 1) all) → grown ≡ now ++ x ∷ [] → Pushing pushed before all (i + 1) grown
  push-one x grown one added =
      record { rest = ap (λ fs. fs ++ pushed (drop (i + 1) all)) added ∙ append_assoc now (x ∷ []) (pushed (drop (i + 1) all)) ∙ ap (λ fs. now ++ fs) (sym one) ∙ ap (λ fs. now ++ pushed fs) (sym here) ∙ p.rest }

  whole : (x : Name × DataType) → pushed ((n, k) ∷ drop (i + 1) all) ≡ x ∷ pushed (drop (i + 1) all) → names_of now ++ x.0 ∷ names_of (pushed (drop (i + 1) all)) ≡ names_of (before ++ pushed all)
  whole x one = sym (map-append (λ (f : Name × DataType). f.0) now (x ∷ pushed (drop (i + 1) all))) ∙ ap (λ fs. names_of (now ++ fs)) (sym one) ∙ ap (λ fs. names_of (now ++ pushed fs)) (sym here) ∙ ap names_of p.rest

  -- its push is refused
  pub push-refused-one : (at : Node) (x : Name × DataType) (e : PolarsError) → pushed ((n, k) ∷ drop (i + 1) all) ≡ x ∷ pushed (drop (i + 1) all) → IsPushError at now x.0 e → IsRepeatError at (names_of (before ++ pushed all)) e
  push-refused-one at x (error.Duplicate node name) one h =
      let again : repeats x.0 (names_of now ++ x.0 ∷ names_of (pushed (drop (i + 1) all))) ≡ true = repeats-again x.0 (names_of now) (names_of (pushed (drop (i + 1) all))) (among-has x.0 now ∙ h.2) in
      (h.0, subst (λ m. repeats m (names_of (before ++ pushed all)) ≡ true) (sym h.1) (subst (λ ns. repeats x.0 ns ≡ true) (whole x one) again))
  push-refused-one at x error.OutOfMemory one h = tt
  push-refused-one at x (error.ColumnNotFound node name) one h = absurd h
  push-refused-one at x (error.SchemaMismatch node) one h = absurd h
  push-refused-one at x (error.Unsupported node w) one h = absurd h
  push-refused-one at x (error.InvalidPlan node why) one h = absurd h
  push-refused-one at x (error.ComputeError node why) one h = absurd h
  push-refused-one at x (error.ShapeMismatch node) one h = absurd h
  push-refused-one at x (error.OutOfBounds node why) one h = absurd h

-- a field by its name alone
named-field : {A B : Type 0} (o : Option (A × B)) (a : A) → option_map (λ (f : A × B). f.0) o ≡ Some a → (b : B) × (option_map (λ (f : A × B). f.1) o ≡ Some b)
named-field None a h = cc
named-field (Some f) a h = (f.1, refl)

-- a field gives none
pub push-none : (pushed : Fields → Fields) (before all : Fields) (i : ℕ) (now : Fields) (n : Name) → option_map (λ (f : Name × DataType). f.0) (slice_get all i) ≡ Some n → Pushing pushed before all i now → ((k : DataType) → pushed ((n, k) ∷ drop (i + 1) all) ≡ pushed (drop (i + 1) all)) → Pushing pushed before all (i + 1) now
push-none pushed before all i now n is_name p skip =
    let kind = named-field (slice_get all i) n is_name in
    let here = rest-from all i (n, kind.0) (field-is (slice_get all i) n kind.0 is_name kind.1) in
    record { rest = ap (λ fs. now ++ fs) (sym (skip kind.0)) ∙ ap (λ fs. now ++ pushed fs) (sym here) ∙ p.rest }

-- what a field gives
pub absent-one : (s fs : Fields) (n : Name) (k : DataType) → has_name n s ≡ false → absent_from s ((n, k) ∷ fs) ≡ (n, k) ∷ absent_from s fs
absent-one s fs n k h = ap (λ b. if not b then (n, k) ∷ absent_from s fs else absent_from s fs) h

pub absent-none : (s fs : Fields) (n : Name) (k : DataType) → has_name n s ≡ true → absent_from s ((n, k) ∷ fs) ≡ absent_from s fs
absent-none s fs n k h = ap (λ b. if not b then (n, k) ∷ absent_from s fs else absent_from s fs) h

pub without-one : (ns : List Name) (fs : Fields) (n : Name) (k : DataType) → is_among n ns ≡ false → without ns ((n, k) ∷ fs) ≡ (n, k) ∷ without ns fs
without-one ns fs n k h = ap (λ b. if not b then (n, k) ∷ without ns fs else without ns fs) h

pub without-none : (ns : List Name) (fs : Fields) (n : Name) (k : DataType) → is_among n ns ≡ true → without ns ((n, k) ∷ fs) ≡ without ns fs
without-none ns fs n k h = ap (λ b. if not b then (n, k) ∷ without ns fs else without ns fs) h

pub kinds-one : (others fs : Fields) (n : Name) (k j : DataType) → unwrap_or (field_kind n others) k ≡ j → with_kinds others ((n, k) ∷ fs) ≡ (n, j) ∷ with_kinds others fs
kinds-one others fs n k j h = ap (λ i. (n, i) ∷ with_kinds others fs) h

pub suffixed-one : (suffix : Name) (taken fs : Fields) (n m : Name) (k : DataType) (b : Bool) → has_name n taken ≡ b → (if b then n ++ suffix else n) ≡ m → suffixed suffix (names_of taken) ((n, k) ∷ fs) ≡ (m, k) ∷ suffixed suffix (names_of taken) fs
suffixed-one suffix taken fs n m k b h is = ap (λ c. ((if c then n ++ suffix else n), k) ∷ suffixed suffix (names_of taken) fs) (among-has n taken ∙ h) ∙ ap (λ x. (x, k) ∷ suffixed suffix (names_of taken) fs) is
