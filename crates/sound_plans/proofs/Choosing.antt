-- Fields of a schema that are among others.
use Rattle.std.proofs.Common.{◌≡◌, ℕ, zero, suc, ◌+◌, ◌≤◌, Bool, true, false, [], ◌∷◌, Some, length, drop, refl, sym, subst}
use Rattle.std.specs.Prelude.{Contains, option_map, slice_get, if◌then◌else◌}
use Rattle.std.specs.List.{AllByRecursion}
use Rattle.std.specs.Str.{bytes_eq}
use Rattle.std.proofs.lemmas.Slice.Eq.{bytes_eq-Decides}
use Rattle.ps_frame.specs.Tables.{Fields, field_kind}
use Rattle.ps_frame.specs.declared.value.DataType.{DataType}
use Rattle.ps_meaning.proofs.Containing.{contains-first, contains-later}
use Rattle.ps_meaning.specs.Steps.{Name}
use Rattle.sound_plans.proofs.Testing.{drop-end, drop-item}

-- a name with its kind is a field
pub has-field : (given : Fields) (n : Name) (k : DataType) → field_kind n given ≡ Some k → Contains given (n, k)
has-field [] n k h = cc
has-field (g ∷ gs) n k h = by (bytes_eq n g.0) refl h (has-field gs n k)
  where
    by : (b : Bool) → bytes_eq n g.0 ≡ b → (if b then Some g.1 else field_kind n gs) ≡ Some k → (field_kind n gs ≡ Some k → Contains gs (n, k)) → Contains (g ∷ gs) (n, k)
    by true q e rest =
        let same : n ≡ g.0 = (bytes_eq-Decides n g.0).0 q in
        let kind : g.1 ≡ k = cc in
        let P : Name × DataType → Type 0 = λ x. Contains (g ∷ gs) x in
        let is : g ≡ (n, k) = λ i. (sym same i, kind i) in
        subst P is (contains-first g gs)
    by false q e rest = contains-later g (n, k) gs (rest e)

field-at : (s : Fields) (i : ℕ) (n : Name) (k : DataType) → option_map (λ (f : Name × DataType). f.0) (slice_get s i) ≡ Some n → option_map (λ (f : Name × DataType). f.1) (slice_get s i) ≡ Some k → slice_get s i ≡ Some (n, k)
field-at [] i n k e h = cc
field-at (f ∷ s) zero n k e h =
    let first : f.0 ≡ n = cc in
    let second : f.1 ≡ k = cc in
    λ j. Some (first j, second j)
field-at (f ∷ s) (suc i) n k e h = field-at s i n k e h

pub fields-next : (given s : Fields) (i : ℕ) (n : Name) (k : DataType) → option_map (λ (f : Name × DataType). f.0) (slice_get s i) ≡ Some n → option_map (λ (f : Name × DataType). f.1) (slice_get s i) ≡ Some k → Contains given (n, k)
    → (AllByRecursion (Contains given) (drop i s) → AllByRecursion (Contains given) s) → AllByRecursion (Contains given) (drop (i + 1) s) → AllByRecursion (Contains given) s
fields-next given s i n k e h here before rest =
    let cut : drop i s ≡ (n, k) ∷ drop (i + 1) s = drop-item s i (n, k) (field-at s i n k e h) in before (subst (AllByRecursion (Contains given)) (sym cut) (here, rest))

pub fields-end : (given s : Fields) (i : ℕ) → length s ≤ i → (AllByRecursion (Contains given) (drop i s) → AllByRecursion (Contains given) s) → AllByRecursion (Contains given) s
fields-end given s i l before = before (subst (AllByRecursion (Contains given)) (sym (drop-end s i l)) tt)
