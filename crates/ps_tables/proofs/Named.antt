-- The fields of names.
use Rattle.std.proofs.Common.{◌≡◌, ℕ, zero, suc, ◌+◌, ◌<◌, List, [], ◌∷◌, ◌++◌, length, take, get_or, Bool, true, false, refl, sym, ap, subst, ◌∙◌, add-one, arith}
use Rattle.std.specs.Prelude.{IsSome, Option, Some, None, map, slice_get, if◌then◌else◌, is_some}
use Rattle.std.specs.Str.{bytes_eq}
use Rattle.std.proofs.lemmas.List.{map-append}
use Rattle.std.proofs.lemmas.Option.{same_Some}
use Rattle.ps_frame.specs.Frames.{HasKinds, kinds_of}
use Rattle.ps_frame.specs.Tables.{Fields, field_index, field_kind}
use Rattle.ps_frame.specs.Series.{Series}
use Rattle.ps_frame.specs.declared.value.DataType.{DataType}
use Rattle.ps_meaning.specs.Schemas.{both as both_of, named_fields}
use Rattle.ps_meaning.specs.Steps.{Name}
use Rattle.ps_meaning.proofs.EvalFits.{first-place, next-place, stands}

some-kind : (o : Option DataType) → IsSome o → (k : DataType) × (o ≡ Some k)
some-kind None h = cc
some-kind (Some k) h = (k, refl)

-- a name that has a kind stands somewhere
pub stands-somewhere : (name : Name) (s : Fields) → IsSome (field_kind name s) → field_index name s ≡ None → ⊥
stands-somewhere name s h none =
    let k = some-kind (field_kind name s) h in
    let place = (stands name s k.0 k.1).1 in
    let no : None ≡ Some (stands name s k.0 k.1).0 = sym none ∙ place in
    cc

kind-is : (name : Name) (s : Fields) (i : ℕ) (k j : DataType) → field_kind name s ≡ Some k → field_index name s ≡ Some i → slice_get (kinds_of s) i ≡ Some j → k ≡ j
kind-is name [] i k j e p q = cc
kind-is name (f ∷ fs) i k j e p q = by (bytes_eq name f.0) refl e (kind-is name fs)
  where
    by : (b : Bool) → bytes_eq name f.0 ≡ b → (if b then Some f.1 else field_kind name fs) ≡ Some k → ((m : ℕ) (k j : DataType) → field_kind name fs ≡ Some k → field_index name fs ≡ Some m → slice_get (kinds_of fs) m ≡ Some j → k ≡ j) → k ≡ j
    by true b h rest =
        let here : 0 ≡ i = same_Some 0 i (sym (first-place name f fs b) ∙ p) in
        let first : Some f.1 ≡ Some j = subst (λ m. slice_get (kinds_of (f ∷ fs)) m ≡ Some j) (sym here) q in
        sym (same_Some f.1 k h) ∙ same_Some f.1 j first
    by false b h rest =
        let st = stands name fs k h in
        let there : suc st.0 ≡ i = same_Some (suc st.0) i (sym (next-place name f fs st.0 b st.1) ∙ p) in
        rest st.0 k j h st.1 (subst (λ m. slice_get (kinds_of (f ∷ fs)) m ≡ Some j) (sym there) q)

-- and has there the kind of the field
pub kind-there : (name : Name) (s : Fields) (i : ℕ) (j : DataType) → IsSome (field_kind name s) → field_index name s ≡ Some i → slice_get (kinds_of s) i ≡ Some j → field_kind name s ≡ Some j
kind-there name s i j h p q = let k = some-kind (field_kind name s) h in k.1 ∙ ap Some (kind-is name s i k.0 j k.1 p q)

-- each name has a kind
pub named-kind : (ns : List Name) (s out : Fields) (i : ℕ) (n : Name) → named_fields ns s ≡ Some out → i < length ns → n ≡ get_or ns i n → IsSome (field_kind n s)
named-kind [] s out i n e h is = absurd (omega arith)
named-kind (m ∷ ns) s out i n e h is = by i is h (field_kind m s) (named_fields ns s) refl refl e (named-kind ns s)
  where
    by : (i : ℕ) → n ≡ get_or (m ∷ ns) i n → i < length (m ∷ ns) → (o : Option DataType) (r : Option Fields) → field_kind m s ≡ o → named_fields ns s ≡ r → both_of (λ (k : DataType) (fs : Fields). (m, k) ∷ fs) o r ≡ Some out
        → ((out : Fields) (i : ℕ) (n : Name) → named_fields ns s ≡ Some out → i < length ns → n ≡ get_or ns i n → IsSome (field_kind n s)) → IsSome (field_kind n s)
    by i is h None r p g e rest = cc
    by i is h (Some k) None p g e rest = cc
    by zero is h (Some k) (Some fs) p g e rest = ap is_some (ap (λ n. field_kind n s) is ∙ p)
    by (suc i) is h (Some k) (Some fs) p g e rest = rest fs i n g (omega arith) is

-- one more of the kinds
kinds-more : (ns : List Name) (s out : Fields) (i : ℕ) (n : Name) (k : DataType) → named_fields ns s ≡ Some out → i < length ns → n ≡ get_or ns i n → field_kind n s ≡ Some k → kinds_of (take (suc i) out) ≡ kinds_of (take i out) ++ k ∷ []
kinds-more [] s out i n k e h is q = absurd (omega arith)
kinds-more (m ∷ ns) s out i n k e h is q = by i is h (field_kind m s) (named_fields ns s) refl refl e (kinds-more ns s)
  where
    by : (i : ℕ) → n ≡ get_or (m ∷ ns) i n → i < length (m ∷ ns) → (o : Option DataType) (r : Option Fields) → field_kind m s ≡ o → named_fields ns s ≡ r → both_of (λ (k : DataType) (fs : Fields). (m, k) ∷ fs) o r ≡ Some out
        → ((out : Fields) (i : ℕ) (n : Name) (k : DataType) → named_fields ns s ≡ Some out → i < length ns → n ≡ get_or ns i n → field_kind n s ≡ Some k → kinds_of (take (suc i) out) ≡ kinds_of (take i out) ++ k ∷ [])
        → kinds_of (take (suc i) out) ≡ kinds_of (take i out) ++ k ∷ []
    by i is h None r p g e rest = cc
    by i is h (Some j) None p g e rest = cc
    by zero is h (Some j) (Some fs) p g e rest =
        let first : j ≡ k = same_Some j k (sym p ∙ ap (λ n. field_kind n s) (sym is) ∙ q) in
        let all : (m, j) ∷ fs ≡ out = same_Some ((m, j) ∷ fs) out e in
        subst (λ out. kinds_of (take 1 out) ≡ k ∷ []) all (ap (λ j. j ∷ []) first)
    by (suc i) is h (Some j) (Some fs) p g e rest =
        let all : (m, j) ∷ fs ≡ out = same_Some ((m, j) ∷ fs) out e in
        subst (λ out. kinds_of (take (suc (suc i)) out) ≡ kinds_of (take (suc i) out) ++ k ∷ []) all (ap (λ ks. j ∷ ks) (rest fs i n k g (omega arith) is q))

pub kinds-step : (ns : List Name) (s out : Fields) (i : ℕ) (n : Name) (c : Series) (cs new : List Series) → named_fields ns s ≡ Some out → i < length ns → n ≡ get_or ns i n → field_kind n s ≡ Some c.kind → HasKinds (take i out) cs → new ≡ cs ++ c ∷ [] → HasKinds (take (i + 1) out) new
kinds-step ns s out i n c cs new e h is q kinds grown = rw add-one (ap (map (λ (c : Series). c.kind)) grown ∙ map-append (λ (c : Series). c.kind) cs (c ∷ []) ∙ ap (λ ks. ks ++ c.kind ∷ []) kinds ∙ sym (kinds-more ns s out i n c.kind e h is q))

-- as many fields as names
pub named-length : (ns : List Name) (s out : Fields) → named_fields ns s ≡ Some out → length out ≡ length ns
named-length [] s out e = sym (ap length (same_Some [] out e))
named-length (n ∷ ns) s out e = by (field_kind n s) (named_fields ns s) refl e (named-length ns s)
  where
    by : (o : Option DataType) (r : Option Fields) → named_fields ns s ≡ r → both_of (λ (k : DataType) (fs : Fields). (n, k) ∷ fs) o r ≡ Some out → ((out : Fields) → named_fields ns s ≡ Some out → length out ≡ length ns) → length out ≡ length (n ∷ ns)
    by None r p e rest = cc
    by (Some k) None p e rest = cc
    by (Some k) (Some fs) p e rest = sym (ap length (same_Some ((n, k) ∷ fs) out e)) ∙ ap suc (rest fs p)
