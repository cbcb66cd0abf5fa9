-- The kind of a column by its place, and the error of one that isn't there.
use Rattle.std.proofs.Common.{◌≡◌, ℕ, zero, suc, ◌+◌, ◌<◌, ◌≤◌, List, [], ◌∷◌, length, get_or, Bool, true, false, cond, refl, sym, subst, ◌∙◌, ap, inl, inr, arith}
use Rattle.std.specs.Prelude.{not, ◌||◌, ◌⊎◌, nat_lt, Some, None, option_map, slice_get}
use Rattle.std.specs.List.{list_any, position_or_len}
use Rattle.std.specs.Str.{bytes_eq}
use Rattle.std.proofs.lemmas.Bool.{cond-true, cond-false, ltb-false, or_left}
use Rattle.std.proofs.lemmas.List.Quantifiers.{position-Some}
use Rattle.std.proofs.lemmas.Slice.Eq.{bytes_eq-Decides}
use Rattle.pu_base.specs.declared.arena.Node.{Node}
use Rattle.ps_frame.specs.Frames.{has_name}
use Rattle.ps_frame.specs.Tables.{Fields, field_index, field_kind}
use Rattle.ps_frame.specs.Trees.{Tree}
use Rattle.ps_frame.specs.declared.refusal.PolarsError.{PolarsError}
use Rattle.ps_frame.specs.declared.refusal.PolarsError.TheVariants as error
use Rattle.ps_frame.specs.declared.value.DataType.{DataType}
use Rattle.ps_typing.specs.Refused.{IsTypingError}

first-kind : (name : List ℕ) (s : Fields) (i : ℕ) (d : List ℕ × DataType) → i < length s → bytes_eq name (get_or s i d).0 ≡ true → ((k : ℕ) → k < i → bytes_eq name (get_or s k d).0 ≡ false) → field_kind name s ≡ Some (get_or s i d).1
first-kind name [] i d h p q = absurd (omega arith)
first-kind name (x ∷ s) zero d h p q = cond-true (bytes_eq name x.0) (Some x.1) (field_kind name s) p
first-kind name (x ∷ s) (suc i) d h p q =
    cond-false (bytes_eq name x.0) (Some x.1) (field_kind name s) (q 0 (omega arith)) ∙ first-kind name s i d (omega arith) p (λ k l. q (suc k) (omega arith))

some-read : (s : Fields) (i : ℕ) (d : List ℕ × DataType) (k : DataType) → i < length s → option_map (λ f. f.1) (slice_get s i) ≡ Some k → (get_or s i d).1 ≡ k
some-read [] i d k h p = absurd (omega arith)
some-read (x ∷ s) zero d k h p = cc
some-read (x ∷ s) (suc i) d k h p = some-read s i d k (omega arith) p

-- the kind of the column at the place of a name
pub kind-at : (name : List ℕ) (s : Fields) (i : ℕ) (k : DataType) → field_index name s ≡ Some i → option_map (λ f. f.1) (slice_get s i) ≡ Some k → field_kind name s ≡ Some k
kind-at name s i k p q =
    let d : List ℕ × DataType = (name, k) in
    let at = position-Some (λ (f : List ℕ × DataType). bytes_eq name f.0) s i d p in
    first-kind name s i d at.0 at.1 at.2 ∙ ap Some (some-read s i d k at.0 q)

passed-by : (b r : Bool) (n m : ℕ) → suc n ≤ cond (not b) (1 + m) 0 → (n ≤ m → r ≡ false) → (b || r) ≡ false
passed-by true r n m h f = absurd (omega arith)
passed-by false r n m h f = f (omega arith)

absent : (p : List ℕ × DataType → Bool) (s : Fields) → length s ≤ position_or_len p s → list_any p s ≡ false
absent p [] h = refl
absent p (x ∷ s) h = passed-by (p x) (list_any p s) (length s) (position_or_len p s) h (λ l. absent p s l)

none-past : (b : Bool) (i : ℕ) → cond b (Some i) None ≡ None → b ≡ false
none-past true i h = cc
none-past false i h = refl

-- a name without a place isn't there
pub no-place : (name : List ℕ) (s : Fields) → field_index name s ≡ None → has_name name s ≡ false
no-place name s h =
    let p : List ℕ × DataType → Bool = λ f. bytes_eq name f.0 in
    absent p s (ltb-false (position_or_len p s) (length s) (none-past (nat_lt (position_or_len p s) (length s)) (position_or_len p s) h))

-- the error of a column that isn't there
pub unknown : (at : Node) (s : Fields) (name : List ℕ) (e : PolarsError) → field_index name s ≡ None → (e ≡ error.ColumnNotFound at name) ⊎ (e ≡ error.OutOfMemory) → IsTypingError at s (Tree.column name) e
unknown at s name e h (inl p) = subst (λ (x : PolarsError). IsTypingError at s (Tree.column name) x) (sym p) (refl, or_left (bytes_eq name name) false ((bytes_eq-Decides name name).1 refl), no-place name s h)
unknown at s name e h (inr p) = subst (λ (x : PolarsError). IsTypingError at s (Tree.column name) x) (sym p) tt
