-- Columns that are looked up one after another.
use Rattle.std.proofs.Common.{◌≡◌, ℕ, suc, ◌+◌, ◌<◌, List, [], ◌∷◌, ◌++◌, length, get_or, drop, Bool, true, false, cond, refl, sym, subst, ◌∙◌, ap, add-one, drop-cons, inl, inr}
use Rattle.std.specs.Prelude.{not, ◌||◌, ◌⊎◌, Option, Some, None, option_map}
use Rattle.std.specs.Str.{bytes_eq}
use Rattle.std.proofs.lemmas.Bool.{and_from, and_parts, or_cases}
use Rattle.std.proofs.lemmas.List.{append-nil}
use Rattle.std.proofs.Math.Seq.{drop-length}
use Rattle.std.proofs.lemmas.Slice.Eq.{bytes_eq-Decides}
use Rattle.pu_base.specs.declared.arena.Node.{Node}
use Rattle.ps_frame.specs.Frames.{has_name}
use Rattle.ps_frame.specs.Tables.{Fields, field_kind}
use Rattle.ps_frame.specs.declared.refusal.PolarsError.{PolarsError}
use Rattle.ps_frame.specs.declared.refusal.PolarsError.TheVariants as error
use Rattle.ps_frame.specs.declared.value.DataType.{DataType}
use Rattle.ps_meaning.specs.StepRefusals.{lacks_name, repeats}
use Rattle.ps_meaning.specs.Schemas.{both as both_of, is_among, named_fields, names_of}
use Rattle.ps_meaning.specs.Steps.{Name}
use Rattle.valid_plans.proofs.Adding.{among-append, among-has, fields-next, names-next, repeats-again}
use Rattle.ps_validate.specs.Columns.{IsNamingError}
use Rattle.valid_plans.specs.Fields.{IsPushError}

-- a name has a kind exactly where it stands
pub kind-has : (n : Name) (s : Fields) (k : DataType) → field_kind n s ≡ Some k → has_name n s ≡ true
kind-has n [] k h = cc
kind-has n (f ∷ fs) k h = by (bytes_eq n f.0) h (λ q. kind-has n fs k q)
  where
    by : (b : Bool) → cond b (Some f.1) (field_kind n fs) ≡ Some k → (field_kind n fs ≡ Some k → has_name n fs ≡ true) → (b || has_name n fs) ≡ true
    by true h r = refl
    by false h r = r h

pub no-kind : (n : Name) (s : Fields) → field_kind n s ≡ None → has_name n s ≡ false
no-kind n [] h = refl
no-kind n (f ∷ fs) h = by (bytes_eq n f.0) h (λ q. no-kind n fs q)
  where
    by : (b : Bool) → cond b (Some f.1) (field_kind n fs) ≡ None → (field_kind n fs ≡ None → has_name n fs ≡ false) → (b || has_name n fs) ≡ false
    by true h r = cc
    by false h r = r h

pub lacking : (n : Name) (s : Fields) → has_name n s ≡ false → field_kind n s ≡ None
lacking n [] h = refl
lacking n (f ∷ fs) h = by (bytes_eq n f.0) h (λ q. lacking n fs q)
  where
    by : (b : Bool) → (b || has_name n fs) ≡ false → (has_name n fs ≡ false → field_kind n fs ≡ None) → cond b (Some f.1) (field_kind n fs) ≡ None
    by true h r = cc
    by false h r = r h

-- the names from i on are still to be looked up
pub record Naming (s : Fields) (ns : List Name) (i : ℕ) (now : Fields) : Type 0 where
  pub fields : option_map (λ fs. now ++ fs) (named_fields (drop i ns) s) ≡ named_fields ns s
  pub names : names_of now ++ drop i ns ≡ ns

same-option : (o : Option Fields) → option_map (λ fs. [] ++ fs) o ≡ o
same-option None = refl
same-option (Some fs) = refl

pub naming-first : (s : Fields) (ns : List Name) (z : Fields) → z ≡ [] → Naming s ns 0 z
naming-first s ns z h = subst (λ z. Naming s ns 0 z) (sym h) (record { fields = same-option (named_fields ns s); names = refl })

pub naming-end : (s : Fields) (ns : List Name) (now : Fields) → Naming s ns (length ns) now → named_fields ns s ≡ Some now
naming-end s ns now p = sym p.fields ∙ ap (λ ms. option_map (λ fs. now ++ fs) (named_fields ms s)) (drop-length ns) ∙ ap Some (append-nil now)

module _ (s : Fields) (ns : List Name) (i : ℕ) (now : Fields) (n : Name) (within : i < length ns) (is : n ≡ get_or ns i n) (p : Naming s ns i now) where
  here : drop i ns ≡ n ∷ drop (i + 1) ns
  here = drop-cons ns i n within ∙ ap (λ m. m ∷ drop (suc i) ns) (sym is) ∙ ap (λ j. n ∷ drop j ns) (sym (add-one i))

  whole : names_of now ++ (n ∷ drop (i + 1) ns) ≡ ns
  whole = ap (λ ms. names_of now ++ ms) (sym here) ∙ p.names

  pub naming-next : (k : DataType) (then : Fields) → field_kind n s ≡ Some k → then ≡ now ++ (n, k) ∷ [] → Naming s ns (i + 1) then
  naming-next k then kind added =
      let rest = drop (i + 1) ns in
      record {
        fields =
            ap (λ p. option_map (λ fs. p ++ fs) (named_fields rest s)) added ∙ sym (fields-next now n k (named_fields rest s))
            ∙ ap (λ o. option_map (λ fs. now ++ fs) (both_of (λ (j : DataType) (fs : Fields). (n, j) ∷ fs) o (named_fields rest s))) (sym kind)
            ∙ ap (λ ms. option_map (λ fs. now ++ fs) (named_fields ms s)) (sym here)
            ∙ p.fields;
        names = ap (λ p. names_of p ++ rest) added ∙ names-next now n k rest ∙ whole;
      }

  -- the name isn't there
  pub naming-missing : (at : Node) (e : PolarsError) → field_kind n s ≡ None → (e ≡ error.ColumnNotFound at n) ⊎ (e ≡ error.OutOfMemory) → IsNamingError at s ns e
  naming-missing at e none (inl q) = subst (λ x. IsNamingError at s ns x) (sym q) (refl, and_from (is_among n ns) (not (has_name n s)) (subst (λ ms. is_among n ms ≡ true) whole (among-append n (names_of now) (drop (i + 1) ns))) (ap not (no-kind n s none)))
  naming-missing at e none (inr q) = subst (λ x. IsNamingError at s ns x) (sym q) tt

  -- the name stands already
  pub naming-refused : (at : Node) (e : PolarsError) → IsPushError at now n e → IsNamingError at s ns e
  naming-refused at (error.Duplicate node name) h =
      let again : repeats n (names_of now ++ (n ∷ drop (i + 1) ns)) ≡ true = repeats-again n (names_of now) (drop (i + 1) ns) (among-has n now ∙ h.2) in
      (h.0, subst (λ m. repeats m ns ≡ true) (sym h.1) (subst (λ ms. repeats n ms ≡ true) whole again))
  naming-refused at error.OutOfMemory h = tt
  naming-refused at (error.ColumnNotFound node name) h = absurd h
  naming-refused at (error.SchemaMismatch node) h = absurd h
  naming-refused at (error.Unsupported node w) h = absurd h
  naming-refused at (error.InvalidPlan node why) h = absurd h
  naming-refused at (error.ComputeError node why) h = absurd h
  naming-refused at (error.ShapeMismatch node) h = absurd h
  naming-refused at (error.OutOfBounds node why) h = absurd h

named-parts : (n : Name) (o : Option DataType) (r : Option Fields) (fs : Fields) → both_of (λ (k : DataType) (gs : Fields). (n, k) ∷ gs) o r ≡ Some fs → (k : DataType) × (rest : Fields) × (o ≡ Some k) × (r ≡ Some rest) × (fs ≡ (n, k) ∷ rest)
named-parts n None r fs h = cc
named-parts n (Some k) None fs h = cc
named-parts n (Some k) (Some rest) fs h = (k, rest, refl, refl, cc)

pub named-names : (ns : List Name) (s fs : Fields) → named_fields ns s ≡ Some fs → names_of fs ≡ ns
named-names [] s fs h = let is : fs ≡ [] = cc in ap names_of is
named-names (n ∷ ns) s fs h = let p = named-parts n (field_kind n s) (named_fields ns s) fs h in ap names_of p.4 ∙ ap (λ ms. n ∷ ms) (named-names ns s p.1 p.3)

-- columns that were found are there
pub named-there : (ns : List Name) (s fs : Fields) (n : Name) → named_fields ns s ≡ Some fs → is_among n ns ≡ true → has_name n s ≡ true
named-there [] s fs n h a = cc
named-there (m ∷ ns) s fs n h a =
    let p = named-parts m (field_kind m s) (named_fields ns s) fs h in
    elim (or_cases (bytes_eq n m) (is_among n ns) a) [
      | inl x ↦ subst (λ m. has_name m s ≡ true) (sym ((bytes_eq-Decides n m).0 x)) (kind-has m s p.0 p.2)
      | inr x ↦ named-there ns s p.1 n p.3 x
    ]

pub named-lacks : (ns : List Name) (s fs : Fields) (n : Name) → named_fields ns s ≡ Some fs → lacks_name n s ns ≡ true → ⊥
named-lacks ns s fs n h l =
    let p = and_parts (is_among n ns) (not (has_name n s)) l in
    let q : not true ≡ true = ap not (sym (named-there ns s fs n h p.0)) ∙ p.1 in cc
