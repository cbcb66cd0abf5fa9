-- Fields of columns and of their picked values, and the columns that are keys or others.
use Rattle.std.proofs.Common.{◌≡◌, ◌⊎◌, inl, inr, ℕ, zero, suc, ◌+◌, ◌<◌, Bool, true, false, not, cond, ◌||◌, List, [], ◌∷◌, ◌++◌, length, get_or, Option, Some, None, refl, sym, ap, subst, ◌∙◌, arith}
use Rattle.std.proofs.lemmas.Option.{same_Some}
use Rattle.std.specs.Prelude.{map, unwrap_or, if◌then◌else◌}
use Rattle.std.specs.List.{AllByRecursion}
use Rattle.std.specs.Str.{bytes_eq}
use Rattle.std.specs.Cmp.Lexicographic.{bytes_decides}
use Rattle.ps_frame.specs.Frames.{has_distinct_names}
use Rattle.ps_frame.specs.Tables.{Fields, field_index, field_kind}
use Rattle.ps_frame.specs.Trees.{Aggregation, Tree}
use Rattle.ps_frame.specs.Zip.{below}
use Rattle.ps_frame.specs.Typing.{kind_over}
use Rattle.ps_frame.specs.declared.value.DataType.{DataType}
use Rattle.ps_frame.specs.declared.value.DataType.TheVariants as kind
use Rattle.ps_meaning.specs.Distinct.{picked, places_in}
use Rattle.ps_meaning.specs.Schemas.{both as both_of, fields_of, is_among, named_fields, names_of}
use Rattle.ps_meaning.specs.Shape.{PhysicalNode}
use Rattle.ps_meaning.specs.Sound.{schema_at as schema_there}
use Rattle.ps_meaning.specs.Steps.{Name, Named}
use Rattle.ps_meaning.proofs.Begins.{map-below}
use Rattle.ps_meaning.proofs.EvalFits.{stands}
use Rattle.ps_meaning.proofs.OneInput.{places-all}
use Rattle.ps_rules.specs.Slots.{schema_or_none}
use Rattle.plan_rules.specs.Distinct.{other_than}
use Rattle.plan_rules.specs.Groups.{own_columns}
use Rattle.ps_shares.proofs.Aggregated.{map_again}
use Rattle.ps_shares.proofs.KeySorts.{Placed, own_places}
use Rattle.keyed_calls.specs.Keyed.{AllStand}
use Rattle.distinct_parts.proofs.Picks.{Picks}

-- the fields of columns, and of their picked values
pub own_fields_of : (ns : List Name) (s f : Fields) → named_fields ns s ≡ Some f → fields_of (own_columns ns) s ≡ Some f
own_fields_of [] s f e = e
own_fields_of (n ∷ ns) s f e = by (field_kind n s) (named_fields ns s) refl e (own_fields_of ns s)
  where
    by : (o : Option DataType) (r : Option Fields) → named_fields ns s ≡ r → both_of (λ (k : DataType) (fs : Fields). (n, k) ∷ fs) o r ≡ Some f → ((fs : Fields) → named_fields ns s ≡ Some fs → fields_of (own_columns ns) s ≡ Some fs) → both_of (λ (k : DataType) (fs : Fields). (n, k) ∷ fs) o (fields_of (own_columns ns) s) ≡ Some f
    by None None q e rec = cc
    by None (Some r) q e rec = cc
    by (Some k) None q e rec = cc
    by (Some k) (Some r) q e rec = ap (both_of (λ (k : DataType) (fs : Fields). (n, k) ∷ fs) (Some k)) (rec r q) ∙ e

pub picked_fields_of : (a : Aggregation) (picks : Picks a) (ns : List Name) (s f : Fields) → named_fields ns s ≡ Some f → fields_of (map (λ n. (n, Tree.aggregate a (Tree.column n))) ns) s ≡ Some f
picked_fields_of a picks [] s f e = e
picked_fields_of a picks (n ∷ ns) s f e =
    ap (λ o. both_of (λ (k : DataType) (fs : Fields). (n, k) ∷ fs) o (fields_of (map (λ n. (n, Tree.aggregate a (Tree.column n))) ns) s)) (picks.kind (field_kind n s)) ∙ by (field_kind n s) (named_fields ns s) refl e (picked_fields_of a picks ns s)
  where
    by : (o : Option DataType) (r : Option Fields) → named_fields ns s ≡ r → both_of (λ (k : DataType) (fs : Fields). (n, k) ∷ fs) o r ≡ Some f → ((fs : Fields) → named_fields ns s ≡ Some fs → fields_of (map (λ n. (n, Tree.aggregate a (Tree.column n))) ns) s ≡ Some fs)
        → both_of (λ (k : DataType) (fs : Fields). (n, k) ∷ fs) o (fields_of (map (λ n. (n, Tree.aggregate a (Tree.column n))) ns) s) ≡ Some f
    by None None q e rec = cc
    by None (Some r) q e rec = cc
    by (Some k) None q e rec = cc
    by (Some k) (Some r) q e rec = ap (both_of (λ (k : DataType) (fs : Fields). (n, k) ∷ fs) (Some k)) (rec r q) ∙ e

pub fields_both : (xs ys : List Named) (s a b : Fields) → fields_of xs s ≡ Some a → fields_of ys s ≡ Some b → fields_of (xs ++ ys) s ≡ Some (a ++ b)
fields_both [] ys s a b p q = q ∙ ap (λ c. Some (c ++ b)) (same_Some [] a p)
fields_both (x ∷ xs) ys s a b p q = by (kind_over s x.1) (fields_of xs s) refl p (λ c h. fields_both xs ys s c b h q)
  where
    by : (o : Option DataType) (r : Option Fields) → fields_of xs s ≡ r → both_of (λ (k : DataType) (fs : Fields). (x.0, k) ∷ fs) o r ≡ Some a → ((c : Fields) → fields_of xs s ≡ Some c → fields_of (xs ++ ys) s ≡ Some (c ++ b)) → both_of (λ (k : DataType) (fs : Fields). (x.0, k) ∷ fs) o (fields_of (xs ++ ys) s) ≡ Some (a ++ b)
    by None None h e rec = cc
    by None (Some r) h e rec = cc
    by (Some k) None h e rec = cc
    by (Some k) (Some r) h e rec = ap (both_of (λ (k : DataType) (fs : Fields). (x.0, k) ∷ fs) (Some k)) (rec r h) ∙ ap (λ c. Some (c ++ b)) (same_Some ((x.0, k) ∷ r) a e)

-- names that have kinds are named fields
pub have_fields : (ns : List Name) (s : Fields) → AllByRecursion (λ n. (k : DataType) × (field_kind n s ≡ Some k)) ns → (f : Fields) × (named_fields ns s ≡ Some f)
have_fields [] s all = ([], refl)
have_fields (n ∷ ns) s all =
    let rest = have_fields ns s all.1 in
    let k = all.0.1 in
    ((n, all.0.0) ∷ rest.0, λ i. both_of (λ (k : DataType) (fs : Fields). (n, k) ∷ fs) (k i) (rest.1 i))

-- each named field has its kind, and each name stands
pub field_kinds : (ns : List Name) (s f : Fields) → named_fields ns s ≡ Some f → AllByRecursion (λ (x : Name × DataType). field_kind x.0 s ≡ Some x.1) f × AllStand s ns
field_kinds [] s f e = (subst (AllByRecursion (λ (x : Name × DataType). field_kind x.0 s ≡ Some x.1)) (same_Some [] f e) tt, tt)
field_kinds (n ∷ ns) s f e = by (field_kind n s) refl (named_fields ns s) refl e (field_kinds ns s)
  where
    by : (o : Option DataType) → field_kind n s ≡ o → (r : Option Fields) → named_fields ns s ≡ r → both_of (λ (k : DataType) (fs : Fields). (n, k) ∷ fs) o r ≡ Some f
        → ((fs : Fields) → named_fields ns s ≡ Some fs → AllByRecursion (λ (x : Name × DataType). field_kind x.0 s ≡ Some x.1) fs × AllStand s ns) → AllByRecursion (λ (x : Name × DataType). field_kind x.0 s ≡ Some x.1) f × AllStand s (n ∷ ns)
    by None q None h e rec = cc
    by None q (Some r) h e rec = cc
    by (Some k) q None h e rec = cc
    by (Some k) q (Some r) h e rec =
        let more = rec r h in
        let w = stands n s k q in
        (subst (AllByRecursion (λ (x : Name × DataType). field_kind x.0 s ≡ Some x.1)) (same_Some ((n, k) ∷ r) f e) (q, more.0), ((w.0, w.1), more.1))

pub names_kinds : (fs s : Fields) → AllByRecursion (λ (x : Name × DataType). field_kind x.0 s ≡ Some x.1) fs → AllByRecursion (λ n. (k : DataType) × (field_kind n s ≡ Some k)) (names_of fs)
names_kinds [] s all = tt
names_kinds (x ∷ fs) s all = ((x.1, all.0), names_kinds fs s all.1)

same_kind_there : (n : Name) (g s : Fields) → AllByRecursion (λ (x : Name × DataType). field_kind x.0 s ≡ Some x.1) g → is_among n (names_of g) ≡ true → field_kind n g ≡ field_kind n s
same_kind_there n [] s all h = cc
same_kind_there n (x ∷ g) s all h = by (bytes_eq n x.0) refl h (same_kind_there n g s all.1)
  where
    by : (b : Bool) → bytes_eq n x.0 ≡ b → (bytes_eq n x.0 || is_among n (names_of g)) ≡ true → (is_among n (names_of g) ≡ true → field_kind n g ≡ field_kind n s) → (if bytes_eq n x.0 then Some x.1 else field_kind n g) ≡ field_kind n s
    by true q h rest = ap (λ b. if b then Some x.1 else field_kind n g) q ∙ sym all.0 ∙ ap (λ m. field_kind m s) (sym ((bytes_decides n x.0).0 q))
    by false q h rest = ap (λ b. if b then Some x.1 else field_kind n g) q ∙ rest (sym (ap (λ b. b || is_among n (names_of g)) q) ∙ h)

among_both : (n : Name) (xs ys : List Name) → (is_among n xs ≡ true) ⊎ (is_among n ys ≡ true) → is_among n (xs ++ ys) ≡ true
among_both n [] ys (inl h) = cc
among_both n [] ys (inr h) = h
among_both n (x ∷ xs) ys h = by (bytes_eq n x) refl h (among_both n xs ys)
  where
    by : (b : Bool) → bytes_eq n x ≡ b → ((bytes_eq n x || is_among n xs) ≡ true) ⊎ (is_among n ys ≡ true) → ((is_among n xs ≡ true) ⊎ (is_among n ys ≡ true) → is_among n (xs ++ ys) ≡ true) → (bytes_eq n x || is_among n (xs ++ ys)) ≡ true
    by true q h rest = ap (λ b. b || is_among n (xs ++ ys)) q
    by false q (inl h) rest = ap (λ b. b || is_among n (xs ++ ys)) q ∙ rest (inl (sym (ap (λ b. b || is_among n xs) q) ∙ h))
    by false q (inr h) rest = ap (λ b. b || is_among n (xs ++ ys)) q ∙ rest (inr h)

-- each name is a key, or another
is_other : (n : Name) (keys all : List Name) → is_among n all ≡ true → is_among n keys ≡ false → is_among n (other_than keys all) ≡ true
is_other n keys [] h k = cc
is_other n keys (m ∷ all) h k = by (is_among m keys) refl (bytes_eq n m) refl h (λ h'. is_other n keys all h' k)
  where
    by : (t : Bool) → is_among m keys ≡ t → (b : Bool) → bytes_eq n m ≡ b → (bytes_eq n m || is_among n all) ≡ true → (is_among n all ≡ true → is_among n (other_than keys all) ≡ true) → is_among n (cond (not t) (m ∷ other_than keys all) (other_than keys all)) ≡ true
    by false p true q h rest = ap (λ b. b || is_among n (other_than keys all)) q
    by false p false q h rest = ap (λ b. b || is_among n (other_than keys all)) q ∙ rest (sym (ap (λ b. b || is_among n all) q) ∙ h)
    by true p true q h rest = let w : true ≡ false = sym p ∙ ap (λ x. is_among x keys) (sym ((bytes_decides n m).0 q)) ∙ k in cc
    by true p false q h rest = rest (sym (ap (λ b. b || is_among n all) q) ∙ h)

pub covered : (n : Name) (keys all : List Name) → is_among n all ≡ true → is_among n (keys ++ other_than keys all) ≡ true
covered n keys all h = by (is_among n keys) refl
  where
    by : (b : Bool) → is_among n keys ≡ b → is_among n (keys ++ other_than keys all) ≡ true
    by true q = among_both n keys (other_than keys all) (inl q)
    by false q = among_both n keys (other_than keys all) (inr (is_other n keys all h q))

-- all columns are at the places below the width
placed_at : (s fs : Fields) (k i : ℕ) → Placed s fs k → i < length fs → field_index (get_or fs i ([], kind.Int64)).0 s ≡ Some (k + i)
placed_at s [] k i h lt = absurd (omega arith)
placed_at s (f ∷ fs) k zero h lt = h.0 ∙ ap Some (omega arith)
placed_at s (f ∷ fs) k (suc i) h lt = placed_at s fs (suc k) i h.1 (omega arith) ∙ ap Some (omega arith)

pub all_places : (s : Fields) → has_distinct_names s ≡ true → places_in (names_of s) s ≡ below (length s)
all_places s d =
    let place : Name → ℕ = λ n. unwrap_or (field_index n s) 0 in
    let field : ℕ → Name × DataType = λ i. get_or s i ([], kind.Int64) in
    map_again place (λ (f : Name × DataType). f.0) s
    ∙ ap (map (λ (f : Name × DataType). place f.0)) (sym (places-all s ([], kind.Int64)))
    ∙ map_again (λ (f : Name × DataType). place f.0) field (below (length s))
    ∙ map-below (length s) (λ i. place (field i).0) (λ i. i) (λ i lt. ap (λ o. unwrap_or o 0) (placed_at s s 0 i (own_places s d) lt) ∙ zero_plus i)
    ∙ itself (below (length s))
  where
    zero_plus : (i : ℕ) → 0 + i ≡ i
    zero_plus i = omega arith

    itself : (xs : List ℕ) → map (λ i. i) xs ≡ xs
    itself [] = refl
    itself (x ∷ xs) = ap (λ ys. x ∷ ys) (itself xs)

pub schemas_agree : (o : Option PhysicalNode) → schema_there o ≡ schema_or_none o
schemas_agree None = refl
schemas_agree (Some p) = refl

-- the fields of a schema, in another one that has its names and its kinds
pub olds : (own g fs : Fields) → AllByRecursion (λ (x : Name × DataType). field_kind x.0 own ≡ Some x.1) g → ((n : Name) → is_among n (names_of fs) ≡ true → is_among n (names_of g) ≡ true) → AllByRecursion (λ (x : Name × DataType). field_kind x.0 own ≡ Some x.1) fs → AllByRecursion (λ (x : Name × DataType). field_kind x.0 g ≡ Some x.1) fs
olds own g [] all within kinds = tt
olds own g (x ∷ fs) all within kinds = (
  same_kind_there x.0 g own all (within x.0 (ap (λ b. b || is_among x.0 (names_of fs)) ((bytes_decides x.0 x.0).1 refl))) ∙ kinds.0,
  olds own g fs all (λ n h. within n (right (bytes_eq n x.0) (is_among n (names_of fs)) h)) kinds.1,
)
  where
    right : (a b : Bool) → b ≡ true → (a || b) ≡ true
    right true b h = refl
    right false b h = h
