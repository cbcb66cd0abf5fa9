-- Names in a schema with a field more, and values in rows with a value more.
use Rattle.std.proofs.Common.{◌≡◌, ℕ, zero, suc, ◌<◌, Bool, true, false, List, [], ◌∷◌, ◌++◌, length, get_or, Some, None, refl, sym, ap, ◌∙◌, arith}
use Rattle.std.specs.Prelude.{unwrap_or, ◌||◌, if◌then◌else◌}
use Rattle.std.specs.Str.{bytes_eq}
use Rattle.std.specs.Cmp.Lexicographic.{bytes_decides}
use Rattle.ps_frame.specs.Tables.{Fields, field_index, field_kind}
use Rattle.ps_frame.specs.declared.value.DataType.{DataType}
use Rattle.ps_frame.specs.declared.value.Value.{Value}
use Rattle.ps_frame.specs.declared.value.Value.TheVariants as val
use Rattle.ps_meaning.specs.Distinct.{picked, places_in}
use Rattle.ps_meaning.specs.Schemas.{is_among, names_of}
use Rattle.ps_meaning.specs.Steps.{Name}
use Rattle.ps_meaning.proofs.EvalFits.{first-place, next-place}
use Rattle.ps_meaning.proofs.StepFits.{or-parts, same-name}

-- where a name stands in a schema, and so in a longer one
pub record Stands (n : Name) (g more : Fields) : Type 0 where
  pub place : ℕ
  pub alone : field_index n g ≡ Some place
  pub longer : field_index n (g ++ more) ≡ Some place
  pub inside : place < length g

pub stands_there : (n : Name) (g more : Fields) → is_among n (names_of g) ≡ true → Stands n g more
stands_there n [] more h = cc
stands_there n (f ∷ g) more h = by (bytes_eq n f.0) refl h (stands_there n g more)
  where
    by : (b : Bool) → bytes_eq n f.0 ≡ b → (b || is_among n (names_of g)) ≡ true → (is_among n (names_of g) ≡ true → Stands n g more) → Stands n (f ∷ g) more
    by true q h rest = record { place = 0; alone = first-place n f g q; longer = first-place n f (g ++ more) q; inside = omega arith }
    by false q h rest =
        let r = rest h in
        let lt = r.inside in
        record { place = suc r.place; alone = next-place n f g r.place q r.alone; longer = next-place n f (g ++ more) r.place q r.longer; inside = omega arith }

-- a new name stands behind the others
pub stands_behind : (n : Name) (k : DataType) (g : Fields) → is_among n (names_of g) ≡ false → field_index n (g ++ (n, k) ∷ []) ≡ Some (length g)
stands_behind n k [] h = first-place n (n, k) [] (same-name n)
stands_behind n k (f ∷ g) h = let parts = or-parts (bytes_eq n f.0) (is_among n (names_of g)) h in next-place n f (g ++ (n, k) ∷ []) (length g) parts.0 (stands_behind n k g parts.1)

pub kind_behind : (n : Name) (k : DataType) (g : Fields) → is_among n (names_of g) ≡ false → field_kind n (g ++ (n, k) ∷ []) ≡ Some k
kind_behind n k [] h = ap (λ b. if b then Some k else None) (same-name n)
kind_behind n k (f ∷ g) h = let parts = or-parts (bytes_eq n f.0) (is_among n (names_of g)) h in ap (λ b. if b then Some f.1 else field_kind n (g ++ (n, k) ∷ [])) parts.0 ∙ kind_behind n k g parts.1

-- the kind of a name stays
pub kind_stays : (n : Name) (g more : Fields) → is_among n (names_of g) ≡ true → field_kind n (g ++ more) ≡ field_kind n g
kind_stays n [] more h = cc
kind_stays n (f ∷ g) more h = by (bytes_eq n f.0) h (kind_stays n g more)
  where
    by : (b : Bool) → (b || is_among n (names_of g)) ≡ true → (is_among n (names_of g) ≡ true → field_kind n (g ++ more) ≡ field_kind n g) → (if b then Some f.1 else field_kind n (g ++ more)) ≡ (if b then Some f.1 else field_kind n g)
    by true h rest = refl
    by false h rest = rest h

-- values of a row with a value more
front_value : (c : List Value) (v : Value) (j : ℕ) → j < length c → get_or (c ++ v ∷ []) j val.Null ≡ get_or c j val.Null
front_value [] v j lt = absurd (omega arith)
front_value (x ∷ c) v zero lt = refl
front_value (x ∷ c) v (suc j) lt = front_value c v j (omega arith)

pub last_value : (c : List Value) (v : Value) → get_or (c ++ v ∷ []) (length c) val.Null ≡ v
last_value [] v = refl
last_value (x ∷ c) v = last_value c v

-- the values of names that stand in front
pub front_values : (ns : List Name) (g more : Fields) (c : List Value) (v : Value) → length c ≡ length g → ((n : Name) → is_among n ns ≡ true → is_among n (names_of g) ≡ true) → picked (places_in ns (g ++ more)) (c ++ v ∷ []) ≡ picked (places_in ns g) c
front_values [] g more c v long within = refl
front_values (n ∷ ns) g more c v long within =
    let head : is_among n (n ∷ ns) ≡ true = ap (λ b. b || is_among n ns) ((bytes_decides n n).1 refl) in
    let s = stands_there n g more (within n head) in
    let lt = s.inside in
    let first = ap (λ o. get_or (c ++ v ∷ []) (unwrap_or o 0) val.Null) s.longer ∙ front_value c v s.place (omega (arith, long, lt)) ∙ sym (ap (λ o. get_or c (unwrap_or o 0) val.Null) s.alone) in
    let rest = front_values ns g more c v long (λ m h. within m (right (bytes_eq m n) (is_among m ns) h)) in
    λ i. first i ∷ rest i
  where
    right : (a b : Bool) → b ≡ true → (a || b) ≡ true
    right true b h = refl
    right false b h = h
