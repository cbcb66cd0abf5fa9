-- Values of a row by the names of a schema.
use Rattle.std.proofs.Common.{◌≡◌, ℕ, suc, Bool, true, false, List, [], ◌∷◌, ◌++◌, length, get_or, Option, Some, refl, sym, ap, ◌∙◌, arith}
use Rattle.std.specs.Prelude.{◌||◌, map, unwrap_or}
use Rattle.std.specs.Cmp.Lexicographic.{bytes_decides}
use Rattle.std.specs.Str.{bytes_eq}
use Rattle.ps_frame.specs.Tables.{Fields, field_index}
use Rattle.ps_frame.specs.declared.value.DataType.{DataType}
use Rattle.ps_frame.specs.declared.value.Value.{Value}
use Rattle.ps_frame.specs.declared.value.Value.TheVariants as val
use Rattle.ps_meaning.specs.Distinct.{picked, places_in}
use Rattle.ps_meaning.specs.Schemas.{is_among, names_of, suffixed}
use Rattle.ps_meaning.specs.Steps.{Name}
use Rattle.ps_meaning.proofs.EvalFits.{first-place, next-place}
use Rattle.ps_shares.proofs.Aggregated.{map_again}
use Rattle.ps_bundles.proofs.Reading.{or_first, or_last}
use Rattle.rule_parts.proofs.Merged.{renamed}

-- the value of a name in a row
abbrev pub value_of : Name → Fields → List Value → Value
value_of n s row = get_or row (unwrap_or (field_index n s) 0) val.Null

pub picked_values : (ns : List Name) (s : Fields) (row : List Value) → picked (places_in ns s) row ≡ map (λ n. value_of n s row) ns
picked_values ns s row = map_again (λ (k : ℕ). get_or row k val.Null) (λ n. unwrap_or (field_index n s) 0) ns

-- two functions that are alike at the names
pub map_among : {A : Type 0} (f g : Name → A) (ns : List Name) → ((n : Name) → is_among n ns ≡ true → f n ≡ g n) → map f ns ≡ map g ns
map_among f g [] same = refl
map_among f g (n ∷ ns) same =
    let p = same n (or_first (bytes_eq n n) (is_among n ns) ((bytes_decides n n).1 refl)) in
    let q = map_among f g ns (λ m h. same m (or_last (bytes_eq m n) (is_among m ns) h)) in
    λ i. p i ∷ q i

-- what stands at the place of a name, where the name stands
pub record Found (n : Name) (s : Fields) (vs : List Value) (v : Value) : Type 0 where
  pub place : ℕ
  pub is_there : field_index n s ≡ Some place
  pub value : get_or vs place val.Null ≡ v

pub found_value : (n : Name) (s : Fields) (vs : List Value) (v : Value) → Found n s vs v → value_of n s vs ≡ v
found_value n s vs v h = ap (λ (o : Option ℕ). get_or vs (unwrap_or o 0) val.Null) h.is_there ∙ h.value

found_first : (n : Name) (x : Name × DataType) (s : Fields) (u : Value) (vs : List Value) → bytes_eq n x.0 ≡ true → Found n (x ∷ s) (u ∷ vs) u
found_first n x s u vs q = record { place = 0; is_there = first-place n x s q; value = refl }

found_next : (n : Name) (x : Name × DataType) (s : Fields) (u v : Value) (vs : List Value) → bytes_eq n x.0 ≡ false → Found n s vs v → Found n (x ∷ s) (u ∷ vs) v
found_next n x s u v vs q h = record { place = suc h.place; is_there = next-place n x s h.place q h.is_there; value = h.value }

-- values that are given by names
pub found_named : (f : Name → Value) (n : Name) (s : Fields) → is_among n (names_of s) ≡ true → Found n s (map f (names_of s)) (f n)
found_named f n [] h = cc
found_named f n (x ∷ s) h = by (bytes_eq n x.0) refl h (found_named f n s)
  where
    by : (b : Bool) → bytes_eq n x.0 ≡ b → (b || is_among n (names_of s)) ≡ true → (is_among n (names_of s) ≡ true → Found n s (map f (names_of s)) (f n)) → Found n (x ∷ s) (f x.0 ∷ map f (names_of s)) (f n)
    by true q h rest =
        let k = found_first n x s (f x.0) (map f (names_of s)) q in
        record { place = k.place; is_there = k.is_there; value = k.value ∙ ap f (sym ((bytes_decides n x.0).0 q)) }
    by false q h rest = found_next n x s (f x.0) (f n) (map f (names_of s)) q (rest h)

-- of two schemas one after the other: in the first, or else in the second
pub found_left : (n : Name) (s t : Fields) (vs us : List Value) (v : Value) → length vs ≡ length s → is_among n (names_of s) ≡ true → Found n s vs v → Found n (s ++ t) (vs ++ us) v
found_left n [] t vs us v l h k = cc
found_left n (x ∷ s) t [] us v l h k = absurd (omega (arith, l))
found_left n (x ∷ s) t (w ∷ vs) us v l h k = by (bytes_eq n x.0) refl h (found_left n s t vs us v (omega (arith, l)))
  where
    by : (b : Bool) → bytes_eq n x.0 ≡ b → (b || is_among n (names_of s)) ≡ true → (is_among n (names_of s) ≡ true → Found n s vs v → Found n (s ++ t) (vs ++ us) v) → Found n (x ∷ (s ++ t)) (w ∷ (vs ++ us)) v
    by true q h rest =
        let is : w ≡ v = sym (found_value n (x ∷ s) (w ∷ vs) w (found_first n x s w vs q)) ∙ found_value n (x ∷ s) (w ∷ vs) v k in
        record { place = 0; is_there = first-place n x (s ++ t) q; value = is }
    by false q h rest = found_next n x (s ++ t) w v (vs ++ us) q (rest h (within (found_named (λ m. val.Null) n s h)))
      where
        within : Found n s (map (λ m. val.Null) (names_of s)) val.Null → Found n s vs v
        within r =
            let here = next-place n x s r.place q r.is_there in
            record { place = r.place; is_there = r.is_there; value = ap (λ (o : Option ℕ). get_or (w ∷ vs) (unwrap_or o 0) val.Null) (sym here) ∙ found_value n (x ∷ s) (w ∷ vs) v k }

pub found_right : (n : Name) (s t : Fields) (vs us : List Value) (v : Value) → length vs ≡ length s → (is_among n (names_of s) ≡ true → ⊥) → Found n t us v → Found n (s ++ t) (vs ++ us) v
found_right n [] t [] us v l none k = k
found_right n [] t (w ∷ vs) us v l none k = absurd (omega (arith, l))
found_right n (x ∷ s) t [] us v l none k = absurd (omega (arith, l))
found_right n (x ∷ s) t (w ∷ vs) us v l none k =
    by (bytes_eq n x.0) refl (found_right n s t vs us v (omega (arith, l)) (λ h. none (or_last (bytes_eq n x.0) (is_among n (names_of s)) h)) k)
  where
    by : (b : Bool) → bytes_eq n x.0 ≡ b → Found n (s ++ t) (vs ++ us) v → Found n (x ∷ (s ++ t)) (w ∷ (vs ++ us)) v
    by true q rest = absurd (none (or_first (bytes_eq n x.0) (is_among n (names_of s)) q))
    by false q rest = found_next n x (s ++ t) w v (vs ++ us) q rest

-- values that are given by names, where some of these get a suffix: what is found is the value of one that is named so
pub found_renamed : (suffix : Name) (taken : List Name) (f : Name → Value) (n m : Name) (s : Fields) → is_among m (names_of s) ≡ true → renamed suffix taken m ≡ n → ((k : Name) → is_among k (names_of s) ≡ true → renamed suffix taken k ≡ n → f k ≡ f m)
    → Found n (suffixed suffix taken s) (map f (names_of s)) (f m)
found_renamed suffix taken f n m [] h e same = cc
found_renamed suffix taken f n m (x ∷ s) h e same =
    by (bytes_eq n (renamed suffix taken x.0)) refl (bytes_eq m x.0) refl h (λ h. found_renamed suffix taken f n m s h e (λ k q. same k (or_last (bytes_eq k x.0) (is_among k (names_of s)) q)))
  where
    here : bytes_eq n (renamed suffix taken x.0) ≡ true → Found n ((renamed suffix taken x.0, x.1) ∷ suffixed suffix taken s) (f x.0 ∷ map f (names_of s)) (f m)
    here q =
        let r = found_first n (renamed suffix taken x.0, x.1) (suffixed suffix taken s) (f x.0) (map f (names_of s)) q in
        let is = same x.0 (or_first (bytes_eq x.0 x.0) (is_among x.0 (names_of s)) ((bytes_decides x.0 x.0).1 refl)) (sym ((bytes_decides n (renamed suffix taken x.0)).0 q)) in
        record { place = r.place; is_there = r.is_there; value = r.value ∙ is }

    by : (a : Bool) → bytes_eq n (renamed suffix taken x.0) ≡ a → (b : Bool) → bytes_eq m x.0 ≡ b → (b || is_among m (names_of s)) ≡ true → (is_among m (names_of s) ≡ true → Found n (suffixed suffix taken s) (map f (names_of s)) (f m)) → Found n ((renamed suffix taken x.0, x.1) ∷ suffixed suffix taken s) (f x.0 ∷ map f (names_of s)) (f m)
    by true q b p h rest = here q
    by false q true p h rest =
        let is : n ≡ renamed suffix taken x.0 = sym e ∙ ap (renamed suffix taken) ((bytes_decides m x.0).0 p) in
        here ((bytes_decides n (renamed suffix taken x.0)).1 is)
    by false q false p h rest = found_next n (renamed suffix taken x.0, x.1) (suffixed suffix taken s) (f x.0) (f m) (map f (names_of s)) q (rest h)
