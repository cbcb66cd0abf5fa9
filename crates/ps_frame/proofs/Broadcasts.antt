-- Columns that are repeated, set side by side or empty.
use Rattle.std.proofs.Common.{◌≡◌, ◌==◌, ℕ, zero, suc, ◌<◌, ◌≤◌, min, List, [], ◌∷◌, ◌++◌, length, take, replicate, get_or, Bool, true, false, refl, sym, ◌∙◌, ap, subst, inl, inr, arith}
use Rattle.std.specs.Prelude.{◌≢◌, ◌⊎◌, map, if◌then◌else◌, option_map, slice_get, Some}
use Rattle.std.proofs.Math.ListN.{length-replicate}
use Rattle.std.proofs.lemmas.Bool.{eq-eqb, ne_eqb}
use Rattle.std.proofs.lemmas.List.{map-append}
use Rattle.std.proofs.lemmas.Option.{same_Some}
use Rattle.ps_frame.proofs.Rows.{length-rows_of}
use Rattle.ps_frame.specs.Aggregates.{max_rows}
use Rattle.ps_frame.specs.Frames.{AllOfHeight, CanBroadcast, HasKinds, IsFrame, all_beside, broadcast_height, broadcast_to, column_values, empty_of, kinds_of}
use Rattle.ps_frame.specs.Tables.{Fields, beside, rows_of}
use Rattle.ps_frame.specs.Series.{Series}
use Rattle.ps_frame.specs.declared.value.DataType.{DataType}
use Rattle.ps_frame.specs.declared.value.Value.{Value}
use Rattle.ps_frame.specs.declared.value.Value.TheVariants as val

if-eq : (n m : ℕ) (b : Bool) → b ≡ true → (if b then n else m) ≡ n
if-eq n m true e = refl
if-eq n m false e = cc

if-ne : (n m : ℕ) (b : Bool) → b ≡ false → (if b then n else m) ≡ m
if-ne n m true e = cc
if-ne n m false e = refl

-- the height of the first column whose length isn't 1
pub broadcast_height-first : (cs : List Series) (i : ℕ) (c : Series) → AllOfHeight 1 (take i cs) → i < length cs → c ≡ get_or cs i c → length c.values ≢ 1 → broadcast_height cs ≡ length c.values
broadcast_height-first [] i c p h at_c other = absurd (omega arith)
broadcast_height-first (x ∷ []) zero c p h at_c other = ap (λ (t : Series). length t.values) (sym at_c)
broadcast_height-first (x ∷ []) (suc i) c p h at_c other = absurd (omega arith)
broadcast_height-first (x ∷ y ∷ cs) zero c p h at_c other =
    let e = ap (λ (t : Series). length t.values) at_c in
    if-ne (broadcast_height (y ∷ cs)) (length x.values) (length x.values == 1) (ne_eqb (length x.values) 1 (λ one. other (e ∙ one))) ∙ sym e
broadcast_height-first (x ∷ y ∷ cs) (suc i) c p h at_c other =
    if-eq (broadcast_height (y ∷ cs)) (length x.values) (length x.values == 1) (eq-eqb (length x.values) 1 p.0) ∙ broadcast_height-first (y ∷ cs) i c p.1 (omega arith) at_c other

-- and 1, or 0 without columns, where there is no such column
pub broadcast_height-ones : (cs : List Series) → AllOfHeight 1 cs → broadcast_height cs ≡ min (length cs) 1
broadcast_height-ones [] p = refl
broadcast_height-ones (x ∷ []) p = p.0
broadcast_height-ones (x ∷ y ∷ cs) p =
    let rest = broadcast_height-ones (y ∷ cs) p.1 in
    if-eq (broadcast_height (y ∷ cs)) (length x.values) (length x.values == 1) (eq-eqb (length x.values) 1 p.0) ∙ rest ∙ omega arith

-- columns at one height
kinds-broadcast : (h : ℕ) (cs : List Series) → map (λ (c : Series). c.kind) (map (broadcast_to h) cs) ≡ map (λ (c : Series). c.kind) cs
kinds-broadcast h [] = refl
kinds-broadcast h (c ∷ cs) = ap (λ ks. c.kind ∷ ks) (kinds-broadcast h cs)

length-broadcast : (h : ℕ) (vs : List Value) (b : Bool) → (length vs == 1) ≡ b → (length vs ≡ h) ⊎ (length vs ≡ 1) → length (if b then replicate h (get_or vs 0 val.Null) else vs) ≡ h
length-broadcast h vs true e p = length-replicate h (get_or vs 0 val.Null)
length-broadcast h vs false e (inl p) = p
length-broadcast h vs false e (inr p) = let yes = eq-eqb (length vs) 1 p in cc

heights-broadcast : (h : ℕ) (cs : List Series) → CanBroadcast h cs → AllOfHeight h (map (broadcast_to h) cs)
heights-broadcast h [] p = tt
heights-broadcast h (c ∷ cs) p = (length-broadcast h c.values (length c.values == 1) refl p.0, heights-broadcast h cs p.1)

pub frame-broadcast : (schema : Fields) (cs : List Series) (h : ℕ) → HasKinds schema cs → CanBroadcast h cs → h ≤ max_rows → IsFrame schema (map (broadcast_to h) cs) h
frame-broadcast schema cs h kinds can small = record { kinds = kinds-broadcast h cs ∙ kinds; heights = heights-broadcast h cs can; small = small }

-- columns without values
pub empties-step : (schema : Fields) (i : ℕ) (k : DataType) → option_map (λ (f : List ℕ × DataType). f.1) (slice_get schema i) ≡ Some k
    → map empty_of (take (suc i) schema) ≡ map empty_of (take i schema) ++ record { kind = k; values = [] } ∷ []
empties-step [] i k e = cc
empties-step (f ∷ fs) zero k e = ap (λ (j : DataType). let c : Series = record { kind = j; values = [] } in c ∷ []) (same_Some f.1 k e)
empties-step (f ∷ fs) (suc i) k e = ap (λ cs. empty_of f ∷ cs) (empties-step fs i k e)

kinds-empty : (schema : Fields) → HasKinds schema (map empty_of schema)
kinds-empty [] = refl
kinds-empty (f ∷ fs) = ap (λ ks. f.1 ∷ ks) (kinds-empty fs)

heights-empty : (schema : Fields) → AllOfHeight 0 (map empty_of schema)
heights-empty [] = tt
heights-empty (f ∷ fs) = (refl, heights-empty fs)

pub frame-empty : (schema : Fields) → IsFrame schema (map empty_of schema) 0
frame-empty schema = record { kinds = kinds-empty schema; heights = heights-empty schema; small = omega arith }

pub rows_of-empty : (schema : Fields) → rows_of 0 (column_values (map empty_of schema)) ≡ []
rows_of-empty [] = refl
rows_of-empty (f ∷ fs) = refl

-- columns side by side
kinds-join : (schema others : Fields) (cs ds : List Series) → HasKinds schema cs → HasKinds others ds → HasKinds (schema ++ others) (cs ++ ds)
kinds-join schema others cs ds e g =
    map-append (λ (c : Series). c.kind) cs ds ∙ ap (λ ks. ks ++ map (λ (c : Series). c.kind) ds) e ∙ ap (λ ks. kinds_of schema ++ ks) g ∙ sym (map-append (λ (f : List ℕ × DataType). f.1) schema others)

heights-join : (h : ℕ) (cs ds : List Series) → AllOfHeight h cs → AllOfHeight h ds → AllOfHeight h (cs ++ ds)
heights-join h [] ds p q = q
heights-join h (c ∷ cs) ds p q = (p.0, heights-join h cs ds p.1 q)

pub frame-join : (schema others : Fields) (cs ds : List Series) (g h : ℕ) → IsFrame schema cs g → IsFrame others ds h → g ≡ h → IsFrame (schema ++ others) (cs ++ ds) g
frame-join schema others cs ds g h a b e =
    record { kinds = kinds-join schema others cs ds a.kinds b.kinds; heights = heights-join g cs ds a.heights (subst (λ (n : ℕ). AllOfHeight n ds) (sym e) b.heights); small = a.small }

module _ {A : Type 0} where
  all_beside-none : (h : ℕ) (rows : List (List A)) → length rows ≡ h → all_beside (replicate h []) rows ≡ rows
  all_beside-none zero [] e = refl
  all_beside-none zero (r ∷ rows) e = absurd (omega arith)
  all_beside-none (suc h) [] e = absurd (omega arith)
  all_beside-none (suc h) (r ∷ rows) e = ap (λ rs. r ∷ rs) (all_beside-none h rows (omega arith))

  all_beside-beside : (c : List A) (rows others : List (List A)) → all_beside (beside c rows) others ≡ beside c (all_beside rows others)
  all_beside-beside [] rows others = refl
  all_beside-beside (x ∷ c) [] others = refl
  all_beside-beside (x ∷ c) (r ∷ rows) [] = refl
  all_beside-beside (x ∷ c) (r ∷ rows) (o ∷ others) = ap (λ rs. (x ∷ (r ++ o)) ∷ rs) (all_beside-beside c rows others)

rows_of-same : (h : ℕ) (cs ds : List Series) → AllOfHeight h ds → rows_of h (column_values (cs ++ ds)) ≡ all_beside (rows_of h (column_values cs)) (rows_of h (column_values ds))
rows_of-same h [] ds q = sym (all_beside-none h (rows_of h (column_values ds)) (length-rows_of h ds q))
rows_of-same h (c ∷ cs) ds q = ap (beside c.values) (rows_of-same h cs ds q) ∙ sym (all_beside-beside c.values (rows_of h (column_values cs)) (rows_of h (column_values ds)))

pub rows_of-join : (g h : ℕ) (cs ds : List Series) → AllOfHeight h ds → g ≡ h → rows_of g (column_values (cs ++ ds)) ≡ all_beside (rows_of g (column_values cs)) (rows_of h (column_values ds))
rows_of-join g h cs ds q e =
    rows_of-same g cs ds (subst (λ (n : ℕ). AllOfHeight n ds) (sym e) q) ∙ ap (λ (n : ℕ). all_beside (rows_of g (column_values cs)) (rows_of n (column_values ds))) e
