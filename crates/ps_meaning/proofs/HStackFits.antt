-- The columns of an hstack: each output field has the value of its expression, or else of its column.
use Rattle.std.proofs.Common.{◌≡◌, ℕ, suc, ◌+◌, ◌<◌, List, [], ◌∷◌, ◌++◌, length, get_or, refl, sym, ap, subst, ◌∙◌, arith, length-append}
use Rattle.std.proofs.Math.Seq.{get_or-append_seam}
use Rattle.std.proofs.lemmas.List.{length-map}
use Rattle.std.proofs.lemmas.Slice.Eq.{bytes_eq-Decides}
use Rattle.std.specs.Prelude.{Bool, true, false, not, ◌&&◌, ◌||◌, if◌then◌else◌, Option, Some, None, unwrap_or}
use Rattle.std.specs.List.{AllByRecursion}
use Rattle.std.specs.Str.{bytes_eq}
use Rattle.ps_frame.proofs.Lists.{and_both, both}
use Rattle.ps_frame.specs.Frames.{has_distinct_names, has_name, kinds_of}
use Rattle.ps_frame.specs.Tables.{Fields, field_index, field_kind}
use Rattle.ps_frame.specs.Typing.{kind_over}
use Rattle.ps_frame.specs.declared.value.DataType.{DataType}
use Rattle.ps_frame.specs.declared.value.DataType.TheVariants as kind
use Rattle.ps_frame.specs.declared.value.Value.{Value}
use Rattle.ps_frame.specs.declared.value.Value.TheVariants as val
use Rattle.ps_meaning.specs.Cases.{hstack_place, hstack_places}
use Rattle.ps_meaning.specs.Distinct.{picked}
use Rattle.ps_meaning.specs.Laws.{FitsKinds}
use Rattle.ps_meaning.specs.StepRefusals.{repeats}
use Rattle.ps_meaning.specs.Schemas.{both as both_of, expr_names, fields_of, is_among, names_of, put_field, put_fields}
use Rattle.ps_meaning.specs.Steps.{Name, Named}
use Rattle.ps_meaning.proofs.Begins.{or-left, or-right}
use Rattle.ps_meaning.proofs.EvalFits.{first-place, next-place, stands}
use Rattle.ps_meaning.proofs.Fits.{Fits}
use Rattle.ps_meaning.proofs.RowFits.{get-fits}
use Rattle.ps_meaning.proofs.StepFits.{apart, not-true, or-parts, own-kinds, same-name}

append-back : {A : Type 0} (xs ys zs : List A) → (xs ++ ys) ++ zs ≡ xs ++ (ys ++ zs)
append-back [] ys zs = refl
append-back (x ∷ xs) ys zs = ap (λ ws. x ∷ ws) (append-back xs ys zs)

-- the fields of expressions, one by one
fields-step : {P : Type 0} (e : Named) (es : List Named) (s fs : Fields) → fields_of (e ∷ es) s ≡ Some fs → ((k : DataType) (rest : Fields) → fields_of es s ≡ Some rest → fs ≡ (e.0, k) ∷ rest → P) → P
fields-step {P} e es s fs q use_them = by (kind_over s e.1) (fields_of es s) refl q
  where
    by : (o : Option DataType) (r : Option Fields) → fields_of es s ≡ r → both_of (λ (k : DataType) (fs : Fields). (e.0, k) ∷ fs) o r ≡ Some fs → P
    by None r h q = cc
    by (Some k) None h q = cc
    by (Some k) (Some rest) h q = use_them k rest h cc

-- a name that an expression has: the value of the first such expression
placed-first : (ks : List DataType) (k : DataType) (more : List DataType) (row : List Value) → FitsKinds (ks ++ k ∷ more) row → Fits k (get_or row (length ks) val.Null)
placed-first ks k more row f =
    let long : length ks < length (ks ++ k ∷ more) = (let l = length-append ks (k ∷ more) in omega arith) in
    subst (λ j. Fits j (get_or row (length ks) val.Null)) (get_or-append_seam ks k more kind.Boolean) (get-fits (ks ++ k ∷ more) row (length ks) kind.Boolean long f)

placed : (s : Fields) (es : List Named) (fs : Fields) (ks : List DataType) (n : Name) (p : ℕ) (k : DataType) → fields_of es s ≡ Some fs → field_kind n fs ≡ Some k → (row : List Value) → FitsKinds (ks ++ kinds_of fs) row
    → Fits k (get_or row (hstack_place (length ks) es n p) val.Null)
placed s [] fs ks n p k q h row f = let none : fs ≡ [] = cc in let h' : field_kind n [] ≡ Some k = ap (field_kind n) (sym none) ∙ h in cc
placed s (e ∷ es) fs ks n p k q h row f =
    fields-step e es s fs q (λ j rest r is.
    by j rest (bytes_eq n e.0) refl (ap (field_kind n) (sym is) ∙ h) (subst (λ (fs : Fields). FitsKinds (ks ++ kinds_of fs) row) is f)
    (λ h' f'. placed s es rest (ks ++ j ∷ []) n p k r h' row f'))
  where
    by : (j : DataType) (rest : Fields) (b : Bool) → bytes_eq n e.0 ≡ b → (if bytes_eq n e.0 then Some j else field_kind n rest) ≡ Some k → FitsKinds (ks ++ j ∷ kinds_of rest) row
        → (field_kind n rest ≡ Some k → FitsKinds ((ks ++ j ∷ []) ++ kinds_of rest) row → Fits k (get_or row (hstack_place (length (ks ++ j ∷ [])) es n p) val.Null))
        → Fits k (get_or row (hstack_place (length ks) (e ∷ es) n p) val.Null)
    by j rest true b h f later =
        let is : j ≡ k = (let h' : (if true then Some j else field_kind n rest) ≡ Some k = ap (λ b. if b then Some j else field_kind n rest) (sym b) ∙ h in cc) in
        let here : (if bytes_eq n e.0 then length ks else hstack_place (length ks + 1) es n p) ≡ length ks = ap (λ b. if b then length ks else hstack_place (length ks + 1) es n p) b in
        subst (λ i. Fits k (get_or row i val.Null)) (sym here) (subst (λ k. Fits k (get_or row (length ks) val.Null)) is (placed-first ks j (kinds_of rest) row f))
    by j rest false b h f later =
        let h' : field_kind n rest ≡ Some k = ap (λ b. if b then Some j else field_kind n rest) (sym b) ∙ h in
        let there : (if bytes_eq n e.0 then length ks else hstack_place (length ks + 1) es n p) ≡ hstack_place (length ks + 1) es n p = ap (λ b. if b then length ks else hstack_place (length ks + 1) es n p) b in
        let len : length (ks ++ j ∷ []) ≡ length ks + 1 = length-append ks (j ∷ []) in
        let v = later h' (subst (λ js. FitsKinds js row) (sym (append-back ks (j ∷ []) (kinds_of rest))) f) in
        subst (λ i. Fits k (get_or row i val.Null)) (sym there) (subst (λ m. Fits k (get_or row (hstack_place m es n p) val.Null)) len v)

-- a name that no expression has: the place of the column
unplaced : (s : Fields) (es : List Named) (fs : Fields) (w : ℕ) (n : Name) (p : ℕ) → fields_of es s ≡ Some fs → has_name n fs ≡ false → hstack_place w es n p ≡ p
unplaced s [] fs w n p q h = refl
unplaced s (e ∷ es) fs w n p q h =
    fields-step e es s fs q (λ j rest r is.
    let parts = or-parts (bytes_eq n e.0) (has_name n rest) (ap (has_name n) (sym is) ∙ h) in
    ap (λ b. if b then w else hstack_place (w + 1) es n p) parts.0 ∙ unplaced s es rest (w + 1) n p r parts.1)

-- the value of a column, in a longer row
long : (name : Name) (s : Fields) (k : DataType) → field_kind name s ≡ Some k → (js : List DataType) (row : List Value) → FitsKinds (kinds_of s ++ js) row → (i : ℕ) → field_index name s ≡ Some i → Fits k (get_or row i val.Null)
long name [] k e js row f i q = cc
long name (g ∷ gs) k e js [] f i q = absurd f
long name (g ∷ gs) k e js (v ∷ vs) f i q = by (bytes_eq name g.0) refl (λ e' j r. long name gs k e' js vs f.1 j r)
  where
    by : (b : Bool) → bytes_eq name g.0 ≡ b → (field_kind name gs ≡ Some k → (j : ℕ) → field_index name gs ≡ Some j → Fits k (get_or vs j val.Null)) → Fits k (get_or (v ∷ vs) i val.Null)
    by true b later =
        let first = first-place name g gs b in
        let at_zero : 0 ≡ i = cc in
        let is : g.1 ≡ k = (let e' : (if true then Some g.1 else field_kind name gs) ≡ Some k = ap (λ b. if b then Some g.1 else field_kind name gs) (sym b) ∙ e in cc) in
        subst (λ i. Fits k (get_or (v ∷ vs) i val.Null)) at_zero (subst (λ k. Fits k v) is f.0)
    by false b later =
        let e' : field_kind name gs ≡ Some k = ap (λ b. if b then Some g.1 else field_kind name gs) (sym b) ∙ e in
        let st = stands name gs k e' in
        let next = next-place name g gs st.0 b st.1 in
        let at_next : suc st.0 ≡ i = cc in
        subst (λ i. Fits k (get_or (v ∷ vs) i val.Null)) at_next (later e' st.0 st.1)

-- Fields that are put in: what holds of each, and of the old ones whose names aren't among theirs, holds of all.
has-put : (n : Name) (f : Name × DataType) (s : Fields) → has_name n s ≡ false → bytes_eq n f.0 ≡ false → has_name n (put_field f s) ≡ false
has-put n f [] h a = ap (λ b. b || false) a
has-put n f (g ∷ gs) h a =
    let parts = or-parts (bytes_eq n g.0) (has_name n gs) h in
    by (bytes_eq f.0 g.0) parts.0 parts.1 (has-put n f gs parts.1 a)
  where
    by : (b : Bool) → bytes_eq n g.0 ≡ false → has_name n gs ≡ false → has_name n (put_field f gs) ≡ false → has_name n (if b then f ∷ gs else g ∷ put_field f gs) ≡ false
    by true p q r = ap (λ b. b || has_name n gs) a ∙ q
    by false p q r = ap (λ b. b || has_name n (put_field f gs)) p ∙ r

put-distinct : (f : Name × DataType) (s : Fields) → has_distinct_names s ≡ true → has_distinct_names (put_field f s) ≡ true
put-distinct f [] d = refl
put-distinct f (g ∷ gs) d =
    let parts = both (not (has_name g.0 gs)) (has_distinct_names gs) d in
    by (bytes_eq f.0 g.0) refl (not-true (has_name g.0 gs) parts.0) parts.1 (put-distinct f gs parts.1)
  where
    by : (b : Bool) → bytes_eq f.0 g.0 ≡ b → has_name g.0 gs ≡ false → has_distinct_names gs ≡ true → has_distinct_names (put_field f gs) ≡ true → has_distinct_names (if b then f ∷ gs else g ∷ put_field f gs) ≡ true
    by true b away d r =
        let same : f.0 ≡ g.0 = (bytes_eq-Decides f.0 g.0).0 b in
        and_both (not (has_name f.0 gs)) (has_distinct_names gs) (ap not (ap (λ n. has_name n gs) same ∙ away)) d
    by false b away d r = and_both (not (has_name g.0 (put_field f gs))) (has_distinct_names (put_field f gs)) (ap not (has-put g.0 f gs away (apart f.0 g.0 b))) r

module _ (Q : Name × DataType → Type 0) where
  abbrev Others : Fields → Fields → Type 0
  Others fs s = AllByRecursion (λ (g : Name × DataType). has_name g.0 fs ≡ false → Q g) s

  weaker : (f : Name × DataType) (fs : Fields) (g : Name × DataType) → bytes_eq f.0 g.0 ≡ false → (has_name g.0 (f ∷ fs) ≡ false → Q g) → has_name g.0 fs ≡ false → Q g
  weaker f fs g a h q = h (ap (λ b. b || has_name g.0 fs) (apart f.0 g.0 a) ∙ q)

  rest-others : (f : Name × DataType) (fs gs : Fields) → has_name f.0 gs ≡ false → Others (f ∷ fs) gs → Others fs gs
  rest-others f fs [] a o = tt
  rest-others f fs (g ∷ gs) a o = let parts = or-parts (bytes_eq f.0 g.0) (has_name f.0 gs) a in (weaker f fs g parts.0 o.0, rest-others f fs gs parts.1 o.1)

  put-others : (f : Name × DataType) (fs s : Fields) → Q f → has_distinct_names s ≡ true → Others (f ∷ fs) s → Others fs (put_field f s)
  put-others f fs [] q d o = ((λ h. q), tt)
  put-others f fs (g ∷ gs) q d o =
      let parts = both (not (has_name g.0 gs)) (has_distinct_names gs) d in
      by (bytes_eq f.0 g.0) refl (not-true (has_name g.0 gs) parts.0) (put-others f fs gs q parts.1 o.1)
    where
      by : (b : Bool) → bytes_eq f.0 g.0 ≡ b → has_name g.0 gs ≡ false → Others fs (put_field f gs) → Others fs (if b then f ∷ gs else g ∷ put_field f gs)
      by true b away r = let same : f.0 ≡ g.0 = (bytes_eq-Decides f.0 g.0).0 b in ((λ h. q), rest-others f fs gs (ap (λ n. has_name n gs) same ∙ away) o.1)
      by false b away r = (weaker f fs g b o.0, r)

  none-others : (s : Fields) → Others [] s → AllByRecursion Q s
  none-others [] o = tt
  none-others (g ∷ gs) o = (o.0 refl, none-others gs o.1)

  pub put-all : (s fs : Fields) → AllByRecursion Q fs → has_distinct_names s ≡ true → Others fs s → AllByRecursion Q (put_fields s fs)
  put-all s [] q d o = none-others s o
  put-all s (f ∷ fs) q d o = put-all (put_field f s) fs q.1 (put-distinct f s d) (put-others f fs s q.0 d o)

-- names that don't repeat
among-is : (n : Name) (fs : Fields) → is_among n (names_of fs) ≡ has_name n fs
among-is n [] = refl
among-is n (f ∷ fs) = ap (λ b. bytes_eq n f.0 || b) (among-is n fs)

pub distinct-from : (fs : Fields) → ((n : Name) → repeats n (names_of fs) ≡ true → ⊥) → has_distinct_names fs ≡ true
distinct-from [] h = refl
distinct-from (f ∷ fs) h =
    by (has_name f.0 fs) refl (distinct-from fs (λ n r. h n (or-right (bytes_eq n f.0 && is_among n (names_of fs)) (repeats n (names_of fs)) r)))
  where
    by : (b : Bool) → has_name f.0 fs ≡ b → has_distinct_names fs ≡ true → (not (has_name f.0 fs) && has_distinct_names fs) ≡ true
    by true q d = absurd (h f.0 (or-left (bytes_eq f.0 f.0 && is_among f.0 (names_of fs)) (repeats f.0 (names_of fs)) (and_both (bytes_eq f.0 f.0) (is_among f.0 (names_of fs)) (same-name f.0) (among-is f.0 fs ∙ q))))
    by false q d = and_both (not (has_name f.0 fs)) (has_distinct_names fs) (ap not q) d

field-names : (s : Fields) (es : List Named) (fs : Fields) → fields_of es s ≡ Some fs → names_of fs ≡ expr_names es
field-names s [] fs q = let is : fs ≡ [] = cc in ap names_of is
field-names s (e ∷ es) fs q = fields-step e es s fs q (λ k rest r is. ap names_of is ∙ ap (λ ns. e.0 ∷ ns) (field-names s es rest r))

all-weaker : {A : Type 0} (P Q : A → Type 0) → ((a : A) → P a → Q a) → (xs : List A) → AllByRecursion P xs → AllByRecursion Q xs
all-weaker P Q each [] p = tt
all-weaker P Q each (x ∷ xs) p = (each x p.0, all-weaker P Q each xs p.1)

-- The output fields of an hstack, over rows of the input's columns and then the expressions'.
module _ (s : Fields) (es : List Named) (fs : Fields) (q : fields_of es s ≡ Some fs) where
  abbrev Placed : Name × DataType → Type 0
  Placed f = (row : List Value) → FitsKinds (kinds_of s ++ kinds_of fs) row → Fits f.1 (get_or row (hstack_place (length s) es f.0 (unwrap_or (field_index f.0 s) 0)) val.Null)

  new-placed : (f : Name × DataType) → field_kind f.0 fs ≡ Some f.1 → Placed f
  new-placed f own row fits =
      subst (λ w. Fits f.1 (get_or row (hstack_place w es f.0 (unwrap_or (field_index f.0 s) 0)) val.Null)) (length-map s (λ field. field.1)) (placed s es fs (kinds_of s) f.0 (unwrap_or (field_index f.0 s) 0) f.1 q own row fits)

  old-placed : (g : Name × DataType) → field_kind g.0 s ≡ Some g.1 → has_name g.0 fs ≡ false → Placed g
  old-placed g own away row fits =
      let st = stands g.0 s g.1 own in
      let place = unplaced s es fs (length s) g.0 (unwrap_or (field_index g.0 s) 0) q away ∙ ap (λ o. unwrap_or o 0) st.1 in
      subst (λ i. Fits g.1 (get_or row i val.Null)) (sym place) (long g.0 s g.1 own (kinds_of fs) row fits st.0 st.1)

  picks-placed : (row : List Value) → FitsKinds (kinds_of s ++ kinds_of fs) row → (out : Fields) → AllByRecursion Placed out → FitsKinds (kinds_of out) (picked (hstack_places (names_of out) es s) row)
  picks-placed row fits [] all = tt
  picks-placed row fits (f ∷ out) all = (all.0 row fits, picks-placed row fits out all.1)

  pub hstack-row : has_distinct_names s ≡ true → ((n : Name) → repeats n (expr_names es) ≡ true → ⊥) → (row : List Value) → FitsKinds (kinds_of s ++ kinds_of fs) row → FitsKinds (kinds_of (put_fields s fs)) (picked (hstack_places (names_of (put_fields s fs)) es s) row)
  hstack-row d once row fits =
      let names = field-names s es fs q in
      let new = own-kinds fs (distinct-from fs (λ n r. once n (ap (repeats n) (sym names) ∙ r))) in
      picks-placed row fits (put_fields s fs)
      (put-all Placed s fs (all-weaker (λ (f : Name × DataType). field_kind f.0 fs ≡ Some f.1) Placed new-placed fs new) d
      (all-weaker (λ (g : Name × DataType). field_kind g.0 s ≡ Some g.1) (λ g. has_name g.0 fs ≡ false → Placed g) old-placed s (own-kinds s d)))
