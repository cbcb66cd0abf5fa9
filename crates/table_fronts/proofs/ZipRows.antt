-- The rows of a zip of tables, one by one, and how many there are.
use Rattle.std.proofs.Common.{◌≡◌, ◌≢◌, ℕ, zero, suc, ◌<◌, ◌≤◌, ◌+◌, ◌⊎◌, Bool, true, false, cond, List, [], ◌∷◌, ◌++◌, length, take, drop, Some, min, max, refl, sym, ap, subst, ◌∙◌, inl, inr, arith}
use Rattle.std.specs.Prelude.{Contains, filter, flat_map, fold, get_or, map, not, option_map, slice_get, take_while, ◌&&◌, ◌||◌, ◌==◌, if◌then◌else◌, ⊤}
use Rattle.std.specs.List.{AllByRecursion, list_all, list_any}
use Rattle.std.proofs.Math.Nat.{le-max_left, le-max_right, le-min, max-le}
use Rattle.std.proofs.lemmas.List.{length-map, length-take}
use Rattle.std.proofs.lemmas.List.Sums.{take_while-cons}
use Rattle.std.proofs.lemmas.Option.{slice_get-map}
use Rattle.ps_frame.specs.Causes.{Cell, Column, cell_causes, cell_values, is_empty, is_ended, value}
use Rattle.ps_frame.specs.Tables.{Row, Table, column_at, columns_of, values_at}
use Rattle.ps_frame.specs.Zip.{Extent, all_same, below, breaks_shape, broadcasts, cell_in_row, ended_lengths, ends_early, extent_of, extents, greatest, is_faulty_row, least_or, lengths_where, open_lengths, outgrows, row_causes, rows_before_fault, unseen_causes, zip_length, zip_rows, zipped}
use Rattle.ps_frame.specs.declared.value.Value.{Value}
use Rattle.ps_frame.specs.declared.value.Value.TheVariants as val
use Rattle.ps_meaning.specs.Cases.{all_columns}
use Rattle.world_claims.proofs.Steps.{map_map}
use Rattle.world_facts.proofs.OpeningFacts.{map_append}
use Rattle.ps_frame.proofs.Gathers.{length-below}
use Rattle.world_facts.proofs.Slots.{at_before, at_end}
use Rattle.world_laws.proofs.InOrder.{contains_cases, contains_first, contains_later, none_in_nil}
use Rattle.family_pipes.proofs.Inputs.{none_past, same_at, take_at}

map_same : {A B : Type 0} (f g : A → B) (xs : List A) → ((x : A) → f x ≡ g x) → map f xs ≡ map g xs
map_same f g [] h = refl
map_same f g (x ∷ xs) h = let a = h x in let r = map_same f g xs h in λ i. a i ∷ r i

-- THE ROWS
-- the extent of a table's columns
abbrev pub extent : Table → Extent
extent t = record { ended = not (is_empty t.broken); len = length t.rows }

extent_is : (j : ℕ) (t : Table) → extent_of (column_at j t) ≡ extent t
extent_is j t =
    let long : length (map value (values_at j t.rows)) ≡ length t.rows = length-map (values_at j t.rows) value ∙ length-map t.rows (λ row. get_or row j val.Null) in
    λ i. record { ended = not (is_empty t.broken); len = long i }

cell_at : (j : ℕ) (rows : List Row) (i : ℕ) → get_or (map value (values_at j rows)) i (value val.Null) ≡ value (get_or (get_or rows i []) j val.Null)
cell_at j [] i = refl
cell_at j (r ∷ rows) zero = refl
cell_at j (r ∷ rows) (suc i) = cell_at j rows i

module _ (extend : Bool) where
  -- the row that a table gives to row i of the zip
  abbrev pub place_in : ℕ → Table → ℕ
  place_in i t = if broadcasts extend (extent t) then 0 else i

  abbrev pub row_of : ℕ → Table → Row
  row_of i t = map (λ j. get_or (get_or t.rows (place_in i t) []) j val.Null) (below (length t.schema))

  abbrev pub zip_row : List Table → ℕ → Row
  zip_row ts i = flat_map (row_of i) ts

  cells_of : (i : ℕ) (t : Table) → map (cell_in_row extend i) (columns_of t) ≡ map value (row_of i t)
  cells_of i t =
      map_map (λ j. column_at j t) (cell_in_row extend i) (below (length t.schema))
      ∙ map_same (λ j. cell_in_row extend i (column_at j t)) (λ j. value (get_or (get_or t.rows (place_in i t) []) j val.Null)) (below (length t.schema))
      (λ j. ap (λ e. get_or (map value (values_at j t.rows)) (if broadcasts extend e then 0 else i) (value val.Null)) (extent_is j t) ∙ cell_at j t.rows (place_in i t))
      ∙ sym (map_map (λ j. get_or (get_or t.rows (place_in i t) []) j val.Null) value (below (length t.schema)))

  cells_in : (i : ℕ) (ts : List Table) → map (cell_in_row extend i) (all_columns ts) ≡ map value (zip_row ts i)
  cells_in i [] = refl
  cells_in i (t ∷ ts) =
      let a = cells_of i t in
      let r = cells_in i ts in
      map_append (cell_in_row extend i) (columns_of t) (all_columns ts) ∙ (λ k. a k ++ r k) ∙ sym (map_append value (row_of i t) (zip_row ts i))

  no_causes : (vs : List Value) → row_causes (map value vs) ≡ []
  no_causes [] = refl
  no_causes (v ∷ vs) = no_causes vs

  values_back : (vs : List Value) → cell_values (map value vs) ≡ vs
  values_back [] = refl
  values_back (v ∷ vs) = ap (λ z. v ∷ z) (values_back vs)

  no_fault : (vs : List Value) → is_faulty_row (map value vs) ≡ false
  no_fault vs = ap (λ cs. not (is_empty cs)) (no_causes vs)

  plain_rows : (r : ℕ → Row) (xs : List ℕ) → rows_before_fault (map (λ i. map value (r i)) xs) ≡ map r xs
  plain_rows r [] = refl
  plain_rows r (x ∷ xs) =
      let first = values_back (r x) in
      let rest = plain_rows r xs in
      let all : List (List Cell) = map (λ i. map value (r i)) xs in
      ap (map cell_values) (take_while-cons (λ row. not (is_faulty_row row)) (map value (r x)) all ∙ ap (λ b. cond (not b) (map value (r x) ∷ take_while (λ row. not (is_faulty_row row)) all) []) (no_fault (r x)))
      ∙ (λ k. first k ∷ rest k)

  no_faulty : (r : ℕ → Row) (xs : List ℕ) → list_any is_faulty_row (map (λ i. map value (r i)) xs) ≡ false
  no_faulty r [] = refl
  no_faulty r (x ∷ xs) = ap (λ b. b || list_any is_faulty_row (map (λ i. map value (r i)) xs)) (no_fault (r x)) ∙ no_faulty r xs

  -- how many rows the zip has
  abbrev pub height : List Table → ℕ
  height ts = zip_length extend (extents (all_columns ts))

  cells_are : (ts : List Table) (n : ℕ) → zip_rows extend n (all_columns ts) ≡ map (λ i. map value (zip_row ts i)) (below n)
  cells_are ts n = map_same (λ i. map (cell_in_row extend i) (all_columns ts)) (λ i. map value (zip_row ts i)) (below n) (λ i. cells_in i ts)

  pub rows_are : (node : ℕ) (ts : List Table) → (zipped extend node (all_columns ts)).rows ≡ map (zip_row ts) (below (height ts))
  rows_are node ts = ap rows_before_fault (cells_are ts (height ts)) ∙ plain_rows (zip_row ts) (below (height ts))

  pub unbroken : (node : ℕ) (ts : List Table) → ends_early extend (all_columns ts) ≡ false → (zipped extend node (all_columns ts)).broken ≡ []
  unbroken node ts e =
      let none : (ends_early extend (all_columns ts) || list_any is_faulty_row (zip_rows extend (height ts) (all_columns ts))) ≡ false =
      ap (λ b. b || list_any is_faulty_row (zip_rows extend (height ts) (all_columns ts))) e ∙ ap (list_any is_faulty_row) (cells_are ts (height ts)) ∙ no_faulty (zip_row ts) (below (height ts)) in
      rw none refl

-- EXTENTS
-- what holds of each table's extent holds of all columns'
each_of_table : (P : Extent → Type 0) (t : Table) (js : List ℕ) → P (extent t) → AllByRecursion P (extents (map (λ j. column_at j t) js))
each_of_table P t [] h = tt
each_of_table P t (j ∷ js) h = (subst P (sym (extent_is j t)) h, each_of_table P t js h)

all_append : {A : Type 0} (P : A → Type 0) (xs ys : List A) → AllByRecursion P xs → AllByRecursion P ys → AllByRecursion P (xs ++ ys)
all_append P [] ys a b = b
all_append P (x ∷ xs) ys a b = (a.0, all_append P xs ys a.1 b)

pub each_extent : (P : Extent → Type 0) (ts : List Table) → ((t : Table) → Contains ts t → P (extent t)) → AllByRecursion P (extents (all_columns ts))
each_extent P [] h = tt
each_extent P (t ∷ ts) h =
    subst (AllByRecursion P) (sym (map_append extent_of (columns_of t) (all_columns ts)))
    (all_append P (extents (columns_of t)) (extents (all_columns ts)) (each_of_table P t (below (length t.schema)) (h t (contains_first t ts))) (each_extent P ts (λ u c. h u (contains_later t u ts c))))

append_first : {A : Type 0} (xs ys : List A) (x : A) → Contains xs x → Contains (xs ++ ys) x
append_first [] ys x c = absurd (none_in_nil x c)
append_first (z ∷ xs) ys x c = by (append_first xs ys x) (contains_cases z x xs c)
  where
    by : (Contains xs x → Contains (xs ++ ys) x) → (z ≡ x) ⊎ Contains xs x → Contains ((z ∷ xs) ++ ys) x
    by rest (inl same) = subst (Contains (z ∷ (xs ++ ys))) same (contains_first z (xs ++ ys))
    by rest (inr later) = contains_later z x (xs ++ ys) (rest later)

append_second : {A : Type 0} (xs ys : List A) (x : A) → Contains ys x → Contains (xs ++ ys) x
append_second [] ys x c = c
append_second (z ∷ xs) ys x c = contains_later z x (xs ++ ys) (append_second xs ys x c)

-- a table with a column has its extent among them
some_of_table : (t : Table) (js : List ℕ) → js ≢ [] → Contains (extents (map (λ j. column_at j t) js)) (extent t)
some_of_table t [] h = absurd (h refl)
some_of_table t (j ∷ js) h = subst (λ e. Contains (e ∷ extents (map (λ j. column_at j t) js)) (extent t)) (sym (extent_is j t)) (contains_first (extent t) (extents (map (λ j. column_at j t) js)))

some_below : (n : ℕ) → 0 < n → below n ≢ []
some_below zero h e = absurd (let never : 0 < 0 = h in omega arith)
some_below (suc n) h e = not_nil (below n) n e
  where
    not_nil : (xs : List ℕ) (x : ℕ) → xs ++ x ∷ [] ≡ [] → ⊥
    not_nil [] x e = cc
    not_nil (y ∷ ys) x e = cc

pub some_extent : (ts : List Table) (t : Table) → Contains ts t → 0 < length t.schema → Contains (extents (all_columns ts)) (extent t)
some_extent [] t c h = absurd (none_in_nil t c)
some_extent (u ∷ ts) t c h = subst (λ es. Contains es (extent t)) (sym (map_append extent_of (columns_of u) (all_columns ts))) (by (some_extent ts t) (contains_cases u t ts c))
  where
    by : (Contains ts t → 0 < length t.schema → Contains (extents (all_columns ts)) (extent t)) → (u ≡ t) ⊎ Contains ts t → Contains (extents (columns_of u) ++ extents (all_columns ts)) (extent t)
    by rest (inl same) = append_first (extents (columns_of u)) (extents (all_columns ts)) (extent t) (subst (λ x. Contains (extents (columns_of x)) (extent t)) (sym same) (some_of_table t (below (length t.schema)) (some_below (length t.schema) h)))
    by rest (inr later) = append_second (extents (columns_of u)) (extents (all_columns ts)) (extent t) (rest later h)

-- LENGTHS
-- those lengths that pass a test
where_all : (P : ℕ → Type 0) (test : Extent → Bool) (es : List Extent) → AllByRecursion (λ (e : Extent). test e ≡ true → P e.len) es → AllByRecursion P (lengths_where test es)
where_all P test [] all = tt
where_all P test (e ∷ es) all = by (where_all P test es all.1) (test e) refl
  where
    by : AllByRecursion P (lengths_where test es) → (b : Bool) → test e ≡ b → AllByRecursion P (map (λ (x : Extent). x.len) (cond b (e ∷ filter test es) (filter test es)))
    by more true q = (all.0 q, more)
    by more false q = more

where_none : (test : Extent → Bool) (es : List Extent) → lengths_where test es ≡ [] → (e : Extent) → Contains es e → test e ≡ false
where_none test [] none e c = absurd (none_in_nil e c)
where_none test (x ∷ es) none e c = by (test x) refl (where_none test es) (contains_cases x e es c)
  where
    by : (b : Bool) → test x ≡ b → (lengths_where test es ≡ [] → (e : Extent) → Contains es e → test e ≡ false) → (x ≡ e) ⊎ Contains es e → test e ≡ false
    by true q rest h = absurd (let never : x.len ∷ lengths_where test es ≡ [] = sym (ap (λ b. map (λ (x : Extent). x.len) (cond b (x ∷ filter test es) (filter test es))) q) ∙ none in cc)
    by false q rest (inl same) = subst (λ z. test z ≡ false) same q
    by false q rest (inr later) = rest (sym (ap (λ b. map (λ (x : Extent). x.len) (cond b (x ∷ filter test es) (filter test es))) q) ∙ none) e later

min_from : (b m : ℕ) (ns : List ℕ) → b ≤ m → AllByRecursion (λ k. b ≤ k) ns → b ≤ fold min m ns
min_from b m [] h all = h
min_from b m (n ∷ ns) h all = min_from b (min m n) ns (le-min h all.0) all.1

min_upto : (b m : ℕ) (ns : List ℕ) → m ≤ b → fold min m ns ≤ b
min_upto b m [] h = h
min_upto b m (n ∷ ns) h = min_upto b (min m n) ns (omega arith)

max_upto : (b m : ℕ) (ns : List ℕ) → m ≤ b → AllByRecursion (λ k. k ≤ b) ns → fold max m ns ≤ b
max_upto b m [] h all = h
max_upto b m (n ∷ ns) h all = max_upto b (max m n) ns (max-le h all.0) all.1

max_over : (m : ℕ) (ns : List ℕ) → m ≤ fold max m ns
max_over m [] = omega arith
max_over m (n ∷ ns) = let r = max_over (max m n) ns in let l = le-max_left m n in omega (arith, r, l)

max_reaches : (m : ℕ) (es : List Extent) (e : Extent) → Contains es e → e.len ≤ fold max m (map (λ (x : Extent). x.len) es)
max_reaches m [] e c = absurd (none_in_nil e c)
max_reaches m (x ∷ es) e c = by (max_reaches (max m x.len) es e) (contains_cases x e es c)
  where
    by : (Contains es e → e.len ≤ fold max (max m x.len) (map (λ (z : Extent). z.len) es)) → (x ≡ e) ⊎ Contains es e → e.len ≤ fold max (max m x.len) (map (λ (z : Extent). z.len) es)
    by rest (inl same) = let r = max_over (max m x.len) (map (λ (z : Extent). z.len) es) in let l = le-max_right m x.len in let s = ap (λ (z : Extent). z.len) same in omega (arith, r, l, s)
    by rest (inr later) = rest later

-- what bounds the height from below: each that doesn't broadcast, or with extension each that ended, and one at least
abbrev pub Binds : Bool → Extent → Type 0
Binds false e = broadcasts false e ≡ false
Binds true e = e.ended ≡ true

not_false : (b : Bool) → not b ≡ true → b ≡ false
not_false true e = absurd (let never : false ≡ true = e in cc)
not_false false e = refl

one_long : (e : Extent) → broadcasts false e ≡ true → e.len ≡ 1
one_long e h = by e.ended h
  where
    by : (b : Bool) → (not b && (e.len == 1)) ≡ true → e.len ≡ 1
    by true h = absurd (let never : false ≡ true = h in cc)
    by false h = grind arith

pub at_least : (extend : Bool) (b : ℕ) (es : List Extent) (e : Extent) → AllByRecursion (λ x. Binds extend x → b ≤ x.len) es → Contains es e → b ≤ e.len → b ≤ zip_length extend es
at_least true b es e all c h = by (ended_lengths es) (where_all (λ k. b ≤ k) (λ (x : Extent). x.ended) es all)
  where
    by : (ns : List ℕ) → AllByRecursion (λ k. b ≤ k) ns → b ≤ least_or (greatest (map (λ (x : Extent). x.len) es)) ns
    by [] a = let r = max_reaches 0 es e c in omega (arith, r, h)
    by (n ∷ ns) a = min_from b n ns a.0 a.1
at_least false b es e all c h = by (lengths_where (λ x. not (broadcasts false x)) es) refl (where_all (λ k. b ≤ k) (λ x. not (broadcasts false x)) es (weaker es all))
  where
    weaker : (es : List Extent) → AllByRecursion (λ x. broadcasts false x ≡ false → b ≤ x.len) es → AllByRecursion (λ x. not (broadcasts false x) ≡ true → b ≤ x.len) es
    weaker [] a = tt
    weaker (x ∷ xs) a = (λ q. a.0 (not_false (broadcasts false x) q), weaker xs a.1)

    by : (ns : List ℕ) → lengths_where (λ x. not (broadcasts false x)) es ≡ ns → AllByRecursion (λ k. b ≤ k) ns → b ≤ least_or 1 ns
    by [] q a =
        let lone = where_none (λ x. not (broadcasts false x)) es q e c in
        let long = one_long e (back (broadcasts false e) lone) in
        omega (arith, long, h)
      where
        back : (b : Bool) → not b ≡ false → b ≡ true
        back true e = refl
        back false e = absurd (let never : true ≡ false = e in cc)
    by (n ∷ ns) q a = min_from b n ns a.0 a.1

-- and from above: each that doesn't broadcast, where none ended, and one
abbrev pub MayPass : Bool → Extent → Type 0
MayPass false e = broadcasts false e ≡ false
MayPass true e = ⊤

pub at_most : (extend : Bool) (b : ℕ) (es : List Extent) (e : Extent) → AllByRecursion (λ (x : Extent). x.ended ≡ false) es → AllByRecursion (λ x. MayPass extend x → x.len ≤ b) es → Contains es e → e.len ≤ b → zip_length extend es ≤ b
at_most true b es e whole all c h = by (ended_lengths es) refl
  where
    lens : (xs : List Extent) → AllByRecursion (λ (x : Extent). ⊤ → x.len ≤ b) xs → AllByRecursion (λ k. k ≤ b) (map (λ (x : Extent). x.len) xs)
    lens [] a = tt
    lens (x ∷ xs) a = (a.0 tt, lens xs a.1)

    none : (xs : List Extent) → AllByRecursion (λ (x : Extent). x.ended ≡ false) xs → ended_lengths xs ≡ []
    none [] a = refl
    none (x ∷ xs) a = ap (λ b. map (λ (z : Extent). z.len) (cond b (x ∷ filter (λ (z : Extent). z.ended) xs) (filter (λ (z : Extent). z.ended) xs))) a.0 ∙ none xs a.1

    by : (ns : List ℕ) → ended_lengths es ≡ ns → least_or (greatest (map (λ (x : Extent). x.len) es)) ns ≤ b
    by [] q = max_upto b 0 (map (λ (x : Extent). x.len) es) (omega arith) (lens es all)
    by (n ∷ ns) q = absurd (let never : [] ≡ n ∷ ns = sym (none es whole) ∙ q in cc)
at_most false b es e whole all c h = by (lengths_where (λ x. not (broadcasts false x)) es) refl (where_all (λ k. k ≤ b) (λ x. not (broadcasts false x)) es (weaker es all))
  where
    weaker : (es : List Extent) → AllByRecursion (λ x. broadcasts false x ≡ false → x.len ≤ b) es → AllByRecursion (λ x. not (broadcasts false x) ≡ true → x.len ≤ b) es
    weaker [] a = tt
    weaker (x ∷ xs) a = (λ q. a.0 (not_false (broadcasts false x) q), weaker xs a.1)

    back : (b : Bool) → not b ≡ false → b ≡ true
    back true e = refl
    back false e = absurd (let never : true ≡ false = e in cc)

    by : (ns : List ℕ) → lengths_where (λ x. not (broadcasts false x)) es ≡ ns → AllByRecursion (λ k. k ≤ b) ns → least_or 1 ns ≤ b
    by [] q a = let long = one_long e (back (broadcasts false e) (where_none (λ x. not (broadcasts false x)) es q e c)) in omega (arith, long, h)
    by (n ∷ ns) q a = min_upto b n ns a.0

-- A WINDOW OF ROWS
last_or : (k n : ℕ) → k ≤ n → (k < n) ⊎ (k ≡ n)
last_or zero zero h = inr refl
last_or zero (suc n) h = inl (omega arith)
last_or (suc k) zero h = absurd (omega arith)
last_or (suc k) (suc n) h = by (last_or k n (omega arith))
  where
    by : (k < n) ⊎ (k ≡ n) → (suc k < suc n) ⊎ (suc k ≡ suc n)
    by (inl l) = inl (omega arith)
    by (inr e) = inr (ap suc e)

at_below : (n k : ℕ) → k < n → slice_get (below n) k ≡ Some k
at_below zero k h = absurd (omega arith)
at_below (suc n) k h = by (at_below n k) (last_or k n (omega arith))
  where
    by : (k < n → slice_get (below n) k ≡ Some k) → (k < n) ⊎ (k ≡ n) → slice_get (below n ++ n ∷ []) k ≡ Some k
    by rest (inl l) = at_before (below n) (n ∷ []) k k (rest l)
    by rest (inr e) = subst (λ j. slice_get (below n ++ n ∷ []) j ≡ Some j) (sym e) (ap (slice_get (below n ++ n ∷ [])) (sym (length-below n)) ∙ at_end (below n) n)

first_or : (n k : ℕ) → (n ≤ k) ⊎ (k < n)
first_or zero k = inl (omega arith)
first_or (suc n) zero = inr (omega arith)
first_or (suc n) (suc k) = by (first_or n k)
  where
    by : (n ≤ k) ⊎ (k < n) → (suc n ≤ suc k) ⊎ (suc k < suc n)
    by (inl l) = inl (omega arith)
    by (inr l) = inr (omega arith)

drop_at : {A : Type 0} (xs : List A) (a k : ℕ) → slice_get (drop a xs) k ≡ slice_get xs (a + k)
drop_at xs zero k = let e : k ≡ 0 + k = omega arith in ap (slice_get xs) e
drop_at [] (suc a) k = refl
drop_at (x ∷ xs) (suc a) k = drop_at xs a k ∙ (let e : suc (a + k) ≡ suc a + k = omega arith in ap (slice_get (x ∷ xs)) e)

pub window : {A : Type 0} (f : ℕ → A) (a n all : ℕ) → a + n ≤ all → take n (drop a (map f (below all))) ≡ map (λ j. f (a + j)) (below n)
window f a n all h = same_at (take n (drop a (map f (below all)))) (map (λ j. f (a + j)) (below n)) (λ k. by k (first_or n k))
  where
    by : (k : ℕ) → (n ≤ k) ⊎ (k < n) → slice_get (take n (drop a (map f (below all)))) k ≡ slice_get (map (λ j. f (a + j)) (below n)) k
    by k (inl past) =
        let short = length-take n (drop a (map f (below all))) in
        let long : length (map (λ j. f (a + j)) (below n)) ≡ n = length-map (below n) (λ j. f (a + j)) ∙ length-below n in
        none_past (take n (drop a (map f (below all)))) k (grind (arith, short, past)) ∙ sym (none_past (map (λ j. f (a + j)) (below n)) k (omega (arith, long, past)))
    by k (inr less) =
        take_at (drop a (map f (below all))) n k less ∙ drop_at (map f (below all)) a k ∙ slice_get-map f (below all) (a + k) ∙ ap (option_map f) (at_below all (a + k) (omega (arith, h, less)))
        ∙ sym (slice_get-map (λ j. f (a + j)) (below n) k ∙ ap (option_map (λ j. f (a + j))) (at_below n k less))

-- numbers below so many, by what holds of each
pub map_below : {A : Type 0} (f g : ℕ → A) (n : ℕ) → ((j : ℕ) → j < n → f j ≡ g j) → map f (below n) ≡ map g (below n)
map_below f g zero h = refl
map_below f g (suc n) h =
    let rest = map_below f g n (λ j l. h j (omega arith)) in
    let last = h n (omega arith) in
    map_append f (below n) (n ∷ []) ∙ (λ i. rest i ++ last i ∷ []) ∙ sym (map_append g (below n) (n ∷ []))

-- WHAT A ZIP OF TABLES LOSES, AND WHAT ENDS IT
abbrev Plain : Column → Type 0
Plain c = (c.lost ≡ []) × (flat_map cell_causes c.cells ≡ [])

plain_cells : (vs : List Value) → flat_map cell_causes (map value vs) ≡ []
plain_cells [] = refl
plain_cells (v ∷ vs) = plain_cells vs

plain_of : (t : Table) (js : List ℕ) → AllByRecursion Plain (map (λ j. column_at j t) js)
plain_of t [] = tt
plain_of t (j ∷ js) = ((refl, plain_cells (values_at j t.rows)), plain_of t js)

plain_all : (ts : List Table) → AllByRecursion Plain (all_columns ts)
plain_all [] = tt
plain_all (t ∷ ts) = all_append Plain (columns_of t) (all_columns ts) (plain_of t (below (length t.schema))) (plain_all ts)

none_lost : (cs : List Column) → AllByRecursion Plain cs → flat_map (λ (c : Column). c.lost) cs ≡ []
none_lost [] h = refl
none_lost (c ∷ cs) h = ap (λ z. z ++ flat_map (λ (x : Column). x.lost) cs) h.0.0 ∙ none_lost cs h.1

none_seen : (test : Column → Bool) (cs : List Column) → AllByRecursion Plain cs → flat_map (λ (c : Column). flat_map cell_causes c.cells) (filter test cs) ≡ []
none_seen test [] h = refl
none_seen test (c ∷ cs) h = by (test c) (none_seen test cs h.1)
  where
    by : (b : Bool) → flat_map (λ (c : Column). flat_map cell_causes c.cells) (filter test cs) ≡ [] → flat_map (λ (c : Column). flat_map cell_causes c.cells) (cond b (c ∷ filter test cs) (filter test cs)) ≡ []
    by true rest = ap (λ z. z ++ flat_map (λ (x : Column). flat_map cell_causes x.cells) (filter test cs)) h.0.1 ∙ rest
    by false rest = rest

pub loses_none : (extend : Bool) (node : ℕ) (ts : List Table) → (zipped extend node (all_columns ts)).lost ≡ []
loses_none extend node ts = ap (λ z. z ++ unseen_causes extend (zip_length extend (extents (all_columns ts))) (all_columns ts)) (none_lost (all_columns ts) (plain_all ts)) ∙ by (zip_length extend (extents (all_columns ts)))
  where
    by : (n : ℕ) → unseen_causes extend n (all_columns ts) ≡ []
    by zero = none_seen (λ c. broadcasts extend (extent_of c)) (all_columns ts) (plain_all ts)
    by (suc n) = refl

-- no column is ended where no table is
ends_of : (t : Table) (js : List ℕ) → t.broken ≡ [] → list_any is_ended (map (λ j. column_at j t) js) ≡ false
ends_of t [] e = refl
ends_of t (j ∷ js) e = ap (λ cs. not (is_empty cs) || list_any is_ended (map (λ j. column_at j t) js)) e ∙ ends_of t js e

any_append : {A : Type 0} (test : A → Bool) (xs ys : List A) → list_any test xs ≡ false → list_any test ys ≡ false → list_any test (xs ++ ys) ≡ false
any_append test [] ys a b = b
any_append test (x ∷ xs) ys a b = by (any_append test xs ys)
  where
    parts : (p q : Bool) → (p || q) ≡ false → (p ≡ false) × (q ≡ false)
    parts true q e = absurd (let never : true ≡ false = e in cc)
    parts false q e = (refl, e)

    by : (list_any test xs ≡ false → list_any test ys ≡ false → list_any test (xs ++ ys) ≡ false) → (test x || list_any test (xs ++ ys)) ≡ false
    by rest = let h = parts (test x) (list_any test xs) a in ap (λ b. b || list_any test (xs ++ ys)) h.0 ∙ rest h.1 b

pub none_ends : (ts : List Table) → AllByRecursion (λ (t : Table). t.broken ≡ []) ts → list_any is_ended (all_columns ts) ≡ false
none_ends [] h = refl
none_ends (t ∷ ts) h = any_append is_ended (columns_of t) (all_columns ts) (ends_of t (below (length t.schema)) h.0) (none_ends ts h.1)

equal : (m n : ℕ) → m ≡ n → (m == n) ≡ true
equal m n q = grind arith

all_equal : (n : ℕ) (ns : List ℕ) → AllByRecursion (λ m. m ≡ n) ns → list_all (λ m. m == n) ns ≡ true
all_equal n [] all = refl
all_equal n (m ∷ ms) all = ap (λ b. b && list_all (λ m. m == n) ms) (equal m n all.0) ∙ all_equal n ms all.1

same_all : (n : ℕ) (ns : List ℕ) → AllByRecursion (λ m. m ≡ n) ns → all_same ns ≡ true
same_all n [] all = refl
same_all n (m ∷ ms) all = ap (λ k. list_all (λ j. j == k) ms) all.0 ∙ all_equal n ms all.1

none_ended : (xs : List Extent) → AllByRecursion (λ (x : Extent). x.ended ≡ false) xs → ended_lengths xs ≡ []
none_ended [] a = refl
none_ended (x ∷ xs) a = ap (λ b. map (λ (z : Extent). z.len) (cond b (x ∷ filter (λ (z : Extent). z.ended) xs) (filter (λ (z : Extent). z.ended) xs))) a.0 ∙ none_ended xs a.1

-- whole inputs whose open lengths are one number fit
pub fits_shape : (extend : Bool) (b : ℕ) (es : List Extent) → AllByRecursion (λ (x : Extent). x.ended ≡ false) es → AllByRecursion (λ (x : Extent). (not x.ended && not (x.len == 1)) ≡ true → x.len ≡ b) es → breaks_shape extend es ≡ false
fits_shape true b es whole all = refl
fits_shape false b es whole all =
    let same = same_all b (open_lengths es) (where_all (λ k. k ≡ b) (λ (x : Extent). not x.ended && not (x.len == 1)) es all) in
    ap (λ t. not t || list_any (outgrows (open_lengths es)) (ended_lengths es)) same ∙ ap (list_any (outgrows (open_lengths es))) (none_ended es whole)
