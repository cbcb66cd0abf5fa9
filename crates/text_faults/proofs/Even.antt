-- Columns side by side that agree: none has a faulty cell, and a whole one has one cell or as many as there are rows.
use Rattle.std.proofs.Common.{◌≡◌, ◌==◌, ℕ, zero, suc, ◌<◌, ◌≤◌, min, max, List, [], ◌∷◌, ◌++◌, length, map, take, Bool, true, false, cond, refl, sym, subst, ap, ◌∙◌, inl, inr, arith, length-append}
use Rattle.std.specs.Prelude.{◌⊎◌, filter, flat_map, fold, not, ◌&&◌, ◌||◌, nat_le, nat_lt, if◌then◌else◌, ⊤}
use Rattle.std.specs.List.{AllByRecursion, list_all, list_any, prefix_len}
use Rattle.std.proofs.lemmas.Bool.{eq-eqb, ltb-true, leb-true}
use Rattle.std.proofs.lemmas.List.{length-map, length-take}
use Rattle.ps_frame.specs.Causes.{Cause, Cell, Column, value, faulty, cell_causes, cell_values, column_causes, faulty_or, is_empty, is_ended}
use Rattle.ps_frame.specs.Eval.{cell_of_row, cellwise}
use Rattle.ps_frame.specs.Zip.{Extent, aligned, all_same, below, breaks_shape, broadcasts, cell_in_row, ended_lengths, ends_early, extent_of, extents, is_faulty_row, least_or, lengths_where, open_lengths, outgrows, unseen_causes, zip_causes, zip_length, zipped}
use Rattle.ps_frame.specs.declared.value.DataFault.TheVariants as fault
use Rattle.ps_frame.specs.declared.value.Value.{Value}
use Rattle.ps_frame.specs.declared.value.Value.TheVariants as val
use Rattle.ps_meaning.proofs.Fits.{all-append, all-filter, all-get, all-map, all-of}

abbrev pub IsValue : Cell → Type 0
IsValue (value v) = ⊤
IsValue (faulty c cs) = ⊥

-- tests of lists
or-none : (a b : Bool) → a ≡ false → b ≡ false → (a || b) ≡ false
or-none false b p q = q
or-none true b p q = cc

and-true : (a b : Bool) → a ≡ true → b ≡ true → (a && b) ≡ true
and-true true b p q = q
and-true false b p q = cc

none-passes : {A : Type 0} (p : A → Bool) (xs : List A) → AllByRecursion (λ x. p x ≡ false) xs → list_any p xs ≡ false
none-passes p [] h = refl
none-passes p (x ∷ xs) h = or-none (p x) (list_any p xs) h.0 (none-passes p xs h.1)

all-pass : {A : Type 0} (p : A → Bool) (xs : List A) → AllByRecursion (λ x. p x ≡ true) xs → list_all p xs ≡ true
all-pass p [] h = refl
all-pass p (x ∷ xs) h = and-true (p x) (list_all p xs) h.0 (all-pass p xs h.1)

pub all-weaker : {A : Type 0} (P Q : A → Type 0) → ((x : A) → P x → Q x) → (xs : List A) → AllByRecursion P xs → AllByRecursion Q xs
all-weaker P Q f [] h = tt
all-weaker P Q f (x ∷ xs) h = (f x h.0, all-weaker P Q f xs h.1)

pub all-if : {A : Type 0} (P : A → Type 0) (b : Bool) (xs : List A) → AllByRecursion P xs → AllByRecursion P (if b then xs else [])
all-if P true xs h = h
all-if P false xs h = tt

-- values have no causes
pub no-causes : (cells : List Cell) → AllByRecursion IsValue cells → flat_map cell_causes cells ≡ []
no-causes [] h = refl
no-causes (value v ∷ cells) h = no-causes cells h.1
no-causes (faulty c cs ∷ cells) h = absurd h.0

some-left : {A : Type 0} (xs ys : List A) → is_empty xs ≡ false → is_empty (xs ++ ys) ≡ false
some-left [] ys h = cc
some-left (x ∷ xs) ys h = refl

some-right : {A : Type 0} (xs ys : List A) → is_empty ys ≡ false → is_empty (xs ++ ys) ≡ false
some-right [] ys h = h
some-right (x ∷ xs) ys h = refl

length-below : (n : ℕ) → length (below n) ≡ n
length-below zero = refl
length-below (suc n) = omega (arith, length-append (below n) (n ∷ []), length-below n)

-- the least of numbers
fold-least : (x : ℕ) (xs : List ℕ) → fold min x xs ≤ x
fold-least x [] = omega arith
fold-least x (y ∷ ys) = let h = fold-least (min x y) ys in omega arith

least-same : (n x : ℕ) (xs : List ℕ) → x ≡ n → AllByRecursion (λ m. m ≡ n) xs → fold min x xs ≡ n
least-same n x [] e h = e
least-same n x (y ∷ ys) e h = least-same n (min x y) ys (let q = h.0 in omega arith) h.1

same-lengths : (n : ℕ) (ms : List ℕ) → AllByRecursion (λ m. m ≡ n) ms → all_same ms ≡ true
same-lengths n [] h = refl
same-lengths n (m ∷ ms) h = all-pass (λ k. k == m) ms (all-weaker (λ k. k ≡ n) (λ k. (k == m) ≡ true) (λ k e. eq-eqb k m (e ∙ sym h.0)) ms h.1)

not-outgrown : (n part : ℕ) (ms : List ℕ) → AllByRecursion (λ m. m ≡ n) ms → part ≤ max 1 n → outgrows ms part ≡ false
not-outgrown n part ms h short = by (nat_le 2 part) refl
  where
    by : (b : Bool) → nat_le 2 part ≡ b → (b && list_any (λ m. nat_lt m part) ms) ≡ false
    by false e = refl
    by true e =
        let two : 2 ≤ part = leb-true 2 part e in
        none-passes (λ m. nat_lt m part) ms (all-weaker (λ m. m ≡ n) (λ m. nat_lt m part ≡ false) (λ m is. not-less m (nat_lt m part) refl is two) ms h)
      where
        not-less : (m : ℕ) (b : Bool) → nat_lt m part ≡ b → m ≡ n → 2 ≤ part → nat_lt m part ≡ false
        not-less m false e is two = e
        not-less m true e is two = let less : m < part = ltb-true m part e in absurd (omega arith)

module _ (P : Cause → Type 0) (n : ℕ) where
  -- a column over n rows
  pub record IsEven (c : Column) : Type 0 where
    pub values : AllByRecursion IsValue c.cells
    pub causes : AllByRecursion P c.broken
    pub lost : c.lost ≡ []
    pub short : length c.cells ≤ max 1 n
    pub whole : is_ended c ≡ false → (length c.cells ≡ 1) ⊎ (length c.cells ≡ n)

  pub causes-are : (c : Column) → IsEven c → column_causes c ≡ c.broken
  causes-are c h = ap (λ ds. ds ++ c.broken) (no-causes c.cells h.values)

  pub column-causes : (c : Column) → IsEven c → AllByRecursion P (column_causes c)
  column-causes c h = subst (AllByRecursion P) (sym (causes-are c h)) h.causes

  pub all-causes : (cs : List Column) → AllByRecursion IsEven cs → AllByRecursion P (flat_map column_causes cs)
  all-causes [] h = tt
  all-causes (c ∷ cs) h = all-append P (column_causes c) (flat_map column_causes cs) (column-causes c h.0) (all-causes cs h.1)

  pub none-lost : (cs : List Column) → AllByRecursion IsEven cs → flat_map (λ c. c.lost) cs ≡ []
  none-lost [] h = refl
  none-lost (c ∷ cs) h = ap (λ ds. ds ++ flat_map (λ c. c.lost) cs) h.0.lost ∙ none-lost cs h.1

  -- what holds of the lengths of the columns that pass a test
  lengths-all : (test : Extent → Bool) (Q : ℕ → Type 0) → ((c : Column) → IsEven c → test (extent_of c) ≡ true → Q (length c.cells)) → (cs : List Column) → AllByRecursion IsEven cs → AllByRecursion Q (lengths_where test (extents cs))
  lengths-all test Q each [] h = tt
  lengths-all test Q each (c ∷ cs) h = by (test (extent_of c)) refl (lengths-all test Q each cs h.1)
    where
      by : (b : Bool) → test (extent_of c) ≡ b → AllByRecursion Q (lengths_where test (extents cs)) → AllByRecursion Q (map (λ (e : Extent). e.len) (cond b (extent_of c ∷ filter test (extents cs)) (filter test (extents cs))))
      by true e rest = (each c h.0 e, rest)
      by false e rest = rest

  -- a whole column that hasn't one cell
  open-is : (c : Column) → IsEven c → (not (is_ended c) && not (length c.cells == 1)) ≡ true → length c.cells ≡ n
  open-is c h e = by (is_ended c) refl e
    where
      one : (b : Bool) → (length c.cells == 1) ≡ b → not b ≡ true → (length c.cells ≡ 1) ⊎ (length c.cells ≡ n) → length c.cells ≡ n
      one true q e k = cc
      one false q e (inl k) = let yes = eq-eqb (length c.cells) 1 k in cc
      one false q e (inr k) = k

      by : (b : Bool) → is_ended c ≡ b → (not b && not (length c.cells == 1)) ≡ true → length c.cells ≡ n
      by true q e = cc
      by false q e = one (length c.cells == 1) refl e (h.whole q)

  opens : (cs : List Column) → AllByRecursion IsEven cs → AllByRecursion (λ m. m ≡ n) (open_lengths (extents cs))
  opens = lengths-all (λ e. not e.ended && not (e.len == 1)) (λ m. m ≡ n) open-is

  parts : (cs : List Column) → AllByRecursion IsEven cs → AllByRecursion (λ m. m ≤ max 1 n) (ended_lengths (extents cs))
  parts = lengths-all (λ e. e.ended) (λ m. m ≤ max 1 n) (λ c h e. h.short)

  -- the lengths of even columns agree
  no-shape : (cs : List Column) → AllByRecursion IsEven cs → breaks_shape false (extents cs) ≡ false
  no-shape cs h =
      let same = same-lengths n (open_lengths (extents cs)) (opens cs h) in
      or-none (not (all_same (open_lengths (extents cs)))) (list_any (outgrows (open_lengths (extents cs))) (ended_lengths (extents cs))) (ap not same)
      (none-passes (outgrows (open_lengths (extents cs))) (ended_lengths (extents cs))
      (all-weaker (λ m. m ≤ max 1 n) (λ m. outgrows (open_lengths (extents cs)) m ≡ false) (λ m short. not-outgrown n m (open_lengths (extents cs)) (opens cs h) short) (ended_lengths (extents cs)) (parts cs h)))

  -- how many rows they have side by side
  zip-short : (cs : List Column) → AllByRecursion IsEven cs → zip_length false (extents cs) ≤ max 1 n
  zip-short cs h = by (lengths_where (λ e. not (broadcasts false e)) (extents cs)) (lengths-all (λ e. not (broadcasts false e)) (λ m. m ≤ max 1 n) (λ c h e. h.short) cs h)
    where
      by : (ms : List ℕ) → AllByRecursion (λ m. m ≤ max 1 n) ms → least_or 1 ms ≤ max 1 n
      by [] h = omega arith
      by (m ∷ ms) h = let l = fold-least m ms in let k = h.0 in omega arith

  steady-is : (c : Column) → IsEven c → is_ended c ≡ false → not (broadcasts false (extent_of c)) ≡ true → length c.cells ≡ n
  steady-is c h whole e = open-is c h (ap (λ b. not b && not (length c.cells == 1)) whole ∙ steady (length c.cells == 1) (ap (λ b. not (not b && (length c.cells == 1))) (sym whole) ∙ e))
    where
      steady : (b : Bool) → not (not false && b) ≡ true → (not false && not b) ≡ true
      steady true e = e
      steady false e = e

  zip-whole : (cs : List Column) → AllByRecursion IsEven cs → list_any is_ended cs ≡ false → (zip_length false (extents cs) ≡ 1) ⊎ (zip_length false (extents cs) ≡ n)
  zip-whole cs h none = by (lengths_where (λ e. not (broadcasts false e)) (extents cs)) (steadies cs h none)
    where
      by : (ms : List ℕ) → AllByRecursion (λ m. m ≡ n) ms → (least_or 1 ms ≡ 1) ⊎ (least_or 1 ms ≡ n)
      by [] h = inl refl
      by (m ∷ ms) h = inr (least-same n m ms h.0 h.1)

      first : (a b : Bool) → (a || b) ≡ false → (a ≡ false) × (b ≡ false)
      first false b e = (refl, e)
      first true b e = cc

      steadies : (cs : List Column) → AllByRecursion IsEven cs → list_any is_ended cs ≡ false → AllByRecursion (λ m. m ≡ n) (lengths_where (λ e. not (broadcasts false e)) (extents cs))
      steadies [] h none = tt
      steadies (c ∷ cs) h none = one (not (broadcasts false (extent_of c))) refl (first (is_ended c) (list_any is_ended cs) none).0 (steadies cs h.1 (first (is_ended c) (list_any is_ended cs) none).1)
        where
          one : (b : Bool) → not (broadcasts false (extent_of c)) ≡ b → is_ended c ≡ false → AllByRecursion (λ m. m ≡ n) (lengths_where (λ e. not (broadcasts false e)) (extents cs))
              → AllByRecursion (λ m. m ≡ n) (map (λ (e : Extent). e.len) (cond b (extent_of c ∷ filter (λ e. not (broadcasts false e)) (extents cs)) (filter (λ e. not (broadcasts false e)) (extents cs))))
          one true e whole rest = (steady-is c h.0 whole e, rest)
          one false e whole rest = rest

  -- the rows, their causes, and that nothing is lost
  module _ (node : ℕ) (cs : List Column) (even : AllByRecursion IsEven cs) where
    even-rows : AllByRecursion (AllByRecursion IsValue) (aligned false node cs).rows
    even-rows =
        all-of (AllByRecursion IsValue) (λ i. map (cell_in_row false i) cs)
        (λ i. all-map IsEven IsValue (cell_in_row false i) (λ c h. all-get IsValue c.cells (if broadcasts false (extent_of c) then 0 else i) (value val.Null) h.values tt) cs even)
        (below (zip_length false (extents cs)))

    even-length : length (aligned false node cs).rows ≡ zip_length false (extents cs)
    even-length = length-map (below (zip_length false (extents cs))) (λ i. map (cell_in_row false i) cs) ∙ length-below (zip_length false (extents cs))

    even-causes : AllByRecursion P (zip_causes false node cs)
    even-causes =
        all-append P (flat_map column_causes cs) _ (all-causes cs even)
        (subst (λ (b : Bool). AllByRecursion P (if b then record { fault = fault.Shape; node = node } ∷ [] else [])) (sym (no-shape cs even)) tt)

    unseen : (k : ℕ) → unseen_causes false k cs ≡ []
    unseen (suc k) = refl
    unseen zero = by (filter (λ c. broadcasts false (extent_of c)) cs) (all-filter IsEven (λ c. broadcasts false (extent_of c)) cs even)
      where
        by : (ds : List Column) → AllByRecursion IsEven ds → flat_map (λ c. flat_map cell_causes c.cells) ds ≡ []
        by [] h = refl
        by (d ∷ ds) h = ap (λ es. es ++ flat_map (λ c. flat_map cell_causes c.cells) ds) (no-causes d.cells h.0.values) ∙ by ds h.1

    even-lost : (aligned false node cs).lost ≡ []
    even-lost = ap (λ ds. ds ++ unseen_causes false (zip_length false (extents cs)) cs) (none-lost cs even) ∙ unseen (zip_length false (extents cs))

    -- where a column ended, so does what is made of it
    ended-either : (d : Column) (ds : List Column) → IsEven d → (b : Bool) → is_ended d ≡ b → (b || list_any is_ended ds) ≡ true → (list_any is_ended ds ≡ true → is_empty (flat_map column_causes ds) ≡ false) → is_empty (flat_map column_causes (d ∷ ds)) ≡ false
    ended-either d ds h true q e rest = some-left (column_causes d) (flat_map column_causes ds) (ap is_empty (causes-are d h) ∙ turned (is_empty d.broken) q)
      where
        turned : (b : Bool) → not b ≡ true → b ≡ false
        turned true e = cc
        turned false e = refl
    ended-either d ds h false q e rest = some-right (column_causes d) (flat_map column_causes ds) (rest e)

    ended-causes : (ds : List Column) → AllByRecursion IsEven ds → list_any is_ended ds ≡ true → is_empty (flat_map column_causes ds) ≡ false
    ended-causes [] h e = cc
    ended-causes (d ∷ ds) h e = ended-either d ds h.0 (is_ended d) refl e (ended-causes ds h.1)

    whole-rows : not (is_empty (aligned false node cs).broken) ≡ false → (length (aligned false node cs).rows ≡ 1) ⊎ (length (aligned false node cs).rows ≡ n)
    whole-rows e = by (list_any is_ended cs) refl
      where
        rows : (zip_length false (extents cs) ≡ 1) ⊎ (zip_length false (extents cs) ≡ n) → (length (aligned false node cs).rows ≡ 1) ⊎ (length (aligned false node cs).rows ≡ n)
        rows (inl p) = inl (even-length ∙ p)
        rows (inr p) = inr (even-length ∙ p)

        by : (b : Bool) → list_any is_ended cs ≡ b → (length (aligned false node cs).rows ≡ 1) ⊎ (length (aligned false node cs).rows ≡ n)
        by false q = rows (zip-whole cs even q)
        by true q =
            let early : ends_early false cs ≡ true = ap (λ b. b || breaks_shape false (extents cs)) q in
            let some : is_empty (zip_causes false node cs) ≡ false = some-left (flat_map column_causes cs) _ (ended-causes cs even q) in
            let broken : not (is_empty (aligned false node cs).broken) ≡ true = ap (λ b. not (is_empty (if b then zip_causes false node cs else []))) early ∙ ap not some in
            cc

    -- an operator on values, cell by cell
    pub cellwise-even : (g : List Value → Value) → IsEven (cellwise node (λ row. value (g row)) cs)
    cellwise-even g =
        record {
          values = all-map (AllByRecursion IsValue) IsValue (cell_of_row (λ row. value (g row))) (λ row h. subst (λ ds. IsValue (faulty_or ds (value (g (cell_values row))))) (sym (no-causes row h)) tt) (aligned false node cs).rows even-rows;
          causes = all-if P (ends_early false cs) (zip_causes false node cs) even-causes;
          lost = even-lost;
          short = let l = length-map (aligned false node cs).rows (cell_of_row (λ row. value (g row))) in let m = even-length in let k = zip-short cs even in omega arith;
          whole = λ e. moved (length-map (aligned false node cs).rows (cell_of_row (λ row. value (g row)))) (whole-rows e);
        }
      where
        moved : {a b : ℕ} → a ≡ b → (b ≡ 1) ⊎ (b ≡ n) → (a ≡ 1) ⊎ (a ≡ n)
        moved e (inl p) = inl (e ∙ p)
        moved e (inr p) = inr (e ∙ p)

    -- the rows of values
    pub zipped-causes : AllByRecursion P (zipped false node cs).broken
    zipped-causes = all-if P (ends_early false cs || list_any is_faulty_row (aligned false node cs).rows) (zip_causes false node cs) even-causes

    pub zipped-lost : (zipped false node cs).lost ≡ []
    zipped-lost = even-lost

    pub zipped-short : length (zipped false node cs).rows ≤ max 1 n
    zipped-short =
        let rows = (aligned false node cs).rows in
        let k = prefix_len (λ row. not (is_faulty_row row)) rows in
        let a : length (zipped false node cs).rows ≡ length (take k rows) = length-map (take k rows) cell_values in
        let b : length (take k rows) ≡ min k (length rows) = length-take k rows in
        let c = even-length in
        let d = zip-short cs even in
        omega arith
