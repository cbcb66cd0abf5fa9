-- What the writer of a table's text has written after each piece.
use Rattle.std.proofs.Common.{◌≡◌, ◌==◌, ℕ, zero, suc, ◌+◌, ◌<◌, ◌≤◌, List, [], ◌∷◌, ◌++◌, length, take, replicate, get_or, Bool, false, refl, sym, ◌∙◌, ap, arith, append-nil, append_assoc, length-append}
use Rattle.std.specs.Prelude.{◌&&◌, map, flat_map, if◌then◌else◌, nat_lt, slice_get, Some, Result, Ok, Err, OnOk}
use Rattle.std.proofs.lemmas.List.{take_all, take_more}
use Rattle.std.proofs.lemmas.Option.{get_or_from_slice_get, slice_get_within}
use Rattle.std.proofs.lemmas.Bool.{eq-eqb, ne_eqb}
use Rattle.std.proofs.lemmas.List.Concat.{flat_map-append}
use Rattle.csv.proofs.WriteFacts.{escaped-append, row-step}
use Rattle.csv.specs.Writing.{default_writer, escaped, field_text, fields_text, is_blank, next_sep, row_body, row_text}
use Rattle.ps_frame.proofs.Rows.{length-rows_of}
use Rattle.ps_frame.specs.Csv.{value_text}
use Rattle.ps_frame.specs.Frames.{AllOfHeight, column_values}
use Rattle.ps_frame.specs.Tables.{beside, rows_of}
use Rattle.ps_frame.specs.Series.{Series}
use Rattle.ps_frame.specs.declared.value.Value.{Value}
use Rattle.ps_frame.specs.declared.value.Value.TheVariants as val
use Rattle.tool_ends.specs.Csv.{ReachesRow, cells, row_end}

-- one more byte of a field between quotes
escaped-one : (b : ℕ) → escaped default_writer (b ∷ []) ≡ (if b == 34 then 34 ∷ b ∷ [] else b ∷ [])
unfolding escaped
escaped-one b = refl

escaped-more : (field : List ℕ) (i : ℕ) → i < length field → escaped default_writer (take (i + 1) field) ≡ escaped default_writer (take i field) ++ (if get_or field i 0 == 34 then 34 ∷ get_or field i 0 ∷ [] else get_or field i 0 ∷ [])
escaped-more field i h = rw (take_more field i 0 h, escaped-append default_writer (take i field) (get_or field i 0 ∷ []), escaped-one (get_or field i 0)) refl

pub escaped-step : (before field : List ℕ) (i b : ℕ) (text text2 : List ℕ) → text ≡ before ++ escaped default_writer (take i field) → i < length field → b ≡ get_or field i 0
    → text2 ≡ text ++ (if b == 34 then 34 ∷ b ∷ [] else b ∷ []) → text2 ≡ before ++ escaped default_writer (take (i + 1) field)
escaped-step before field i b text text2 so_far h at_b added =
    added ∙ ap (λ (t : List ℕ). t ++ (if b == 34 then 34 ∷ b ∷ [] else b ∷ [])) so_far ∙ append_assoc before (escaped default_writer (take i field)) (if b == 34 then 34 ∷ b ∷ [] else b ∷ [])
    ∙ ap (λ (t : List ℕ). before ++ t) (ap (λ (x : ℕ). escaped default_writer (take i field) ++ (if x == 34 then 34 ∷ x ∷ [] else x ∷ [])) at_b ∙ sym (escaped-more field i h))

pub escaped-none_yet : (text field : List ℕ) → text ≡ text ++ escaped default_writer (take 0 field)
unfolding escaped
escaped-none_yet text field = sym (append-nil text)

-- one more field of a row, after what stands before it
pub field-step : (before : List ℕ) (fields : List (List ℕ)) (i : ℕ) (field text text2 text3 : List ℕ) → text ≡ before ++ row_body default_writer (take i fields) → slice_get fields i ≡ Some field
    → text2 ≡ text ++ next_sep default_writer i → text3 ≡ text2 ++ field_text default_writer field → text3 ≡ before ++ row_body default_writer (take (i + 1) fields)
field-step before fields i field text text2 text3 so_far at_i comma added =
    let within = slice_get_within fields i field at_i in
    let e = get_or_from_slice_get fields i field [] at_i in
    let more = row-step default_writer fields i within in
    added ∙ ap (λ (t : List ℕ). t ++ field_text default_writer field) (comma ∙ ap (λ (t : List ℕ). t ++ next_sep default_writer i) so_far)
    ∙ append_assoc (before ++ row_body default_writer (take i fields)) (next_sep default_writer i) (field_text default_writer field)
    ∙ append_assoc before (row_body default_writer (take i fields)) (next_sep default_writer i ++ field_text default_writer field)
    ∙ ap (λ (t : List ℕ). before ++ t) (ap (λ (f : List ℕ). row_body default_writer (take i fields) ++ (next_sep default_writer i ++ field_text default_writer f)) (sym e) ∙ sym more)

-- a row is blank where it has fewer than two fields, and nothing is written
eq-append : (before more : List ℕ) → (length (before ++ more) == length before) ≡ (length more == 0)
eq-append before [] = rw append-nil (eq-eqb (length before) (length before) refl)
eq-append before (x ∷ more) =
    let longer = length-append before (x ∷ more) in
    ne_eqb (length (before ++ x ∷ more)) (length before) (λ e. omega arith) ∙ sym (ne_eqb (length (x ∷ more)) 0 (λ e. omega arith))

two_or_more : (n : ℕ) (b : Bool) → (nat_lt (suc (suc n)) 2 && b) ≡ false
two_or_more n b = let e : nat_lt (suc (suc n)) 2 ≡ false = grind arith in rw e refl

blank-is : (before : List ℕ) (fields : List (List ℕ)) → (nat_lt (length fields) 2 && (length (before ++ row_body default_writer fields) == length before)) ≡ is_blank default_writer fields
unfolding is_blank fields_text
blank-is before [] = eq-append before []
blank-is before (f ∷ []) = eq-append before (row_body default_writer (f ∷ [])) ∙ ap (λ (t : List ℕ). length t == 0) (append-nil (field_text default_writer f))
blank-is before (f ∷ g ∷ fields) = two_or_more (length fields) (length (before ++ row_body default_writer (f ∷ g ∷ fields)) == length before)

-- the end of a row
pub row-ended : (before : List ℕ) (fields : List (List ℕ)) (n start i : ℕ) (text text2 : List ℕ) → n ≡ length fields → start ≡ length before → text ≡ before ++ row_body default_writer (take i fields) → length fields ≤ i
    → text2 ≡ text ++ row_end (nat_lt n 2 && (length text == start)) → text2 ≡ before ++ row_text default_writer fields
row-ended before fields n start i text text2 count begins so_far all ended =
    let written : text ≡ before ++ row_body default_writer fields = so_far ∙ ap (λ (fs : List (List ℕ)). before ++ row_body default_writer fs) (take_all i fields all) in
    let blank = ap (λ (m : ℕ). nat_lt m 2 && (length text == start)) count ∙ ap (λ (m : ℕ). nat_lt (length fields) 2 && (length text == m)) begins
    ∙ ap (λ (t : List ℕ). nat_lt (length fields) 2 && (length t == length before)) written ∙ blank-is before fields in
    ended ∙ ap (λ (b : Bool). text ++ row_end b) blank ∙ ap (λ (t : List ℕ). t ++ row_end (is_blank default_writer fields)) written
    ∙ append_assoc before (row_body default_writer fields) (row_end (is_blank default_writer fields))

-- a value of a row
pub cell_at : (cs : List Series) (i row : ℕ) (c : Series) (v : Value) → i < length cs → c ≡ get_or cs i c → slice_get c.values row ≡ Some v → slice_get (map value_text (cells row cs)) i ≡ Some (value_text v)
cell_at [] i row c v h at_c at_v = absurd (omega arith)
cell_at (x ∷ cs) zero row c v h at_c at_v = ap (λ (w : Value). Some (value_text w)) (ap (λ (t : Series). get_or t.values row val.Null) (sym at_c) ∙ get_or_from_slice_get c.values row v val.Null at_v)
cell_at (x ∷ cs) (suc i) row c v h at_c at_v = cell_at cs i row c v (omega arith) at_c at_v

pub reaches_at : (cs : List Series) (i row : ℕ) (c : Series) → ReachesRow row cs → i < length cs → c ≡ get_or cs i c → row < length c.values
reaches_at [] i row c p h at_c = absurd (omega arith)
reaches_at (x ∷ cs) zero row c p h at_c = let reached = p.0 in let e = ap (λ (t : Series). length t.values) at_c in omega arith
reaches_at (x ∷ cs) (suc i) row c p h at_c = reaches_at cs i row c p.1 (omega arith) at_c

pub reaches : (cs : List Series) (height row : ℕ) → AllOfHeight height cs → row < height → ReachesRow row cs
reaches [] height row p h = tt
reaches (c ∷ cs) height row p h = ((let e = p.0 in omega arith), reaches cs height row p.1 h)

nothing-at : (height row : ℕ) → let none : List Value = [] in get_or (replicate height none) row none ≡ none
nothing-at zero row = refl
nothing-at (suc height) zero = refl
nothing-at (suc height) (suc row) = nothing-at height row

beside-at : (c : List Value) (rows : List (List Value)) (row : ℕ) → row < length c → row < length rows → get_or (beside c rows) row [] ≡ get_or c row val.Null ∷ get_or rows row []
beside-at [] rows row g h = absurd (omega arith)
beside-at (x ∷ c) [] row g h = absurd (omega arith)
beside-at (x ∷ c) (r ∷ rows) zero g h = refl
beside-at (x ∷ c) (r ∷ rows) (suc row) g h = beside-at c rows row (omega arith) (omega arith)

-- the rows of columns have the values at their places
pub row_at : (cs : List Series) (height row : ℕ) → AllOfHeight height cs → row < height → get_or (rows_of height (column_values cs)) row [] ≡ cells row cs
row_at [] height row p h = nothing-at height row
row_at (c ∷ cs) height row p h =
    let e = p.0 in
    let rows = length-rows_of height cs p.1 in
    beside-at c.values (rows_of height (column_values cs)) row (omega arith) (omega arith) ∙ ap (λ (vs : List Value). get_or c.values row val.Null ∷ vs) (row_at cs height row p.1 h)

flat_map-one : (line : List Value → List ℕ) (row : List Value) → flat_map line (row ∷ []) ≡ line row
flat_map-one line row = append-nil (line row)

-- one more row
pub rows-step : (before : List ℕ) (cs : List Series) (height row : ℕ) (text text2 : List ℕ) → AllOfHeight height cs → row < height
    → text ≡ before ++ flat_map (λ (r : List Value). row_text default_writer (map value_text r)) (take row (rows_of height (column_values cs)))
    → text2 ≡ text ++ row_text default_writer (map value_text (cells row cs))
    → text2 ≡ before ++ flat_map (λ (r : List Value). row_text default_writer (map value_text r)) (take (row + 1) (rows_of height (column_values cs)))
rows-step before cs height row text text2 p h so_far added =
    let line = λ (r : List Value). row_text default_writer (map value_text r) in
    let rows = rows_of height (column_values cs) in
    let tall = length-rows_of height cs p in
    let within : row < length rows = omega arith in
    let more : flat_map line (take (row + 1) rows) ≡ flat_map line (take row rows) ++ line (cells row cs) =
    ap (flat_map line) (take_more rows row [] within) ∙ flat_map-append line (take row rows) (get_or rows row [] ∷ []) ∙ ap (λ (t : List ℕ). flat_map line (take row rows) ++ t) (flat_map-one line (get_or rows row []) ∙ ap line (row_at cs height row p h)) in
    added ∙ ap (λ (t : List ℕ). t ++ line (cells row cs)) so_far ∙ append_assoc before (flat_map line (take row rows)) (line (cells row cs)) ∙ ap (λ (t : List ℕ). before ++ t) (sym more)

-- all rows
pub rows-all : (before : List ℕ) (cs : List Series) (height row : ℕ) (text : List ℕ) → AllOfHeight height cs → height ≤ row
    → text ≡ before ++ flat_map (λ (r : List Value). row_text default_writer (map value_text r)) (take row (rows_of height (column_values cs)))
    → text ≡ before ++ flat_map (λ (r : List Value). row_text default_writer (map value_text r)) (rows_of height (column_values cs))
rows-all before cs height row text p h so_far =
    let rows = rows_of height (column_values cs) in
    let tall = length-rows_of height cs p in
    so_far ∙ ap (λ (rs : List (List Value)). before ++ flat_map (λ (r : List Value). row_text default_writer (map value_text r)) rs) (take_all row rows (omega arith))

-- what follows where a call went well
pub where_ok : {T E : Type 0} {P Q : Type 0} (r : Result T E) → (P → Q) → OnOk r P → OnOk r Q
where_ok (Ok v) f p = f p
where_ok (Err e) f p = tt
