-- The answers of the tool's functions, by columns.
use Rattle.std.proofs.Common.{◌≡◌, ◌==◌, ℕ, zero, suc, List, [], ◌∷◌, ◌++◌, length, replicate, true, false, refl, sym, ◌∙◌, ap, arith}
use Rattle.std.specs.Prelude.{map, reverse, Result, Ok, Err, IfOk}
use Rattle.std.proofs.lemmas.Bool.{ne_eqb}
use Rattle.std.proofs.lemmas.List.{length-map, reverse-append, length-reverse}
use Rattle.ps_frame.proofs.Rows.{length-rows_of}
use Rattle.ps_frame.specs.Frames.{AllOfHeight, IsFrame, column_values, frame_of}
use Rattle.ps_frame.specs.Tables.{Frame, beside, rows_of}
use Rattle.ps_frame.specs.Series.{Series}
use Rattle.ps_frame.specs.declared.value.Value.{Value}
use Rattle.tool_ends.specs.ToolAnswers.{negated, negated_of, negated_value, reversed, reversed_of}

-- negated values of columns are negated values of rows
map-beside : (g : Value → Value) (c : List Value) (rows : List (List Value)) → map (map g) (beside c rows) ≡ beside (map g c) (map (map g) rows)
map-beside g [] rows = refl
map-beside g (x ∷ c) [] = refl
map-beside g (x ∷ c) (r ∷ rows) = ap (λ rs. (g x ∷ map g r) ∷ rs) (map-beside g c rows)

map-none : (g : Value → Value) (h : ℕ) → map (map g) (replicate h []) ≡ replicate h []
map-none g zero = refl
map-none g (suc h) = ap (λ rs. [] ∷ rs) (map-none g h)

rows_of-negated : (h : ℕ) (cs : List Series) → rows_of h (column_values (map negated_of cs)) ≡ map (map negated_value) (rows_of h (column_values cs))
rows_of-negated h [] = sym (map-none negated_value h)
rows_of-negated h (c ∷ cs) = ap (beside (map negated_value c.values)) (rows_of-negated h cs) ∙ sym (map-beside negated_value c.values (rows_of h (column_values cs)))

-- reversed values of columns are those of the rows reversed
reverse-cons : {A : Type 0} (x : A) (xs : List A) → reverse (x ∷ xs) ≡ reverse xs ++ x ∷ []
reverse-cons x xs = reverse-append (x ∷ []) xs

replicate-snoc : {A : Type 0} (n : ℕ) (x : A) → replicate n x ++ x ∷ [] ≡ x ∷ replicate n x
replicate-snoc zero x = refl
replicate-snoc (suc n) x = ap (λ xs. x ∷ xs) (replicate-snoc n x)

reverse-replicate : {A : Type 0} (n : ℕ) (x : A) → reverse (replicate n x) ≡ replicate n x
reverse-replicate zero x = refl
reverse-replicate (suc n) x = reverse-cons x (replicate n x) ∙ ap (λ xs. xs ++ x ∷ []) (reverse-replicate n x) ∙ replicate-snoc n x

beside-append : (c d : List Value) (rows more : List (List Value)) → length c ≡ length rows → beside (c ++ d) (rows ++ more) ≡ beside c rows ++ beside d more
beside-append [] d [] more e = refl
beside-append [] d (r ∷ rows) more e = absurd (omega arith)
beside-append (x ∷ c) d [] more e = absurd (omega arith)
beside-append (x ∷ c) d (r ∷ rows) more e = ap (λ rs. (x ∷ r) ∷ rs) (beside-append c d rows more (omega arith))

beside-reverse : (c : List Value) (rows : List (List Value)) → length c ≡ length rows → beside (reverse c) (reverse rows) ≡ reverse (beside c rows)
beside-reverse [] [] e = refl
beside-reverse [] (r ∷ rows) e = absurd (omega arith)
beside-reverse (x ∷ c) [] e = absurd (omega arith)
beside-reverse (x ∷ c) (r ∷ rows) e =
    let long = length-reverse c in
    let tall = length-reverse rows in
    ap (λ (d : List Value). beside d (reverse (r ∷ rows))) (reverse-cons x c) ∙ ap (beside (reverse c ++ x ∷ [])) (reverse-cons r rows)
    ∙ beside-append (reverse c) (x ∷ []) (reverse rows) (r ∷ []) (omega arith) ∙ ap (λ (rs : List (List Value)). rs ++ (x ∷ r) ∷ []) (beside-reverse c rows (omega arith))
    ∙ sym (reverse-cons (x ∷ r) (beside c rows))

rows_of-reversed : (h : ℕ) (cs : List Series) → AllOfHeight h cs → rows_of h (column_values (map reversed_of cs)) ≡ reverse (rows_of h (column_values cs))
rows_of-reversed h [] p = let none : List Value = [] in sym (reverse-replicate h none)
rows_of-reversed h (c ∷ cs) p =
    ap (beside (reverse c.values)) (rows_of-reversed h cs p.1) ∙ beside-reverse c.values (rows_of h (column_values cs)) (p.0 ∙ sym (length-rows_of h cs p.1))

-- the answers by columns, and those to a table without columns, which has only empty rows
pub negated-none : (f : Frame) (cs : List Series) → f.rows ≡ rows_of (length f.rows) (column_values cs) → (length cs == 0) ≡ true → f ≡ negated f
negated-none f [] rows none =
    ap (λ (rs : List (List Value)). let g : Frame = record { schema = f.schema; rows = rs } in g) (rows ∙ sym (map-none negated_value (length f.rows)) ∙ ap (map (map negated_value)) (sym rows))
negated-none f (c ∷ cs) rows none = let some = ne_eqb (length (c ∷ cs)) 0 (λ e. omega arith) in cc

pub negated-columns : (f : Frame) (cs : List Series) → IsFrame f.schema cs (length f.rows) → f.rows ≡ rows_of (length f.rows) (column_values cs) → (length cs == 0) ≡ false → frame_of f.schema (map negated_of cs) ≡ negated f
negated-columns f [] frame rows some = cc
negated-columns f (c ∷ cs) frame rows some =
    let height : length (map negated_value c.values) ≡ length f.rows = length-map c.values negated_value ∙ frame.heights.0 in
    ap (λ (rs : List (List Value)). let g : Frame = record { schema = f.schema; rows = rs } in g)
    (ap (λ (h : ℕ). rows_of h (column_values (map negated_of (c ∷ cs)))) height ∙ rows_of-negated (length f.rows) (c ∷ cs) ∙ ap (map (map negated_value)) (sym rows))

pub reversed-none : (f : Frame) (cs : List Series) → f.rows ≡ rows_of (length f.rows) (column_values cs) → (length cs == 0) ≡ true → f ≡ reversed f
reversed-none f [] rows none =
    let empty : List Value = [] in
    ap (λ (rs : List (List Value)). let g : Frame = record { schema = f.schema; rows = rs } in g) (rows ∙ sym (reverse-replicate (length f.rows) empty) ∙ ap reverse (sym rows))
reversed-none f (c ∷ cs) rows none = let some = ne_eqb (length (c ∷ cs)) 0 (λ e. omega arith) in cc

pub reversed-columns : (f : Frame) (cs : List Series) → IsFrame f.schema cs (length f.rows) → f.rows ≡ rows_of (length f.rows) (column_values cs) → (length cs == 0) ≡ false → frame_of f.schema (map reversed_of cs) ≡ reversed f
reversed-columns f [] frame rows some = cc
reversed-columns f (c ∷ cs) frame rows some =
    let height : length (reverse c.values) ≡ length f.rows = length-reverse c.values ∙ frame.heights.0 in
    ap (λ (rs : List (List Value)). let g : Frame = record { schema = f.schema; rows = rs } in g)
    (ap (λ (h : ℕ). rows_of h (column_values (map reversed_of (c ∷ cs)))) height ∙ rows_of-reversed (length f.rows) (c ∷ cs) frame.heights ∙ ap reverse (sym rows))

-- what follows of the value of a call that went well
pub then_ok : {T E : Type 0} {P Q : T → Type 0} (r : Result T E) → ((x : T) → P x → Q x) → IfOk r P → IfOk r Q
then_ok (Ok x) f p = f x p
then_ok (Err e) f p = tt
