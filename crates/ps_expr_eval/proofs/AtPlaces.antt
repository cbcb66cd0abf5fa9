-- Cells at places of a column.
use Rattle.std.proofs.Common.{◌≡◌, ℕ, ◌<◌, List, [], ◌∷◌, ◌++◌, length, get_or, Bool, true, false, refl, sym, ◌∙◌, ap, arith, append-nil}
use Rattle.std.specs.List.{All, range_with_len}
use Rattle.std.specs.Prelude.{map, None, if◌then◌else◌}
use Rattle.std.proofs.lemmas.List.{map-append}
use Rattle.std.proofs.lemmas.List.Elements.{All-from_get_or, All-head, All-map, All-push, All-same, All-tail, All-weaker}
use Rattle.std.proofs.lemmas.List.FromFn.{get_or-range_with_len, length-range_with_len}
use Rattle.ps_expr_eval.specs.Held.{cell_at, cells_of, first_bad, held_values}
use Rattle.ps_expr_eval.specs.Rows.{FillsRows, StandAt, kept_value, repeats}
use Rattle.ps_expr_eval.specs.Lanes.{lane}
use Rattle.ps_expr_eval.specs.declared.computed.ComputedColumn.{ComputedColumn}
use Rattle.ps_expr_eval.proofs.LaneRows.{cell-at, cell_of}
use Rattle.ps_expr_eval.proofs.Zips.{get_or-map_at, map_same, map-map}
use Rattle.ps_frame.specs.Eval.{at}
use Rattle.ps_frame.specs.Values.{is_true}
use Rattle.ps_frame.specs.declared.value.Cell.{Cell as Held}
use Rattle.ps_frame.specs.declared.value.Cell.TheVariants as held
use Rattle.ps_frame.specs.declared.value.Value.{Value}
use Rattle.ps_frame.specs.declared.value.Value.TheVariants as val

-- the cells of values at places
pub gathered_cells : (vs : List Value) (places : List ℕ) → map held.Val (map (λ i. get_or vs i val.Null) places) ≡ map (cell_at (map held.Val vs)) places
gathered_cells vs places =
    map-map held.Val (λ i. get_or vs i val.Null) places
    ∙ map_same (λ i. held.Val (get_or vs i val.Null)) (cell_at (map held.Val vs)) (λ i. sym (get_or-map_at held.Val vs i val.Null)) places

-- the place that gives a row is there
pub place-there : (cs : List Held) (repeats : Bool) (n i p : ℕ) → FillsRows cs repeats n → i < n → p ≡ (if repeats then 0 else i) → p < length cs
place-there cs true n i p fills h e = rw e (omega (arith, fills))
place-there cs false n i p fills h e = rw e (omega (arith, fills))

pub places-there : (p : ComputedColumn) (n : ℕ) (r : Bool) (rows places : List ℕ) → FillsRows (cells_of p.cells) (repeats p) n → r ≡ repeats p → All (λ i. i < n) rows → places ≡ map (λ i. if r then 0 else i) rows → All (λ i. i < length (cells_of p.cells)) places
places-there p n r rows places fills e below is =
    let cs = cells_of p.cells in
    let f : ℕ → ℕ = λ i. if repeats p then 0 else i in
    All-same (λ i. i < length cs) places (map f rows) (is ∙ ap (λ b. map (λ i. if b then 0 else i) rows) e)
    (All-map (λ i. i < length cs) f rows (All-weaker (λ i. i < n) (λ i. f i < length cs) (λ i h. place-there cs (repeats p) n i (f i) fills h refl) rows below))

-- the numbers below n
pub range-below : (n : ℕ) → All (λ i. i < n) (range_with_len 0 n)
range-below n =
    All-from_get_or (λ i. i < n) (range_with_len 0 n) 0
    (λ i h. let l = length-range_with_len 0 n in let within : i < n = omega arith in let g = get_or-range_with_len 0 n i 0 within in omega arith)

pub map_within : {A B : Type 0} (P : A → Type 0) (f g : A → B) → ((x : A) → P x → f x ≡ g x) → (xs : List A) → All P xs → map f xs ≡ map g xs
map_within P f g same [] all = refl
map_within P f g same (x ∷ xs) all =
    let a = same x (All-head P x xs all) in
    let b = map_within P f g same xs (All-tail P x xs all) in cc

-- the cells at the places of rows
pub lane-picked : (p : ComputedColumn) (n : ℕ) (vs : List Value) (r : Bool) (rows places : List ℕ) → r ≡ repeats p → All (λ i. i < n) rows → lane p n ≡ map held.Val vs → places ≡ map (λ i. if r then 0 else i) rows
    → map (cell_at (cells_of p.cells)) places ≡ map held.Val (map (λ i. at i vs) rows)
lane-picked p n vs r rows places e below whole is =
    let cs = cells_of p.cells in
    ap (map (cell_at cs)) (is ∙ ap (λ b. map (λ i. if b then 0 else i) rows) e) ∙ map-map (cell_at cs) (λ i. if repeats p then 0 else i) rows
    ∙ map_within (λ i. i < n) (cell_of p) (λ i. held.Val (at i vs)) (λ i h. cell-at p n i vs whole h) rows below ∙ sym (map-map held.Val (λ i. at i vs) rows)

-- cells without a fault are those of their values
pub whole-lane : (hs : List Held) → first_bad hs ≡ None → hs ≡ map held.Val (held_values hs)
whole-lane [] e = refl
whole-lane (held.Val v ∷ hs) e = ap (λ ws. held.Val v ∷ ws) (whole-lane hs e)
whole-lane (held.Bad f ∷ hs) e = cc

-- the first of two cells without a fault holds the first value
pub first-held : (h k : Held) (a m : Value) → first_bad (h ∷ k ∷ []) ≡ None → held_values (h ∷ k ∷ []) ≡ a ∷ m ∷ [] → h ≡ held.Val a
first-held (held.Val v) (held.Val w) a m whole e = cc
first-held (held.Val v) (held.Bad f) a m whole e = cc
first-held (held.Bad f) k a m whole e = cc

-- no place
pub stand-none : (cs : List Held) → StandAt cs [] []
stand-none cs = record { there = λ k d h. absurd (omega (arith, h)); values = refl }

-- one more place, or none
pub stand-more : (cs : List Held) (old new : List ℕ) (vs : List Value) (p : ℕ) (v m : Value) → p < length cs → cell_at cs p ≡ held.Val v → new ≡ old ++ (if is_true m then p ∷ [] else []) → StandAt cs old vs → StandAt cs new (vs ++ kept_value (v ∷ m ∷ []))
stand-more cs old new vs p v m there is grown stand = go (is_true m) refl
  where
    one : StandAt cs (old ++ p ∷ []) (vs ++ v ∷ [])
    one = record {
      there = All-push (λ i. i < length cs) old p stand.there there;
      values = map-append (cell_at cs) old (p ∷ []) ∙ ap (λ hs. hs ++ cell_at cs p ∷ []) stand.values ∙ ap (λ h. map held.Val vs ++ h ∷ []) is ∙ sym (map-append held.Val vs (v ∷ []));
    }

    go : (b : Bool) → is_true m ≡ b → StandAt cs new (vs ++ kept_value (v ∷ m ∷ []))
    go true e =
        let places : new ≡ old ++ p ∷ [] = grown ∙ ap (λ b. old ++ (if b then p ∷ [] else [])) e in
        rw (places, e) one
    go false e =
        let places : new ≡ old = grown ∙ ap (λ b. old ++ (if b then p ∷ [] else [])) e ∙ append-nil old in
        rw (places, e, append-nil vs) stand
