-- What a negative slice keeps is enough: the rows that it gives are those of its case over all that came.
use Rattle.std.proofs.Common.{◌≡◌, ℕ, ◌+◌, ◌-◌, ◌≤◌, ◌⊎◌, Bool, true, false, List, [], ◌∷◌, ◌++◌, length, refl, sym, ap, subst, ◌∙◌, inl, inr, append_assoc, append-nil, arith}
use Rattle.std.specs.Prelude.{drop, nat_le, take}
use Rattle.std.proofs.Math.Seq.{drop-append-add, take-append-add}
use Rattle.std.proofs.lemmas.Bool.Decides.{nat_tests}
use Rattle.std.proofs.lemmas.List.{length-append}
use Rattle.ps_frame.specs.Tables.{Row}
use Rattle.ps_turns.specs.Ends.{HoldsEnd, IsShort, last_kept, rows_at_end}
use Rattle.ps_turns.specs.Heads.{stored_rows}
use Rattle.ps_meaning.specs.Cases.{rows_from_end}

-- rows that are gone don't matter where the others are enough
enough_left : (back n : ℕ) (gone rs : List Row) → back ≤ length rs → rows_at_end back n (length gone + length rs) rs ≡ rows_from_end back n (gone ++ rs)
enough_left back n gone rs h = here ∙ sym there
  where
    g : ℕ
    g = length gone

    m : ℕ
    m = length rs

    start : g + m - back - (g + m - m) ≡ m - back
    start = omega arith

    end : g + m + n - back - (g + m - m) ≡ m + n - back
    end = omega arith

    here : rows_at_end back n (g + m) rs ≡ drop (m - back) (take (m + n - back) rs)
    here = ap (λ k. drop k (take (g + m + n - back - (g + m - m)) rs)) start ∙ ap (λ k. drop (m - back) (take k rs)) end

    past_start : g + m - back ≡ g + (m - back)
    past_start = omega arith

    past_end : g + m + n - back ≡ g + (m + n - back)
    past_end = omega arith

    there : rows_from_end back n (gone ++ rs) ≡ drop (m - back) (take (m + n - back) rs)
    there =
        ap (λ k. drop (k - back) (take (k + n - back) (gone ++ rs))) (length-append gone rs) ∙ ap (λ k. drop (g + m - back) (take k (gone ++ rs))) past_end
        ∙ ap (λ xs. drop (g + m - back) xs) (take-append-add gone rs (m + n - back)) ∙ ap (λ k. drop k (gone ++ take (m + n - back) rs)) past_start ∙ drop-append-add gone (take (m + n - back) rs) (m - back)

none_lost : (back n : ℕ) (rs : List Row) → rows_at_end back n (length rs) rs ≡ rows_from_end back n rs
none_lost back n rs =
    let start : length rs - back - (length rs - length rs) ≡ length rs - back = omega arith in
    let end : length rs + n - back - (length rs - length rs) ≡ length rs + n - back = omega arith in
    ap (λ k. drop k (take (length rs + n - back - (length rs - length rs)) rs)) start ∙ ap (λ k. drop (length rs - back) (take k rs)) end

pub gives_case : (back n : ℕ) (came : List Row) (count : ℕ) (store : List (List Row)) → HoldsEnd back came count store → rows_at_end back n count (stored_rows store) ≡ rows_from_end back n came
gives_case back n came count store h = by h.enough
  where
    rs : List Row
    rs = stored_rows store

    by : (h.gone ≡ []) ⊎ (back ≤ length rs) → rows_at_end back n count rs ≡ rows_from_end back n came
    by (inl none) =
        let all : rs ≡ came = sym (ap (λ xs. xs ++ rs) none) ∙ h.splits in
        ap (λ k. rows_at_end back n k rs) (h.counted ∙ ap length (sym all)) ∙ none_lost back n rs ∙ ap (rows_from_end back n) all
    by (inr many) =
        let counted : count ≡ length h.gone + length rs = h.counted ∙ ap length (sym h.splits) ∙ length-append h.gone rs in
        ap (λ k. rows_at_end back n k rs) counted ∙ enough_left back n h.gone rs many ∙ ap (rows_from_end back n) h.splits

-- what a store lets go of stands in front of what it keeps
pub record LetsGo (back : ℕ) (store kept : List (List Row)) : Type 0 where
  pub gone : List Row
  pub splits : gone ++ stored_rows kept ≡ stored_rows store
  pub enough : (gone ≡ []) ⊎ (back ≤ length (stored_rows kept))
  pub short : IsShort back kept

pub lets_go : (back : ℕ) (store : List (List Row)) → LetsGo back store (last_kept back store)
lets_go back [] = record { gone = []; splits = refl; enough = inl refl; short = tt }
lets_go back (m ∷ ms) = by (nat_le back (length (stored_rows ms))) refl (lets_go back ms)
  where
    by : (b : Bool) → nat_le back (length (stored_rows ms)) ≡ b → LetsGo back ms (last_kept back ms) → LetsGo back (m ∷ ms) (last_kept back (m ∷ ms))
    by true e rest = let same : last_kept back (m ∷ ms) ≡ last_kept back ms = rw e refl in subst (LetsGo back (m ∷ ms)) (sym same) (record { gone = m ++ rest.gone; splits = append_assoc m rest.gone (stored_rows (last_kept back ms)) ∙ ap (λ xs. m ++ xs) rest.splits; enough = inr (many rest.enough); short = rest.short })
      where
        here : back ≤ length (stored_rows ms)
        here = grind (arith, nat_tests)

        many : (rest.gone ≡ []) ⊎ (back ≤ length (stored_rows (last_kept back ms))) → back ≤ length (stored_rows (last_kept back ms))
        many (inl none) = let all : stored_rows (last_kept back ms) ≡ stored_rows ms = sym (ap (λ xs. xs ++ stored_rows (last_kept back ms)) none) ∙ rest.splits in subst (λ xs. back ≤ length xs) (sym all) here
        many (inr h) = h
    by false e rest = let same : last_kept back (m ∷ ms) ≡ m ∷ ms = rw e refl in subst (LetsGo back (m ∷ ms)) (sym same) (record { gone = []; splits = refl; enough = inl refl; short = grind (arith, nat_tests) })

stored_append : (ms : List (List Row)) (m : List Row) → stored_rows (ms ++ m ∷ []) ≡ stored_rows ms ++ m
stored_append [] m = append-nil m
stored_append (x ∷ xs) m = ap (λ rs. x ++ rs) (stored_append xs m) ∙ sym (append_assoc x (stored_rows xs) m)

-- a pull keeps the invariant
pub holds_after_pull : (back : ℕ) (came m : List Row) (count : ℕ) (store : List (List Row)) → HoldsEnd back came count store → HoldsEnd back (came ++ m) (count + length m) (last_kept back (store ++ m ∷ []))
holds_after_pull back came m count store h =
    record {
      gone = h.gone ++ go.gone;
      splits = append_assoc h.gone go.gone (stored_rows kept) ∙ ap (λ xs. h.gone ++ xs) (go.splits ∙ stored_append store m) ∙ sym (append_assoc h.gone (stored_rows store) m) ∙ ap (λ xs. xs ++ m) h.splits;
      counted = ap (λ k. k + length m) h.counted ∙ sym (length-append came m);
      enough = by go.enough h.enough;
      short = go.short;
    }
  where
    kept : List (List Row)
    kept = last_kept back (store ++ m ∷ [])

    go : LetsGo back (store ++ m ∷ []) kept
    go = lets_go back (store ++ m ∷ [])

    by : (go.gone ≡ []) ⊎ (back ≤ length (stored_rows kept)) → (h.gone ≡ []) ⊎ (back ≤ length (stored_rows store)) → (h.gone ++ go.gone ≡ []) ⊎ (back ≤ length (stored_rows kept))
    by (inr many) e = inr many
    by (inl none) (inl first) = inl (ap (λ xs. xs ++ go.gone) first ∙ none)
    by (inl none) (inr many) =
        let all : stored_rows kept ≡ stored_rows store ++ m = sym (ap (λ xs. xs ++ stored_rows kept) none) ∙ go.splits ∙ stored_append store m in
        let long : length (stored_rows kept) ≡ length (stored_rows store) + length m = ap length all ∙ length-append (stored_rows store) m in
        inr (omega arith)
