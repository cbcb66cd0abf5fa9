-- Columns one above the other, as they are read one after another.
use Rattle.std.proofs.Common.{◌≡◌, ℕ, ◌+◌, ◌<◌, ◌≤◌, List, [], ◌∷◌, ◌++◌, length, take, get_or, sym, ◌∙◌, ap, subst, arith, append_assoc, length-append}
use Rattle.std.specs.Prelude.{map}
use Rattle.std.proofs.lemmas.List.{get_or_at}
use Rattle.ps_frame.proofs.Rows.{all_above-step, heights-above, kinds-above, kinds_agree, rows_of-above, same_length}
use Rattle.ps_frame.specs.Aggregates.{max_rows}
use Rattle.ps_frame.specs.Frames.{AllOfHeight, IsFrame, above, all_above, column_values, kinds_of}
use Rattle.ps_frame.specs.Series.{Series}
use Rattle.ps_frame.specs.Tables.{Fields, rows_of}
use Rattle.ps_frame.specs.declared.value.Value.{Value}

-- the next one of the upper columns, of which some were read, beside the lower columns
module _ (cs ds before left rest : List Series) (c : Series) (i : ℕ) (all : before ++ left ≡ cs) (next : left ≡ c ∷ rest) (index : i ≡ length before)
    (kinds : map (λ (t : Series). t.kind) cs ≡ map (λ (t : Series). t.kind) ds) where
  whole : before ++ c ∷ rest ≡ cs
  whole = ap (λ ts. before ++ ts) (sym next) ∙ all

  pub all-more : (before ++ c ∷ []) ++ rest ≡ cs
  all-more = append_assoc before (c ∷ []) rest ∙ whole

  pub index-more : i + 1 ≡ length (before ++ c ∷ [])
  index-more = let l = length-append before (c ∷ []) in omega arith

  upper-within : i < length cs
  upper-within = let l = ap length whole in let m = length-append before (c ∷ rest) in omega arith

  pub lower-within : i < length ds
  lower-within = let h = upper-within in let e = same_length cs ds kinds in omega arith

  upper-here : c ≡ get_or cs i c
  upper-here = sym (ap (λ ts. get_or ts i c) (sym whole) ∙ get_or_at before c rest c i (sym index))

  pub kind-here : (d : Series) → d ≡ get_or ds i d → c.kind ≡ d.kind
  kind-here d here = ap (λ (t : Series). t.kind) upper-here ∙ kinds_agree cs ds i c d kinds upper-within ∙ sym (ap (λ (t : Series). t.kind) here)

  pub one-above : (d both : Series) (joined new : List Series) → joined ≡ all_above (take i cs) (take i ds) → d ≡ get_or ds i d → both ≡ above c d → new ≡ joined ++ both ∷ []
      → new ≡ all_above (take (i + 1) cs) (take (i + 1) ds)
  one-above d both joined new so_far here is made = all_above-step cs ds i c d both joined new so_far upper-here here is made upper-within lower-within

-- a table below columns of the same fields
module _ (schema fields : Fields) (cs ds both : List Series) (rows : List (List Value)) (g h n : ℕ) (upper : IsFrame schema cs g) (lower : IsFrame fields ds (length rows)) (same : schema ≡ fields)
    (are : rows ≡ rows_of (length rows) (column_values ds)) (joined : both ≡ all_above cs ds) (height : h ≡ length rows) (sum : n ≡ g + h) where
  width : length cs ≡ length ds
  width = same_length cs ds (upper.kinds ∙ ap kinds_of same ∙ sym lower.kinds)

  total : n ≡ g + length rows
  total = sum ∙ ap (λ k. g + k) height

  pub frame-below : n ≤ max_rows → IsFrame schema both n
  frame-below small =
      let heights : AllOfHeight (g + length rows) (all_above cs ds) = heights-above g (length rows) cs ds width upper.heights lower.heights in
      record {
        kinds = ap (map (λ (t : Series). t.kind)) joined ∙ kinds-above cs ds width ∙ upper.kinds;
        heights = subst (λ (m : ℕ). AllOfHeight m both) (sym total) (subst (λ (ts : List Series). AllOfHeight (g + length rows) ts) (sym joined) heights);
        small = small;
      }

  pub rows-below : rows_of n (column_values both) ≡ rows_of g (column_values cs) ++ rows
  rows-below =
      (λ t. rows_of (total t) (column_values (joined t))) ∙ rows_of-above g (length rows) cs ds width upper.heights lower.heights ∙ ap (λ rs. rows_of g (column_values cs) ++ rs) (sym are)
