-- Tables whose keys are found by the order of rows.
use Rattle.std.proofs.Common.{◌≡◌, ℕ, ◌+◌, ◌<◌, List, [], ◌∷◌, ◌++◌, length, get_or, Bool, true, false, cond, refl, sym, ap, subst, ◌∙◌, inl, inr, arith}
use Rattle.std.specs.Prelude.{Some, None}
use Rattle.std.specs.Cmp.Lexicographic.{slice_cmp}
use Rattle.std.specs.Map.{lookup}
use Rattle.std.specs.Ordering.{is_eq}
use Rattle.std.proofs.Math.Seq.{get_or-append_seam}
use Rattle.std.proofs.lemmas.Bool.{cases_eq}
use Rattle.std.proofs.lemmas.List.{get_or_append_left, length_push}
use Rattle.ps_frame.specs.Series.{Series}
use Rattle.ps_frame.specs.Values.{value_cmp}
use Rattle.ps_keys.specs.Chains.{IsKeyOf, IsNew}
use Rattle.ps_keys.specs.Hashes.{HaveRow, row_at}
use Rattle.ps_keys.specs.Ordered.{IsOrdered, number_for}
use Rattle.ps_keys.specs.RowOrder.{values_of}
use Rattle.ps_keys.specs.declared.ordered.OrderedKeys.{OrderedKeys}
use Rattle.ps_keys.proofs.RowOrder.{same-tied, tied-same}

-- a table without keys
pub ordered-none : (columns : List Series) (t : OrderedKeys) → t.firsts.items ≡ [] → t.numbers.entries ≡ [] → IsOrdered columns t
ordered-none columns t firsts entries = record {
  found = λ i k have is.
      let none : None ≡ Some k = subst (λ es. lookup (λ r. is_eq (slice_cmp value_cmp (row_at columns i) (values_of r))) es ≡ Some k) entries is in
      absurd cc;
  absent = λ i have is k within. absurd (omega (arith, ap length firsts));
}

same-number : (a b : ℕ) → Some a ≡ Some b → a ≡ b
same-number a b e = cc

-- A key more, by its first row.
module _ (columns : List Series) (i n : ℕ) (t u : OrderedKeys) (before : IsOrdered columns t) (last : n ≡ length t.firsts.items) (firsts : u.firsts.items ≡ t.firsts.items ++ i ∷ [])
    (numbers : (j : ℕ) → HaveRow columns j → number_for u (row_at columns j) ≡ cond (is_eq (slice_cmp value_cmp (row_at columns i) (row_at columns j))) (Some n) (number_for t (row_at columns j))) where
  longer : length u.firsts.items ≡ n + 1
  longer = ap length firsts ∙ length_push t.firsts.items i ∙ ap (λ m. m + 1) (sym last)

  at-end : get_or u.firsts.items n 0 ≡ i
  at-end = ap (λ fs. get_or fs n 0) firsts ∙ ap (λ m. get_or (t.firsts.items ++ i ∷ []) m 0) last ∙ get_or-append_seam t.firsts.items i [] 0

  at-front : (k : ℕ) → k < length t.firsts.items → get_or u.firsts.items k 0 ≡ get_or t.firsts.items k 0
  at-front k within = ap (λ fs. get_or fs k 0) firsts ∙ get_or_append_left t.firsts.items (i ∷ []) 0 k within

  found-by : (j k : ℕ) (tie : Bool) → HaveRow columns j → is_eq (slice_cmp value_cmp (row_at columns i) (row_at columns j)) ≡ tie
      → cond tie (Some n) (number_for t (row_at columns j)) ≡ Some k → IsKeyOf (row_at columns) u.firsts.items j k
  found-by j k true have tie is =
      let here = same-number n k is in
      record {
        within = omega (arith, longer, here);
        same = ap (λ m. row_at columns (get_or u.firsts.items m 0)) (sym here) ∙ ap (row_at columns) at-end ∙ tied-same (row_at columns i) (row_at columns j) tie;
      }
  found-by j k false have tie is =
      let old = before.found j k have is in
      record {
        within = omega (arith, longer, last, old.within);
        same = ap (row_at columns) (at-front k old.within) ∙ old.same;
      }

  absent-by : (j : ℕ) (tie : Bool) → HaveRow columns j → is_eq (slice_cmp value_cmp (row_at columns i) (row_at columns j)) ≡ tie
      → cond tie (Some n) (number_for t (row_at columns j)) ≡ None → IsNew (row_at columns) u.firsts.items j
  absent-by j true have tie is k within e = absurd cc
  absent-by j false have tie is k within e = elim (cases_eq k n) [
    | inl same ↦
        let like : row_at columns i ≡ row_at columns j = ap (row_at columns) (sym at-end) ∙ ap (λ m. row_at columns (get_or u.firsts.items m 0)) (sym same) ∙ e in
        let yes = same-tied (row_at columns i) (row_at columns j) like in
        absurd cc
    | inr other ↦
        let inside : k < length t.firsts.items = omega (arith, longer, last) in
        before.absent j have is k inside (sym (ap (row_at columns) (at-front k inside)) ∙ e)
  ]

  pub ordered-push : IsOrdered columns u
  ordered-push = record {
    found = λ j k have is. found-by j k (is_eq (slice_cmp value_cmp (row_at columns i) (row_at columns j))) have refl (sym (numbers j have) ∙ is);
    absent = λ j have is. absent-by j (is_eq (slice_cmp value_cmp (row_at columns i) (row_at columns j))) have refl (sym (numbers j have) ∙ is);
  }
