-- When what is left falls: at the first node where it changes, or behind all nodes.
use Rattle.std.proofs.Common.{◌≡◌, ℕ, zero, suc, ◌<◌, ◌+◌, ◌≤◌, ◌⊎◌, cond, List, [], ◌∷◌, ◌++◌, length, refl, sym, ap, subst, ◌∙◌, inl, inr, arith}
use Rattle.std.specs.List.{count_by}
use Rattle.std.proofs.lemmas.Bool.{cases_lt}
use Rattle.ps_world.specs.World.{World}
use Rattle.world_measure.specs.Left.{is_unclosed, left_of_nodes, left_to_do, own_left_at, untaken_by}
use Rattle.world_measure.specs.Order.{IsLess}
use Rattle.world_measure.proofs.OrderEnds.{back_less, front_less}

-- pieces, open nodes and the phase
abbrev pub behind_nodes : World → List ℕ
behind_nodes w = length w.outs ∷ count_by is_unclosed w.nodes ∷ cond w.is_open 1 0 ∷ []

abbrev pub nodes_left : World → List ℕ
nodes_left w = left_of_nodes (length w.nodes) 0 w

module _ (w v : World) where
  equally_long : (k n : ℕ) → length (left_of_nodes k n v) ≡ length (left_of_nodes k n w)
  equally_long zero n = refl
  equally_long (suc k) n = ap (λ m. suc (suc m)) (equally_long k (n + 1))

  -- before node d nothing rises, and at d something falls
  falls_from : (k n d : ℕ) → n ≤ d → d < n + k → ((j : ℕ) → j ≤ d → untaken_by j v.pipes ≤ untaken_by j w.pipes) → ((j : ℕ) → j < d → own_left_at v j ≤ own_left_at w j)
      → (untaken_by d v.pipes < untaken_by d w.pipes) ⊎ (own_left_at v d < own_left_at w d) → IsLess (left_of_nodes k n v) (left_of_nodes k n w)
  falls_from zero n d low high pipes own falls = absurd (omega arith)
  falls_from (suc k) n d low high pipes own falls =
      by (λ before. falls_from k (n + 1) d (omega arith) (omega arith) pipes own falls) (cases_lt n d) (cases_lt (untaken_by n v.pipes) (untaken_by n w.pipes)) (cases_lt (own_left_at v n) (own_left_at w n))
    where
      same_pipes : untaken_by n w.pipes ≤ untaken_by n v.pipes → untaken_by n v.pipes ≡ untaken_by n w.pipes
      same_pipes more = let less = pipes n low in omega arith

      not_here : d ≡ n → untaken_by n w.pipes ≤ untaken_by n v.pipes → own_left_at w n ≤ own_left_at v n → ⊥
      not_here e p o = no (subst (λ m. (untaken_by m v.pipes < untaken_by m w.pipes) ⊎ (own_left_at v m < own_left_at w m)) e falls)
        where
          no : (untaken_by n v.pipes < untaken_by n w.pipes) ⊎ (own_left_at v n < own_left_at w n) → ⊥
          no (inl less) = omega arith
          no (inr less) = omega arith

      by : (n < d → IsLess (left_of_nodes k (n + 1) v) (left_of_nodes k (n + 1) w)) → (n < d) ⊎ (d ≤ n) → (untaken_by n v.pipes < untaken_by n w.pipes) ⊎ (untaken_by n w.pipes ≤ untaken_by n v.pipes)
          → (own_left_at v n < own_left_at w n) ⊎ (own_left_at w n ≤ own_left_at v n) → IsLess (left_of_nodes (suc k) n v) (left_of_nodes (suc k) n w)
      by rest place (inl less) own' = inl (less, ap suc (equally_long k (n + 1)))
      by rest place (inr more) (inl less) = inr (same_pipes more, inl (less, equally_long k (n + 1)))
      by rest (inl before) (inr more) (inr most) = inr (same_pipes more, inr (let less = own n before in omega arith, rest before))
      by rest (inr here) (inr more) (inr most) = absurd (not_here (omega arith) more most)

  pub nodes_fall : (d : ℕ) → length v.nodes ≡ length w.nodes → d < length w.nodes → ((j : ℕ) → j ≤ d → untaken_by j v.pipes ≤ untaken_by j w.pipes) → ((j : ℕ) → j < d → own_left_at v j ≤ own_left_at w j)
      → (untaken_by d v.pipes < untaken_by d w.pipes) ⊎ (own_left_at v d < own_left_at w d) → IsLess (nodes_left v) (nodes_left w)
  nodes_fall d long at pipes own falls = subst (λ k. IsLess (left_of_nodes k 0 v) (nodes_left w)) (sym long) (falls_from (length w.nodes) 0 d (omega arith) (omega arith) pipes own falls)

  pub work_falls : IsLess (nodes_left v) (nodes_left w) → IsLess (left_to_do v) (left_to_do w)
  work_falls less = front_less (nodes_left v) (nodes_left w) (behind_nodes v) (behind_nodes w) less refl

  same_left : (k n : ℕ) → ((j : ℕ) → untaken_by j v.pipes ≡ untaken_by j w.pipes) → ((j : ℕ) → own_left_at v j ≡ own_left_at w j) → left_of_nodes k n v ≡ left_of_nodes k n w
  same_left zero n pipes own = refl
  same_left (suc k) n pipes own = let p = pipes n in let o = own n in let rest = same_left k (n + 1) pipes own in λ i. p i ∷ o i ∷ rest i

  pub nodes_long : length v.nodes ≡ length w.nodes → length (nodes_left v) ≡ length (nodes_left w)
  nodes_long e = ap (λ k. length (left_of_nodes k 0 v)) e ∙ equally_long (length w.nodes) 0

  pub nodes_same : length v.nodes ≡ length w.nodes → ((j : ℕ) → untaken_by j v.pipes ≡ untaken_by j w.pipes) → ((j : ℕ) → own_left_at v j ≡ own_left_at w j) → nodes_left v ≡ nodes_left w
  nodes_same e pipes own = ap (λ k. left_of_nodes k 0 v) e ∙ same_left (length w.nodes) 0 pipes own

  pub rest_falls : length v.nodes ≡ length w.nodes → ((j : ℕ) → untaken_by j v.pipes ≡ untaken_by j w.pipes) → ((j : ℕ) → own_left_at v j ≡ own_left_at w j) → IsLess (behind_nodes v) (behind_nodes w) → IsLess (left_to_do v) (left_to_do w)
  rest_falls long pipes own less =
      subst (λ k. IsLess (left_of_nodes k 0 v ++ behind_nodes v) (left_to_do w)) (sym long)
      (back_less (left_of_nodes (length w.nodes) 0 v) (left_of_nodes (length w.nodes) 0 w) (behind_nodes v) (behind_nodes w) (same_left (length w.nodes) 0 pipes own) less)
