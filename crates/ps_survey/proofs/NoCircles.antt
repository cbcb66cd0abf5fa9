-- Where each number stands once and after what it names, nothing reaches itself.
use Rattle.std.proofs.Common.{◌≡◌, ◌≢◌, ◌⊎◌, inl, inr, ℕ, zero, suc, ◌+◌, ◌<◌, ◌≤◌, List, [], ◌∷◌, ◌++◌, length, get_or, get_or-take, length-take, take, slice_get, refl, sym, ◌∙◌, ap, subst, arith}
use Rattle.std.specs.Prelude.{Some, Contains}
use Rattle.std.proofs.lemmas.Option.{slice_get-get_or, slice_get_within}
use Rattle.ps_plan.specs.Graph.{HasNoCircle, IsInRange, Leads, Names, Path, exprs_at, here, inputs_at, onward, operands_at}
use Rattle.ps_plan.specs.Plans.{IsPlan, Plan}
use Rattle.ps_frame.specs.Trees.{IsExpression}
use Rattle.ps_plan.proofs.Complete.{expr-complete, node-is-complete}
use Rattle.ps_survey.specs.Orders.{IsExprOrder, IsNodeOrder}
use Rattle.valid_plans.specs.Surveys.{NamedFirst, Once}
use Rattle.ps_survey.proofs.Lists.{at-from, from-at}

-- the place of an element of a front
in-front : (order : List ℕ) (i m : ℕ) → i ≤ length order → Contains (take i order) m → (j : ℕ) × (j < i) × (slice_get order j ≡ Some m)
in-front order i m h c =
    let l = length-take i order in
    let j : c.0 < i = omega (arith, l, c.1) in
    (c.0, j, slice_get-get_or order c.0 m (omega (arith, h, j)) ∙ ap (λ y. Some y) (sym (get_or-take i order c.0 m j) ∙ c.2))

module _ (next : ℕ → List ℕ) (order : List ℕ) (once : Once order) (first : NamedFirst next order) where
  -- what a number leads to stands no later
  behind : (i a b : ℕ) → slice_get order i ≡ Some a → Path next a b → (j : ℕ) × (j ≤ i) × (slice_get order j ≡ Some b)
  behind i a b at here = (i, omega arith, at)
  behind i a b at (onward {b = m} c way) =
      let l = slice_get_within order i a at in
      let f = in-front order i m (omega (arith, l)) (first i a m at c) in
      let r = behind f.0 m b f.2 way in
      (r.0, omega (arith, r.1, f.1), r.2)

  pub reached-in : (a b : ℕ) → Contains order a → Path next a b → Contains order b
  reached-in a b c way = let p = at-from order a c in let r = behind p.0 a b p.2 way in from-at order r.0 b r.2

  pub no-circle : (n : ℕ) → Contains order n → ¬ Leads next n n
  no-circle n c leads =
      let p = at-from order n c in
      let f = in-front order p.0 leads.first (omega (arith, p.1)) (first p.0 n leads.first p.2 leads.is_next) in
      let r = behind f.0 leads.first n f.2 leads.way in
      twice p.0 r.0 (omega (arith, r.1, f.1)) p.1 p.2 r.2
    where
      twice : (i j : ℕ) → j < i → i < length order → slice_get order i ≡ Some n → slice_get order j ≡ Some n → ⊥
      twice i j h l at at' =
          let a : Some (get_or order i 0) ≡ Some n = sym (slice_get-get_or order i 0 l) ∙ at in
          let b : Some (get_or order j 0) ≡ Some n = sym (slice_get-get_or order j 0 (omega (arith, h, l))) ∙ at' in
          once j i 0 h l (cc)

module _ (plan : Plan) (nodes exprs : List ℕ) (n-order : IsNodeOrder plan nodes) (e-order : IsExprOrder plan nodes exprs) where
  pub nodes-in : (n m : ℕ) → Contains nodes n → Path (inputs_at plan) n m → Contains nodes m
  nodes-in n m c way = reached-in (inputs_at plan) nodes n-order.once n-order.first n m c way

  pub exprs-in : (n e : ℕ) → Contains nodes n → Names plan n e → Contains exprs e
  exprs-in n e c names = reached-in (operands_at plan) exprs e-order.once e-order.first names.from e (e-order.own n names.from c names.is_own) names.way

  pub has-no-circle : (n : ℕ) → Contains nodes n → HasNoCircle plan n
  has-no-circle n c =
      record {
        nodes = λ m way. no-circle (inputs_at plan) nodes n-order.once n-order.first m (nodes-in n m c way);
        exprs = λ m e way names. no-circle (operands_at plan) exprs e-order.once e-order.first e (exprs-in m e (nodes-in n m c way) names);
      }

  pub is-in-range : (n : ℕ) → Contains nodes n → IsInRange plan n
  is-in-range n c = record { nodes = λ m way. n-order.within m (nodes-in n m c way); exprs = λ m e way names. e-order.within e (exprs-in m e (nodes-in n m c way) names) }

  pub is-plan : (n : ℕ) → Contains nodes n → IsPlan plan.nodes plan.exprs (record { 0 = n })
  is-plan n c = node-is-complete plan n (has-no-circle n c) (is-in-range n c)

  pub is-expression : (e : ℕ) → Contains exprs e → IsExpression plan.exprs (record { 0 = e })
  is-expression e c =
      expr-complete plan e (λ m way. no-circle (operands_at plan) exprs e-order.once e-order.first m (reached-in (operands_at plan) exprs e-order.once e-order.first e m c way))
      (λ m way. e-order.within m (reached-in (operands_at plan) exprs e-order.once e-order.first e m c way))
