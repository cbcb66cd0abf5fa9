-- What is kept of the columns of entries.
use Rattle.std.proofs.Common.{◌≡◌, ◌≢◌, ℕ, zero, suc, List, refl, subst, sym, ap, inl, inr, arith}
use Rattle.std.specs.Prelude.{◌⊎◌, IfSome, Option, Some, None}
use Rattle.ps_expr_eval.specs.Evaluations.{Evaluates}
use Rattle.ps_expr_eval.specs.declared.computed.ComputedColumn.{ComputedColumn}
use Rattle.ps_frame.specs.Tables.{Frame}
use Rattle.ps_frame.specs.Trees.{tree_at}
use Rattle.ps_frame.specs.declared.expr.AExpr.{AExpr}
use Rattle.pu_base.specs.declared.arena.Node.{Node}

pub same-or-not : (m n : ℕ) → (m ≡ n) ⊎ (m ≢ n)
same-or-not zero zero = inl refl
same-or-not zero (suc n) = inr (λ e. omega (arith, e))
same-or-not (suc m) zero = inr (λ e. omega (arith, e))
same-or-not (suc m) (suc n) = by (same-or-not m n)
  where
    by : (m ≡ n) ⊎ (m ≢ n) → (suc m ≡ suc n) ⊎ (suc m ≢ suc n)
    by (inl e) = inl (ap (λ k. suc k) e)
    by (inr d) = inr (λ e. d (omega (arith, e)))

-- what is known of the columns of entries
abbrev pub Known : Frame → List AExpr → (ℕ → Option ComputedColumn) → Type 0
Known t a m = (n : ℕ) → IfSome (m n) (Evaluates t (tree_at a (record { 0 = n })))

-- one entry was changed
changed : (t : Frame) (a : List AExpr) (m o : ℕ → Option ComputedColumn) (n : ℕ) → Known t a m → ((q : ℕ) → q ≢ n → o q ≡ m q) → IfSome (o n) (Evaluates t (tree_at a (record { 0 = n }))) → Known t a o
changed t a m o n h others here q = by (same-or-not q n)
  where
    by : (q ≡ n) ⊎ (q ≢ n) → IfSome (o q) (Evaluates t (tree_at a (record { 0 = q })))
    by (inl e) = let P : ℕ → Type 0 = λ k. IfSome (o k) (Evaluates t (tree_at a (record { 0 = k }))) in subst P (sym e) here
    by (inr ne) = subst (λ (x : Option ComputedColumn). IfSome x (Evaluates t (tree_at a (record { 0 = q })))) (sym (others q ne)) (h q)

pub removed : (t : Frame) (a : List AExpr) (m o : ℕ → Option ComputedColumn) (n : ℕ) → ((q : ℕ) → q ≢ n → o q ≡ m q) → o n ≡ None → Known t a m → Known t a o
removed t a m o n others none h = changed t a m o n h others (subst (λ (x : Option ComputedColumn). IfSome x (Evaluates t (tree_at a (record { 0 = n })))) (sym none) tt)

pub added : (t : Frame) (a : List AExpr) (m o : ℕ → Option ComputedColumn) (n : ℕ) (p : ComputedColumn) → ((q : ℕ) → q ≢ n → o q ≡ m q) → o n ≡ Some p → Evaluates t (tree_at a (record { 0 = n })) p → Known t a m → Known t a o
added t a m o n p others is e h = changed t a m o n h others (subst (λ (x : Option ComputedColumn). IfSome x (Evaluates t (tree_at a (record { 0 = n })))) (sym is) e)

-- the column of an entry, where one is known
pub known-here : (t : Frame) (a : List AExpr) (m : ℕ → Option ComputedColumn) (n : Node) (x : Option ComputedColumn) → x ≡ m n.0 → Known t a m → IfSome x (Evaluates t (tree_at a n))
known-here t a m n x is h = subst (λ (y : Option ComputedColumn). IfSome y (Evaluates t (tree_at a n))) (sym is) (h n.0)
