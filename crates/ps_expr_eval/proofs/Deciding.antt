-- What was decided of a pair of places is so in each row that these give.
use Rattle.std.proofs.Common.{◌≡◌, ◌≢◌, ℕ, zero, suc, ◌+◌, ◌*◌, ◌<◌, List, Bool, true, false, get_or, refl, subst, sym, ◌∙◌, ap, ap₂, inl, inr, arith}
use Rattle.std.specs.Prelude.{◌⊎◌, map, slice_get, option_and_then, option_map, IfSome, Option, Some, None, if◌then◌else◌}
use Rattle.std.specs.Borrow.{Bor}
use Rattle.std.specs.BTreeMap.{get}
use Rattle.std.specs.Ordering.{nat_cmp}
use Rattle.std.proofs.lemmas.Option.{get_or_from_slice_get, slice_get-map}
use Rattle.ps_expr_eval.proofs.Remembering.{same-or-not}
use Rattle.ps_expr_eval.specs.Decided.{IsPair, Knows}
use Rattle.ps_expr_eval.specs.Operands.{IsPlaced, place_for, value_for}
use Rattle.ps_expr_eval.specs.declared.decided.Decided.{Decided}
use Rattle.ps_expr_eval.specs.declared.operand.Operand.{Operand}
use Rattle.ps_frame.specs.Gathered.{ArePicked, picked}
use Rattle.ps_frame.specs.Operators.{binary_value}
use Rattle.ps_frame.specs.declared.expr.Operator.{Operator}
use Rattle.ps_frame.specs.declared.value.Value.{Value}
use Rattle.ps_frame.specs.declared.value.Value.TheVariants as val

-- the value that stands where it was picked
at-place : (vs others : List Value) (places : List ℕ) (r k : ℕ) → vs ≡ picked (Some places) others → slice_get places r ≡ Some k → get_or vs r val.Null ≡ get_or others k val.Null
at-place vs others places r k is e =
    let pick : ℕ → Value = λ i. get_or others i val.Null in
    ap (λ xs. get_or xs r val.Null) is ∙ get_or_from_slice_get (map pick places) r (pick k) val.Null (slice_get-map pick places r ∙ ap (option_map pick) e)

-- rows that one place gives have one value
same-value : (o : Operand) (r s k : ℕ) → IsPlaced o → place_for o r ≡ Some k → place_for o s ≡ Some k → value_for o r ≡ value_for o s
same-value o r s k placed er es = by o.repeats o.picks placed er es
  where
    by : (b : Bool) (picks : Option (Bor (List ℕ) × ℕ)) → IfSome picks (λ p. ArePicked o.values p.0.now p.1) → (if b then Some 0 else option_and_then (λ p. slice_get p.0.now r) picks) ≡ Some k → (if b then Some 0 else option_and_then (λ p. slice_get p.0.now s) picks) ≡ Some k
        → get_or o.values (if b then 0 else r) val.Null ≡ get_or o.values (if b then 0 else s) val.Null
    by true picks placed er es = refl
    by false None placed er es = cc
    by false (Some p) placed er es = at-place o.values placed.others p.0.now r k placed.are er ∙ sym (at-place o.values placed.others p.0.now s k placed.are es)

-- a number tells one pair
one-pair : (c l m r s : ℕ) → l * c + r ≡ m * c + s → r < c → s < c → (l ≡ m) × (r ≡ s)
one-pair c zero zero r s e a b = (refl, omega (arith, e))
one-pair c zero (suc m) r s e a b = absurd (omega (arith, e, a))
one-pair c (suc l) zero r s e a b = absurd (omega (arith, e, b))
one-pair c (suc l) (suc m) r s e a b =
    let rest = one-pair c l m r s (omega (arith, e)) a b in
    (ap (λ k. suc k) rest.0, rest.1)

-- what an operator gives in rows of one pair
same-answer : (op : Operator) (left right : Operand) (r s pair : ℕ) → IsPlaced left → IsPlaced right → IsPair left right r pair → IsPair left right s pair → binary_value op (value_for left r) (value_for right r) ≡ binary_value op (value_for left s) (value_for right s)
same-answer op left right r s pair at-left at-right p q =
    let same = one-pair _ p.first q.first p.second q.second (sym p.number ∙ q.number) p.below q.below in
    ap₂ (binary_value op) (same-value left r s p.first at-left p.first_is (q.first_is ∙ ap Some (sym same.0))) (same-value right r s p.second at-right p.second_is (q.second_is ∙ ap Some (sym same.1)))

abbrev IsKnown : Operator → Operand → Operand → ℕ → Bool → Type 0
IsKnown op left right pair answer = (row : ℕ) → IsPair left right row pair → binary_value op (value_for left row) (value_for right row) ≡ val.Boolean answer

-- one pair more
pub knows-more : (op : Operator) (left right : Operand) (before after : Decided) (row pair : ℕ) (answer : Bool) → IsPlaced left → IsPlaced right → IsPair left right row pair → binary_value op (value_for left row) (value_for right row) ≡ val.Boolean answer
    → get nat_cmp after.answers pair ≡ Some answer → ((q : ℕ) → q ≢ pair → get nat_cmp after.answers q ≡ get nat_cmp before.answers q) → Knows op left right before → Knows op left right after
knows-more op left right before after row pair answer at-left at-right is found here others known q = by (same-or-not q pair)
  where
    by : (q ≡ pair) ⊎ (q ≢ pair) → IfSome (get nat_cmp after.answers q) (IsKnown op left right q)
    by (inl e) =
        let P : ℕ → Type 0 = λ n. IfSome (get nat_cmp after.answers n) (IsKnown op left right n) in
        subst P (sym e) (subst (λ (x : Option Bool). IfSome x (IsKnown op left right pair)) (sym here) (λ r p. same-answer op left right r row pair at-left at-right p is ∙ found))
    by (inr ne) = subst (λ (x : Option Bool). IfSome x (IsKnown op left right q)) (sym (others q ne)) (known q)

-- what is known of a pair
pub known-answer : (op : Operator) (left right : Operand) (decided : Decided) (row pair : ℕ) (found : Option Bool) (answer : Bool) → Knows op left right decided → IsPair left right row pair → found ≡ get nat_cmp decided.answers pair → found ≡ Some answer
    → val.Boolean answer ≡ binary_value op (value_for left row) (value_for right row)
known-answer op left right decided row pair found answer known is at' some =
    let here : IsKnown op left right pair answer = subst (λ (x : Option Bool). IfSome x (IsKnown op left right pair)) (sym at' ∙ some) (known pair) in
    sym (here row is)
