-- Numbers of keys, one after the other.
use Rattle.std.proofs.Common.{◌≡◌, ℕ, suc, zero, ◌+◌, ◌<◌, ◌≤◌, Bool, true, false, List, [], ◌∷◌, ◌++◌, length, take, get_or, refl, ap, ◌∙◌, arith}
use Rattle.std.specs.Prelude.{IsTrue, ◌||◌, nat_eq}
use Rattle.ps_ports.specs.Phases.{is_one_of}
use Rattle.ps_settle.proofs.Ends.{same_number}
use Rattle.ps_graph.specs.declared.key.LogicalPipeKey.{LogicalPipeKey}
use Rattle.ps_graph.specs.Shown.{numbers}

pub numbers-more : (keys : List LogicalPipeKey) (i : ℕ) (d : LogicalPipeKey) → i < length keys → numbers (take (i + 1) keys) ≡ numbers (take i keys) ++ (get_or keys i d).0 ∷ []
numbers-more [] i d h = absurd (omega arith)
numbers-more (k ∷ ks) zero d h = refl
numbers-more (k ∷ ks) (suc i) d h =
    let e : suc i + 1 ≡ suc (i + 1) = omega arith in
    ap (λ n. numbers (take n (k ∷ ks))) e ∙ ap (λ l. k.0 ∷ l) (numbers-more ks i d (omega arith))

pub key_among : (keys : List LogicalPipeKey) (i : ℕ) (d : LogicalPipeKey) → i < length keys → IsTrue (is_one_of (get_or keys i d).0 (numbers keys))
key_among [] i d h = absurd (omega arith)
key_among (k ∷ ks) zero d h = ap (λ b. b || is_one_of k.0 (numbers ks)) (same_number k.0 k.0 refl)
key_among (k ∷ ks) (suc i) d h = or_right (nat_eq (get_or ks i d).0 k.0) (is_one_of (get_or ks i d).0 (numbers ks)) (key_among ks i d (omega arith))
  where
    or_right : (a b : Bool) → IsTrue b → IsTrue (a || b)
    or_right true b e = refl
    or_right false b e = e

pub among_first : (keys : List LogicalPipeKey) (i k : ℕ) → IsTrue (is_one_of k (numbers (take i keys))) → IsTrue (is_one_of k (numbers keys))
among_first keys zero k e = absurd (let clash : false ≡ true = e in cc)
among_first [] (suc i) k e = e
among_first (x ∷ xs) (suc i) k e = by (nat_eq k x.0) (among_first xs i k) e
  where
    by : (b : Bool) → (IsTrue (is_one_of k (numbers (take i xs))) → IsTrue (is_one_of k (numbers xs))) → IsTrue (b || is_one_of k (numbers (take i xs))) → IsTrue (b || is_one_of k (numbers xs))
    by true rest h = refl
    by false rest h = rest h

pub take_over : (keys : List LogicalPipeKey) (i : ℕ) → length keys ≤ i → take i keys ≡ keys
take_over [] zero h = refl
take_over [] (suc i) h = refl
take_over (k ∷ ks) zero h = absurd (omega (arith, h))
take_over (k ∷ ks) (suc i) h = ap (λ l. k ∷ l) (take_over ks i (omega (arith, h)))
