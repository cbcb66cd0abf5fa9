-- What `parse` reads of a text.
use Rattle.std.proofs.Common.{◌≡◌, ◌≢◌, ℕ, zero, suc, ◌+◌, ◌*◌, ◌-◌, ◌^◌, ◌<◌, ◌≤◌, ℤ, pos, negsuc, neg_ℤ, List, [], ◌∷◌, get_or, length, ltb, leb, Bool, true, false, Option, Some, None, Result, Ok, Err, IsTrue, refl, sym, ap, ◌∙◌, subst, arith, rules, cond}
use Rattle.std.specs.Prelude.{fold, option_map, option_and_then, ◌&&◌, ◌==◌}
use Rattle.std.specs.List.{list_all}
use Rattle.std.specs.Char.{is_ascii_digit}
use Rattle.std.specs.Result.{OkIff}
use Rattle.std.specs.Str.Parse.{ParsesSigned}
use Rattle.std.specs.Int.{w64}
use Rattle.std.proofs.lemmas.Str.Parse.{IsDigitsTest, FoldsDigits, IsNumeralModel, numerals_by_fold, parse_signed_minus, parse_signed_plain}
use Rattle.ps_frame.specs.Operators.{int64_if_fits, read_digits, read_number}
use Rattle.ps_frame.specs.declared.value.Value.{Value}
use Rattle.ps_frame.specs.declared.value.Value.TheVariants as val

tells : IsDigitsTest (λ ds. IsTrue (list_all is_ascii_digit ds))
tells = search rules

folds : FoldsDigits (λ n ds. fold (λ n d. 10 * n + (d - 48)) n ds)
folds = record { empty = λ n. refl; more = λ n c cs h. ap (λ m. fold (λ n d. 10 * n + (d - 48)) m cs) (omega arith) }

own : IsNumeralModel (λ ds. IsTrue (list_all is_ascii_digit ds)) (λ ds. fold (λ n d. 10 * n + (d - 48)) 0 ds)
own = numerals_by_fold (λ ds. IsTrue (list_all is_ascii_digit ds)) tells (λ n ds. fold (λ n d. 10 * n + (d - 48)) n ds) folds

-- ---- what fits 64 bits

fits-plus : (n : ℕ) → n < 2 ^ 63 → int64_if_fits (pos n) ≡ Some (val.Int64 (pos n))
fits-plus n h = let t : ltb n (2 ^ 63) ≡ true = search rules in ap (λ b. cond b (Some (val.Int64 (pos n))) None) t

too-high : (n : ℕ) → ¬ (n < 2 ^ 63) → int64_if_fits (pos n) ≡ None
too-high n h = let t : ltb n (2 ^ 63) ≡ false = grind arith in ap (λ b. cond b (Some (val.Int64 (pos n))) None) t

fits-minus : (n : ℕ) → n ≤ 2 ^ 63 → int64_if_fits (neg_ℤ (pos n)) ≡ Some (val.Int64 (neg_ℤ (pos n)))
fits-minus zero h = refl
fits-minus (suc n) h = let t : leb n (2 ^ 63 - 1) ≡ true = grind arith in ap (λ b. cond (b && true) (Some (val.Int64 (negsuc n))) None) t

too-low : (n : ℕ) → ¬ (n ≤ 2 ^ 63) → int64_if_fits (neg_ℤ (pos n)) ≡ None
too-low zero h = absurd (h (omega arith))
too-low (suc n) h = let t : leb n (2 ^ 63 - 1) ≡ false = grind arith in ap (λ b. cond (b && true) (Some (val.Int64 (negsuc n))) None) t

-- ---- what is read

by_test : {P : Type 0} (b : Bool) → (b ≡ true → P) → (b ≡ false → P) → P
by_test true f g = f refl
by_test false f g = g refl

-- the number that a result has, and none for an error
abbrev Reads : {E : Type 0} → Result ℤ E → Option Value → Type 0
Reads (Ok z) o = o ≡ Some (val.Int64 z)
Reads (Err e) o = o ≡ None

decides : {E : Type 0} (r : Result ℤ E) (P : Type 0) (z : ℤ) (o : Option Value) → OkIff r P z → (P → o ≡ Some (val.Int64 z)) → (¬ P → o ≡ None) → Reads r o
decides (Ok x) P z o h f g = f h.0 ∙ ap (λ y. Some (val.Int64 y)) (sym h.1)
decides (Err e) P z o h f g = g h

abbrev signed : (ℕ → ℤ) → List ℕ → Option Value
signed sign ds = option_and_then int64_if_fits (option_map sign (read_digits ds))

digits-fit : (sign : ℕ → ℤ) (ds : List ℕ) → IsTrue (list_all is_ascii_digit ds) → 0 < length ds → int64_if_fits (sign (fold (λ n d. 10 * n + (d - 48)) 0 ds)) ≡ Some (val.Int64 (sign (fold (λ n d. 10 * n + (d - 48)) 0 ds))) → signed sign ds ≡ Some (val.Int64 (sign (fold (λ n d. 10 * n + (d - 48)) 0 ds)))
digits-fit sign [] t some e = absurd (omega arith)
digits-fit sign (d ∷ ds) t some e =
    ap (λ b. option_and_then int64_if_fits (option_map sign (cond b (Some (fold (λ n d. 10 * n + (d - 48)) 0 (d ∷ ds))) None))) t ∙ e

digits-fail : (sign : ℕ → ℤ) (ds : List ℕ) → (IsTrue (list_all is_ascii_digit ds) → 0 < length ds → int64_if_fits (sign (fold (λ n d. 10 * n + (d - 48)) 0 ds)) ≡ None) → signed sign ds ≡ None
digits-fail sign [] e = refl
digits-fail sign (d ∷ ds) e =
    by_test (list_all is_ascii_digit (d ∷ ds))
    (λ t. ap (λ b. option_and_then int64_if_fits (option_map sign (cond b (Some (fold (λ n d. 10 * n + (d - 48)) 0 (d ∷ ds))) None))) t ∙ e t (omega arith))
    (λ t. ap (λ b. option_and_then int64_if_fits (option_map sign (cond b (Some (fold (λ n d. 10 * n + (d - 48)) 0 (d ∷ ds))) None))) t)

-- what `parse` answers of a text without a plus is the number of the text, where it fits
pub reads : {E : Type 0} (s : List ℕ) (r : Result ℤ E) → get_or s 0 0 ≢ 43 → ParsesSigned w64 10 s r → Reads r (option_and_then int64_if_fits (read_number s))
reads [] r n h = decides r _ _ None (parse_signed_plain own w64 [] r h n (omega arith)) (λ p. absurd (omega (arith, p.1))) (λ p. refl)
reads (c ∷ cs) r n h =
    by_test (c == 45)
    (λ t. subst (Reads r) (sym (ap (λ b. option_and_then int64_if_fits (cond b (option_map (λ n. neg_ℤ (pos n)) (read_digits cs)) (option_map pos (read_digits (c ∷ cs))))) t))
    (decides r _ _ (signed (λ n. neg_ℤ (pos n)) cs) (parse_signed_minus own w64 (c ∷ cs) r h (grind arith))
    (λ p. digits-fit (λ n. neg_ℤ (pos n)) cs p.0 p.1 (fits-minus _ p.2))
    (λ p. digits-fail (λ n. neg_ℤ (pos n)) cs (λ a b. too-low _ (λ e. p (a, b, e))))))
    (λ t. subst (Reads r) (sym (ap (λ b. option_and_then int64_if_fits (cond b (option_map (λ n. neg_ℤ (pos n)) (read_digits cs)) (option_map pos (read_digits (c ∷ cs))))) t))
    (decides r _ _ (signed pos (c ∷ cs)) (parse_signed_plain own w64 (c ∷ cs) r h n (grind arith))
    (λ p. digits-fit pos (c ∷ cs) p.0 p.1 (fits-plus _ p.2))
    (λ p. digits-fail pos (c ∷ cs) (λ a b. too-high _ (λ e. p (a, b, e))))))

no-plus : (b : Bool) (n : ℕ) → (n ≡ 43 → IsTrue b) → b ≡ false → n ≢ 43
no-plus b n f e = λ p. let t = f p in let u : true ≡ false = sym t ∙ e in cc

pub read-ok : {E : Type 0} (s : List ℕ) (r : Result ℤ E) (b : Bool) (z : ℤ) → (get_or s 0 0 ≡ 43 → IsTrue b) → b ≡ false → ParsesSigned w64 10 s r → r ≡ Ok z → option_and_then int64_if_fits (read_number s) ≡ Some (val.Int64 z)
read-ok s r b z f e h is = subst (λ x. Reads x (option_and_then int64_if_fits (read_number s))) is (reads s r (no-plus b (get_or s 0 0) f e) h)

pub read-err : {E : Type 0} (s : List ℕ) (r : Result ℤ E) (b : Bool) (x : E) → (get_or s 0 0 ≡ 43 → IsTrue b) → b ≡ false → ParsesSigned w64 10 s r → r ≡ Err x → option_and_then int64_if_fits (read_number s) ≡ None
read-err s r b x f e h is = subst (λ y. Reads y (option_and_then int64_if_fits (read_number s))) is (reads s r (no-plus b (get_or s 0 0) f e) h)
