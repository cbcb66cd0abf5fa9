-- One more name, and the number of it.
use Rattle.std.proofs.Common.{◌≡◌, ℕ, ◌<◌, ◌^◌, Bool, true, false, cond, List, [], ◌∷◌, ◌++◌, refl, sym, ap, subst, ◌∙◌}
use Rattle.std.specs.Prelude.{IfNone, IfSome, None, Option, Some, ◌||◌, ◌==◌}
use Rattle.std.specs.BTreeMap.{is_at}
use Rattle.std.specs.Cmp.Lexicographic.{bytes_decides}
use Rattle.std.specs.List.{list_any}
use Rattle.std.specs.Ordering.{nat_cmp}
use Rattle.std.specs.Str.{bytes_eq}
use Rattle.std.proofs.lemmas.Bool.{eq-eqb, eqb-true}
use Rattle.std.proofs.lemmas.List.Folds.{list_any-append}
use Rattle.std.proofs.lemmas.Option.{same_Some}
use Rattle.ps_meaning.specs.Schemas.{is_among}
use Rattle.ps_meaning.specs.Steps.{Name}
use Rattle.ps_rules.specs.Names.{IsTemporary, is_taken, temporary}
use Rattle.ps_rules.proofs.Free.{temporary_once}
use Rattle.ps_fresh.proofs.Counting.{looks_up, same_test}
use Rattle.ps_fresh.specs.Collected.{AreNumbersOf}

same_bits : (a b : Bool) → (a ≡ true → b ≡ true) → (b ≡ true → a ≡ true) → a ≡ b
same_bits true true f g = refl
same_bits true false f g = sym (f refl)
same_bits false true f g = g refl
same_bits false false f g = refl

or_false : (b : Bool) → (b || false) ≡ b
or_false true = refl
or_false false = refl

-- one more name at the end
among_last : (n name : Name) (names : List Name) → is_among n (names ++ name ∷ []) ≡ (is_among n names || bytes_eq n name)
among_last n name names = list_any-append (bytes_eq n) names (name ∷ []) ∙ ap (λ b. is_among n names || b) (or_false (bytes_eq n name))

-- the temporary name of a number is this one just where the number is its
own_number : (k n : ℕ) (name : Name) → k < 2 ^ 64 → IsTemporary n name → bytes_eq (temporary k) name ≡ (k == n)
own_number k n name lt t =
    same_bits (bytes_eq (temporary k) name) (k == n)
    (λ h. eq-eqb k n (temporary_once k n lt t.0 ((bytes_decides (temporary k) name).0 h ∙ t.1)))
    (λ h. (bytes_decides (temporary k) name).1 (ap temporary (eqb-true k n h) ∙ sym t.1))

-- the name is none of these
no_number : (k : ℕ) (name : Name) → k < 2 ^ 64 → ((k : ℕ) → ¬ IsTemporary k name) → bytes_eq (temporary k) name ≡ false
no_number k name lt none = by (bytes_eq (temporary k) name) refl
  where
    by : (b : Bool) → bytes_eq (temporary k) name ≡ b → bytes_eq (temporary k) name ≡ false
    by false q = q
    by true q = absurd (none k (lt, sym ((bytes_decides (temporary k) name).0 q)))

or_turned : (a b : Bool) → cond a true b ≡ (b || a)
or_turned true true = refl
or_turned true false = refl
or_turned false true = refl
or_turned false false = refl

-- the number of one more name is taken
pub adds_number : (old new : List ℕ) (names : List Name) (name : Name) (n : ℕ) → IsTemporary n name
    → ((q : ℕ) → list_any (is_at (nat_cmp q)) new ≡ cond (is_at (nat_cmp n) q) true (list_any (is_at (nat_cmp q)) old))
    → AreNumbersOf old names → AreNumbersOf new (names ++ name ∷ [])
adds_number old new names name n t inserted h =
    record {
      small = λ k is. few k (k == n) refl (sym (now k) ∙ is);
      taken = λ k lt. let own = sym (own_number k n name lt t) in now k ∙ (λ i. h.taken k lt i || own i) ∙ sym (among_last (temporary k) name names);
    }
  where
    now : (k : ℕ) → is_taken k new ≡ (is_taken k old || (k == n))
    now k = sym (looks_up k new) ∙ inserted k ∙ or_turned (is_at (nat_cmp n) k) (list_any (is_at (nat_cmp k)) old) ∙ (λ i. looks_up k old i || same_test n k i)

    few : (k : ℕ) (b : Bool) → (k == n) ≡ b → (is_taken k old || (k == n)) ≡ true → k < 2 ^ 64
    few k true q is = rw (eqb-true k n q) t.0
    few k false q is = h.small k (sym (ap (λ b. is_taken k old || b) q ∙ or_false (is_taken k old)) ∙ is)

-- one more name that is no temporary one
pub adds_none : (old : List ℕ) (names : List Name) (name : Name) → ((k : ℕ) → ¬ IsTemporary k name) → AreNumbersOf old names → AreNumbersOf old (names ++ name ∷ [])
adds_none old names name none h =
    record {
      small = h.small;
      taken = λ k lt. h.taken k lt ∙ sym (among_last (temporary k) name names ∙ ap (λ b. is_among (temporary k) names || b) (no_number k name lt none) ∙ or_false (is_among (temporary k) names));
    }

-- what is said of an answer that isn't there, and of one that is
pub none_there : (o : Option ℕ) (P : Type 0) → o ≡ None → IfNone o P → P
none_there None P e h = h
none_there (Some k) P e h = cc

pub some_there : (o : Option ℕ) (k : ℕ) (P : ℕ → Type 0) → o ≡ Some k → IfSome o P → P k
some_there None k P e h = cc
some_there (Some j) k P e h = subst P (same_Some j k e) h
