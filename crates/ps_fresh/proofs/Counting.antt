-- The least number that isn't taken, looked for in a set.
use Rattle.std.proofs.Common.{◌≡◌, ℕ, ◌<◌, ◌≤◌, true, false, List, [], ◌∷◌, length, refl, sym, ◌∙◌, arith}
use Rattle.std.specs.Prelude.{◌||◌, ◌==◌}
use Rattle.std.specs.List.{list_any}
use Rattle.std.specs.BTreeMap.{is_at}
use Rattle.std.specs.Ordering.{nat_cmp}
use Rattle.std.proofs.lemmas.Bool.Decides.{nat_tests}
use Rattle.ps_rules.proofs.Free.{free_from, fresh_free}
use Rattle.ps_rules.specs.Names.{Names, fresh_number, is_taken}

pub same_test : (n x : ℕ) → is_at (nat_cmp n) x ≡ (x == n)
same_test n x = grind (arith, nat_tests)

-- a set finds a number where it is taken
pub looks_up : (n : ℕ) (keys : List ℕ) → list_any (is_at (nat_cmp n)) keys ≡ is_taken n keys
looks_up n [] = refl
looks_up n (x ∷ keys) = λ i. same_test n x i || looks_up n keys i

-- Where all numbers from the counter to another one are taken, the fresh one isn't below that.
pub fresh_past : (names : Names) (end : ℕ) → ((j : ℕ) → names.next ≤ j → j < end → is_taken j names.taken ≡ true) → end ≤ fresh_number names
fresh_past names end passed =
    let from = free_from (length names.taken) names.taken names.next in
    let apart : fresh_number names < end → ⊥ = λ lt. (let w : true ≡ false = sym (passed (fresh_number names) from lt) ∙ fresh_free names in cc) in
    omega arith
