-- Numbers and rows that differ.
use Rattle.std.proofs.Common.{◌≡◌, ℕ, ◌<◌, List, [], ◌∷◌, Some, None, ap, arith}
use Rattle.std.specs.Prelude.{pos}
use Rattle.ps_frame.specs.Tables.{Row}
use Rattle.ps_frame.specs.declared.value.Value.{Value}
use Rattle.ps_frame.specs.declared.value.Value.TheVariants as val

abbrev number_of : Value → ℕ
number_of (val.Int64 (pos n)) = n
number_of _ = 0

abbrev number_in : Row → ℕ
number_in [] = 0
number_in (v ∷ vs) = number_of v

-- the number in the first row
abbrev pub first_number : List Row → ℕ
first_number [] = 0
first_number (r ∷ rs) = number_in r

pub apart : (xs ys : List Row) → first_number xs ≡ 1 → first_number ys ≡ 2 → xs ≡ ys → ⊥
apart xs ys one two e = let same = ap first_number e in absurd (omega arith)

pub nothing_is : {A : Type 0} (x : A) → None ≡ Some x → ⊥
nothing_is x e = cc

pub smaller : (a b : ℕ) → a < b → a ≡ b → ⊥
smaller a b h e = absurd (omega arith)
