-- What a list contains behind its first item.
use Rattle.std.proofs.Common.{suc, List, ◌∷◌, refl, arith}
use Rattle.std.specs.Prelude.{Contains}

pub contains-first : {A : Type 0} (x : A) (xs : List A) → Contains (x ∷ xs) x
contains-first x xs = (0, omega arith, refl)

pub contains-later : {A : Type 0} (x y : A) (xs : List A) → Contains xs y → Contains (x ∷ xs) y
contains-later x y xs (k, h, e) = (suc k, omega arith, e)
