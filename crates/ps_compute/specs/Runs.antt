-- Runs of items that are the same.
use Rattle.std.specs.Prelude.{ℕ, ◌+◌, List, [], ◌∷◌, Bool, if◌then◌else◌}

-- how many runs a list falls into
abbrev pub runs : {A : Type 0} → List A → (A → A → Bool) → ℕ
runs [] same = 0
runs (x ∷ []) same = 1
runs (x ∷ y ∷ ys) same = runs (y ∷ ys) same + (if same x y then 0 else 1)
