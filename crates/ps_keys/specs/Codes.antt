-- Columns that pick their values from others. A row's code is the number whose digits are the places of its values.
use Rattle.std.specs.Prelude.{ℕ, ◌+◌, ◌-◌, ◌*◌, ◌<◌, List, [], ◌∷◌, fold, get_or, length}
use Rattle.ps_frame.specs.Gathered.{ArePicked}
use Rattle.ps_frame.specs.Series.{Series}
use Rattle.ps_keys.specs.Chains.{IsKeyOf}
use Rattle.ps_keys.specs.Hashes.{HaveRow, row_at}
use Rattle.ps_keys.specs.declared.known.KnownKeys.{KnownKeys}
use Rattle.ps_keys.specs.declared.known.PickedColumn.{PickedColumn}

-- each column picks its values so
abbrev pub ArePickedColumns : List PickedColumn → List Series → Type 0
ArePickedColumns [] [] = Unit {0}
ArePickedColumns [] (c ∷ cs) = ⊥
ArePickedColumns (p ∷ ps) [] = ⊥
ArePickedColumns (p ∷ ps) (c ∷ cs) = ArePicked c.values p.places.now p.count × ArePickedColumns ps cs

-- a code with one digit more of row i
abbrev pub with_digit : ℕ → ℕ → PickedColumn → ℕ
with_digit i code p = code * p.count + get_or p.places.now i 0

abbrev pub code_at : List PickedColumn → ℕ → ℕ
code_at picks i = fold (with_digit i) 0 picks

-- what is known of the key of a row's code is so of the row
pub record Knows (columns : List Series) (firsts : List ℕ) (k : KnownKeys) : Type 0 where
  pub picks : 0 < length k.keys.items → ArePickedColumns k.picks.items columns
  pub keys : (i : ℕ) → HaveRow columns i → 0 < get_or k.keys.items (code_at k.picks.items i) 0
      → IsKeyOf (row_at columns) firsts i (get_or k.keys.items (code_at k.picks.items i) 0 - 1)
