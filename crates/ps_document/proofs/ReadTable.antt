-- What is read off the tokens of a column.
use Rattle.std.proofs.Common.{◌≡◌, ℕ, ◌≤◌, Bool, true, false, List, [], ◌∷◌, ◌++◌, IsTrue, Some, refl, subst, sym, arith}
use Rattle.std.specs.Bool.{OnTrue}
use Rattle.std.specs.List.{AllZip}
use Rattle.json.specs.Json.{after_end_array}
use Rattle.json.specs.Token.{Token}
use Rattle.serde_json.specs.Data.{Data, null}
use Rattle.ps_frame.specs.Pushed.{with_value}
use Rattle.ps_frame.specs.Series.{Series}
use Rattle.ps_frame.specs.Values.{fits_kind}
use Rattle.ps_frame.specs.declared.value.DataType.{DataType}
use Rattle.ps_frame.specs.declared.value.DataType.TheVariants as kind
use Rattle.ps_frame.specs.declared.value.Value.{Value}
use Rattle.ps_frame.specs.declared.value.Value.TheVariants as val
use Rattle.ps_reading.specs.Reading.{Reads}
use Rattle.ps_reading.proofs.Grown.{zip-push}
use Rattle.ps_reading.proofs.Rules.{reads_items-end, reads_items-more, reads-array, reads-same, reads-string, reads-within}
use Rattle.ps_document.specs.Json.{list, text}
use Rattle.ps_document.specs.Tables.{FitsItsWidth, HasCellMore, IsCell, cell_json}
use Rattle.ps_document.specs.Words.{kind_word}

pub column-read : (name : List ℕ) (k : DataType) (old ts r new : List Token) (cells : Data) → old ≡ Token.begin_array ∷ Token.string name ∷ Token.string (kind_word k) ∷ ts → Reads 1 ts cells r → after_end_array r ≡ Some new
    → Reads 2 old (list (text name ∷ text (kind_word k) ∷ cells ∷ [])) new
column-read name k old ts r new cells begins is closed =
    let le : 0 ≤ 1 = omega arith in
    let last = reads_items-more is (reads_items-end 1 closed) in
    let second = reads_items-more (reads-within le (reads-string (kind_word k) ts)) last in
    reads-same begins refl (reads-array (reads_items-more (reads-within le (reads-string name (Token.string (kind_word k) ∷ ts))) second))

-- what follows where an answer is true
pub on_true : {P Q : Type 0} (told : Bool) → (P → Q) → OnTrue told P → OnTrue told Q
on_true true f is = f is
on_true false f is = tt

-- a value of the kind is a cell of it
pub cell-more : (v : Value) (k : DataType) (old new : Series) → old.kind ≡ k → new ≡ with_value old v → IsTrue (fits_kind k v) → FitsItsWidth v → HasCellMore (cell_json v) old new
cell-more v k old new same grown fits width =
    record { cell = v; grown = grown; is_cell = record { json = refl; fits = subst (λ j. IsTrue (fits_kind j v)) (sym same) fits; width = width } }

-- one more cell
pub cells-more : (k : DataType) (old new : Series) (ds : List Data) (d : Data) → AllZip (IsCell k) old.values ds → old.kind ≡ k → HasCellMore d old new
    → AllZip (IsCell k) new.values (ds ++ d ∷ []) × (new.kind ≡ k)
cells-more k old new ds d so_far same more =
    let is_cell = subst (λ j. IsCell j more.cell d) same more.is_cell in
    rw more.grown (zip-push (IsCell k) old.values ds more.cell d so_far is_cell, same)

-- null may stand in each column
pub null-cell : (k : DataType) → IsCell k val.Null null
null-cell kind.Boolean = record { json = refl; fits = refl; width = tt }
null-cell kind.Int64 = record { json = refl; fits = refl; width = tt }
null-cell kind.IdxSize = record { json = refl; fits = refl; width = tt }
null-cell kind.String = record { json = refl; fits = refl; width = tt }
