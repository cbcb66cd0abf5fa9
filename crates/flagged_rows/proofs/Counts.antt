-- The count of rows as a column, and whether it is 1.
use Rattle.std.proofs.Common.{◌≡◌, ℕ, ◌≤◌, Bool, true, false, cond, [], ◌∷◌, length, refl, sym, ap, ◌∙◌, arith}
use Rattle.std.proofs.lemmas.Bool.{eqb-true, le-leb}
use Rattle.std.specs.Prelude.{nat_le, ◌==◌}
use Rattle.ps_frame.specs.Aggregates.{count_column, max_rows}
use Rattle.ps_frame.specs.Causes.{Column, value, column_causes, whole_column}
use Rattle.ps_frame.specs.Operators.{binary_value}
use Rattle.ps_frame.specs.Values.{is_true, same_value}
use Rattle.ps_frame.specs.declared.expr.Operator.TheVariants as op
use Rattle.ps_frame.specs.declared.value.DataFault.TheVariants as data_fault
use Rattle.ps_frame.specs.declared.value.Value.TheVariants as val
use Rattle.ps_meaning.specs.Groups.{only_value}
use Rattle.ps_keys.proofs.SameRows.{same_value-is}

-- a count is 1 where it equals the number 1
pub is_single : (n : ℕ) → is_true (binary_value op.Eq (val.IdxSize n) (val.IdxSize 1)) ≡ (n == 1)
is_single n = by (n == 1) refl (same_value (val.IdxSize n) (val.IdxSize 1)) refl
  where
    by : (p : Bool) → (n == 1) ≡ p → (q : Bool) → same_value (val.IdxSize n) (val.IdxSize 1) ≡ q → same_value (val.IdxSize n) (val.IdxSize 1) ≡ (n == 1)
    by true p true q = q ∙ sym p
    by false p false q = q ∙ sym p
    by true p false q =
        let e : n ≡ 1 = eqb-true n 1 p in
        let w : true ≡ false = ap (λ m. same_value (val.IdxSize m) (val.IdxSize 1)) (sym e) ∙ q in
        cc
    by false p true q =
        let e : val.IdxSize n ≡ val.IdxSize 1 = same_value-is (val.IdxSize n) (val.IdxSize 1) q in
        let m : n ≡ 1 = cc in
        let w : true ≡ false = ap (λ m. m == 1) (sym m) ∙ p in
        cc

-- so is the value of the count of rows, where there are no more than are counted; of too many there is none
pub count_single : (at n : ℕ) → is_true (binary_value op.Eq (only_value (count_column at n)) (val.IdxSize 1)) ≡ (n == 1)
count_single at n = by (nat_le n max_rows) refl
  where
    other : (b : Bool) → nat_le n max_rows ≡ false → (n == 1) ≡ b → false ≡ (n == 1)
    other true q p = let w : true ≡ false = sym (ap (λ m. nat_le m max_rows) (eqb-true n 1 p)) ∙ q in cc
    other false q p = sym p

    by : (b : Bool) → nat_le n max_rows ≡ b
        → is_true (binary_value op.Eq (only_value (cond {A = Column} (nat_le n max_rows) (whole_column (val.IdxSize n ∷ [])) (record { cells = []; broken = record { fault = data_fault.Rows; node = at } ∷ []; lost = [] }))) (val.IdxSize 1)) ≡ (n == 1)
    by true q = ap (λ b. is_true (binary_value op.Eq (only_value (cond {A = Column} b (whole_column (val.IdxSize n ∷ [])) (record { cells = []; broken = record { fault = data_fault.Rows; node = at } ∷ []; lost = [] }))) (val.IdxSize 1))) q ∙ is_single n
    by false q = ap (λ b. is_true (binary_value op.Eq (only_value (cond {A = Column} b (whole_column (val.IdxSize n ∷ [])) (record { cells = []; broken = record { fault = data_fault.Rows; node = at } ∷ []; lost = [] }))) (val.IdxSize 1))) q ∙ other (n == 1) q refl

pub count_lost : (at n : ℕ) → (count_column at n).lost ≡ []
count_lost at n = by (nat_le n max_rows)
  where
    by : (b : Bool) → (cond {A = Column} b (whole_column (val.IdxSize n ∷ [])) (record { cells = []; broken = record { fault = data_fault.Rows; node = at } ∷ []; lost = [] })).lost ≡ []
    by true = refl
    by false = refl

pub count_few : (at n : ℕ) → length (count_column at n).cells ≤ 1
count_few at n = by (nat_le n max_rows)
  where
    by : (b : Bool) → length (cond {A = Column} b (whole_column (val.IdxSize n ∷ [])) (record { cells = []; broken = record { fault = data_fault.Rows; node = at } ∷ []; lost = [] })).cells ≤ 1
    by true = omega arith
    by false = omega arith

pub count_clear : (at n : ℕ) → n ≤ max_rows → column_causes (count_column at n) ≡ []
count_clear at n le = ap (λ b. column_causes (cond {A = Column} b (whole_column (val.IdxSize n ∷ [])) (record { cells = []; broken = record { fault = data_fault.Rows; node = at } ∷ []; lost = [] }))) (le-leb n max_rows le)
