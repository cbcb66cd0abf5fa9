-- The column of an elementwise expression goes row by row.
use Rattle.std.proofs.Common.{◌≡◌, ℕ, List, [], ◌∷◌, get_or, refl, ap, subst, ◌∙◌}
use Rattle.std.proofs.lemmas.Simd.{map-map}
use Rattle.std.specs.Prelude.{Bool, true, false, not, ◌&&◌, ◌||◌, if◌then◌else◌, map, is_some, IsTrue, Option, Some, None}
use Rattle.std.specs.List.{list_any}
use Rattle.std.specs.Str.{bytes_eq}
use Rattle.ps_frame.proofs.NamePlaces.{is_some-position}
use Rattle.ps_frame.specs.Causes.{Cause, Cell, Column, value, is_empty}
use Rattle.ps_frame.specs.Eval.{at, cell_of_row, cellwise, eval, literal_value}
use Rattle.ps_frame.specs.Operators.{binary_value, cast_cell, cast_value, choice_of, not_value}
use Rattle.ps_frame.specs.Tables.{Fields, Table, field_index, field_kind, values_at_some}
use Rattle.ps_frame.specs.Trees.{Tree}
use Rattle.ps_frame.specs.Typing.{binary_kind, branch_kind, cast_kind, function_kind, is_elementwise, is_independent, is_kind, kind_if, kind_over}
use Rattle.ps_frame.specs.Values.{is_null}
use Rattle.ps_frame.specs.declared.expr.FunctionExpr.{FunctionExpr}
use Rattle.ps_frame.specs.declared.expr.FunctionExpr.TheVariants as fun
use Rattle.ps_frame.specs.declared.expr.Operator.{Operator}
use Rattle.ps_frame.specs.declared.value.DataType.{DataType}
use Rattle.ps_frame.specs.declared.value.DataType.TheVariants as kind
use Rattle.ps_frame.specs.declared.value.Value.{Value}
use Rattle.ps_frame.specs.declared.value.Value.TheVariants as val
use Rattle.ps_rowwise.specs.Rows.{HasKind}
use Rattle.ps_rowwise.proofs.Standing.{Operand, Stands, stands-cellwise}

-- operands of what has a kind have one
pub binary-kinds : (o : Operator) (a b : Option DataType) → IsTrue (is_some (binary_kind o a b)) → IsTrue (is_some a) × IsTrue (is_some b)
binary-kinds o None b h = cc
binary-kinds o (Some a) None h = cc
binary-kinds o (Some a) (Some b) h = (refl, refl)

pub cast-kinds : (k : DataType) (a : Option DataType) → IsTrue (is_some (cast_kind k a)) → IsTrue (is_some a)
cast-kinds k None h = cc
cast-kinds k (Some a) h = refl

pub if-kind : (b : Bool) (k : Option DataType) → IsTrue (is_some (kind_if b k)) → (b ≡ true) × IsTrue (is_some k)
if-kind true k h = (refl, h)
if-kind false k h = cc

pub some-kind : (k : DataType) (a : Option DataType) → is_kind k a ≡ true → IsTrue (is_some a)
some-kind k None h = cc
some-kind k (Some a) h = refl

pub branch-kinds : (a b : Option DataType) → IsTrue (is_some (branch_kind a b)) → IsTrue (is_some a) × IsTrue (is_some b)
branch-kinds None b h = cc
branch-kinds (Some a) None h = cc
branch-kinds (Some a) (Some b) h = (refl, refl)

pub ternary-kinds : (p a b : Option DataType) → IsTrue (is_some (kind_if (is_kind kind.Boolean p) (branch_kind a b))) → IsTrue (is_some p) × IsTrue (is_some a) × IsTrue (is_some b)
ternary-kinds p a b h =
    let k = if-kind (is_kind kind.Boolean p) (branch_kind a b) h in
    let j = branch-kinds a b k.1 in
    (some-kind kind.Boolean p k.0, j.0, j.1)

pub function-kinds : (g : FunctionExpr) (a : Option DataType) → IsTrue (is_some (function_kind g a)) → IsTrue (is_some a)
function-kinds fun.Not a h = some-kind kind.Boolean a (if-kind (is_kind kind.Boolean a) (Some kind.Boolean) h).0
function-kinds fun.IsNull a h = (if-kind (is_some a) (Some kind.Boolean) h).0
function-kinds fun.IsNotNull a h = (if-kind (is_some a) (Some kind.Boolean) h).0
function-kinds fun.Reverse a h = h

-- a column of a kind has a place
place-of : (name : List ℕ) (s : Fields) → IsTrue (is_some (field_kind name s)) → list_any (λ f. bytes_eq name f.0) s ≡ true
place-of name [] h = cc
place-of name (f ∷ fs) h = by (bytes_eq name f.0) (place-of name fs) h
  where
    by : (b : Bool) → (IsTrue (is_some (field_kind name fs)) → list_any (λ f. bytes_eq name f.0) fs ≡ true) → IsTrue (is_some (if b then Some f.1 else field_kind name fs)) → (b || list_any (λ f. bytes_eq name f.0) fs) ≡ true
    by true rest h = refl
    by false rest h = rest h

-- tests of two parts
pub both : (a b : Bool) → (a && b) ≡ true → (a ≡ true) × (b ≡ true)
both true b h = (refl, h)
both false b h = cc

and-true : (a : Bool) → (a && true) ≡ a
and-true true = refl
and-true false = refl

-- The cell that an elementwise expression gives to a row.
module _ (node : ℕ) (s : Fields) where
  abbrev pub place_cell : Option ℕ → List Value → Cell
  place_cell None row = value val.Null
  place_cell (Some i) row = value (get_or row i val.Null)

  abbrev pub function_cell : FunctionExpr → Cell → Cell
  function_cell fun.Not c = cell_of_row (λ row. value (not_value (at 0 row))) (c ∷ [])
  function_cell fun.IsNull c = cell_of_row (λ row. value (val.Boolean (is_null (at 0 row)))) (c ∷ [])
  function_cell fun.IsNotNull c = cell_of_row (λ row. value (val.Boolean (not (is_null (at 0 row))))) (c ∷ [])
  function_cell fun.Reverse c = c

  abbrev pub cell_for : Tree → List Value → Cell
  cell_for (Tree.column name) row = place_cell (field_index name s) row
  cell_for (Tree.literal l) row = value (literal_value l)
  cell_for (Tree.binary o l r) row = cell_of_row (λ row. value (binary_value o (at 0 row) (at 1 row))) (cell_for l row ∷ cell_for r row ∷ [])
  cell_for (Tree.cast k strict e) row = cell_of_row (λ row. cast_cell node strict (cast_value k (at 0 row))) (cell_for e row ∷ [])
  cell_for (Tree.ternary p a b) row = cell_of_row (λ row. value (choice_of (at 0 row) (at 1 row) (at 2 row))) (cell_for p row ∷ cell_for a row ∷ cell_for b row ∷ [])
  cell_for (Tree.function g e) row = function_cell g (cell_for e row)
  cell_for _ row = value val.Null

  module _ (rows : List (List Value)) (causes : List Cause) where
    abbrev pub table : Table
    table = record { schema = s; rows = rows; broken = causes }

    abbrev pub ended : Bool
    ended = not (is_empty causes)

    -- an expression that is evaluated over the table is an operand
    abbrev pub operand : Tree → Operand
    operand t = record { lone = is_independent t; column = eval node table t; cell = cell_for t }

    abbrev pub GoesBy : Tree → Type 0
    GoesBy t = Stands rows ended (is_independent t) (eval node table t) (cell_for t)

    column-goes : (o : Option ℕ) → IsTrue (is_some o) → Stands rows ended false (record { cells = map value (values_at_some o rows); broken = causes; lost = [] }) (place_cell o)
    column-goes None h = cc
    column-goes (Some i) h = (map-map value (λ row. get_or row i val.Null) rows, refl, λ some. refl)

    -- a cellwise operator over one operand, two and three
    lone-as : (a b : Bool) (c : Column) (g : List Value → Cell) → a ≡ b → Stands rows ended a c g → Stands rows ended b c g
    lone-as a b c g e st = subst (λ b. Stands rows ended b c g) e st

    over-one : (f : List Value → Cell) (t : Tree) → GoesBy t → Stands rows ended (is_independent t) (cellwise node f (eval node table t ∷ [])) (λ row. cell_of_row f (cell_for t row ∷ []))
    over-one f t a = lone-as _ _ _ _ (and-true (is_independent t)) (stands-cellwise rows ended node f (operand t ∷ []) (a, tt))

    over-two : (f : List Value → Cell) (t u : Tree) → GoesBy t → GoesBy u
        → Stands rows ended (is_independent t && is_independent u) (cellwise node f (eval node table t ∷ eval node table u ∷ [])) (λ row. cell_of_row f (cell_for t row ∷ cell_for u row ∷ []))
    over-two f t u a b = lone-as _ _ _ _ (ap (λ b. is_independent t && b) (and-true (is_independent u))) (stands-cellwise rows ended node f (operand t ∷ operand u ∷ []) (a, (b, tt)))

    over-three : (f : List Value → Cell) (t u v : Tree) → GoesBy t → GoesBy u → GoesBy v
        → Stands rows ended (is_independent t && (is_independent u && is_independent v)) (cellwise node f (eval node table t ∷ eval node table u ∷ eval node table v ∷ [])) (λ row. cell_of_row f (cell_for t row ∷ cell_for u row ∷ cell_for v row ∷ []))
    over-three f t u v a b c =
        lone-as _ _ _ _ (ap (λ b. is_independent t && (is_independent u && b)) (and-true (is_independent v))) (stands-cellwise rows ended node f (operand t ∷ operand u ∷ operand v ∷ []) (a, (b, (c, tt))))

    function-goes : (g : FunctionExpr) (t : Tree) → is_elementwise (Tree.function g t) ≡ true → GoesBy t → GoesBy (Tree.function g t)
    function-goes fun.Not t h a = over-one (λ row. value (not_value (at 0 row))) t a
    function-goes fun.IsNull t h a = over-one (λ row. value (val.Boolean (is_null (at 0 row)))) t a
    function-goes fun.IsNotNull t h a = over-one (λ row. value (val.Boolean (not (is_null (at 0 row))))) t a
    function-goes fun.Reverse t h a = cc

    pub goes-by : (t : Tree) → IsTrue (is_elementwise t) → HasKind s t → GoesBy t
    goes-by (Tree.column name) h k = column-goes (field_index name s) (is_some-position (λ f. bytes_eq name f.0) s ∙ place-of name s k)
    goes-by (Tree.literal l) h k = (refl, λ row. refl)
    goes-by (Tree.binary o l r) h k =
        let p = both (is_elementwise l) (is_elementwise r) h in
        let q = binary-kinds o (kind_over s l) (kind_over s r) k in
        over-two (λ row. value (binary_value o (at 0 row) (at 1 row))) l r (goes-by l p.0 q.0) (goes-by r p.1 q.1)
    goes-by (Tree.cast to strict e) h k = over-one (λ row. cast_cell node strict (cast_value to (at 0 row))) e (goes-by e h (cast-kinds to (kind_over s e) k))
    goes-by (Tree.ternary p a b) h k =
        let i = both (is_elementwise p) (is_elementwise a && is_elementwise b) h in
        let j = both (is_elementwise a) (is_elementwise b) i.1 in
        let q = ternary-kinds (kind_over s p) (kind_over s a) (kind_over s b) k in
        over-three (λ row. value (choice_of (at 0 row) (at 1 row) (at 2 row))) p a b (goes-by p i.0 q.0) (goes-by a j.0 q.1) (goes-by b j.1 q.2)
    goes-by (Tree.function g e) h k = function-goes g e h (goes-by e (both _ (is_elementwise e) h).1 (function-kinds g (kind_over s e) k))
    goes-by (Tree.sort d n e) h k = cc
    goes-by (Tree.sort_by d n e by) h k = cc
    goes-by (Tree.gather b e i) h k = cc
    goes-by (Tree.filter e by) h k = cc
    goes-by (Tree.aggregate a e) h k = cc
    goes-by (Tree.slice e o l) h k = cc
    goes-by Tree.len h k = cc
    goes-by (Tree.left_out w) h k = cc
    goes-by Tree.missing h k = cc
