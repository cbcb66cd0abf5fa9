-- What holds of a part of an operand holds of a part of the expression.
use Rattle.std.proofs.Common.{◌≡◌, List, [], ◌∷◌, ◌++◌, Bool, true, ◌∙◌}
use Rattle.std.specs.Prelude.{Contains}
use Rattle.std.specs.List.{list_any}
use Rattle.std.proofs.lemmas.Bool.{or_left, or_right}
use Rattle.std.proofs.lemmas.List.Folds.{list_any-append}
use Rattle.std.proofs.lemmas.List.Elements.{Contains-append_left, Contains-append_right}
use Rattle.pu_base.specs.declared.arena.Node.{Node}
use Rattle.ps_frame.specs.Parts.{is_column_of, some_part, tree_parts, trees_parts}
use Rattle.ps_frame.specs.Refusals.{breaks_rule}
use Rattle.ps_frame.specs.Tables.{Fields}
use Rattle.ps_frame.specs.Trees.{Aggregation, Tree, Trees}
use Rattle.ps_frame.specs.declared.expr.FunctionExpr.{FunctionExpr}
use Rattle.ps_frame.specs.declared.expr.Operator.{Operator}
use Rattle.ps_frame.specs.declared.refusal.PolarsError.{PolarsError}
use Rattle.ps_frame.specs.declared.refusal.PolarsError.TheVariants as error
use Rattle.ps_frame.specs.declared.value.DataType.{DataType}
use Rattle.ps_typing.specs.Refused.{IsErrorAmong}

-- these parts are among those
pub record AreAmong (us ts : List Tree) : Type 0 where
  pub tests : (f : Tree → Bool) → list_any f us ≡ true → list_any f ts ≡ true
  pub parts : (x : Tree) → Contains us x → Contains ts x

pub among-left : (us vs : List Tree) → AreAmong us (us ++ vs)
among-left us vs = record { tests = λ f h. list_any-append f us vs ∙ or_left (list_any f us) (list_any f vs) h; parts = λ x h. Contains-append_left us vs x h }

pub among-right : (us vs : List Tree) → AreAmong vs (us ++ vs)
among-right us vs = record { tests = λ f h. list_any-append f us vs ∙ or_right (list_any f us) (list_any f vs) h; parts = λ x h. Contains-append_right us vs x h }

pub among-then : (us vs ts : List Tree) → AreAmong us vs → AreAmong vs ts → AreAmong us ts
among-then us vs ts a b = record { tests = λ f h. b.tests f (a.tests f h); parts = λ x h. b.parts x (a.parts x h) }

-- the first, the second and the third of what stands below an expression
pub below-one : (t : Tree) (us : List Tree) → AreAmong us (t ∷ us)
below-one t us = among-right (t ∷ []) us

below-first : (t : Tree) (us vs : List Tree) → AreAmong us (t ∷ (us ++ vs))
below-first t us vs = among-then us (us ++ vs) (t ∷ (us ++ vs)) (among-left us vs) (below-one t (us ++ vs))

below-second : (t : Tree) (us vs : List Tree) → AreAmong vs (t ∷ (us ++ vs))
below-second t us vs = among-then vs (us ++ vs) (t ∷ (us ++ vs)) (among-right us vs) (below-one t (us ++ vs))

-- an error that has its cause among these parts has it among those
pub carried : (at : Node) (s : Fields) (us ts : List Tree) (e : PolarsError) → AreAmong us ts → IsErrorAmong at s us e → IsErrorAmong at s ts e
carried at s us ts (error.ColumnNotFound node name) a h = (h.0, a.tests (is_column_of name) h.1, h.2)
carried at s us ts (error.SchemaMismatch node) a h = (h.0, a.tests (breaks_rule s) h.1)
carried at s us ts (error.Unsupported node what) a h = (h.0, a.parts (Tree.left_out what) h.1)
carried at s us ts error.OutOfMemory a h = h
carried at s us ts (error.InvalidPlan node why) a h = absurd h
carried at s us ts (error.Duplicate node name) a h = absurd h
carried at s us ts (error.ComputeError node why) a h = absurd h
carried at s us ts (error.ShapeMismatch node) a h = absurd h
carried at s us ts (error.OutOfBounds node why) a h = absurd h

-- an expression is among its parts
pub own-part : (f : Tree → Bool) (t : Tree) → f t ≡ true → some_part f t ≡ true
own-part f (Tree.column name) h = or_left (f (Tree.column name)) _ h
own-part f (Tree.literal l) h = or_left (f (Tree.literal l)) _ h
own-part f (Tree.binary o l r) h = or_left (f (Tree.binary o l r)) _ h
own-part f (Tree.cast k s e) h = or_left (f (Tree.cast k s e)) _ h
own-part f (Tree.sort d n e) h = or_left (f (Tree.sort d n e)) _ h
own-part f (Tree.sort_by d n e by) h = or_left (f (Tree.sort_by d n e by)) _ h
own-part f (Tree.gather s e i) h = or_left (f (Tree.gather s e i)) _ h
own-part f (Tree.filter e by) h = or_left (f (Tree.filter e by)) _ h
own-part f (Tree.aggregate a e) h = or_left (f (Tree.aggregate a e)) _ h
own-part f (Tree.ternary p a b) h = or_left (f (Tree.ternary p a b)) _ h
own-part f (Tree.function g e) h = or_left (f (Tree.function g e)) _ h
own-part f (Tree.slice e o l) h = or_left (f (Tree.slice e o l)) _ h
own-part f Tree.len h = or_left (f Tree.len) _ h
own-part f (Tree.left_out w) h = or_left (f (Tree.left_out w)) _ h
own-part f Tree.missing h = or_left (f Tree.missing) _ h

-- the parts of the operands of each operator
pub of-left : (o : Operator) (l r : Tree) → AreAmong (tree_parts l) (tree_parts (Tree.binary o l r))
of-left o l r = below-first (Tree.binary o l r) (tree_parts l) (tree_parts r)

pub of-right : (o : Operator) (l r : Tree) → AreAmong (tree_parts r) (tree_parts (Tree.binary o l r))
of-right o l r = below-second (Tree.binary o l r) (tree_parts l) (tree_parts r)

pub of-cast : (k : DataType) (s : Bool) (e : Tree) → AreAmong (tree_parts e) (tree_parts (Tree.cast k s e))
of-cast k s e = below-one (Tree.cast k s e) (tree_parts e)

pub of-sort : (d n : Bool) (e : Tree) → AreAmong (tree_parts e) (tree_parts (Tree.sort d n e))
of-sort d n e = below-one (Tree.sort d n e) (tree_parts e)

pub of-sorted : (d n : List Bool) (e : Tree) (by : Trees) → AreAmong (tree_parts e) (tree_parts (Tree.sort_by d n e by))
of-sorted d n e by = below-first (Tree.sort_by d n e by) (tree_parts e) (trees_parts by)

pub of-keys : (d n : List Bool) (e : Tree) (by : Trees) → AreAmong (trees_parts by) (tree_parts (Tree.sort_by d n e by))
of-keys d n e by = below-second (Tree.sort_by d n e by) (tree_parts e) (trees_parts by)

pub of-gathered : (s : Bool) (e i : Tree) → AreAmong (tree_parts e) (tree_parts (Tree.gather s e i))
of-gathered s e i = below-first (Tree.gather s e i) (tree_parts e) (tree_parts i)

pub of-index : (s : Bool) (e i : Tree) → AreAmong (tree_parts i) (tree_parts (Tree.gather s e i))
of-index s e i = below-second (Tree.gather s e i) (tree_parts e) (tree_parts i)

pub of-filtered : (e by : Tree) → AreAmong (tree_parts e) (tree_parts (Tree.filter e by))
of-filtered e by = below-first (Tree.filter e by) (tree_parts e) (tree_parts by)

pub of-predicate : (e by : Tree) → AreAmong (tree_parts by) (tree_parts (Tree.filter e by))
of-predicate e by = below-second (Tree.filter e by) (tree_parts e) (tree_parts by)

pub of-aggregate : (a : Aggregation) (e : Tree) → AreAmong (tree_parts e) (tree_parts (Tree.aggregate a e))
of-aggregate a e = below-one (Tree.aggregate a e) (tree_parts e)

pub of-function : (g : FunctionExpr) (e : Tree) → AreAmong (tree_parts e) (tree_parts (Tree.function g e))
of-function g e = below-one (Tree.function g e) (tree_parts e)

-- the first, second and third operand
pub of-condition : (p a b : Tree) → AreAmong (tree_parts p) (tree_parts (Tree.ternary p a b))
of-condition p a b = below-first (Tree.ternary p a b) (tree_parts p) (tree_parts a ++ tree_parts b)

pub of-truthy : (p a b : Tree) → AreAmong (tree_parts a) (tree_parts (Tree.ternary p a b))
of-truthy p a b = among-then (tree_parts a) (tree_parts a ++ tree_parts b) (tree_parts (Tree.ternary p a b)) (among-left (tree_parts a) (tree_parts b)) (below-second (Tree.ternary p a b) (tree_parts p) (tree_parts a ++ tree_parts b))

pub of-falsy : (p a b : Tree) → AreAmong (tree_parts b) (tree_parts (Tree.ternary p a b))
of-falsy p a b = among-then (tree_parts b) (tree_parts a ++ tree_parts b) (tree_parts (Tree.ternary p a b)) (among-right (tree_parts a) (tree_parts b)) (below-second (Tree.ternary p a b) (tree_parts p) (tree_parts a ++ tree_parts b))

pub of-sliced : (e o l : Tree) → AreAmong (tree_parts e) (tree_parts (Tree.slice e o l))
of-sliced e o l = below-first (Tree.slice e o l) (tree_parts e) (tree_parts o ++ tree_parts l)

pub of-offset : (e o l : Tree) → AreAmong (tree_parts o) (tree_parts (Tree.slice e o l))
of-offset e o l = among-then (tree_parts o) (tree_parts o ++ tree_parts l) (tree_parts (Tree.slice e o l)) (among-left (tree_parts o) (tree_parts l)) (below-second (Tree.slice e o l) (tree_parts e) (tree_parts o ++ tree_parts l))

pub of-length : (e o l : Tree) → AreAmong (tree_parts l) (tree_parts (Tree.slice e o l))
of-length e o l = among-then (tree_parts l) (tree_parts o ++ tree_parts l) (tree_parts (Tree.slice e o l)) (among-right (tree_parts o) (tree_parts l)) (below-second (Tree.slice e o l) (tree_parts e) (tree_parts o ++ tree_parts l))
