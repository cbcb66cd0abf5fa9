-- The parts of a step's expressions are those of the expressions that its entry names.
use Rattle.std.proofs.Common.{◌≡◌, ℕ, List, [], ◌∷◌, ◌++◌, refl, sym, subst, ◌∙◌, ap, arith, inl, inr}
use Rattle.std.specs.Prelude.{Contains, map}
use Rattle.std.specs.List.{AllByRecursion}
use Rattle.std.proofs.lemmas.List.{map-append}
use Rattle.std.proofs.lemmas.List.Elements.{Contains-append_cases, Contains-append_left, Contains-append_right}
use Rattle.pu_base.specs.declared.arena.Node.{Node}
use Rattle.ps_frame.specs.Parts.{tree_parts}
use Rattle.ps_frame.specs.Trees.{IsComplete, Tree}
use Rattle.ps_frame.specs.declared.expr.What.{What}
use Rattle.ps_meaning.specs.Steps.{exprs_of, function_step, key_trees, left_out, named_trees, step_exprs}
use Rattle.ps_plan.specs.Entries.{entry_exprs, entry_step, expr_nodes}
use Rattle.ps_meaning.specs.declared.options.ExprIR.{ExprIR}
use Rattle.ps_meaning.specs.declared.options.FunctionIR.{FunctionIR}
use Rattle.ps_meaning.specs.declared.options.FunctionIR.TheVariants as call
use Rattle.ps_plan.specs.declared.ir.IR.{IR}
use Rattle.ps_plan.specs.declared.ir.IR.TheVariants as entry
use Rattle.ps_plan.proofs.Complete.{numbers}
use Rattle.ps_meaning.proofs.Containing.{contains-later}
use Rattle.ps_validate.proofs.LeftOuts.{first-or-later, no-item}
use Rattle.valid_plans.specs.Fields.{all_parts}

-- the trees of some numbers
abbrev trees : (Node → Tree) → List Node → List Tree
trees f ns = map f ns

named-trees : (f : Node → Tree) (es : List ExprIR) → exprs_of (named_trees f es) ≡ trees f (expr_nodes es)
named-trees f [] = refl
named-trees f (e ∷ es) = ap (λ ts. f e.node ∷ ts) (named-trees f es)

keyed-trees : (f : Node → Tree) (es : List ExprIR) → key_trees f es ≡ trees f (expr_nodes es)
keyed-trees f [] = refl
keyed-trees f (e ∷ es) = ap (λ ts. f e.node ∷ ts) (keyed-trees f es)

both-lists : (f : Node → Tree) (as' bs : List Tree) (ns ms : List Node) → as' ≡ trees f ns → bs ≡ trees f ms → as' ++ bs ≡ trees f (ns ++ ms)
both-lists f as' bs ns ms p q = ap (λ ts. ts ++ bs) p ∙ (ap (λ ts. trees f ns ++ ts) q ∙ sym (map-append f ns ms))

function-trees : (f : Node → Tree) (g : FunctionIR) → step_exprs (function_step g) ≡ []
function-trees f (call.RowIndex name offset) = refl
function-trees f (call.User n) = refl

-- the expressions of a step are the trees of those that its entry names
pub step-trees : (f : Node → Tree) (x : IR) → step_exprs (entry_step f x) ≡ map f (entry_exprs x)
step-trees f (entry.DataFrameScan df columns) = refl
step-trees f (entry.SimpleProjection input columns) = refl
step-trees f (entry.Select input es) = named-trees f es
step-trees f (entry.HStack input es) = named-trees f es
step-trees f (entry.Filter input predicate) = refl
step-trees f (entry.Slice input offset len) = refl
step-trees f (entry.Sink input payload) = refl
step-trees f (entry.MapFunction input g) = function-trees f g
step-trees f (entry.Sort input by cut options) = keyed-trees f by
step-trees f (entry.Union inputs options) = refl
step-trees f (entry.HConcat inputs) = refl
step-trees f (entry.Cache input id hits) = refl
step-trees f (entry.GroupBy input keys aggs maintain options) = both-lists f _ _ (expr_nodes keys) (expr_nodes aggs) (named-trees f keys) (named-trees f aggs)
step-trees f (entry.Join left right left_on right_on args) = both-lists f _ _ (expr_nodes left_on) (expr_nodes right_on) (keyed-trees f left_on) (keyed-trees f right_on)
step-trees f (entry.Distinct input o) = refl
step-trees f (entry.LeftOut what) = refl

-- a named expression is complete where all are, and its parts are among all
abbrev pub IsOwn : (Node → Tree) → List Tree → ℕ → Type 0
IsOwn f ts n = (AllByRecursion IsComplete ts → IsComplete (f (record { 0 = n }))) × ((x : Tree) → Contains (tree_parts (f (record { 0 = n }))) x → Contains (all_parts ts) x)

own-tree : (f : Node → Tree) (ns : List Node) (n : ℕ) → Contains (numbers ns) n → IsOwn f (map f ns) n
own-tree f [] n c = absurd (no-item n c)
own-tree f (m ∷ ns) n c =
    elim (first-or-later m.0 (numbers ns) n c) [
      | inl h ↦ subst (λ (k : ℕ). IsOwn f (f m ∷ map f ns) k) h ((λ all. all.0), (λ x p. Contains-append_left (tree_parts (f m)) (all_parts (map f ns)) x p))
      | inr h ↦ (let deeper = own-tree f ns n h in ((λ all. deeper.0 all.1), (λ x p. Contains-append_right (tree_parts (f m)) (all_parts (map f ns)) x (deeper.1 x p))))
    ]

pub own-part : (f : Node → Tree) (x : IR) (n : ℕ) → Contains (numbers (entry_exprs x)) n → IsOwn f (step_exprs (entry_step f x)) n
own-part f x n c = subst (λ ts. IsOwn f ts n) (sym (step-trees f x)) (own-tree f (entry_exprs x) n c)

-- a part is one of a named expression
owner-among : (f : Node → Tree) (ns : List Node) (t : Tree) → Contains (all_parts (map f ns)) t → (m : Node) × Contains (numbers ns) m.0 × Contains (tree_parts (f m)) t
owner-among f [] t c = absurd (no-item t c)
owner-among f (n ∷ ns) t c =
    elim (Contains-append_cases (tree_parts (f n)) (all_parts (map f ns)) t c) [
      | inl h ↦ (n, (0, omega arith, refl), h)
      | inr h ↦ (let deeper = owner-among f ns t h in (deeper.0, contains-later n.0 deeper.0.0 (numbers ns) deeper.1, deeper.2))
    ]

pub part-owner : (f : Node → Tree) (x : IR) (t : Tree) → Contains (all_parts (step_exprs (entry_step f x))) t → (m : Node) × Contains (numbers (entry_exprs x)) m.0 × Contains (tree_parts (f m)) t
part-owner f x t c = owner-among f (entry_exprs x) t (subst (λ ts. Contains (all_parts ts) t) (step-trees f x) c)

-- the step of an entry that is left out is left out, and no other is
pub only-left_out : (f : Node → Tree) (x : IR) (w : What) → entry_step f x ≡ left_out w → x ≡ entry.LeftOut w
only-left_out f (entry.DataFrameScan df columns) w h = cc
only-left_out f (entry.SimpleProjection input columns) w h = cc
only-left_out f (entry.Select input es) w h = cc
only-left_out f (entry.HStack input es) w h = cc
only-left_out f (entry.Filter input predicate) w h = cc
only-left_out f (entry.Slice input offset len) w h = cc
only-left_out f (entry.Sink input payload) w h = cc
only-left_out f (entry.MapFunction input (call.RowIndex name offset)) w h = cc
only-left_out f (entry.MapFunction input (call.User n)) w h = cc
only-left_out f (entry.Sort input by cut options) w h = cc
only-left_out f (entry.Union inputs options) w h = cc
only-left_out f (entry.HConcat inputs) w h = cc
only-left_out f (entry.Cache input id hits) w h = cc
only-left_out f (entry.GroupBy input keys aggs maintain options) w h = cc
only-left_out f (entry.Join left right left_on right_on args) w h = cc
only-left_out f (entry.Distinct input o) w h = cc
only-left_out f (entry.LeftOut v) w h = let same : v ≡ w = cc in ap entry.LeftOut same
