-- What holds of the tables of all entries holds of those that a plan's nodes scan.
use Rattle.std.proofs.Common.{◌≡◌, ℕ, suc, ◌+◌, ◌<◌, ◌≤◌, ◌⊎◌, inl, inr, List, length, slice_get, Option, Some, None, refl, sym, ap, subst, ◌∙◌, arith}
use Rattle.std.specs.Prelude.{IfSome}
use Rattle.std.proofs.lemmas.Bool.{cases_lt}
use Rattle.std.proofs.lemmas.Option.{slice_get_within}
use Rattle.pu_base.specs.declared.arena.Node.{Node}
use Rattle.ps_frame.specs.Trees.{Tree, tree_at}
use Rattle.ps_meaning.specs.declared.options.FunctionIR.{FunctionIR}
use Rattle.ps_meaning.specs.declared.options.FunctionIR.TheVariants as call
use Rattle.ps_meaning.specs.Steps.{function_step}
use Rattle.ps_plan.specs.Entries.{entry_step}
use Rattle.ps_plan.specs.Graph.{EachReached}
use Rattle.ps_plan.specs.Plans.{Plan}
use Rattle.ps_plan.specs.declared.ir.IR.{IR}
use Rattle.ps_plan.specs.declared.ir.IR.TheVariants as entry
use Rattle.rule_parts.specs.Good.{HoldsTable}
use Rattle.scanned_tables.specs.Tables.{HoldsFitTable}

-- those of the entries before one
abbrev pub FitBelow : List IR → ℕ → Type 0
FitBelow items k = (n : ℕ) → n < k → IfSome (slice_get items n) HoldsFitTable

pub none_below : (items : List IR) → FitBelow items 0
none_below items n lt = absurd (omega arith)

pub one_more : (items : List IR) (k : ℕ) (e : IR) → slice_get items k ≡ Some e → HoldsFitTable e → FitBelow items k → FitBelow items (k + 1)
one_more items k e is holds before n lt = by (cases_lt n k)
  where
    by : (n < k) ⊎ (k ≤ n) → IfSome (slice_get items n) HoldsFitTable
    by (inl less) = before n less
    by (inr le) = let same : k ≡ n = omega arith in subst (λ (m : ℕ). IfSome (slice_get items m) HoldsFitTable) same (subst (λ (o : Option IR). IfSome o HoldsFitTable) (sym is) holds)

pub all_fit : (items : List IR) (k : ℕ) → length items ≤ k → FitBelow items k → (n : ℕ) → IfSome (slice_get items n) HoldsFitTable
all_fit items k le before n = by (slice_get items n) refl
  where
    by : (o : Option IR) → slice_get items n ≡ o → IfSome (slice_get items n) HoldsFitTable
    by None q = subst (λ (o : Option IR). IfSome o HoldsFitTable) (sym q) tt
    by (Some e) q = let lt = slice_get_within items n e q in before n (omega arith)

function_holds : (g : FunctionIR) → HoldsTable (function_step g)
function_holds (call.RowIndex name offset) = tt
function_holds (call.User n) = tt

entry_holds : (f : Node → Tree) (e : IR) → HoldsFitTable e → HoldsTable (entry_step f e)
entry_holds f (entry.DataFrameScan df columns) h = h
entry_holds f (entry.SimpleProjection input columns) h = tt
entry_holds f (entry.Select input es) h = tt
entry_holds f (entry.HStack input es) h = tt
entry_holds f (entry.Filter input predicate) h = tt
entry_holds f (entry.Slice input offset len) h = tt
entry_holds f (entry.Sink input payload) h = tt
entry_holds f (entry.MapFunction input g) h = function_holds g
entry_holds f (entry.Sort input by cut options) h = tt
entry_holds f (entry.Union inputs options) h = tt
entry_holds f (entry.HConcat inputs) h = tt
entry_holds f (entry.Cache input id hits) h = tt
entry_holds f (entry.GroupBy input keys aggs maintain options) h = tt
entry_holds f (entry.Join left right left_on right_on args) h = tt
entry_holds f (entry.Distinct input o) h = tt
entry_holds f (entry.LeftOut w) h = tt

-- the entries of a plan
pub plan_holds : (plan : Plan) (items : List IR) → items ≡ plan.nodes → ((n : ℕ) → IfSome (slice_get items n) HoldsFitTable) → EachReached HoldsTable plan
plan_holds plan items is fit n reached = by (slice_get plan.nodes n) (subst (λ (xs : List IR). IfSome (slice_get xs n) HoldsFitTable) is (fit n))
  where
    by : (o : Option IR) → IfSome o HoldsFitTable → IfSome o (λ e. HoldsTable (entry_step (tree_at plan.exprs) e))
    by None h = tt
    by (Some e) h = entry_holds (tree_at plan.exprs) e h
