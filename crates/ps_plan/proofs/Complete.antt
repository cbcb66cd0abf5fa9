-- Where nothing reaches itself and all numbers are in range, trees are complete.
use Rattle.std.proofs.Common.{◌≡◌, ℕ, zero, suc, ◌<◌, ◌++◌, List, [], ◌∷◌, length, slice_get, refl, sym, subst, arith}
use Rattle.std.proofs.lemmas.List.{map-append}
use Rattle.std.specs.Prelude.{Option, Some, None, map, Contains}
use Rattle.std.specs.List.{AllByRecursion}
use Rattle.std.proofs.lemmas.List.Elements.{Contains-append_left, Contains-append_right}
use Rattle.pu_base.specs.declared.arena.Node.{Node}
use Rattle.ps_frame.specs.Trees.{Tree, AreComplete, IsComplete, IsExpression, aggregate_tree, entry_tree, tree_at, tree_within, trees_of}
use Rattle.ps_frame.specs.declared.expr.AExpr.{AExpr}
use Rattle.ps_frame.specs.declared.expr.AExpr.TheVariants as expr
use Rattle.ps_frame.specs.declared.expr.IRAggExpr.{IRAggExpr}
use Rattle.ps_frame.specs.declared.expr.IRAggExpr.TheVariants as agg
use Rattle.ps_plan.specs.Graph.{HasNoCircle, IsInRange, Path, aggregate_operand, here, inputs_at, named_by, operands, operands_at}
use Rattle.ps_meaning.specs.PlanTrees.{AreCompletePlans, IsCompletePlan, PlanTree}
use Rattle.ps_plan.specs.Plans.{Plan, node_tree, plan_trees_of, plan_within, tree_of}
use Rattle.ps_meaning.specs.Steps.{exprs_of, function_step, key_trees, named_trees, step_exprs}
use Rattle.ps_plan.specs.Entries.{entry_exprs, entry_inputs, entry_step, expr_nodes}
use Rattle.ps_meaning.specs.declared.options.ExprIR.{ExprIR}
use Rattle.ps_meaning.specs.declared.options.FunctionIR.{FunctionIR}
use Rattle.ps_meaning.specs.declared.options.FunctionIR.TheVariants as call
use Rattle.ps_plan.specs.declared.ir.IR.{IR}
use Rattle.ps_plan.specs.declared.ir.IR.TheVariants as entry
use Rattle.ps_plan.proofs.Acyclic.{AllBelow, NoCircleFrom, each-acyclic}
use Rattle.ps_meaning.proofs.Containing.{contains-first, contains-later}
use Rattle.ps_plan.proofs.ReachedSteps.{path-then}

abbrev pub numbers : List Node → List ℕ
numbers ns = map (λ (n : Node). n.0) ns

pub there : {A : Type 0} (xs : List A) (k : ℕ) → k < length xs → (x : A) × (slice_get xs k ≡ Some x)
there [] k h = absurd (omega (arith, h))
there (x ∷ xs) zero h = (x, refl)
there (x ∷ xs) (suc k) h = there xs k (omega (arith, h))

pub all-both : {A : Type 0} (P : A → Type 0) (xs ys : List A) → AllByRecursion P xs → AllByRecursion P ys → AllByRecursion P (xs ++ ys)
all-both P [] ys h g = g
all-both P (x ∷ xs) ys h g = (h.0, all-both P xs ys h.1 g)

pub among-left : (xs ys : List Node) (m : ℕ) → Contains (numbers xs) m → Contains (numbers (xs ++ ys)) m
among-left xs ys m h = subst (λ ns. Contains ns m) (sym (map-append (λ (n : Node). n.0) xs ys)) (Contains-append_left (numbers xs) (numbers ys) m h)

pub among-right : (xs ys : List Node) (m : ℕ) → Contains (numbers ys) m → Contains (numbers (xs ++ ys)) m
among-right xs ys m h = subst (λ ns. Contains ns m) (sym (map-append (λ (n : Node). n.0) xs ys)) (Contains-append_right (numbers xs) (numbers ys) m h)

-- expressions
module _ (f : Node → Tree) where
  list-complete : (ns : List Node) → ((m : Node) → Contains (numbers ns) m.0 → IsComplete (f m)) → AreComplete (trees_of f ns)
  list-complete [] all = tt
  list-complete (n ∷ ns) all = (all n (contains-first n.0 _), list-complete ns (λ m c. all m (contains-later n.0 m.0 _ c)))

  aggregate-complete : (a : IRAggExpr) → IsComplete (f (aggregate_operand a)) → IsComplete (aggregate_tree f a)
  aggregate-complete (agg.Min n) h = h
  aggregate-complete (agg.Max n) h = h
  aggregate-complete (agg.First n) h = h
  aggregate-complete (agg.Last n) h = h
  aggregate-complete (agg.Sum n) h = h
  aggregate-complete (agg.NUnique n) h = h
  aggregate-complete (agg.Count n all) h = h

  entry-complete : (x : AExpr) → ((m : Node) → Contains (numbers (operands x)) m.0 → IsComplete (f m)) → IsComplete (entry_tree f (Some x))
  entry-complete (expr.Column name) all = tt
  entry-complete (expr.Literal l) all = tt
  entry-complete (expr.BinaryExpr l o r) all = (all l (0, omega arith, refl), all r (1, omega arith, refl))
  entry-complete (expr.Cast e k s) all = all e (0, omega arith, refl)
  entry-complete (expr.Sort e d n) all = all e (0, omega arith, refl)
  entry-complete (expr.SortBy e by d n) all = (all e (contains-first e.0 _), list-complete by (λ m c. all m (contains-later e.0 m.0 _ c)))
  entry-complete (expr.Gather e i s) all = (all e (0, omega arith, refl), all i (1, omega arith, refl))
  entry-complete (expr.Filter e by) all = (all e (0, omega arith, refl), all by (1, omega arith, refl))
  entry-complete (expr.Agg a) all = aggregate-complete a (all (aggregate_operand a) (0, omega arith, refl))
  entry-complete (expr.Ternary p a b) all = (all p (0, omega arith, refl), all a (1, omega arith, refl), all b (2, omega arith, refl))
  entry-complete (expr.Function e g) all = all e (0, omega arith, refl)
  entry-complete (expr.Slice e o l) all = (all e (0, omega arith, refl), all o (1, omega arith, refl), all l (2, omega arith, refl))
  entry-complete expr.Len all = tt
  entry-complete (expr.LeftOut w) all = tt

  found-complete : (o : Option AExpr) (x : AExpr) → o ≡ Some x → ((m : Node) → Contains (named_by operands o) m.0 → IsComplete (f m)) → IsComplete (entry_tree f o)
  found-complete None x is all = cc
  found-complete (Some y) x is all = entry-complete y all

  named-each : (Q : Tree → Type 0) (es : List ExprIR) → ((m : Node) → Contains (numbers (expr_nodes es)) m.0 → Q (f m)) → AllByRecursion Q (exprs_of (named_trees f es))
  named-each Q [] all = tt
  named-each Q (e ∷ es) all = (all e.node (contains-first e.node.0 _), named-each Q es (λ m c. all m (contains-later e.node.0 m.0 _ c)))

  keys-each : (Q : Tree → Type 0) (es : List ExprIR) → ((m : Node) → Contains (numbers (expr_nodes es)) m.0 → Q (f m)) → AllByRecursion Q (key_trees f es)
  keys-each Q [] all = tt
  keys-each Q (e ∷ es) all = (all e.node (contains-first e.node.0 _), keys-each Q es (λ m c. all m (contains-later e.node.0 m.0 _ c)))

  function-each : (Q : Tree → Type 0) (g : FunctionIR) → AllByRecursion Q (step_exprs (function_step g))
  function-each Q (call.RowIndex name offset) = tt
  function-each Q (call.User n) = tt

  -- what holds of the trees of the expressions that an entry names holds of the expressions of its step
  pub exprs-each : (Q : Tree → Type 0) (x : IR) → ((m : Node) → Contains (numbers (entry_exprs x)) m.0 → Q (f m)) → AllByRecursion Q (step_exprs (entry_step f x))
  exprs-each Q (entry.DataFrameScan df columns) all = tt
  exprs-each Q (entry.SimpleProjection input columns) all = tt
  exprs-each Q (entry.Select input es) all = named-each Q es all
  exprs-each Q (entry.HStack input es) all = named-each Q es all
  exprs-each Q (entry.Filter input predicate) all = (all predicate.node (0, omega arith, refl), tt)
  exprs-each Q (entry.Slice input offset len) all = tt
  exprs-each Q (entry.Sink input payload) all = tt
  exprs-each Q (entry.MapFunction input g) all = function-each Q g
  exprs-each Q (entry.Sort input by cut options) all = keys-each Q by all
  exprs-each Q (entry.Union inputs options) all = tt
  exprs-each Q (entry.HConcat inputs) all = tt
  exprs-each Q (entry.Cache input id hits) all = tt
  exprs-each Q (entry.GroupBy input keys aggs maintain options) all =
      all-both Q (exprs_of (named_trees f keys)) (exprs_of (named_trees f aggs)) (named-each Q keys (λ m c. all m (among-left (expr_nodes keys) (expr_nodes aggs) m.0 c)))
      (named-each Q aggs (λ m c. all m (among-right (expr_nodes keys) (expr_nodes aggs) m.0 c)))
  exprs-each Q (entry.Join left right left_on right_on args) all =
      all-both Q (key_trees f left_on) (key_trees f right_on) (keys-each Q left_on (λ m c. all m (among-left (expr_nodes left_on) (expr_nodes right_on) m.0 c)))
      (keys-each Q right_on (λ m c. all m (among-right (expr_nodes left_on) (expr_nodes right_on) m.0 c)))
  exprs-each Q (entry.Distinct input o) all = tt
  exprs-each Q (entry.LeftOut what) all = tt

module _ (plan : Plan) where
  expr-step : (d e : ℕ) → e < length plan.exprs → ((m : ℕ) → Contains (operands_at plan e) m → IsComplete (tree_within d plan.exprs (record { 0 = m }))) → IsComplete (tree_within (suc d) plan.exprs (record { 0 = e }))
  unfolding tree_within
  expr-step d e range all = let x = there plan.exprs e range in found-complete (tree_within d plan.exprs) (slice_get plan.exprs e) x.0 x.1 (λ m c. all m.0 c)

  pub expr-complete : (e : ℕ) → NoCircleFrom (operands_at plan) e → AllBelow (operands_at plan) (length plan.exprs) e → IsExpression plan.exprs (record { 0 = e })
  expr-complete e clear range = each-acyclic (operands_at plan) (length plan.exprs) (λ d e. IsComplete (tree_within d plan.exprs (record { 0 = e }))) expr-step e clear range

  -- plans
  inputs-complete : (f : Node → PlanTree) (ns : List Node) → ((m : Node) → Contains (numbers ns) m.0 → IsCompletePlan (f m)) → AreCompletePlans (plan_trees_of f ns)
  inputs-complete f [] all = tt
  inputs-complete f (n ∷ ns) all = (all n (contains-first n.0 _), inputs-complete f ns (λ m c. all m (contains-later n.0 m.0 _ c)))

  node-complete : (f : Node → PlanTree) (n : Node) (o : Option IR) (x : IR) → o ≡ Some x → ((m : Node) → Contains (named_by entry_exprs o) m.0 → IsComplete (tree_at plan.exprs m))
      → ((m : Node) → Contains (named_by entry_inputs o) m.0 → IsCompletePlan (f m)) → IsCompletePlan (node_tree (tree_at plan.exprs) f n o)
  node-complete f n None x is own all = cc
  node-complete f n (Some y) x is own all = (exprs-each (tree_at plan.exprs) IsComplete y own, inputs-complete f (entry_inputs y) all)

  module _ (start : ℕ) (clear : HasNoCircle plan start) (range : IsInRange plan start) where
    own-complete : (n e : ℕ) → Path (inputs_at plan) start n → Contains (named_by entry_exprs (slice_get plan.nodes n)) e → IsExpression plan.exprs (record { 0 = e })
    own-complete n e way own =
        expr-complete e (λ m w. clear.exprs n m way (record { from = e; is_own = own; way = w })) (λ m w. range.exprs n m way (record { from = e; is_own = own; way = w }))

    node-step : (d n : ℕ) → n < length plan.nodes → ((m : ℕ) → Contains (inputs_at plan n) m → Path (inputs_at plan) start m → IsCompletePlan (plan_within d plan.nodes plan.exprs (record { 0 = m })))
        → Path (inputs_at plan) start n → IsCompletePlan (plan_within (suc d) plan.nodes plan.exprs (record { 0 = n }))
    unfolding plan_within
    node-step d n below all way =
        let x = there plan.nodes n below in
        node-complete (plan_within d plan.nodes plan.exprs) (record { 0 = n }) (slice_get plan.nodes n) x.0 x.1 (λ m c. own-complete n m.0 way c) (λ m c. all m.0 c (path-then way c))

    pub node-is-complete : IsCompletePlan (tree_of plan start)
    node-is-complete =
        each-acyclic (inputs_at plan) (length plan.nodes) (λ d n. Path (inputs_at plan) start n → IsCompletePlan (plan_within d plan.nodes plan.exprs (record { 0 = n }))) node-step start clear.nodes range.nodes here
