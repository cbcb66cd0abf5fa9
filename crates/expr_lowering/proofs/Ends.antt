-- What a function answers by the answer of its last call, which may be an error.
use Rattle.std.proofs.Common.{◌≡◌, ℕ, cond, List, [], true, false, length, refl, sym, ap, ◌∙◌}
use Rattle.std.specs.Prelude.{Err, IfOk, Ok, OnOk, Result, map}
use Rattle.std.specs.List.{AllByRecursion}
use Rattle.pu_base.specs.declared.arena.Node.{Node}
use Rattle.ps_frame.specs.Trees.{IsComplete, Tree, aggregate_tree, tree_at}
use Rattle.ps_frame.specs.declared.expr.AExpr.{AExpr}
use Rattle.ps_frame.specs.declared.expr.IRAggExpr.{IRAggExpr}
use Rattle.ps_frame.specs.declared.expr.IRAggExpr.TheVariants as agg
use Rattle.ps_frame.specs.declared.refusal.PolarsError.{PolarsError}
use Rattle.ps_meaning.specs.Shape.{select_node}
use Rattle.ps_meaning.specs.Steps.{Name, named_trees}
use Rattle.ps_meaning.specs.declared.options.ExprIR.{ExprIR}
use Rattle.ps_phys.specs.Shown.{stream_of}
use Rattle.ps_phys.specs.declared.phys.PhysStream.{PhysStream}
use Rattle.ps_rules.specs.Bundles.{finished, gathered}
use Rattle.ps_rules.specs.Calls.{Call, all_independent, each, left_to_map}
use Rattle.ps_rules.specs.Lowered.{as_operand, lower}
use Rattle.ps_rules.specs.Rules.{apart_from_input, reduced_column, selected, together}
use Rattle.ps_rules.specs.Slots.{Stream, over_selected, under, with_columns, without_input}
use Rattle.ps_fresh.specs.Known.{Remembers}
use Rattle.ps_fresh.specs.declared.lowering.Lowering.{Lowering}
use Rattle.lowering_parts.specs.declared.gathered.Gathered.{Gathered}
use Rattle.lowering_parts.specs.Gathered.{AreWhole, Begins, Follows, Gathers, Later, Makes, bundle_of, call_of, made_of, state_of, trees_at}
use Rattle.lowering_parts.specs.Operations.{aggregation_of, are_own}
use Rattle.lowering_parts.specs.Reads.{aggregate_operand}
use Rattle.expr_lowering.specs.Operands.{is_reduced}
use Rattle.expr_lowering.proofs.Following.{follows_same}
use Rattle.expr_lowering.proofs.Selections.{select_apart_makes, select_computed_makes, select_own_makes, together_apart_gathers, together_over_gathers}

pub same_follows : (r s : Call → Call) → r ≡ s → (x : Result (Unit {0}) PolarsError) (a b : List AExpr) (l m : Lowering) (c d : Gathered) → OnOk x (Follows r a b l m c d) → OnOk x (Follows s a b l m c d)
same_follows r s e (Ok x) a b l m c d h = follows_same r s e a b l m c d h
same_follows r s e (Err x) a b l m c d h = tt

-- an aggregate is reduced, or left to the map
module _ (at : ℕ) (input : Stream) (f : Node → Tree) where
  abbrev reduced : IRAggExpr → Call → Call
  reduced x = reduced_column at input (aggregation_of x) (as_operand at input (f (aggregate_operand x)))

  aggregate_rule : (x : IRAggExpr) → lower at input (aggregate_tree f x) ≡ cond (is_reduced (aggregation_of x)) (reduced x) (left_to_map (aggregate_tree f x))
  aggregate_rule (agg.Min n) = refl
  aggregate_rule (agg.Max n) = refl
  aggregate_rule (agg.First n) = refl
  aggregate_rule (agg.Last n) = refl
  aggregate_rule (agg.Sum n) = refl
  aggregate_rule (agg.NUnique n) = refl
  aggregate_rule (agg.Count n all) = refl

  pub aggregate_reduced : (e : Tree) (x : IRAggExpr) → e ≡ aggregate_tree f x → is_reduced (aggregation_of x) ≡ true → lower at input e ≡ reduced_column at input (aggregation_of x) (as_operand at input (f (aggregate_operand x)))
  aggregate_reduced e x is h = ap (lower at input) is ∙ aggregate_rule x ∙ ap (λ b. cond b (reduced x) (left_to_map (aggregate_tree f x))) h

  pub aggregate_left : (e : Tree) (x : IRAggExpr) → e ≡ aggregate_tree f x → is_reduced (aggregation_of x) ≡ false → lower at input e ≡ left_to_map e
  aggregate_left e x is h = ap (lower at input) is ∙ aggregate_rule x ∙ ap (λ b. cond b (reduced x) (left_to_map (aggregate_tree f x))) h ∙ ap left_to_map (sym is)

-- a call for expressions
pub apart_ok : (r : Result Gathered PolarsError) (input : Stream) (es : List Tree) (a b : List AExpr) (l m p : Lowering) → all_independent es ≡ true → Remembers a m.cache → m ≡ record l { cache = m.cache }
    → IfOk r (Gathers (apart_from_input m.origin.0 input es) a b m p) → IfOk r (Gathers (together l.origin.0 input (map (as_operand l.origin.0 input) es)) a b l p)
apart_ok (Ok d) input es a b l m p are known only h = together_apart_gathers input es a b l m p d are known only h
apart_ok (Err x) input es a b l m p are known only h = tt

pub gather_ok : (r : Result Gathered PolarsError) (input : Stream) (es : List Tree) (a b : List AExpr) (l m n p : Lowering) (c d : Gathered) → all_independent es ≡ false → Remembers a m.cache → m ≡ record l { cache = m.cache }
    → c.streams ≡ [] → c.reduced.items ≡ [] → c.exprs.items ≡ [] → c.mapped.items ≡ []
    → Follows (each (map (as_operand m.origin.0 input) es)) a b m n c d
    → Later b (λ f. IfOk r (λ (g : Gathered). bundle_of f p g ≡ gathered n.origin.0 input (call_of f n d))) → IfOk r (AreWhole b) → Begins n.phys_sm.slots p.phys_sm.slots → p ≡ record n { phys_sm = p.phys_sm }
    → IfOk r (Gathers (together l.origin.0 input (map (as_operand l.origin.0 input) es)) a b l p)
gather_ok (Ok g) input es a b l m n p c d are known only s r e mm h gathers whole nodes only2 = together_over_gathers input es a b l m n p c d g are known only s r e mm h gathers whole nodes only2
gather_ok (Err x) input es a b l m n p c d are known only s r e mm h gathers whole nodes only2 = tt

-- a select
module _ (input : Stream) (names : List Name) (exprs : List Node) (a : List AExpr) (l m : Lowering) (count : length names ≡ length exprs) (only : m ≡ record l { cache = m.cache }) where
  pub select_apart_ok : (r : Result PhysStream PolarsError) (p : Lowering) (named : List ExprIR) → AllByRecursion IsComplete (trees_at (tree_at a) exprs) → all_independent (trees_at (tree_at a) exprs) ≡ true → Remembers a m.cache
      → ((f : Node → Tree) → named_trees f named ≡ under names (trees_at f exprs))
      → Later a (λ f. IfOk r (λ s. made_of f p s ≡ without_input m.origin.0 (named_trees f named) (state_of f m))) → Begins m.phys_sm.slots p.phys_sm.slots → p ≡ record m { phys_sm = p.phys_sm }
      → IfOk r (Makes (selected l.origin.0 input (under names (map (as_operand l.origin.0 input) (trees_at (tree_at a) exprs)))) a a l p)
  select_apart_ok (Ok s) p named whole are cache under-names made nodes only2 = select_apart_makes input names exprs a l m p named s whole count are only cache under-names made nodes only2
  select_apart_ok (Err x) p named whole are cache under-names made nodes only2 = tt

  pub select_own_ok : (r : Result PhysStream PolarsError) (p : Lowering) → all_independent (trees_at (tree_at a) exprs) ≡ false → are_own names (trees_at (tree_at a) exprs) ≡ true → Remembers a m.cache
      → ((f : Node → Tree) → IfOk r (λ s. made_of f p s ≡ with_columns m.origin.0 names input (state_of f m))) → Begins m.phys_sm.slots p.phys_sm.slots → p ≡ record m { phys_sm = p.phys_sm }
      → IfOk r (Makes (selected l.origin.0 input (under names (map (as_operand l.origin.0 input) (trees_at (tree_at a) exprs)))) a a l p)
  select_own_ok (Ok s) p are own cache made nodes only2 = select_own_makes input names exprs a l m p s count are own only cache made nodes only2
  select_own_ok (Err x) p are own cache made nodes only2 = tt

  pub select_computed_ok : (r : Result PhysStream PolarsError) (answers : List Node) (b : List AExpr) (n k p : Lowering) (g : Gathered) (named : List ExprIR) (s : PhysStream) → all_independent (trees_at (tree_at a) exprs) ≡ false → are_own names (trees_at (tree_at a) exprs) ≡ false → Remembers a m.cache
      → Gathers (together m.origin.0 input (map (as_operand m.origin.0 input) (trees_at (tree_at a) exprs))) a b m n g
      → Later b (λ f. made_of f k s ≡ record { state = (finished n.origin.0 input (bundle_of f n g)).state; stream = (finished n.origin.0 input (bundle_of f n g)).stream }) → Begins n.phys_sm.slots k.phys_sm.slots → k ≡ record n { phys_sm = k.phys_sm } → answers ≡ g.exprs.items
      → ((f : Node → Tree) → named_trees f named ≡ under names (trees_at f answers))
      → Later b (λ f. IfOk r (λ t. made_of f p t ≡ over_selected k.origin.0 (select_node (named_trees f named) false) (named_trees f named) (stream_of s) (state_of f k))) → Begins k.phys_sm.slots p.phys_sm.slots → p ≡ record k { phys_sm = p.phys_sm }
      → IfOk r (Makes (selected l.origin.0 input (under names (map (as_operand l.origin.0 input) (trees_at (tree_at a) exprs)))) a b l p)
  select_computed_ok (Ok t) answers b n k p g named s are own known h finishes nodes2 only2 same under-names made nodes3 only3 =
      select_computed_makes input names exprs answers a b l m n k p g named s t count are own known only h finishes nodes2 only2 same under-names made nodes3 only3
  select_computed_ok (Err x) answers b n k p g named s are own known h finishes nodes2 only2 same under-names made nodes3 only3 = tt
