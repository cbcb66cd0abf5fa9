-- Reductions, put together from what their steps answer.
use Rattle.std.proofs.Common.{◌≡◌, ◌+◌, ◌-◌, true, false, cond, List, [], ◌∷◌, ◌++◌, sym, ap, ◌∙◌}
use Rattle.std.specs.Prelude.{map}
use Rattle.std.specs.List.{AllByRecursion}
use Rattle.pu_base.specs.declared.arena.Node.{Node}
use Rattle.ps_frame.specs.Trees.{Aggregation, IsComplete, IsExpression, Tree, tree_at}
use Rattle.ps_frame.specs.declared.expr.AExpr.{AExpr}
use Rattle.ps_meaning.specs.Shape.{reduce}
use Rattle.ps_meaning.specs.Steps.{name_in, named_trees}
use Rattle.ps_meaning.specs.declared.options.ExprIR.{ExprIR}
use Rattle.ps_phys.specs.Shown.{stream_of, streams_of}
use Rattle.ps_phys.specs.declared.phys.PhysStream.{PhysStream}
use Rattle.ps_copies.specs.Copies.{KeepsTrees}
use Rattle.ps_rules.specs.Bundles.{finished, is_stream_alone}
use Rattle.ps_rules.specs.Calls.{Bundle, given_reduction}
use Rattle.ps_rules.specs.Lowered.{as_operand}
use Rattle.ps_rules.specs.Names.{after_fresh, fresh_name}
use Rattle.ps_rules.specs.Rules.{first_tree, reduced_apart, reduced_column, reduced_over, together}
use Rattle.ps_rules.specs.Slots.{Made, State, Stream, added, after_name, new_name, over_selected}
use Rattle.ps_fresh.specs.declared.lowering.Lowering.{Lowering}
use Rattle.lowering_parts.specs.declared.gathered.Gathered.{Gathered}
use Rattle.lowering_parts.specs.Gathered.{AreWhole, Begins, Follows, Gathers, Later, Makes, bundle_of, call_of, made_of, state_of, trees_at}
use Rattle.lowering_parts.proofs.Going.{goes_added, goes_built, goes_named, goes_then}
use Rattle.lowering_parts.proofs.Grown.{kept-then}
use Rattle.expr_lowering.proofs.Following.{given_follows, named_both, trees_last, trees_later, whole_more}
use Rattle.expr_lowering.proofs.Arms.{is_column, tree_later}

-- what a reduction and its column are, whatever is added to the arena
module _ (a1 b : List AExpr) (g : Gathered) (whole : AllByRecursion IsComplete (trees_at (tree_at a1) g.exprs.items)) (keeps : KeepsTrees a1 b) (kind : Aggregation) (x : ExprIR) (is-node : IsExpression b x.node)
    (reduces : tree_at b x.node ≡ Tree.aggregate kind (first_tree (trees_at (tree_at a1) g.exprs.items))) where
  reduces-later : Later b (λ f. f x.node ≡ Tree.aggregate kind (first_tree (trees_at f g.exprs.items)))
  reduces-later later k = k x.node is-node ∙ reduces ∙ ap (λ (ts : List Tree). Tree.aggregate kind (first_tree ts)) (sym (trees_later a1 later (kept-then a1 b later keeps k) g.exprs.items whole))

-- the reduction of values that are the input itself
pub reduce_alone : (input : Stream) (kind : Aggregation) (o : Node) (a a1 b : List AExpr) (l m p : Lowering) (c d g : Gathered) (column : Node) (x : ExprIR)
    → AreWhole a c → Gathers (together l.origin.0 input (map (as_operand l.origin.0 input) (trees_at (tree_at a) (o ∷ [])))) a a1 l m g
    → ((f : Node → Tree) → is_stream_alone input (streams_of g.streams) (named_trees f g.reduced.items) ≡ true)
    → p ≡ record m { names = after_fresh m.names } → Begins a1 b → KeepsTrees a1 b → tree_at b column ≡ Tree.column (fresh_name m.names)
    → IsExpression b x.node → tree_at b x.node ≡ Tree.aggregate kind (first_tree (trees_at (tree_at a1) g.exprs.items)) → name_in x.output_name ≡ fresh_name m.names
    → d.streams ≡ c.streams → d.reduced.items ≡ c.reduced.items ++ x ∷ [] → d.exprs.items ≡ c.exprs.items ++ column ∷ [] → d.mapped.items ≡ c.mapped.items
    → Follows (reduced_column l.origin.0 input kind (as_operand l.origin.0 input (tree_at a o))) a b l p c d
reduce_alone input kind o a a1 b l m p c d g column x whole h alone next entries keeps column-is is-node reduces under-name es er ee em =
    let at = l.origin.0 in
    let operator : List Tree → Tree = λ ts. Tree.aggregate kind (first_tree ts) in
    record {
      by_rule = λ later k.
          (let f = tree_at later in
          let y = h.by_rule later (kept-then a1 b later keeps k) in
          let col : f column ≡ Tree.column (fresh_name m.names) = tree_later b later k column (Tree.column (fresh_name m.names)) column-is tt in
          let red : f x.node ≡ operator (trees_at f g.exprs.items) = reduces-later a1 b g h.whole.exprs keeps kind x is-node reduces later k in
          let reduced = ap (named_trees f) er ∙ named_both f c.reduced.items (x ∷ []) ∙ (λ i. named_trees f c.reduced.items ++ (under-name i, red i) ∷ []) in
          let exprs = ap (trees_at f) ee ∙ trees_last f c.exprs.items column ∙ ap (λ t. trees_at f c.exprs.items ++ t ∷ []) col in
          let given-one : call_of f p d ≡ given_reduction (operator (trees_at f g.exprs.items)) (state_of f m) (call_of f l c) =
          λ i. record { state = state_of f (next i); streams = streams_of (es i); reduced = reduced i; exprs = exprs i; mapped = named_trees f (em i) } in
          given-one ∙ sym (ap (λ v. cond v (given_reduction (operator (trees_at f g.exprs.items)) (state_of f m)) (reduced_apart at input (operator (trees_at f g.exprs.items)) (finished at input (bundle_of f m g))) (call_of f l c)) (alone f))
          ∙ ap (λ (z : Bundle). reduced_over at input operator z (call_of f l c)) y);
      goes_on = (let added-to = goes_added a a1 b l m h.goes_on entries keeps in goes_then a b b l m p added-to (goes_named b m p added-to.cache next));
      whole = whole_more a b (kept-then a a1 b h.goes_on.trees keeps) c d column (x ∷ []) whole (is_column b column (fresh_name m.names) column-is) (is-node, tt) er ee em;
    }

-- the reduction of values over a stream of their own
pub reduce_apart : (input : Stream) (kind : Aggregation) (o : Node) (a a1 b : List AExpr) (l m m2 m3 p : Lowering) (c d g : Gathered) (s t : PhysStream) (column : Node) (x : ExprIR) (exprs : List ExprIR)
    → AreWhole a c → Gathers (together l.origin.0 input (map (as_operand l.origin.0 input) (trees_at (tree_at a) (o ∷ [])))) a a1 l m g
    → ((f : Node → Tree) → is_stream_alone input (streams_of g.streams) (named_trees f g.reduced.items) ≡ false)
    → Later a1 (λ f. made_of f m2 s ≡ record { state = (finished m.origin.0 input (bundle_of f m g)).state; stream = (finished m.origin.0 input (bundle_of f m g)).stream }) → Begins m.phys_sm.slots m2.phys_sm.slots → m2 ≡ record m { phys_sm = m2.phys_sm }
    → m3 ≡ record m2 { names = after_fresh m2.names } → Begins a1 b → KeepsTrees a1 b → tree_at b column ≡ Tree.column (fresh_name m2.names)
    → IsExpression b x.node → tree_at b x.node ≡ Tree.aggregate kind (first_tree (trees_at (tree_at a1) g.exprs.items)) → name_in x.output_name ≡ fresh_name m2.names → exprs ≡ x ∷ []
    → Later b (λ f. made_of f p t ≡ over_selected m3.origin.0 (reduce (named_trees f exprs)) (named_trees f exprs) (stream_of s) (state_of f m3)) → Begins m3.phys_sm.slots p.phys_sm.slots → p ≡ record m3 { phys_sm = p.phys_sm }
    → streams_of d.streams ≡ added (stream_of t) (streams_of c.streams) → d.reduced.items ≡ c.reduced.items → d.exprs.items ≡ c.exprs.items ++ column ∷ [] → d.mapped.items ≡ c.mapped.items
    → Follows (reduced_column l.origin.0 input kind (as_operand l.origin.0 input (tree_at a o))) a b l p c d
reduce_apart input kind o a a1 b l m m2 m3 p c d g s t column x exprs whole h alone finishes nodes only next entries keeps column-is is-node reduces under-name one made nodes2 only2 es er ee em =
    let at = l.origin.0 in
    let rule = together at input (map (as_operand at input) (trees_at (tree_at a) (o ∷ []))) in
    let operator : List Tree → Tree = λ ts. Tree.aggregate kind (first_tree ts) in
    let ends : State → Made = λ st. (let r = finished at input (rule st) in record { state = r.state; stream = r.stream }) in
    let origin2 : m2.origin ≡ l.origin = ap (λ (z : Lowering). z.origin) only ∙ h.goes_on.origin in
    let origin3 : m3.origin ≡ m2.origin = ap (λ (z : Lowering). z.origin) next in
    let steps : State → Made = λ st. (let r = finished at input (rule st) in over_selected at (reduce ((new_name r.state, operator (rule st).exprs) ∷ [])) ((new_name r.state, operator (rule st).exprs) ∷ []) r.stream (after_name r.state)) in
    let middle : Later b (λ f. made_of f m2 s ≡ ends (state_of f l)) = λ later k.
    (let k1 = kept-then a1 b later keeps k in
    finishes later k1 ∙ (λ i. (let r = finished (h.goes_on.origin i).0 input (h.by_rule later k1 i) in record { state = r.state; stream = r.stream }))) in
    let makes : Makes steps a b l p t =
    record {
      by_rule = λ later k.
          (let f = tree_at later in
          let y = h.by_rule later (kept-then a1 b later keeps k) in
          let mid = middle later k in
          let red : f x.node ≡ operator (trees_at f g.exprs.items) = reduces-later a1 b g h.whole.exprs keeps kind x is-node reduces later k in
          let named : named_trees f exprs ≡ (fresh_name m2.names, operator (trees_at f g.exprs.items)) ∷ [] = ap (named_trees f) one ∙ (λ i. (under-name i, red i) ∷ []) in
          made later k
          ∙ (λ i. over_selected ((origin3 ∙ origin2) i).0 (reduce (named i)) (named i) (stream_of s) (state_of f (next i)))
          ∙ (λ i. over_selected at (reduce ((new_name (mid i).state, operator (y i).exprs) ∷ [])) ((new_name (mid i).state, operator (y i).exprs) ∷ []) (mid i).stream (after_name (mid i).state)));
      goes_on =
          (let reached = goes_added a a1 b l m2 (goes_built a a1 l m m2 h.goes_on nodes only) entries keeps in
          goes_built a b l m3 p (goes_then a b b l m2 m3 reached (goes_named b m2 m3 reached.cache next)) nodes2 only2);
    } in
    let col : Later b (λ f. f column ≡ Tree.column (new_name (ends (state_of f l)).state)) = λ later k.
    (tree_later b later k column (Tree.column (fresh_name m2.names)) column-is tt ∙ ap (λ (z : Made). Tree.column (new_name z.state)) (middle later k)) in
    let apart = given_follows steps (λ st. Tree.column (new_name (ends st).state)) a b l p c d t column makes whole col (is_column b column (fresh_name m2.names) column-is) es er ee em in
    record {
      by_rule = λ later k.
          (let f = tree_at later in
          let y = h.by_rule later (kept-then a1 b later keeps k) in
          let z = rule (state_of f l) in
          let unlike : is_stream_alone input z.streams z.reduced ≡ false = ap (λ (w : Bundle). is_stream_alone input w.streams w.reduced) (sym y) ∙ alone f in
          apart.by_rule later k ∙ sym (ap (λ v. cond v (given_reduction (operator z.exprs) z.state) (reduced_apart at input (operator z.exprs) (finished at input z)) (call_of f l c)) unlike));
      goes_on = apart.goes_on;
      whole = apart.whole;
    }
