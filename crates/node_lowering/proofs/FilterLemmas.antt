-- A filter, put together from what its steps answer.
use Rattle.std.proofs.Common.{◌≡◌, List, [], ◌∷◌, ap, sym, ◌∙◌}
use Rattle.std.specs.Prelude.{Some, slice_get}
use Rattle.std.proofs.lemmas.Option.{same_Some}
use Rattle.pu_base.specs.declared.arena.Node.{Node}
use Rattle.ps_frame.specs.Trees.{Tree, tree_at}
use Rattle.ps_frame.specs.declared.expr.AExpr.{AExpr}
use Rattle.ps_meaning.specs.Schemas.{names_of}
use Rattle.ps_meaning.specs.Shape.{filter_node}
use Rattle.ps_meaning.specs.Steps.{Name}
use Rattle.ps_phys.specs.Shown.{stream_of}
use Rattle.ps_phys.specs.declared.phys.PhysStream.{PhysStream}
use Rattle.ps_rules.specs.Rules.{first_tree}
use Rattle.ps_rules.specs.Slots.{Stream, over_same, schema_at, with_columns}
use Rattle.plan_rules.specs.Nodes.{filter_stream}
use Rattle.ps_fresh.specs.declared.lowering.Lowering.{Lowering}
use Rattle.lowering_parts.specs.Gathered.{Begins, Makes, made_of, state_of, trees_at}
use Rattle.lowering_parts.proofs.Going.{goes_built}
use Rattle.node_lowering.specs.Answers.{Answers, answer_of, behind_columns}

pub filter_makes : (input : Stream) (test : Tree) (a b : List AExpr) (l m m2 p : Lowering) (names : List Name) (s t u : PhysStream) (ns : List Node) (kept : Node)
    → Answers (behind_columns l.origin.0 input (test ∷ [])) a b l m s ns
    → ((f : Node → Tree) → names ≡ names_of (schema_at (state_of f l).nodes input)) → ((f : Node → Tree) → f kept ≡ first_tree (trees_at f ns))
    → ((f : Node → Tree) → made_of f m2 t ≡ over_same m.origin.0 (filter_node (f kept)) (stream_of s) (state_of f m)) → Begins m.phys_sm.slots m2.phys_sm.slots → m2 ≡ record m { phys_sm = m2.phys_sm }
    → ((f : Node → Tree) → made_of f p u ≡ with_columns m2.origin.0 names (stream_of t) (state_of f m2)) → Begins m2.phys_sm.slots p.phys_sm.slots → p ≡ record m2 { phys_sm = p.phys_sm }
    → Makes (filter_stream l.origin.0 test input) a b l p u
filter_makes input test a b l m m2 p names s t u ns kept h named first over nodes only columns nodes2 only2 =
    let at = l.origin.0 in
    record {
      by_rule = λ later k.
          (let f = tree_at later in
          let x : answer_of f m s ns ≡ behind_columns at input (test ∷ []) (state_of f l) = h.by_rule later k in
          let rows : made_of f m2 t ≡ (let r = behind_columns at input (test ∷ []) (state_of f l) in over_same at (filter_node (first_tree r.exprs)) r.stream r.state) =
          over f ∙ (λ i. over_same (h.goes_on.origin i).0 (filter_node (first f i)) (stream_of s) (state_of f m)) ∙ (λ i. over_same at (filter_node (first_tree (x i).exprs)) (x i).stream (x i).state) in
          columns f ∙ (λ i. with_columns (only i).origin.0 names (stream_of t) (state_of f m2)) ∙ (λ i. with_columns (h.goes_on.origin i).0 (named f i) (rows i).stream (rows i).state));
      goes_on = goes_built a b l m2 p (goes_built a b l m m2 h.goes_on nodes only) nodes2 only2;
    }

-- the first of some expressions
pub first_there : (f : Node → Tree) (ns : List Node) (n : Node) → slice_get ns 0 ≡ Some n → f n ≡ first_tree (trees_at f ns)
first_there f [] n e = cc
first_there f (m ∷ ns) n e = ap f (sym (same_Some m n e))
