-- Calls and selects, put together from what their steps answer.
use Rattle.std.proofs.Common.{◌≡◌, ◌-◌, true, false, List, [], ◌∷◌, length, sym, ap, subst, ◌∙◌}
use Rattle.std.specs.Prelude.{map}
use Rattle.std.specs.List.{AllByRecursion}
use Rattle.pu_base.specs.declared.arena.Node.{Node}
use Rattle.ps_frame.specs.Trees.{IsComplete, Tree, tree_at}
use Rattle.ps_frame.specs.declared.expr.AExpr.{AExpr}
use Rattle.ps_meaning.specs.Shape.{select_node}
use Rattle.ps_meaning.specs.Steps.{Name, Named, exprs_of, key_trees, named_trees}
use Rattle.ps_meaning.specs.declared.options.ExprIR.{ExprIR}
use Rattle.ps_phys.specs.Shown.{stream_of, streams_of}
use Rattle.ps_phys.specs.declared.phys.PhysStream.{PhysStream}
use Rattle.ps_copies.specs.Copies.{KeepsTrees}
use Rattle.ps_rules.specs.Bundles.{finished, gathered}
use Rattle.ps_rules.specs.Calls.{Bundle, all_independent, each, new_call}
use Rattle.ps_rules.specs.Lowered.{as_operand}
use Rattle.ps_rules.specs.Rules.{apart_from_input, selected, together}
use Rattle.ps_rules.specs.Slots.{Made, State, Stream, after_names, columns_named, new_names, over_selected, under, with_columns, without_input}
use Rattle.ps_fresh.specs.Known.{Remembers}
use Rattle.ps_fresh.specs.declared.lowering.Lowering.{Lowering}
use Rattle.lowering_parts.specs.declared.gathered.Gathered.{Gathered}
use Rattle.lowering_parts.specs.Gathered.{AreWhole, Begins, Follows, Gathers, KeepsNames, Later, Makes, bundle_of, call_of, made_of, state_of, trees_at}
use Rattle.lowering_parts.specs.Operations.{are_own}
use Rattle.lowering_parts.proofs.Going.{goes_added, goes_built, goes_then}
use Rattle.lowering_parts.proofs.Grown.{kept-then}
use Rattle.expr_lowering.proofs.Following.{goes_cached, goes_renamed, trees_later}
use Rattle.expr_lowering.proofs.Arms.{columns_whole}
use Rattle.expr_lowering.proofs.Ruled.{as_many_trees, names_alike, select_apart, select_computed, select_own, states_alike, together_apart, together_over}

named_whole : (f : Node → Tree) (names : List Name) (ns : List Node) → AllByRecursion IsComplete (trees_at f ns) → AllByRecursion IsComplete (exprs_of (under names (trees_at f ns)))
named_whole f [] ns h = tt
named_whole f (n ∷ names) [] h = tt
named_whole f (n ∷ names) (m ∷ ns) h = (h.0, named_whole f names ns h.1)

-- named expressions are expressions
pub under_whole : (f : Node → Tree) (names : List Name) (ns : List Node) (es : List ExprIR) → named_trees f es ≡ under names (trees_at f ns) → AllByRecursion IsComplete (trees_at f ns) → AllByRecursion IsComplete (exprs_of (named_trees f es))
under_whole f names ns es e h = let P : List Named → Type 0 = λ xs. AllByRecursion IsComplete (exprs_of xs) in subst P (sym e) (named_whole f names ns h)

-- what is independent of the input, computed without it
pub apart_gathers : (input : Stream) (exprs : List Node) (a b : List AExpr) (l l1 p : Lowering) (d : Gathered) (names : List Name) (named : List ExprIR) (s : PhysStream) → AllByRecursion IsComplete (trees_at (tree_at a) exprs) → Remembers a l.cache
    → ((f : Node → Tree) → names ≡ new_names exprs (state_of f l)) → ((f : Node → Tree) → state_of f l1 ≡ after_names exprs (state_of f l)) → KeepsNames l.names l1.names → l1 ≡ record l { names = l1.names }
    → ((f : Node → Tree) → named_trees f named ≡ under names (trees_at f exprs)) → Later a (λ f. made_of f p s ≡ without_input l1.origin.0 (named_trees f named) (state_of f l1)) → Begins l1.phys_sm.slots p.phys_sm.slots → p ≡ record l1 { phys_sm = p.phys_sm }
    → Begins a b → KeepsTrees a b → trees_at (tree_at b) d.exprs.items ≡ columns_named names → streams_of d.streams ≡ stream_of s ∷ [] → d.reduced.items ≡ [] → d.mapped.items ≡ []
    → Gathers (apart_from_input l.origin.0 input (trees_at (tree_at a) exprs)) a b l p d
apart_gathers input exprs a b l l1 p d names named s whole cache fresh next known only under-names made nodes only2 entries keeps columns es er em =
    let at = l.origin.0 in
    let trees = trees_at (tree_at a) exprs in
    let count : length exprs ≡ length trees = sym (as_many_trees (tree_at a) exprs) in
    let complete : AllByRecursion IsComplete (trees_at (tree_at b) d.exprs.items) = subst (AllByRecursion IsComplete) (sym columns) (columns_whole names) in
    record {
      by_rule = λ later k.
          (let f = tree_at later in
          let ka = kept-then a b later keeps k in
          let given-names : names ≡ new_names trees (state_of f l) = fresh f ∙ names_alike exprs trees (state_of f l) count in
          let states : state_of f l1 ≡ after_names trees (state_of f l) = next f ∙ states_alike exprs trees (state_of f l) count in
          let items : named_trees f named ≡ under names trees = under-names f ∙ ap (under names) (trees_later a later ka exprs whole) in
          let m : made_of f p s ≡ without_input at (under (new_names trees (state_of f l)) trees) (after_names trees (state_of f l)) =
          made later ka ∙ (λ i. without_input (only i).origin.0 ((items ∙ ap (λ ns. under ns trees) given-names) i) (states i)) in
          let exprs-are = trees_later b later k d.exprs.items complete ∙ columns ∙ ap columns_named given-names in
          λ i. record { state = (m i).state; streams = (es ∙ ap (λ (y : Made). y.stream ∷ []) m) i; reduced = named_trees f (er i); exprs = exprs-are i });
      goes_on = goes_added a a b l p (goes_built a a l l1 p (goes_renamed a l l1 cache known only) nodes only2) entries keeps;
      whole = record { reduced = subst (λ (xs : List ExprIR). AllByRecursion IsComplete (key_trees (tree_at b) xs)) (sym er) tt; exprs = complete; mapped = subst (λ (xs : List ExprIR). AllByRecursion IsComplete (key_trees (tree_at b) xs)) (sym em) tt };
    }

-- a call for expressions: apart from the input, where all are independent of it
pub together_apart_gathers : (input : Stream) (es : List Tree) (a b : List AExpr) (l l1 p : Lowering) (d : Gathered) → all_independent es ≡ true → Remembers a l1.cache → l1 ≡ record l { cache = l1.cache }
    → Gathers (apart_from_input l1.origin.0 input es) a b l1 p d → Gathers (together l.origin.0 input (map (as_operand l.origin.0 input) es)) a b l p d
together_apart_gathers input es a b l l1 p d are known only h =
    record {
      by_rule = λ later k. h.by_rule later k ∙ (λ i. apart_from_input (only i).origin.0 input es (state_of (tree_at later) (only i))) ∙ ap (λ (r : State → Bundle). r (state_of (tree_at later) l)) (sym (together_apart l.origin.0 input es are));
      goes_on = goes_then a a b l l1 p (goes_cached a l l1 known only) h.goes_on;
      whole = h.whole;
    }

-- else over it, one after the other
pub together_over_gathers : (input : Stream) (es : List Tree) (a a1 : List AExpr) (l l1 m p : Lowering) (c0 c1 d : Gathered) → all_independent es ≡ false → Remembers a l1.cache → l1 ≡ record l { cache = l1.cache }
    → c0.streams ≡ [] → c0.reduced.items ≡ [] → c0.exprs.items ≡ [] → c0.mapped.items ≡ []
    → Follows (each (map (as_operand l1.origin.0 input) es)) a a1 l1 m c0 c1
    → Later a1 (λ f. bundle_of f p d ≡ gathered m.origin.0 input (call_of f m c1)) → AreWhole a1 d → Begins m.phys_sm.slots p.phys_sm.slots → p ≡ record m { phys_sm = p.phys_sm }
    → Gathers (together l.origin.0 input (map (as_operand l.origin.0 input) es)) a a1 l p d
together_over_gathers input es a a1 l l1 m p c0 c1 d are known only s r e mm h gathers whole nodes only2 =
    record {
      by_rule = λ later k.
          (let f = tree_at later in
          let start : call_of f l1 c0 ≡ new_call (state_of f l) = λ i. record { state = state_of f (only i); streams = streams_of (s i); reduced = named_trees f (r i); exprs = trees_at f (e i); mapped = named_trees f (mm i) } in
          gathers later k
          ∙ (λ i. gathered (h.goes_on.origin i).0 input (h.by_rule later k i))
          ∙ (λ i. gathered (only i).origin.0 input (each (map (as_operand (only i).origin.0 input) es) (start i)))
          ∙ ap (λ (r : State → Bundle). r (state_of f l)) (sym (together_over l.origin.0 input es are)));
      goes_on = goes_built a a1 l m p (goes_then a a a1 l l1 m (goes_cached a l l1 known only) h.goes_on) nodes only2;
      whole = whole;
    }

-- a select of what is independent of the input
pub select_apart_makes : (input : Stream) (names : List Name) (exprs : List Node) (a : List AExpr) (l l1 p : Lowering) (named : List ExprIR) (s : PhysStream) → AllByRecursion IsComplete (trees_at (tree_at a) exprs) → length names ≡ length exprs
    → all_independent (trees_at (tree_at a) exprs) ≡ true → l1 ≡ record l { cache = l1.cache } → Remembers a l1.cache
    → ((f : Node → Tree) → named_trees f named ≡ under names (trees_at f exprs)) → Later a (λ f. made_of f p s ≡ without_input l1.origin.0 (named_trees f named) (state_of f l1)) → Begins l1.phys_sm.slots p.phys_sm.slots → p ≡ record l1 { phys_sm = p.phys_sm }
    → Makes (selected l.origin.0 input (under names (map (as_operand l.origin.0 input) (trees_at (tree_at a) exprs)))) a a l p s
select_apart_makes input names exprs a l l1 p named s whole count are only cache under-names made nodes only2 =
    let at = l.origin.0 in
    let trees = trees_at (tree_at a) exprs in
    let as_many : length names ≡ length trees = count ∙ sym (as_many_trees (tree_at a) exprs) in
    record {
      by_rule = λ later k.
          (let f = tree_at later in
          let items : named_trees f named ≡ under names trees = under-names f ∙ ap (under names) (trees_later a later k exprs whole) in
          made later k ∙ (λ i. without_input (only i).origin.0 (items i) (state_of f (only i))) ∙ ap (λ (r : State → Made). r (state_of f l)) (sym (select_apart at input names trees as_many are)));
      goes_on = goes_built a a l l1 p (goes_cached a l l1 cache only) nodes only2;
    }

-- of columns under their own names
pub select_own_makes : (input : Stream) (names : List Name) (exprs : List Node) (a : List AExpr) (l l1 p : Lowering) (s : PhysStream) → length names ≡ length exprs
    → all_independent (trees_at (tree_at a) exprs) ≡ false → are_own names (trees_at (tree_at a) exprs) ≡ true → l1 ≡ record l { cache = l1.cache } → Remembers a l1.cache
    → ((f : Node → Tree) → made_of f p s ≡ with_columns l1.origin.0 names input (state_of f l1)) → Begins l1.phys_sm.slots p.phys_sm.slots → p ≡ record l1 { phys_sm = p.phys_sm }
    → Makes (selected l.origin.0 input (under names (map (as_operand l.origin.0 input) (trees_at (tree_at a) exprs)))) a a l p s
select_own_makes input names exprs a l l1 p s count are own only cache made nodes only2 =
    let at = l.origin.0 in
    let trees = trees_at (tree_at a) exprs in
    let as_many : length names ≡ length trees = count ∙ sym (as_many_trees (tree_at a) exprs) in
    record {
      by_rule = λ later k.
          (let f = tree_at later in
          made f ∙ (λ i. with_columns (only i).origin.0 names input (state_of f (only i))) ∙ ap (λ (r : State → Made). r (state_of f l)) (sym (select_own at input names trees as_many are own)));
      goes_on = goes_built a a l l1 p (goes_cached a l l1 cache only) nodes only2;
    }

-- and else of what a call for them answers
pub select_computed_makes : (input : Stream) (names : List Name) (exprs answers : List Node) (a a1 : List AExpr) (l l1 m m2 p : Lowering) (g : Gathered) (named : List ExprIR) (s t : PhysStream) → length names ≡ length exprs
    → all_independent (trees_at (tree_at a) exprs) ≡ false → are_own names (trees_at (tree_at a) exprs) ≡ false → Remembers a l1.cache → l1 ≡ record l { cache = l1.cache }
    → Gathers (together l1.origin.0 input (map (as_operand l1.origin.0 input) (trees_at (tree_at a) exprs))) a a1 l1 m g
    → Later a1 (λ f. made_of f m2 s ≡ record { state = (finished m.origin.0 input (bundle_of f m g)).state; stream = (finished m.origin.0 input (bundle_of f m g)).stream }) → Begins m.phys_sm.slots m2.phys_sm.slots → m2 ≡ record m { phys_sm = m2.phys_sm } → answers ≡ g.exprs.items
    → ((f : Node → Tree) → named_trees f named ≡ under names (trees_at f answers))
    → Later a1 (λ f. made_of f p t ≡ over_selected m2.origin.0 (select_node (named_trees f named) false) (named_trees f named) (stream_of s) (state_of f m2)) → Begins m2.phys_sm.slots p.phys_sm.slots → p ≡ record m2 { phys_sm = p.phys_sm }
    → Makes (selected l.origin.0 input (under names (map (as_operand l.origin.0 input) (trees_at (tree_at a) exprs)))) a a1 l p t
select_computed_makes input names exprs answers a a1 l l1 m m2 p g named s t count are own known only h finishes nodes2 only2 same under-names made nodes3 only3 =
    let at = l.origin.0 in
    let trees = trees_at (tree_at a) exprs in
    let as_many : length names ≡ length trees = count ∙ sym (as_many_trees (tree_at a) exprs) in
    let from : m.origin ≡ l.origin = h.goes_on.origin ∙ ap (λ (z : Lowering). z.origin) only in
    let origin2 : m2.origin ≡ m.origin = ap (λ (z : Lowering). z.origin) only2 in
    let origin3 : p.origin ≡ m2.origin = ap (λ (z : Lowering). z.origin) only3 in
    record {
      by_rule = λ later k.
          (let f = tree_at later in
          let y : bundle_of f m g ≡ together at input (map (as_operand at input) trees) (state_of f l) = h.by_rule later k ∙ (λ i. together (only i).origin.0 input (map (as_operand (only i).origin.0 input) trees) (state_of f (only i))) in
          let mid : made_of f m2 s ≡ (let r = finished at input (together at input (map (as_operand at input) trees) (state_of f l)) in record { state = r.state; stream = r.stream }) =
          finishes later k ∙ (λ i. (let r = finished (from i).0 input (y i) in record { state = r.state; stream = r.stream })) in
          let items : named_trees f named ≡ under names (together at input (map (as_operand at input) trees) (state_of f l)).exprs = under-names f ∙ ap (λ ns. under names (trees_at f ns)) same ∙ ap (λ (z : Bundle). under names z.exprs) y in
          made later k ∙ (λ i. over_selected ((origin2 ∙ from) i).0 (select_node (items i) false) (items i) (mid i).stream (mid i).state) ∙ ap (λ (r : State → Made). r (state_of f l)) (sym (select_computed at input names trees as_many are own)));
      goes_on = goes_built a a1 l m2 p (goes_built a a1 l m m2 (goes_then a a a1 l l1 m (goes_cached a l l1 known only) h.goes_on) nodes2 only2) nodes3 only3;
    }
