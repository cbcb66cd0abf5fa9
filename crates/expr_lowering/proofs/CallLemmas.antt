-- The two public calls, put together from what their steps answer.
use Rattle.std.proofs.Common.{◌≡◌, ℕ, zero, suc, ◌+◌, ◌<◌, ◌≤◌, List, [], ◌∷◌, get_or, length, refl, sym, ap, subst, ◌∙◌, arith}
use Rattle.std.specs.Prelude.{Err, IfOk, Ok, OnOk, Result, map}
use Rattle.std.specs.List.{AllByRecursion}
use Rattle.pu_base.specs.declared.arena.Node.{Node}
use Rattle.ps_frame.specs.Trees.{IsComplete, Tree, tree_at}
use Rattle.ps_frame.specs.declared.expr.AExpr.{AExpr}
use Rattle.ps_frame.specs.declared.refusal.PolarsError.{PolarsError}
use Rattle.ps_meaning.specs.Steps.{Name, Named, key_trees, name_in, named_trees}
use Rattle.ps_meaning.specs.declared.options.ExprIR.{ExprIR}
use Rattle.ps_phys.specs.Shown.{stream_of}
use Rattle.ps_phys.specs.declared.phys.PhysStream.{PhysStream}
use Rattle.ps_rules.specs.Bundles.{finished}
use Rattle.ps_rules.specs.Calls.{Bundle}
use Rattle.ps_rules.specs.Counted.{inserts_for}
use Rattle.ps_rules.specs.Lowered.{as_operand, lower_exprs, select_stream}
use Rattle.ps_rules.specs.Rules.{NamedOperand, selected, together}
use Rattle.ps_rules.specs.Slots.{Made, Stream, under}
use Rattle.ps_fresh.specs.declared.lowering.Lowering.{Lowering}
use Rattle.lowering_parts.specs.declared.gathered.Gathered.{Gathered}
use Rattle.lowering_parts.specs.Gathered.{Gathers, Later, Makes, bundle_of, made_of, names_asked, state_of, trees_at}
use Rattle.expr_lowering.proofs.Arms.{keys_again}
use Rattle.expr_lowering.proofs.Following.{as_many_slots}
use Rattle.expr_lowering.proofs.Ruled.{as_many_trees}
use Rattle.expr_lowering.proofs.Selections.{under_whole}
use Rattle.lowering_parts.proofs.Sizes.{exprs_add, select_adds, size}

pub select_again : (at : ℕ) (input : Stream) (f : Node → Tree) (es : List ExprIR) → under (names_asked es) (map (as_operand at input) (key_trees f es)) ≡ map (λ (e : Named). (e.0, as_operand at input e.1)) (named_trees f es)
select_again at input f [] = refl
select_again at input f (e ∷ es) = ap (λ more. (name_in e.output_name, as_operand at input (f e.node)) ∷ more) (select_again at input f es)

pub as_many_asked : (f : Node → Tree) (es : List ExprIR) → length (names_asked es) ≡ length (key_trees f es)
as_many_asked f [] = refl
as_many_asked f (e ∷ es) = ap suc (as_many_asked f es)

-- the stream of a call and what stands then
pub call_made : (input : Stream) (es : List Tree) (a a1 : List AExpr) (l m p : Lowering) (g : Gathered) (s : PhysStream) → Gathers (together l.origin.0 input (map (as_operand l.origin.0 input) es)) a a1 l m g
    → Later a1 (λ f. made_of f p s ≡ record { state = (finished m.origin.0 input (bundle_of f m g)).state; stream = (finished m.origin.0 input (bundle_of f m g)).stream })
    → Later a1 (λ f. made_of f p s ≡ record { state = (lower_exprs l.origin.0 input es (state_of f l)).state; stream = (lower_exprs l.origin.0 input es (state_of f l)).stream })
call_made input es a a1 l m p g s h made later keeps =
    made later keeps ∙ (λ i. (let r = finished (h.goes_on.origin i).0 input (h.by_rule later keeps i) in record { state = r.state; stream = r.stream }))

-- how many nodes stand after a call
pub call_inserts : (at : ℕ) (input : Stream) (es : List Tree) (f : Node → Tree) (l p : Lowering) → (state_of f p) ≡ (lower_exprs at input es (state_of f l)).state → length p.phys_sm.slots ≤ length l.phys_sm.slots + inserts_for es
call_inserts at input es f l p e =
    let n = as_many_slots f l.phys_sm.slots in
    let k = as_many_slots f p.phys_sm.slots in
    let most = (exprs_add at input es (state_of f l)).1 in
    let same = ap size e in
    omega arith

pub select_inserts : (at : ℕ) (input : Stream) (ns : List Name) (es : List Tree) (f : Node → Tree) (l p : Lowering) → length ns ≡ length es → (state_of f p) ≡ (selected at input (under ns (map (as_operand at input) es)) (state_of f l)).state
    → length p.phys_sm.slots ≤ length l.phys_sm.slots + inserts_for es
select_inserts at input ns es f l p many e =
    let n = as_many_slots f l.phys_sm.slots in
    let k = as_many_slots f p.phys_sm.slots in
    let most = (select_adds at input ns es (state_of f l) many).1 in
    let same = ap size e in
    omega arith

-- an item of a list is the name of the item
pub name_at : (es : List ExprIR) (i : ℕ) (d : ExprIR) → i < length es → get_or (names_asked es) i [] ≡ name_in (get_or es i d).output_name
name_at [] i d lt = absurd (omega arith)
name_at (e ∷ es) zero d lt = refl
name_at (e ∷ es) (suc i) d lt = name_at es i d (omega arith)

pub as_many_names_asked : (es : List ExprIR) → length (names_asked es) ≡ length es
as_many_names_asked [] = refl
as_many_names_asked (e ∷ es) = ap suc (as_many_names_asked es)

-- what lower_exprs answers
module _ (input : Stream) (asked : List ExprIR) (nodes answers : List Node) (named : List ExprIR) (a b : List AExpr) (l m p : Lowering) (g : Gathered) (s : PhysStream)
    (same : trees_at (tree_at a) nodes ≡ key_trees (tree_at a) asked) (gathers : Gathers (together l.origin.0 input (map (as_operand l.origin.0 input) (trees_at (tree_at a) nodes))) a b l m g)
    (finishes : Later b (λ f. made_of f p s ≡ record { state = (finished m.origin.0 input (bundle_of f m g)).state; stream = (finished m.origin.0 input (bundle_of f m g)).stream }))
    (answered : answers ≡ g.exprs.items) (under-names : (f : Node → Tree) → named_trees f named ≡ under (names_asked asked) (trees_at f answers)) where
  of_keys : Gathers (together l.origin.0 input (map (as_operand l.origin.0 input) (key_trees (tree_at a) asked))) a b l m g
  of_keys = subst (λ (es : List Tree). Gathers (together l.origin.0 input (map (as_operand l.origin.0 input) es)) a b l m g) same gathers

  made_by_rule : Later b (λ f. made_of f p s ≡ record { state = (lower_exprs l.origin.0 input (key_trees (tree_at a) asked) (state_of f l)).state; stream = (lower_exprs l.origin.0 input (key_trees (tree_at a) asked) (state_of f l)).stream })
  made_by_rule = call_made input (key_trees (tree_at a) asked) a b l m p g s of_keys finishes

  pub call_nodes : Later b (λ f. state_of f p ≡ (lower_exprs l.origin.0 input (key_trees (tree_at a) asked) (state_of f l)).state)
  call_nodes later keeps = ap (λ (x : Made). x.state) (made_by_rule later keeps)

  pub call_stream : Later b (λ f. stream_of s ≡ (lower_exprs l.origin.0 input (key_trees (tree_at a) asked) (state_of f l)).stream)
  call_stream later keeps = ap (λ (x : Made). x.stream) (made_by_rule later keeps)

  pub call_exprs : Later b (λ f. named_trees f named ≡ under (names_asked asked) (lower_exprs l.origin.0 input (key_trees (tree_at a) asked) (state_of f l)).exprs)
  call_exprs later keeps =
      under-names (tree_at later) ∙ ap (λ (ns : List Node). under (names_asked asked) (trees_at (tree_at later) ns)) answered ∙ ap (λ (x : Bundle). under (names_asked asked) x.exprs) (of_keys.by_rule later keeps)

  pub call_new_exprs : AllByRecursion IsComplete (key_trees (tree_at b) named)
  call_new_exprs =
      let whole : AllByRecursion IsComplete (trees_at (tree_at b) answers) = subst (λ (ns : List Node). AllByRecursion IsComplete (trees_at (tree_at b) ns)) (sym answered) gathers.whole.exprs in
      subst (AllByRecursion IsComplete) (keys_again (tree_at b) named) (under_whole (tree_at b) (names_asked asked) answers named (under-names (tree_at b)) whole)

  pub call_adds : length p.phys_sm.slots ≤ length l.phys_sm.slots + inserts_for (key_trees (tree_at a) asked)
  call_adds = call_inserts l.origin.0 input (key_trees (tree_at a) asked) (tree_at b) l p (call_nodes b (λ n h. refl))

-- what build_select_stream answers
module _ (input : Stream) (asked : List ExprIR) (nodes : List Node) (names : List Name) (a b : List AExpr) (l p : Lowering) (same : trees_at (tree_at a) nodes ≡ key_trees (tree_at a) asked) (under-names : names ≡ names_asked asked) where
  of_select : (s : PhysStream) → Makes (selected l.origin.0 input (under names (map (as_operand l.origin.0 input) (trees_at (tree_at a) nodes)))) a b l p s → Makes (select_stream l.origin.0 input (named_trees (tree_at a) asked)) a b l p s
  of_select s h =
      let items : under names (map (as_operand l.origin.0 input) (trees_at (tree_at a) nodes)) ≡ map (λ (e : Named). (e.0, as_operand l.origin.0 input e.1)) (named_trees (tree_at a) asked) =
      (λ i. under (under-names i) (map (as_operand l.origin.0 input) (same i))) ∙ select_again l.origin.0 input (tree_at a) asked in
      subst (λ (os : List NamedOperand). Makes (selected l.origin.0 input os) a b l p s) items h

  abbrev pub SelectMakes : PhysStream → Type 0
  SelectMakes = Makes (selected l.origin.0 input (under names (map (as_operand l.origin.0 input) (trees_at (tree_at a) nodes)))) a b l p

  pub select_makes : (r : Result PhysStream PolarsError) → IfOk r SelectMakes → IfOk r (Makes (select_stream l.origin.0 input (named_trees (tree_at a) asked)) a b l p)
  select_makes (Ok s) h = of_select s h
  select_makes (Err x) h = tt

  pub select_inserted : (r : Result PhysStream PolarsError) → IfOk r SelectMakes → OnOk r (length p.phys_sm.slots ≤ length l.phys_sm.slots + inserts_for (key_trees (tree_at a) asked))
  select_inserted (Ok s) h =
      subst (λ (es : List Tree). length p.phys_sm.slots ≤ length l.phys_sm.slots + inserts_for es) same
      (select_inserts l.origin.0 input names (trees_at (tree_at a) nodes) (tree_at b) l p (ap length under-names ∙ as_many_asked (tree_at a) asked ∙ ap length (sym same)) (ap (λ (x : Made). x.state) (h.by_rule b (λ n k. refl))))
  select_inserted (Err x) h = tt

-- what build_select_stream asks of the select
pub asked_count : (f : Node → Tree) (asked : List ExprIR) (nodes : List Node) (names : List Name) → trees_at f nodes ≡ key_trees f asked → names ≡ names_asked asked → length names ≡ length nodes
asked_count f asked nodes names same under-names = ap length under-names ∙ as_many_asked f asked ∙ ap length (sym same) ∙ as_many_trees f nodes
