-- Joins, put together from what their steps answer.
use Rattle.std.proofs.Common.{◌≡◌, ℕ, Bool, true, false, cond, List, [], ◌∷◌, ap, refl, sym, ◌∙◌}
use Rattle.std.specs.Prelude.{None}
use Rattle.std.specs.List.{AllByRecursion}
use Rattle.pu_base.specs.declared.arena.Node.{Node}
use Rattle.ps_frame.specs.Tables.{Fields}
use Rattle.ps_frame.specs.Trees.{IsComplete, Tree, tree_at}
use Rattle.ps_frame.specs.declared.expr.AExpr.{AExpr}
use Rattle.ps_copies.specs.Copies.{KeepsTrees}
use Rattle.ps_meaning.specs.Joins.{goes_by_left}
use Rattle.ps_meaning.specs.Shape.{equi_join, in_memory_join}
use Rattle.ps_meaning.specs.Steps.{JoinStep, key_trees}
use Rattle.ps_meaning.specs.declared.options.ExprIR.{ExprIR}
use Rattle.ps_meaning.specs.declared.options.JoinArgs.{JoinArgs}
use Rattle.ps_phys.specs.Shown.{inputs_of, join_of, kind_of, stream_of}
use Rattle.ps_phys.specs.declared.phys.PhysNodeKind.{PhysNodeKind}
use Rattle.ps_phys.specs.declared.phys.PhysStream.{PhysStream}
use Rattle.ps_rules.specs.Slots.{Made, State, Stream}
use Rattle.plan_rules.specs.Joins.{equi_join_stream, join_stream, keyed_join, over_both}
use Rattle.plan_rules.specs.Nodes.{over_all}
use Rattle.plan_rules.specs.Slices.{cut_stream}
use Rattle.ps_fresh.specs.Known.{Remembers}
use Rattle.ps_fresh.specs.declared.lowering.Lowering.{Lowering}
use Rattle.lowering_parts.specs.Gathered.{Begins, Makes, made_of, state_of, trees_at}
use Rattle.lowering_parts.proofs.Going.{goes_built, goes_then}
use Rattle.lowering_parts.proofs.Grown.{kept-then}
use Rattle.node_lowering.specs.Answers.{Answers, answer_of, before_columns}
use Rattle.node_lowering.proofs.AnswerLemmas.{goes_with_nodes}

pub keys_later : (a b : List AExpr) → KeepsTrees a b → (es : List ExprIR) → AllByRecursion IsComplete (key_trees (tree_at a) es) → key_trees (tree_at b) es ≡ key_trees (tree_at a) es
keys_later a b keeps [] h = refl
keys_later a b keeps (e ∷ es) h = λ i. keeps e.node h.0 i ∷ keys_later a b keeps es h.1 i

-- a join by keys
pub keyed_makes : (left right : Stream) (schema : Fields) (left_on right_on lk rk : List ExprIR) (args unsliced : JoinArgs) (lns rns lout rout : List Node) (a b c : List AExpr) (l m n p q : Lowering) (ls rs j out : PhysStream) (k : PhysNodeKind)
    → AllByRecursion IsComplete (key_trees (tree_at a) right_on) → ((f : Node → Tree) → trees_at f lns ≡ key_trees f left_on) → ((f : Node → Tree) → trees_at f rns ≡ key_trees f right_on)
    → Answers (before_columns l.origin.0 left (trees_at (tree_at a) lns)) a b l m ls lout → Answers (before_columns m.origin.0 right (trees_at (tree_at b) rns)) b c m n rs rout
    → ((f : Node → Tree) → key_trees f lk ≡ trees_at f lout) → ((f : Node → Tree) → key_trees f rk ≡ trees_at f rout) → unsliced ≡ record args { slice = None }
    → ((f : Node → Tree) → kind_of f k ≡ equi_join (join_of f lk rk unsliced)) → inputs_of k ≡ stream_of ls ∷ stream_of rs ∷ []
    → ((f : Node → Tree) → made_of f p j ≡ over_all n.origin.0 (kind_of f k) schema (inputs_of k) (state_of f n)) → Begins n.phys_sm.slots p.phys_sm.slots → p ≡ record n { phys_sm = p.phys_sm }
    → ((f : Node → Tree) → made_of f q out ≡ cut_stream p.origin.0 args.slice (stream_of j) (state_of f p)) → Begins p.phys_sm.slots q.phys_sm.slots → q ≡ record p { phys_sm = q.phys_sm }
    → Makes (equi_join_stream l.origin.0 (join_of (tree_at a) left_on right_on args) schema left right) a c l q out
keyed_makes left right schema left_on right_on lk rk args unsliced lns rns lout rout a b c l m n p q ls rs j out k whole lsame rsame hl hr lkeys rkeys un kind inputs made nodes only cut nodes2 only2 =
    let at = l.origin.0 in
    let ltrees : List Tree = key_trees (tree_at a) left_on in
    let rtrees : List Tree = key_trees (tree_at a) right_on in
    let from : n.origin ≡ l.origin = hr.goes_on.origin ∙ hl.goes_on.origin in
    let from2 : p.origin ≡ l.origin = ap (λ (x : Lowering). x.origin) only ∙ from in
    record {
      by_rule = λ later kept.
          (let f = tree_at later in
          let s : State = state_of f l in
          let xl : answer_of f m ls lout ≡ before_columns at left ltrees s = hl.by_rule later (kept-then b c later hr.goes_on.trees kept) ∙ (λ i. before_columns at left (lsame (tree_at a) i) s) in
          let same : trees_at (tree_at b) rns ≡ rtrees = rsame (tree_at b) ∙ keys_later a b hl.goes_on.trees right_on whole in
          let xr : answer_of f n rs rout ≡ before_columns at right rtrees (before_columns at left ltrees s).state =
          hr.by_rule later kept ∙ (λ i. before_columns (hl.goes_on.origin i).0 right (same i) (state_of f m)) ∙ (λ i. before_columns at right rtrees (xl i).state) in
          let kinds : kind_of f k ≡ equi_join (record { left_on = trees_at f lout; right_on = trees_at f rout; args = record args { slice = None } }) =
          kind f ∙ (λ i. equi_join (record { left_on = lkeys f i; right_on = rkeys f i; args = un i })) in
          let joined : made_of f p j ≡ (let x = before_columns at left ltrees s in let y = before_columns at right rtrees x.state in over_both at (equi_join (keyed_join (join_of (tree_at a) left_on right_on args) x.exprs y.exprs)) schema x.stream y.stream y.state) =
          made f ∙ (λ i. over_all (from i).0 (kinds i) schema (inputs i) (state_of f n))
          ∙ (λ i. over_both at (equi_join (record { left_on = (xl i).exprs; right_on = (xr i).exprs; args = record args { slice = None } })) schema (xl i).stream (xr i).stream (xr i).state) in
          cut f ∙ (λ i. cut_stream (from2 i).0 args.slice (stream_of j) (state_of f p)) ∙ (λ i. cut_stream at args.slice (joined i).stream (joined i).state));
      goes_on = goes_built a c l p q (goes_built a c l n p (goes_then a b c l m n hl.goes_on hr.goes_on) nodes only) nodes2 only2;
    }

-- the rule by the kind of a join
abbrev by_keys : (at : ℕ) → JoinStep → Fields → Bool → Stream → Stream → State → Made
by_keys at o schema b = cond b (equi_join_stream at o schema) (over_both at (in_memory_join o) schema)

pub join_by_keys : (left right : Stream) (schema : Fields) (o : JoinStep) (test : Bool) (a c : List AExpr) (l p : Lowering) (s : PhysStream) → test ≡ goes_by_left o.args.how → test ≡ true
    → Makes (equi_join_stream l.origin.0 o schema left right) a c l p s → Makes (join_stream l.origin.0 o schema left right) a c l p s
join_by_keys left right schema o test a c l p s is so h =
    record { by_rule = λ later k. h.by_rule later k ∙ ap (λ b. by_keys l.origin.0 o schema b left right (state_of (tree_at later) l)) (sym so ∙ is); goes_on = h.goes_on }

pub join_of_wholes : (left right : Stream) (schema : Fields) (left_on right_on : List ExprIR) (args : JoinArgs) (test : Bool) (a : List AExpr) (l p : Lowering) (s : PhysStream) → test ≡ goes_by_left args.how → test ≡ false → Remembers a l.cache
    → AllByRecursion IsComplete (key_trees (tree_at a) left_on) → AllByRecursion IsComplete (key_trees (tree_at a) right_on)
    → ((f : Node → Tree) → made_of f p s ≡ over_both l.origin.0 (in_memory_join (join_of f left_on right_on args)) schema left right (state_of f l)) → Begins l.phys_sm.slots p.phys_sm.slots → p ≡ record l { phys_sm = p.phys_sm }
    → Makes (join_stream l.origin.0 (join_of (tree_at a) left_on right_on args) schema left right) a a l p s
join_of_wholes left right schema left_on right_on args test a l p s is so known lwhole rwhole made nodes only =
    let at = l.origin.0 in
    record {
      by_rule = λ later k.
          (let f = tree_at later in
          made f
          ∙ (λ i. over_both at (in_memory_join (record { left_on = keys_later a later k left_on lwhole i; right_on = keys_later a later k right_on rwhole i; args = args })) schema left right (state_of f l))
          ∙ ap (λ b. by_keys at (join_of (tree_at a) left_on right_on args) schema b left right (state_of f l)) (sym so ∙ is));
      goes_on = goes_with_nodes a l p known nodes only;
    }
