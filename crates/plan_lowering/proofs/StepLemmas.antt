-- The step of an entry, from what the call for its kind answers.
use Rattle.std.proofs.Common.{◌≡◌, ℕ, List, [], ◌∷◌, Ok, Err, Result, ap, subst, sym, ◌∙◌}
use Rattle.std.proofs.lemmas.Int.{to_z-of_z}
use Rattle.std.specs.Prelude.{IfOk, ℤ}
use mir.Syntax.{w64}
use mir.Val.{SFits, of_z, to_z}
use Rattle.std.specs.List.{AllByRecursion}
use Rattle.pu_base.specs.declared.arena.Node.{Node}
use Rattle.ps_frame.specs.Functions.{Functions}
use Rattle.ps_frame.specs.Tables.{Fields}
use Rattle.ps_frame.specs.Trees.{IsComplete, Tree, tree_at}
use Rattle.ps_frame.specs.declared.expr.AExpr.{AExpr}
use Rattle.ps_frame.specs.declared.refusal.PolarsError.{PolarsError}
use Rattle.ps_frame.specs.declared.expr.What.{What}
use Rattle.ps_meaning.specs.Laws.{IsBuilt}
use Rattle.ps_meaning.specs.Steps.{Step, exprs_of, function_step, key_trees, named_trees, row_index, step_exprs, user}
use Rattle.ps_meaning.specs.declared.options.ExprIR.{ExprIR}
use Rattle.ps_meaning.specs.declared.options.FunctionIR.{FunctionIR}
use Rattle.ps_meaning.specs.declared.options.FunctionIR.TheVariants as call
use Rattle.ps_phys.specs.Shown.{stream_of, streams_of}
use Rattle.ps_phys.specs.declared.phys.PhysStream.{PhysStream}
use Rattle.ps_plan.specs.Entries.{entry_step}
use Rattle.ps_plan.specs.declared.ir.IR.{IR}
use Rattle.ps_plan.specs.declared.ir.IR.TheVariants as entry
use Rattle.ps_rules.specs.Slots.{Made, State, Stream}
use Rattle.plan_rules.specs.Nodes.{first_stream, second_stream, step_stream}
use Rattle.plan_rules.specs.Slices.{slice_stream}
use Rattle.ps_fresh.specs.Known.{Remembers}
use Rattle.ps_fresh.specs.declared.lowering.Lowering.{Lowering}
use Rattle.lowering_parts.specs.Gathered.{Begins, Makes, made_of, state_of}
use Rattle.node_lowering.proofs.AnswerLemmas.{goes_with_nodes}
use Rattle.node_lowering.proofs.FurtherLemmas.{exprs_back}
use Rattle.valid_plans.proofs.Growing.{step-same}

-- an entry that is this one, over streams that the rule reads as those that are there
module _ (F : Functions) (schema : Fields) (inputs given : List Stream) (e x : IR) (is : e ≡ x) (a : List AExpr) (l : Lowering) where
  abbrev pub rule : (Node → Tree) → IR → List Stream → State → Made
  rule f y ss = step_stream l.origin.0 F (entry_step f y) schema ss

  -- a call that says what it makes by the rule
  pub by_rule : (r : Result PhysStream PolarsError) (b : List AExpr) (m : Lowering) → rule (tree_at a) x given ≡ rule (tree_at a) x inputs → IfOk r (Makes (rule (tree_at a) x given) a b l m) → IfOk r (Makes (rule (tree_at a) e inputs) a b l m)
  by_rule r b m same h =
      let P : (State → Made) → Type 0 = λ q. IfOk r (Makes q a b l m) in
      subst P (same ∙ ap (λ y. rule (tree_at a) y inputs) (sym is)) h

  -- a call that adds nodes alone, whatever the trees of expressions are
  pub by_nodes : (r : Result PhysStream PolarsError) (m : Lowering) → AllByRecursion IsComplete (step_exprs (entry_step (tree_at a) e)) → Remembers a l.cache → ((f : Node → Tree) → rule f x given ≡ rule f x inputs)
      → ((f : Node → Tree) → IfOk r (λ s. made_of f m s ≡ rule f x given (state_of f l))) → Begins l.phys_sm.slots m.phys_sm.slots → m ≡ record l { phys_sm = m.phys_sm } → IfOk r (Makes (rule (tree_at a) e inputs) a a l m)
  by_nodes (Ok s) m whole known same made nodes only =
      record {
        by_rule = λ later k.
            (let f = tree_at later in
            let step : entry_step f e ≡ entry_step (tree_at a) e = step-same f (tree_at a) k e whole in
            made f ∙ (λ i. same f i (state_of f l)) ∙ (λ i. rule f (sym is i) inputs (state_of f l)) ∙ (λ i. step_stream l.origin.0 F (step i) schema inputs (state_of f l)));
        goes_on = goes_with_nodes a l m known nodes only;
      }
  by_nodes (Err w) m whole known same made nodes only = tt

-- a rule over one stream, and over two
pub over_first : (at : ℕ) (F : Functions) (step : Step) (schema : Fields) (inputs : List Stream) (s : Stream) → s ≡ first_stream inputs → step_stream at F step schema (s ∷ []) ≡ step_stream at F step schema (first_stream inputs ∷ [])
over_first at F step schema inputs s e = ap (λ t. step_stream at F step schema (t ∷ [])) e

pub over_both : (at : ℕ) (F : Functions) (step : Step) (schema : Fields) (inputs : List Stream) (s t : Stream) → s ≡ first_stream inputs → t ≡ second_stream inputs → step_stream at F step schema (s ∷ t ∷ []) ≡ step_stream at F step schema (first_stream inputs ∷ second_stream inputs ∷ [])
over_both at F step schema inputs s t e g = λ i. step_stream at F step schema (e i ∷ g i ∷ [])

-- what holds of the expressions of a step holds of those that its entry names
pub keys_whole : (f : Node → Tree) (es : List ExprIR) → AllByRecursion IsComplete (exprs_of (named_trees f es)) → AllByRecursion IsComplete (key_trees f es)
keys_whole f es h = subst (AllByRecursion IsComplete) (exprs_back f es) h

pub of_entry : (f : Node → Tree) (e x : IR) → e ≡ x → AllByRecursion IsComplete (step_exprs (entry_step f e)) → AllByRecursion IsComplete (step_exprs (entry_step f x))
of_entry f e x is h = subst (λ (y : IR). AllByRecursion IsComplete (step_exprs (entry_step f y))) is h

-- the first two streams of a list that was lent
pub first_is : (lent all : List PhysStream) (s : PhysStream) → lent ≡ all → stream_of s ≡ first_stream (streams_of lent) → stream_of s ≡ first_stream (streams_of all)
first_is lent all s same h = h ∙ ap (λ (ss : List PhysStream). first_stream (streams_of ss)) same

pub second_is : (lent all : List PhysStream) (s : PhysStream) → lent ≡ all → stream_of s ≡ second_stream (streams_of lent) → stream_of s ≡ second_stream (streams_of all)
second_is lent all s same h = h ∙ ap (λ (ss : List PhysStream). second_stream (streams_of ss)) same

-- no step that is built is left out
pub none_left_out : (f : Node → Tree) (e : IR) (w : What) → e ≡ entry.LeftOut w → IsBuilt (entry_step f e) → ⊥
none_left_out f e w is built = subst (λ (x : IR). IsBuilt (entry_step f x)) is built

-- a function over one stream
pub over_function : (at : ℕ) (F : Functions) (function : FunctionIR) (schema : Fields) (inputs : List Stream) (s : Stream) → s ≡ first_stream inputs → step_stream at F (function_step function) schema (s ∷ []) ≡ step_stream at F (function_step function) schema inputs
over_function at F (call.RowIndex name offset) schema inputs s e = over_first at F (row_index name offset) schema inputs s e
over_function at F (call.User n) schema inputs s e = over_first at F (user n) schema inputs s e

-- an offset that is passed by value
pub offset_passed : (f : Node → Tree) (at : ℕ) (offset : ℤ) (len : ℕ) (input : Stream) (s : State) (r : Result PhysStream PolarsError) (m : Lowering) → SFits w64 offset
    → IfOk r (λ t. made_of f m t ≡ slice_stream at (to_z w64 (of_z w64 offset)) len input s) → IfOk r (λ t. made_of f m t ≡ slice_stream at offset len input s)
offset_passed f at offset len input s r m fits h = subst (λ (z : ℤ). IfOk r (λ t. made_of f m t ≡ slice_stream at z len input s)) (to_z-of_z w64 offset fits) h
