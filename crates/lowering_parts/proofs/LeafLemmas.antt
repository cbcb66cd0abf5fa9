-- What a call has gathered, once it goes on over an arena that has grown.
use Rattle.std.proofs.Common.{◌≡◌, ℕ, Bool, true, false, cond, List, [], ◌∷◌, ◌++◌, Ok, Err, Result, sym, ap, subst, ◌∙◌}
use Rattle.std.specs.Prelude.{OnOk}
use Rattle.std.specs.List.{AllByRecursion}
use Rattle.pu_base.specs.declared.arena.Node.{Node}
use Rattle.ps_copies.specs.Copies.{KeepsTrees}
use Rattle.ps_frame.specs.Trees.{IsComplete, IsExpression, Tree, tree_at}
use Rattle.ps_frame.specs.Typing.{is_independent}
use Rattle.ps_frame.specs.declared.expr.AExpr.{AExpr}
use Rattle.ps_frame.specs.declared.refusal.PolarsError.{PolarsError}
use Rattle.ps_fresh.specs.Known.{Remembers}
use Rattle.ps_fresh.specs.declared.lowering.Lowering.{Lowering}
use Rattle.ps_meaning.specs.Steps.{Name, key_trees, name_in, named_trees}
use Rattle.ps_meaning.specs.declared.options.ExprIR.{ExprIR}
use Rattle.ps_phys.specs.Shown.{stream_of, streams_of}
use Rattle.ps_phys.specs.declared.phys.PhysStream.{PhysStream}
use Rattle.ps_rules.specs.Calls.{given_reduction, left_to_map}
use Rattle.ps_rules.specs.Names.{after_fresh, fresh_name}
use Rattle.ps_rules.specs.Rules.{stays}
use Rattle.ps_rules.specs.Slots.{added}
use Rattle.lowering_parts.proofs.ColumnLemmas.{trees_last}
use Rattle.lowering_parts.proofs.Going.{goes_added, goes_named}
use Rattle.lowering_parts.proofs.LaterLemmas.{named_whole, named_whole_more, nodes_whole, nodes_whole_more, still_whole}
use Rattle.lowering_parts.proofs.NameLemmas.{named_more}
use Rattle.lowering_parts.specs.Gathered.{AreWhole, Begins, Follows, GoesOn, state_of, trees_at}
use Rattle.lowering_parts.specs.declared.gathered.Gathered.{Gathered}

-- what holds once some call has succeeded
pub on_ok : {A B C D E : Type 0} (r : Result (Unit {0}) PolarsError) → (A → B → C → D → E) → OnOk r A → OnOk r B → OnOk r C → OnOk r D → OnOk r E
on_ok (Ok x) f a b c d = f a b c d
on_ok (Err x) f a b c d = tt

-- an elementwise expression stays
module _ (arena : List AExpr) (low low' : Lowering) (call call' : Gathered) (at : ℕ) (input : PhysStream) (expr : Node) (own : IsExpression arena expr) (whole : AreWhole arena call) (goes : GoesOn arena arena low low')
    (state : (f : Node → Tree) → state_of f low' ≡ state_of f low) (independent : Bool) (is : independent ≡ is_independent (tree_at arena expr)) where
  pub stay_follows : streams_of call'.streams ≡ cond independent (streams_of call.streams) (added (stream_of input) (streams_of call.streams)) → call'.reduced.items ≡ call.reduced.items → call'.exprs.items ≡ call.exprs.items ++ expr ∷ []
      → call'.mapped.items ≡ call.mapped.items → Follows (stays at (stream_of input) (tree_at arena expr)) arena arena low low' call call'
  stay_follows streams reduced exprs mapped =
      record {
        by_rule = λ later k. (λ i. record {
          state = state (tree_at later) i;
          streams = (streams ∙ ap (λ b. cond b (streams_of call.streams) (added (stream_of input) (streams_of call.streams))) is) i;
          reduced = named_trees (tree_at later) (reduced i);
          exprs = (ap (trees_at (tree_at later)) exprs ∙ trees_last (tree_at later) call.exprs.items expr ∙ ap (λ t. trees_at (tree_at later) call.exprs.items ++ t ∷ []) (k expr own)) i;
          mapped = named_trees (tree_at later) (mapped i);
        });
        goes_on = goes;
        whole = record {
          reduced = let P : List ExprIR → Type 0 = λ es. AllByRecursion IsComplete (key_trees (tree_at arena) es) in subst P (sym reduced) whole.reduced;
          exprs = let P : List Node → Type 0 = λ ns. AllByRecursion IsComplete (trees_at (tree_at arena) ns) in subst P (sym exprs) (nodes_whole_more (tree_at arena) call.exprs.items expr whole.exprs own);
          mapped = let P : List ExprIR → Type 0 = λ es. AllByRecursion IsComplete (key_trees (tree_at arena) es) in subst P (sym mapped) whole.mapped;
        };
      }

  -- without a stream, or with the input
  pub stay_kept : independent ≡ true → call'.streams ≡ call.streams → call'.reduced.items ≡ call.reduced.items → call'.exprs.items ≡ call.exprs.items ++ expr ∷ [] → call'.mapped.items ≡ call.mapped.items
      → Follows (stays at (stream_of input) (tree_at arena expr)) arena arena low low' call call'
  stay_kept e streams = stay_follows (ap streams_of streams ∙ ap (λ b. cond b (streams_of call.streams) (added (stream_of input) (streams_of call.streams))) (sym e))

  pub stay_given : independent ≡ false → streams_of call'.streams ≡ added (stream_of input) (streams_of call.streams) → call'.reduced.items ≡ call.reduced.items → call'.exprs.items ≡ call.exprs.items ++ expr ∷ []
      → call'.mapped.items ≡ call.mapped.items → Follows (stays at (stream_of input) (tree_at arena expr)) arena arena low low' call call'
  stay_given e streams = stay_follows (streams ∙ ap (λ b. cond b (streams_of call.streams) (added (stream_of input) (streams_of call.streams))) (sym e))

-- One more column of a fresh name, in an arena that was added to.
module _ (arena arena' : List AExpr) (low low' : Lowering) (call call' : Gathered) (column : Node) (name : Name) (named : ExprIR)
    (cache : Remembers arena low.cache) (whole : AreWhole arena call) (entries : Begins arena arena') (keeps : KeepsTrees arena arena') (next : low' ≡ record low { names = after_fresh low.names }) (is : name ≡ fresh_name low.names)
    (own : tree_at arena' column ≡ Tree.column name) (under : name_in named.output_name ≡ name) (streams : call'.streams ≡ call.streams) (exprs : call'.exprs.items ≡ call.exprs.items ++ column ∷ []) where
  column_whole : IsExpression arena' column
  column_whole = subst IsComplete (sym own) tt

  on : GoesOn arena arena' low low'
  on = goes_added arena arena arena' low low' (goes_named arena low low' cache next) entries keeps

  exprs_whole : AllByRecursion IsComplete (trees_at (tree_at arena') call'.exprs.items)
  exprs_whole =
      let P : List Node → Type 0 = λ ns. AllByRecursion IsComplete (trees_at (tree_at arena') ns) in
      subst P (sym exprs) (nodes_whole_more (tree_at arena') call.exprs.items column (nodes_whole arena arena' keeps call.exprs.items whole.exprs) column_whole)

  same_whole : (es es' : List ExprIR) → es' ≡ es → AllByRecursion IsComplete (key_trees (tree_at arena) es) → AllByRecursion IsComplete (key_trees (tree_at arena') es')
  same_whole es es' e h = let P : List ExprIR → Type 0 = λ xs. AllByRecursion IsComplete (key_trees (tree_at arena') xs) in subst P (sym e) (named_whole arena arena' keeps es h)

  more_whole : (es es' : List ExprIR) → es' ≡ es ++ named ∷ [] → IsExpression arena' named.node → AllByRecursion IsComplete (key_trees (tree_at arena) es) → AllByRecursion IsComplete (key_trees (tree_at arena') es')
  more_whole es es' e w h =
      let P : List ExprIR → Type 0 = λ xs. AllByRecursion IsComplete (key_trees (tree_at arena') xs) in
      subst P (sym e) (named_whole_more (tree_at arena') es named (named_whole arena arena' keeps es h) w)

  columns_later : (later : List AExpr) → KeepsTrees arena' later → trees_at (tree_at later) call'.exprs.items ≡ trees_at (tree_at later) call.exprs.items ++ Tree.column (fresh_name low.names) ∷ []
  columns_later later k =
      ap (trees_at (tree_at later)) exprs ∙ trees_last (tree_at later) call.exprs.items column ∙ ap (λ t. trees_at (tree_at later) call.exprs.items ++ t ∷ []) (k column column_whole ∙ own ∙ ap (λ n. Tree.column n) is)

  -- the expression of the name has this tree
  named_later : (later : List AExpr) (es es' : List ExprIR) (t : Tree) → es' ≡ es ++ named ∷ [] → tree_at later named.node ≡ t → named_trees (tree_at later) es' ≡ named_trees (tree_at later) es ++ (fresh_name low.names, t) ∷ []
  named_later later es es' t e tree =
      ap (named_trees (tree_at later)) e ∙ named_more (tree_at later) es named ∙ (λ i. named_trees (tree_at later) es ++ ((under ∙ is) i, tree i) ∷ [])

  -- an expression is left to the call's map
  pub left_follows : (expr : Node) → IsExpression arena expr → named.node ≡ expr → call'.reduced.items ≡ call.reduced.items → call'.mapped.items ≡ call.mapped.items ++ named ∷ [] → Follows (left_to_map (tree_at arena expr)) arena arena' low low' call call'
  left_follows expr w node reduced mapped =
      let P : Node → Type 0 = λ n. IsExpression arena' n in
      let here : IsExpression arena' named.node = subst P (sym node) (still_whole arena arena' keeps expr w) in
      record {
        by_rule = λ later k. (λ i. record {
          state = state_of (tree_at later) (next i);
          streams = streams_of (streams i);
          reduced = named_trees (tree_at later) (reduced i);
          exprs = columns_later later k i;
          mapped = named_later later call.mapped.items call'.mapped.items (tree_at arena expr) mapped (k named.node here ∙ ap (tree_at arena') node ∙ keeps expr w) i;
        });
        goes_on = on;
        whole = record {
          reduced = same_whole call.reduced.items call'.reduced.items reduced whole.reduced;
          exprs = exprs_whole;
          mapped = more_whole call.mapped.items call'.mapped.items mapped here whole.mapped;
        };
      }

  -- the rows of the input are counted by its reduce
  pub count_follows : tree_at arena' named.node ≡ Tree.len → call'.reduced.items ≡ call.reduced.items ++ named ∷ [] → call'.mapped.items ≡ call.mapped.items → Follows (λ c. given_reduction Tree.len c.state c) arena arena' low low' call call'
  count_follows count reduced mapped =
      let here : IsExpression arena' named.node = subst IsComplete (sym count) tt in
      record {
        by_rule = λ later k. (λ i. record {
          state = state_of (tree_at later) (next i);
          streams = streams_of (streams i);
          reduced = named_later later call.reduced.items call'.reduced.items Tree.len reduced (k named.node here ∙ count) i;
          exprs = columns_later later k i;
          mapped = named_trees (tree_at later) (mapped i);
        });
        goes_on = on;
        whole = record {
          reduced = more_whole call.reduced.items call'.reduced.items reduced here whole.reduced;
          exprs = exprs_whole;
          mapped = same_whole call.mapped.items call'.mapped.items mapped whole.mapped;
        };
      }
