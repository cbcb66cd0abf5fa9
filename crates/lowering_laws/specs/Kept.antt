-- What a call keeps of what it was asked, whatever tables the nodes mean.
use Rattle.std.specs.Prelude.{◌≡◌, ℕ, List, slice_get, map, IsTrue}
use Rattle.std.specs.List.{AllByRecursion}
use Rattle.ps_frame.specs.Functions.{Functions}
use Rattle.ps_frame.specs.Tables.{Table}
use Rattle.ps_frame.specs.Typing.{is_elementwise}
use Rattle.ps_meaning.specs.Schemas.{expr_names}
use Rattle.ps_meaning.specs.Shape.{IsPhysicalChoice}
use Rattle.ps_meaning.specs.Sound.{schema_at}
use Rattle.ps_meaning.specs.Steps.{Name, Named, exprs_of, name_in, select}
use Rattle.ps_plan.specs.Lowering.{HasRowsOf, LowersExprs, LowersStep}
use Rattle.ps_meaning.specs.declared.options.ExprIR.{ExprIR}
use Rattle.ps_frame.specs.Trees.{Tree}
use Rattle.ps_rules.specs.Lowered.{lower_exprs, select_stream}
use Rattle.ps_rules.specs.Slots.{State, Stream, schema_at as stream_schema, under}
use Rattle.ps_bundles.specs.Lowers.{HaveKinds}
use Rattle.name_rules.specs.Lawful.{Differ}
use Rattle.lowering_sound.specs.Sound.{StaysSound}

-- the names under which expressions are asked for
abbrev pub names_asked : List ExprIR → List Name
names_asked es = map (λ (e : ExprIR). name_in e.output_name) es

-- A call for expressions leaves the nodes, the stream and the expressions that the rules give, under the asked names.
pub record LeavesExprs (at : ℕ) (input : Stream) (before after : State) (names : List Name) (es : List Tree) (answered : List Named) (stream : Stream) : Type 0 where
  pub nodes : after ≡ (lower_exprs at input es before).state
  pub to : stream ≡ (lower_exprs at input es before).stream
  pub exprs : answered ≡ under names (lower_exprs at input es before).exprs

-- A select leaves the nodes and the stream that the rules give.
pub record LeavesStream (at : ℕ) (input : Stream) (before after : State) (asked : List Named) (stream : Stream) : Type 0 where
  pub nodes : after ≡ (select_stream at input asked before).state
  pub to : stream ≡ (select_stream at input asked before).stream

-- Over whatever table of its schema the input means, the answered expressions over the answered stream end as the asked ones do over the input. No new node shows another cause, or is large where neither the select of the asked ones nor the input is. The answered ones are elementwise, and have the names and the kinds of the asked ones. Each new node is one of a sound shape, whatever number of readers it has.
pub record KeepsExprs (F : Functions) (at : ℕ) (before after : State) (input : Stream) (asked answered : List Named) (stream : Stream) : Type 0 where
  pub elementwise : AllByRecursion (λ e. IsTrue (is_elementwise e)) (exprs_of answered)
  pub names : expr_names answered ≡ expr_names asked
  pub kinds : (tables : ℕ → Table) → IsPhysicalChoice F after.nodes tables → HasRowsOf (schema_at (slice_get before.nodes input.0)) (tables input.0)
      → HaveKinds after.nodes tables stream (exprs_of answered) (stream_schema before.nodes input) (exprs_of asked)
  pub meaning : LowersExprs F before.nodes after.nodes at asked input.0 answered stream.0
  pub sound : StaysSound F before.nodes after.nodes

-- The same of a select, whose stream ends as the select does over the input. Its new nodes are those of a sound shape where its names differ.
pub record KeepsSelect (F : Functions) (at : ℕ) (before after : State) (input : Stream) (asked : List Named) (stream : Stream) : Type 0 where
  pub meaning : LowersStep F before.nodes after.nodes at (select asked) input.0 stream.0
  pub sound : Differ (expr_names asked) → StaysSound F before.nodes after.nodes
