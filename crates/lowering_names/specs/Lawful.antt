-- Which rules on names and kinds the nodes keep that the rules on expressions make.
use Rattle.std.specs.Prelude.{◌≡◌, ℕ, ◌≤◌, ◌^◌, List, length, Some, slice_get}
use Rattle.ps_frame.specs.Functions.{Functions}
use Rattle.ps_frame.specs.Trees.{Tree}
use Rattle.ps_meaning.specs.Schemas.{expr_names}
use Rattle.ps_meaning.specs.Shape.{PhysicalNode, Shape}
use Rattle.ps_meaning.specs.Sound.{input_schemas}
use Rattle.ps_meaning.specs.Steps.{Named, exprs_of}
use Rattle.ps_rules.specs.Lowered.{lower_exprs, select_stream}
use Rattle.ps_rules.specs.Slots.{State, Stream}
use Rattle.ps_shares.specs.Kept.{IsReady}
use Rattle.name_rules.specs.Lawful.{Differ, KeepsRules}

-- each node from the first new one on
abbrev pub NewKeepRules : Functions → (before after : Shape) → Type 0
NewKeepRules F before after = (n : ℕ) (p : PhysicalNode) → length before ≤ n → slice_get after n ≡ Some p → KeepsRules F p.kind p.schema (input_schemas after p)

-- The counter stays in 64 bits: past that two numbers may have one name.
abbrev pub ExprsKeepRules : Type 0
ExprsKeepRules =
    (F : Functions) (at : ℕ) (input : Stream) (s : State) (es : List Tree) → IsReady s input es
    → let a = lower_exprs at input es s in
    a.state.names.next ≤ 2 ^ 64 → NewKeepRules F s.nodes a.state.nodes

abbrev pub SelectsKeepRules : Type 0
SelectsKeepRules =
    (F : Functions) (at : ℕ) (input : Stream) (s : State) (es : List Named) → IsReady s input (exprs_of es) → Differ (expr_names es)
    → let m = select_stream at input es s in
    m.state.names.next ≤ 2 ^ 64 → NewKeepRules F s.nodes m.state.nodes
