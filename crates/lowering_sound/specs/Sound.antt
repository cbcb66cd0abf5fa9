-- That a shape stays sound, but for its readers, over the nodes that the rules on expressions make.
use Rattle.std.specs.Prelude.{◌≡◌, ℕ, ◌≤◌, ◌^◌, List, length, Some, slice_get}
use Rattle.ps_frame.specs.Functions.{Functions}
use Rattle.ps_frame.specs.Trees.{Tree}
use Rattle.ps_meaning.specs.Schemas.{expr_names}
use Rattle.ps_meaning.specs.Shape.{PhysicalNode, Shape}
use Rattle.ps_meaning.specs.Sound.{IsFitNode, IsSoundButForReaders}
use Rattle.ps_meaning.specs.Steps.{Named, exprs_of}
use Rattle.ps_rules.specs.Lowered.{lower_exprs, select_stream}
use Rattle.ps_rules.specs.Slots.{State, Stream}
use Rattle.ps_shares.specs.Kept.{IsReady}
use Rattle.name_rules.specs.Lawful.{Differ}

-- each node from the first new one on is one of a sound shape
abbrev pub NewAreSound : Functions → (before after : Shape) → Type 0
NewAreSound F before after = (n : ℕ) (p : PhysicalNode) → length before ≤ n → slice_get after n ≡ Some p → IsFitNode F after n p

-- each new node is, and so are all where the old ones were
pub record StaysSound (F : Functions) (before after : Shape) : Type 0 where
  pub new : NewAreSound F before after
  pub whole : IsSoundButForReaders F before → IsSoundButForReaders F after

-- The counter stays in 64 bits: past that two numbers may have one name.
abbrev pub ExprsStaySound : Type 0
ExprsStaySound =
    (F : Functions) (at : ℕ) (input : Stream) (s : State) (es : List Tree) → IsReady s input es
    → let a = lower_exprs at input es s in
    a.state.names.next ≤ 2 ^ 64 → StaysSound F s.nodes a.state.nodes

abbrev pub SelectsStaySound : Type 0
SelectsStaySound =
    (F : Functions) (at : ℕ) (input : Stream) (s : State) (es : List Named) → IsReady s input (exprs_of es) → Differ (expr_names es)
    → let m = select_stream at input es s in
    m.state.names.next ≤ 2 ^ 64 → StaysSound F s.nodes m.state.nodes
