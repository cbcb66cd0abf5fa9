-- How large the tables are that the rules on expressions make.
use Rattle.std.specs.Prelude.{◌≡◌, ℕ, ◌<◌, ◌≤◌, ◌⊎◌, List, [], ◌∷◌, length, slice_get}
use Rattle.ps_frame.specs.Aggregates.{max_rows}
use Rattle.ps_frame.specs.Functions.{Functions}
use Rattle.ps_frame.specs.Tables.{Table}
use Rattle.ps_frame.specs.Trees.{Tree}
use Rattle.ps_meaning.specs.Meaning.{IsLargeCase}
use Rattle.ps_meaning.specs.Shape.{IsLargeAt, IsPhysicalChoice, Shape}
use Rattle.ps_meaning.specs.Sound.{schema_at}
use Rattle.ps_meaning.specs.Steps.{Name, Named, Step, exprs_of, select}
use Rattle.ps_plan.specs.Lowering.{HasRowsOf}
use Rattle.ps_rules.specs.Lowered.{lower_exprs, select_stream}
use Rattle.ps_rules.specs.Slots.{State, Stream, under}
use Rattle.ps_shares.specs.Kept.{IsReady}

-- the step is large over l, or l itself is
abbrev pub IsLargeOver : Functions → ℕ → Step → Table → Type 0
IsLargeOver F at step l = IsLargeCase F at step (l ∷ []) ⊎ (max_rows < length l.rows)

-- each node from the first new one on is large only where the step over l, or l, is
abbrev pub LargeOnlyBy : Functions → (before after : Shape) → (ℕ → Table) → (at : ℕ) → Step → Table → Type 0
LargeOnlyBy F before after tables at step l = (n : ℕ) → length before ≤ n → n < length after → IsLargeAt F after tables n → IsLargeOver F at step l

-- Over whatever table of its schema the input means, a select of the answered expressions over the answered stream is large only where the select that was asked is, or the input; and so is each new node.
abbrev pub ExprsStaySmall : Type 0
ExprsStaySmall =
    (F : Functions) (at : ℕ) (input : Stream) (s : State) (ns : List Name) (es : List Tree) → IsReady s input es → length ns ≡ length es
    → let a = lower_exprs at input es s in
    (tables : ℕ → Table) → IsPhysicalChoice F a.state.nodes tables → HasRowsOf (schema_at (slice_get s.nodes input.0)) (tables input.0)
    → (IsLargeCase F at (select (under ns a.exprs)) (tables a.stream.0 ∷ []) → IsLargeOver F at (select (under ns es)) (tables input.0))
    × LargeOnlyBy F s.nodes a.state.nodes tables at (select (under ns es)) (tables input.0)

-- And so is each new node of a select.
abbrev pub SelectsStaySmall : Type 0
SelectsStaySmall =
    (F : Functions) (at : ℕ) (input : Stream) (s : State) (es : List Named) → IsReady s input (exprs_of es)
    → let m = select_stream at input es s in
    (tables : ℕ → Table) → IsPhysicalChoice F m.state.nodes tables → HasRowsOf (schema_at (slice_get s.nodes input.0)) (tables input.0)
    → LargeOnlyBy F s.nodes m.state.nodes tables at (select es) (tables input.0)
