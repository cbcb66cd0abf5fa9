-- The kinds of answered expressions and the fields of a select's stream, whatever tables there are.
use Rattle.std.specs.Prelude.{◌≡◌, ◌≤◌, ◌^◌, ℕ, List, Some, map}
use Rattle.ps_frame.specs.Functions.{Functions}
use Rattle.ps_frame.specs.Trees.{Tree}
use Rattle.ps_frame.specs.Typing.{kind_over}
use Rattle.ps_meaning.specs.Schemas.{fields_of}
use Rattle.ps_meaning.specs.Steps.{Named, exprs_of}
use Rattle.ps_rules.specs.Lowered.{lower_exprs, select_stream}
use Rattle.ps_rules.specs.Slots.{State, Stream, schema_at}
use Rattle.ps_shares.specs.Kept.{IsReady}

-- Over the schema of the answered stream the answered expressions have the kinds that the asked ones have over the input's.
abbrev pub KindsStay : Type 0
KindsStay =
    (F : Functions) (at : ℕ) (input : Stream) (s : State) (es : List Tree) → IsReady s input es
    → let a = lower_exprs at input es s in
    a.state.names.next ≤ 2 ^ 64 → map (kind_over (schema_at a.state.nodes a.stream)) a.exprs ≡ map (kind_over (schema_at s.nodes input)) es

-- The stream of a select has the fields of its expressions over the input's schema.
abbrev pub SelectsHaveFields : Type 0
SelectsHaveFields =
    (F : Functions) (at : ℕ) (input : Stream) (s : State) (es : List Named) → IsReady s input (exprs_of es)
    → let m = select_stream at input es s in
    m.state.names.next ≤ 2 ^ 64 → fields_of es (schema_at s.nodes input) ≡ Some (schema_at m.state.nodes m.stream)
