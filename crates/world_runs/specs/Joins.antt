-- Equi joins: inputs, a left join that builds and probes, and a full one with its last piece.
use Rattle.std.specs.Prelude.{ℕ, true, false, List, [], ◌∷◌, Option, Some, None, codes}
use Rattle.ps_frame.specs.Tables.{Fields, Row}
use Rattle.ps_frame.specs.Trees.{Tree}
use Rattle.ps_frame.specs.declared.value.DataType.TheVariants as kind
use Rattle.ps_frame.specs.declared.value.Value.{Value}
use Rattle.ps_frame.specs.declared.value.Value.TheVariants as val
use Rattle.ps_ports.specs.Ports.{Sides}
use Rattle.ps_ports.specs.declared.port_state.PortState.{PortState}
use Rattle.ps_turns.specs.Claims.{Claim, claim_of}
use Rattle.ps_turns.specs.Progress.{Progress, giving}
use Rattle.ps_options.specs.declared.options.Options.{Options}
use Rattle.world_runs.specs.Examples.{number, plain_join}
use Rattle.ps_meaning.specs.Shape.{PhysicalNode, equi_join}
use Rattle.ps_meaning.specs.Steps.{JoinStep}
use Rattle.ps_meaning.specs.declared.options.JoinType.{JoinType}
use Rattle.ps_meaning.specs.declared.options.JoinType.TheVariants as how
use Rattle.ps_world.specs.Opening.{no_progress}
use Rattle.world_runs.specs.Examples.{options}

abbrev pub two_workers : Options
two_workers = options 2 2 2 tt tt tt tt tt tt

abbrev pub text : ℕ → Value
text n = val.String (n ∷ [])

abbrev pub left_fields : Fields
left_fields = (codes "k", kind.Int64) ∷ []

abbrev pub right_fields : Fields
right_fields = (codes "k", kind.Int64) ∷ (codes "v", kind.String) ∷ []

abbrev pub both_fields : List Fields
both_fields = left_fields ∷ right_fields ∷ []

abbrev pub key : ℕ → Row
key n = number n ∷ []

-- a key with the text x, y or z beside it
abbrev pub x : ℕ → Row
x n = number n ∷ text 120 ∷ []

abbrev pub y : ℕ → Row
y n = number n ∷ text 121 ∷ []

abbrev pub z : ℕ → Row
z n = number n ∷ text 122 ∷ []

abbrev pub on_k : JoinType → JoinStep
on_k type = plain_join type false (Tree.column (codes "k")) (Tree.column (codes "k"))

abbrev pub a_left_join : PhysicalNode
a_left_join = record { kind = equi_join (on_k how.Left); schema = right_fields; origin = 2; inputs = (0, 0) ∷ (1, 0) ∷ [] }

abbrev pub a_full_join : PhysicalNode
a_full_join = record { kind = equi_join (on_k how.Full); schema = (codes "k", kind.Int64) ∷ (codes "k_right", kind.Int64) ∷ (codes "v", kind.String) ∷ []; origin = 2; inputs = (0, 0) ∷ (1, 0) ∷ [] }

abbrev pub sides : (left right out : PortState) → Sides
sides l r o = record { inputs = l ∷ r ∷ []; outputs = o ∷ [] }

abbrev pub probing : Progress
probing = record (no_progress 2) { stage = giving; taken = [] ∷ (Some (x 1 ∷ y 2 ∷ []) ∷ Some (z 2 ∷ []) ∷ []) ∷ [] }

-- a left morsel goes on under its own number, over all right rows in the order of their morsels
abbrev pub right_rows : List Row
right_rows = x 1 ∷ y 2 ∷ z 2 ∷ []

abbrev pub second_left : Option Claim
second_left = claim_of two_workers a_left_join both_fields probing [] (false ∷ true ∷ []) 0 (Some (1, key 2 ∷ key 3 ∷ []))

abbrev pub kept_left : Progress
kept_left = record (no_progress 2) { stage = giving; taken = (Some (key 1 ∷ []) ∷ Some (key 3 ∷ []) ∷ []) ∷ (Some (x 4 ∷ y 1 ∷ []) ∷ []) ∷ [] }

-- the last piece has the number after those of the left's morsels, and all rows of both sides; before the left is done there is none, nor after it
abbrev pub last_claim : Option Claim
last_claim = claim_of two_workers a_full_join both_fields kept_left [] (true ∷ true ∷ []) 0 None
